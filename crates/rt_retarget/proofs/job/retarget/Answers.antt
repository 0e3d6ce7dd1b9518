use Rattle.std.proofs.Common.{subst}
use Rattle.rt_place.specs.Placing.{IsPlaceErrorOf}
use Rattle.rt_retarget.specs.Jobs.{given, inputs_of}
use Rattle.rt_retarget.proofs.Assembled.{cell_of, library_short}
use Rattle.rt_retarget.proofs.Moving.{a_job, few_strips, fitting, done, infeasible}
use Rattle.rt_retarget.proofs.job.retarget.Goals as goal

pub stream_of-requires-clause-job : goal.stream_of-requires-clause-job
stream_of-requires-clause-job g c =
    let work = c.in_ok-work.work in
    a_job (given c.args.source.now c.args.stable.now c.args.ttable.now c.args.sizes.now) work.library work.asked work.job c.in_ok-work.ensures.job

pub stream_of-requires-clause-labels : goal.stream_of-requires-clause-labels
stream_of-requires-clause-labels g c =
    let work = c.in_ok-work.work in
    fitting (given c.args.source.now c.args.stable.now c.args.ttable.now c.args.sizes.now) work.library work.asked work.job c.in_ok-work.ensures.job

pub stream_of-requires-clause-few : goal.stream_of-requires-clause-few
stream_of-requires-clause-few g c =
    let work = c.in_ok-work.work in
    few_strips (given c.args.source.now c.args.stable.now c.args.ttable.now c.args.sizes.now) work.library work.asked work.job c.in_ok-work.ensures.job

pub stream_of-requires-clause-named : goal.stream_of-requires-clause-named
stream_of-requires-clause-named g c =
    let work = c.in_ok-work.work in
    (cell_of c.args.source.now (inputs_of work.job work.asked) work.library work.job.view c.in_ok-work.ensures.job.source_read).named

pub stream_of-requires-clause-cell_short : goal.stream_of-requires-clause-cell_short
stream_of-requires-clause-cell_short g c =
    let work = c.in_ok-work.work in
    (cell_of c.args.source.now (inputs_of work.job work.asked) work.library work.job.view c.in_ok-work.ensures.job.source_read).short

pub stream_of-requires-clause-library_short : goal.stream_of-requires-clause-library_short
stream_of-requires-clause-library_short g c = library_short _ c.in_ok-work.work.library c.in_ok-work.ensures.job.source_read.stream

pub returns-in-Ok-clause-done : goal.returns-in-Ok-clause-done
returns-in-Ok-clause-done g c =
    let work = c.in_ok-work.work in (
      done (given c.args.source.now c.args.stable.now c.args.ttable.now c.args.sizes.now) work.library work.asked work.job c.in_ok-work.ensures.job c.of.result c.in-Ok.bytes.items
          c.in-Ok.ensures.written c.of.ensures,
      c.new.ensures,
      c.new-in-Ok.ensures,
    )

pub returns-in-Err-NoneMeet-clause-done : goal.returns-in-Err-NoneMeet-clause-done
returns-in-Err-NoneMeet-clause-done g c =
    let work = c.in_ok-work.work in (
      infeasible (given c.args.source.now c.args.stable.now c.args.ttable.now c.args.sizes.now) work.library work.asked work.job c.in_ok-work.ensures.job c.in-Err-NoneMeet.axis
          (subst (IsPlaceErrorOf work.job) c.in-Err-NoneMeet.field-0-is c.in-Err-NoneMeet.ensures.none),
      c.new-in-Err-NoneMeet.ensures,
    )
