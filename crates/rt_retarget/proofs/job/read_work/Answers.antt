use Rattle.std.proofs.Common.{suc, map, refl}
use Rattle.std.proofs.lemmas.Result.{err_from_is_err_and}
use Rattle.rt_strips.specs.Channels.{IsStripCell}
use Rattle.rt_strips.specs.Placed.{placed}
use Rattle.rt_strips.proofs.Family.{are_strips}
use Rattle.rt_tech.specs.Tech.{mask_count}
use Rattle.rt_retarget.specs.Jobs.{given}
use Rattle.rt_retarget.proofs.Assembled.{matched}
use Rattle.rt_retarget.proofs.Moving.{is_job}
use Rattle.rt_retarget.proofs.job.read_work.Goals as goal

pub read_source-requires : goal.read_source-requires
read_source-requires c =
    matched (given c.args.source.now c.args.stable.now c.args.ttable.now c.args.sizes.now) c.in_ok-inputs.inputs (record { files_are = c.in_ok-inputs.ensures.read })

pub returns-in_err-inputs-clause-refused : goal.returns-in_err-inputs-clause-refused
returns-in_err-inputs-clause-refused c =
    let p = err_from_is_err_and c.from_residual.result c.from_residual.ensures.1 in
    rw (p.1, p.2) (c.in_err-inputs.ensures.refused c.args.source.now)

pub returns-in_err-found-clause-refused : goal.returns-in_err-found-clause-refused
returns-in_err-found-clause-refused c =
    let p = err_from_is_err_and c.from_residual-in_err-found.result c.from_residual-in_err-found.ensures.1 in
    rw (p.1, p.2) (c.in_err-found.ensures.refused _ _ _ (record { files_are = c.in_ok-inputs.ensures.read }))

pub of-requires-clause-strips : goal.of-requires-clause-strips
of-requires-clause-strips c =
    let cell = c.in_ok-found.ensures.read.cell in
    let table = c.in_ok-inputs.inputs.tables.source in
    are_strips (IsStripCell cell.layout table) (suc (mask_count table)) (map placed c.in_ok-found.found.view.strips.list) cell.is_view.strips.strips_are

pub returns-clause-job : goal.returns-clause-job
returns-clause-job c =
    let read = c.in_ok-inputs.ensures.read in
    let inputs = c.in_ok-inputs.inputs in
    let found = c.in_ok-found.found in
    record {
      read = record { files_are = read };
      source_read = c.in_ok-found.ensures.read;
      job_of = is_job c.args.source.now inputs found.library _
          (matched (given c.args.source.now c.args.stable.now c.args.ttable.now c.args.sizes.now) inputs (record { files_are = read })) c.in_ok-found.ensures.read
          c.in_ok-climbs.ensures refl refl c.new.ensures c.new-2.ensures;
    }
