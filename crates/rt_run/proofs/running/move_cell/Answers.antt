use Rattle.rt_run.specs.Given.{contents_in}
use Rattle.rt_run.proofs.Refused.{refusal_of_lists, broken_in, refusal_means}
use Rattle.rt_run.proofs.running.move_cell.Goals as goal

pub refused-requires : goal.refused-requires
refused-requires g c =
    broken_in (contents_in c.args.files.now) _ c.in-Err.fault c.deref-in-Err.ensures.value
    (refusal_of_lists (contents_in c.args.files.now) _ _ _ _ c.in-Err.fault
    c.deref.ensures.value c.deref-2.ensures.value c.deref-3.ensures.value c.deref-4.ensures.value c.in-Err.ensures.refused)

pub returns-clause-means : goal.returns-clause-means
returns-clause-means g c =
    refusal_means (contents_in c.args.files.now) c.args.out.now _ _ c.in-Err.fault c.refused.result c.deref-in-Err.ensures.value
    (refusal_of_lists (contents_in c.args.files.now) _ _ _ _ c.in-Err.fault
    c.deref.ensures.value c.deref-2.ensures.value c.deref-3.ensures.value c.deref-4.ensures.value c.in-Err.ensures.refused)
    c.refused.ensures
