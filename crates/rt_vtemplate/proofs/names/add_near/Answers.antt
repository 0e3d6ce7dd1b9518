use Rattle.std.proofs.Common.{List, ℕ, All, sym, subst}
use Rattle.rt_rows.specs.Places.{places}
use Rattle.rt_view.specs.Job.{strips_of}
use Rattle.rt_vtemplate.specs.Steps.{ArePaired, ListsNearStrips}
use Rattle.rt_vtemplate.proofs.Upwards.{job_strips}
use Rattle.rt_vtemplate.proofs.Pairs.{are_paired, pairs_tell}
use Rattle.rt_vtemplate.proofs.names.add_near.Goals as goal

pub add_of_pairs-requires-clause-pairs : goal.add_of_pairs-requires-clause-pairs
add_of_pairs-requires-clause-pairs c =
    subst (λ (l : List (ℕ × ℕ)). All (ArePaired (strips_of c.args.job.now)) l) (sym c.as_slice.ensures)
    (are_paired c.args.job.now (places c.args.columns.now) c.in_ok-pairs.pairs c.in_ok-pairs.ensures)

pub returns : goal.returns
returns c =
    pairs_tell c.args.job.now (places c.args.columns.now) (job_strips c.args.job.now c.requires.job) c.as_slice.result.now
    (subst (λ (l : List (ℕ × ℕ)). ListsNearStrips c.args.job.now (places c.args.columns.now) l) (sym c.as_slice.ensures) c.in_ok-pairs.ensures)
    _ _ c.in_ok-add_of_pairs.ensures
