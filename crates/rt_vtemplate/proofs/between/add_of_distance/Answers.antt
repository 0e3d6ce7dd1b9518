use Rattle.std.proofs.Common.{ℕ, rules, w64, FitsSigned, List, length, subst}
use Rattle.std.proofs.lemmas.Int.{to_z-of_z}
use Rattle.rt_rows.specs.Places.{places}
use Rattle.rt_between.specs.Offers.{AreOffered}
use Rattle.rt_between.proofs.Growing.{then_given}
use Rattle.rt_vtemplate.specs.Between.{names_off_at}
use Rattle.rt_vtemplate.proofs.Distances.{all_intervals, distance_added}
use Rattle.rt_vtemplate.proofs.Upwards.{job_strips}
use Rattle.rt_vtemplate.proofs.between.add_of_distance.Goals as goal

pub near_of_two-requires-clause-intervals : goal.near_of_two-requires-clause-intervals
near_of_two-requires-clause-intervals c = all_intervals c.args.job.now c.args.columns.now c.requires.columns c.args.sides.now c.requires.sides

pub returns : goal.returns
returns c =
    let fits : FitsSigned w64 c.apart_number.result = search rules in
    let near = rw (to_z-of_z w64 c.apart_number.result fits) at c.in_ok-pairs.ensures in
    then_given c.add_off.result
    (λ offered.
    distance_added c.args.job.now (places c.args.columns.now) (job_strips c.args.job.now c.requires.job) c.args.sides.now c.requires.sides c.args.q c.as_slice.result.now _
    c.apart_number.result c.in_ok-pairs.pairs c.args.names.now c.add_off.new.names c.as_slice.ensures c.requires.there c.apart_number.ensures near
    (subst (λ (pairs : List (ℕ × ℕ)). AreOffered (names_off_at c.args.q pairs) (length pairs) c.args.names.now c.add_off.new.names) c.as_slice-2.ensures offered))
    c.add_off.ensures
