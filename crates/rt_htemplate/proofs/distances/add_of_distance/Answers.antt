use Rattle.std.proofs.Common.{ℕ, pos, rules, w64, FitsSigned, List, None, length, get_or, sym, subst}
use Rattle.std.proofs.lemmas.Int.{to_z-of_z}
use Rattle.std.specs.Prelude.{All}
use Rattle.rt_near.specs.declared.near.Sides.{Sides}
use Rattle.rt_near.specs.Near.{IsInterval}
use Rattle.rt_tech.specs.declared.table.Apart.{Apart as Distance}
use Rattle.rt_between.specs.Offers.{AreOffered}
use Rattle.rt_between.proofs.Among.{all_intervals}
use Rattle.rt_htemplate.specs.Candidates.{names_off_at}
use Rattle.rt_between.proofs.Growing.{then_given}
use Rattle.rt_htemplate.proofs.Reached.{distance_added}
use Rattle.rt_htemplate.proofs.distances.add_of_distance.Goals as goal

pub near_of_two-requires-clause-intervals : goal.near_of_two-requires-clause-intervals
near_of_two-requires-clause-intervals c = subst (λ (sides : List Sides). All IsInterval sides) (sym c.requires.rows) (all_intervals c.args.job.now.view.strips.list)

pub returns : goal.returns
returns c =
    let apart : Distance = get_or c.as_slice.result.now c.args.q (record { a = 0; on = None; b = 0; number = pos 0 }) in
    let fits : FitsSigned w64 apart.number = search rules in
    then_given c.add_off.result
    (λ offered.
    distance_added c.args.job.now c.requires.job c.args.q c.args.rows.now c.as_slice.result.now _ _ c.in_ok-pairs.pairs c.args.names.now c.add_off.new.names
    c.requires.rows c.as_slice.ensures c.requires.there (to_z-of_z w64 apart.number fits) c.in_ok-pairs.ensures
    (subst (λ (pairs : List (ℕ × ℕ)). AreOffered (names_off_at c.args.q pairs) (length pairs) c.args.names.now c.add_off.new.names) c.as_slice-2.ensures offered))
    c.add_off.ensures
