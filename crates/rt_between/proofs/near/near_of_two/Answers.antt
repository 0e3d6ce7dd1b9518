use Rattle.std.proofs.Common.{rules, w64, FitsSigned, ℤ, List, [], ◌∷◌, sym, ap, subst, subst₂, ◌∙◌}
use Rattle.std.specs.Prelude.{All}
use Rattle.std.proofs.lemmas.Int.{to_z-of_z}
use Rattle.std.proofs.lemmas.Result.{IfOk-weaker}
use Rattle.rt_near.specs.declared.near.Sides.{Sides}
use Rattle.rt_near.specs.Near.{IsInterval, ListsNearPairs}
use Rattle.rt_between.proofs.Grouped.{all_grouped, hold_of_two}
use Rattle.rt_between.proofs.near.near_of_two.Goals as goal

pub near_pairs-requires-clause-intervals : goal.near_pairs-requires-clause-intervals
near_pairs-requires-clause-intervals c =
    subst (λ (sides : List Sides). All IsInterval sides) (sym (c.as_slice.ensures.value ∙ c.in_ok-grouped.ensures))
    (all_grouped c.args.sides.now c.args.first c.args.second c.args.reach c.requires.intervals)

pub returns : goal.returns
returns c =
    let fits : FitsSigned w64 c.args.reach = search rules in
    IfOk-weaker c.near_pairs.result _ _
    (λ pairs lists. hold_of_two c.args.sides.now c.args.first c.args.second c.args.reach pairs
    (subst₂ (λ (sides : List Sides) (reaches : List ℤ). ListsNearPairs sides reaches pairs) (c.as_slice.ensures.value ∙ c.in_ok-grouped.ensures)
    (ap (λ (r : ℤ). r ∷ []) (to_z-of_z w64 _ fits)) lists)) c.near_pairs.ensures
