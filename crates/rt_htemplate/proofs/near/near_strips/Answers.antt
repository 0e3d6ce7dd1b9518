use Rattle.std.proofs.Common.{◌≡◌, ℤ, List, map, sym, ap, subst, subst₂, ◌∙◌}
use Rattle.std.specs.Prelude.{All}
use Rattle.std.proofs.lemmas.Result.{IfOk-weaker}
use Rattle.rt_near.specs.declared.near.Sides.{Sides}
use Rattle.rt_near.specs.Near.{IsInterval, ListsNearPairs}
use Rattle.rt_htemplate.specs.Near.{space_in}
use Rattle.rt_between.specs.Pairing.{side_of}
use Rattle.rt_between.proofs.Among.{all_intervals}
use Rattle.rt_htemplate.proofs.Pairs.{hold_kept}
use Rattle.rt_htemplate.proofs.near.near_strips.Goals as goal
use Rattle.rt_htemplate.proofs.near.near_strips.Goals.{After-as_slice-3}

sides_are : (c : After-as_slice-3) → c.as_slice-2.result.now ≡ map side_of c.args.job.now.view.strips.list
sides_are c = c.as_slice-2.ensures.value ∙ c.in_ok-sides.ensures ∙ ap (map side_of) c.as_slice.ensures

pub near_pairs-requires-clause-intervals : goal.near_pairs-requires-clause-intervals
near_pairs-requires-clause-intervals c =
    subst (λ (sides : List Sides). All IsInterval sides) (sym (sides_are c)) (all_intervals c.args.job.now.view.strips.list)

pub returns : goal.returns
returns c =
    let spaces : c.as_slice-3.result.now ≡ map space_in c.args.job.now.source.masks = c.as_slice-3.ensures.value ∙ c.in_ok-spaces.ensures in
    IfOk-weaker c.near_pairs.result _ _
    (λ pairs lists. hold_kept c.args.job.now c.requires.job pairs
    (subst₂ (λ (sides : List Sides) (reaches : List ℤ). ListsNearPairs sides reaches pairs) (sides_are (goal.at.returns c).After-as_slice-3) spaces lists)) c.near_pairs.ensures
