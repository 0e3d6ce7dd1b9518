use Rattle.std.proofs.Common.{List, ℕ, ℤ, subst, subst₂}
use Rattle.std.specs.List.Sorted.{IsPermutation}
use Rattle.rt_near.specs.declared.near.Sides.{Sides}
use Rattle.rt_near.specs.Near.{ListsNearPairs}
use Rattle.rt_rows.specs.Places.{places}
use Rattle.rt_vtemplate.proofs.Columns.{pairs_ordered, lists_near}
use Rattle.rt_vtemplate.proofs.nearby.near_strips.Goals as goal

pub returns : goal.returns
returns c =
    lists_near c.args.job.now c.requires.job (places c.args.columns.now) c.in_ok-sides.sides.items c.in_ok-reaches.reaches.items c.in_ok-sides.ensures c.in_ok-reaches.ensures c.in_ok-ordered.ordered
    (pairs_ordered c.in_ok-sides.sides.items c.in_ok-reaches.reaches.items c.in_ok-pairs.pairs c.in_ok-ordered.ordered
    (subst (λ (l : List (ℕ × ℕ)). IsPermutation l c.in_ok-ordered.ordered) c.as_slice-3.ensures c.in_ok-ordered.ensures)
    (subst₂ (λ (s : List Sides) (r : List ℤ). ListsNearPairs s r c.in_ok-pairs.pairs) c.as_slice.ensures.value c.as_slice-2.ensures.value c.in_ok-pairs.ensures))
