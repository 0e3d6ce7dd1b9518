-- With an open node one thing is done.
use Rattle.std.proofs.Common.{◌≡◌, ℕ, ◌<◌, ℤ, pos, ◌-ℤ◌, ◌*ℤ◌, ◌≤ℤ◌, ◌<ℤ◌, List, length, Option, Some, None, refl, sym, ap, subst, subst₂, ◌∙◌, inl, inr, arith}
use Rattle.std.proofs.lemmas.Bool.{cases_lt}
use Rattle.std.proofs.lemmas.Int.{ints}
use Rattle.std.proofs.lemmas.List.{ext_get_or}
use Rattle.rt_tableau.specs.States.{State}
use Rattle.rt_simplex.specs.Choices.{goal_of}
use Rattle.rt_simplex.proofs.Determined.{one_leaving, one_pivot, optimum_has_none, optimum_is_no_ray, ray_has_none}
use Rattle.rt_branch.specs.Values.{IsFirstBroken, AreWhole, whole_at}
use Rattle.rt_branch.specs.declared.parts.Best.{Best}
use Rattle.rt_branch.specs.Searches.{IsLesser, IsNoLess, IsLess, HasNoBetter, MayHaveBetter, IsWholeEnd}
use Rattle.rt_branch.specs.Searches.Move.{Pivot, Ray, Whole, Pruned, Branch}
use Rattle.rt_branch.specs.Laws.{OneMove}
use Rattle.rt_branch.proofs.OneValue.{one_value, whole_once, broken_once, whole_not_broken}

one_lesser : (best : Option Best) (found kept other : Best) → IsLesser best found kept → IsLesser best found other → kept ≡ other
one_lesser None found kept other e f = e ∙ sym f
one_lesser (Some best) found kept other (inl a) (inl b) = a.1 ∙ sym b.1
one_lesser (Some best) found kept other (inl a) (inr b) = let h = a.0 in let g = b.0 in absurd (omega (arith, ints, h, g))
one_lesser (Some best) found kept other (inr a) (inl b) = let h = a.0 in let g = b.0 in absurd (omega (arith, ints, h, g))
one_lesser (Some best) found kept other (inr a) (inr b) = a.1 ∙ sym b.1

-- a node has one list of whole values
pub same_whole : (node : State) (at other : List ℤ) → AreWhole node at → AreWhole node other → at ≡ other
same_whole node at other first second =
    ext_get_or (pos 0) at other (first.one_each ∙ sym second.one_each)
    (λ j h. let e = first.one_each in let there : j < length at = h in whole_once node j _ _ (first.each j (omega (arith, there, e))) (second.each j (omega (arith, there, e))))

one_kept : (best : Option Best) (node : State) (kept other : Best) → IsWholeEnd best node kept → IsWholeEnd best node other → kept ≡ other
one_kept best node kept other first second =
    one_lesser best (record { extent = whole_at first.at (goal_of node); at = first.at }) kept other first.lesser
    (subst (λ at. IsLesser best (record { extent = whole_at at (goal_of node); at = at }) other) (sym (same_whole node first.at second.at first.whole second.whole)) second.lesser)

first_not_before : (node : State) (j k : ℕ) (n m : ℤ) → IsFirstBroken node j n → IsFirstBroken node k m → j < k → ⊥
first_not_before node j k n m first second h = let w = second.before j h in whole_not_broken node j w.0 n w.1 first.broken

-- a node has one first column that isn't whole
pub one_first : (node : State) (j k : ℕ) (n m : ℤ) → IsFirstBroken node j n → IsFirstBroken node k m → (j ≡ k) × (n ≡ m)
one_first node j k n m first second = (same, broken_once node j n m first.broken (subst (λ c. IsFirstBroken node c m) (sym same) second).broken)
  where
    same : j ≡ k
    same =
        elim (cases_lt j k) [
          | inl a ↦ absurd (first_not_before node j k n m first second a)
          | inr a ↦ elim (cases_lt k j) [ inl b ↦ absurd (first_not_before node k j m n second first b) | inr b ↦ omega (arith, a, b) ]
        ]

-- values that are all whole aren't branched on
pub none_broken : (node : State) (at : List ℤ) (j : ℕ) (n : ℤ) → AreWhole node at → IsFirstBroken node j n → ⊥
none_broken node at j n whole first = whole_not_broken node j (whole_at at j) n (whole.each j first.there) first.broken

no_less_or_less : (node : State) (extent : ℤ) → IsNoLess node extent → IsLess node extent → ⊥
no_less_or_less node extent first second =
    let same = one_value node (goal_of node) first.right first.over second.right second.over first.value second.value in
    clash _ _ first.beyond (subst₂ (λ r o. r ≤ℤ ((extent -ℤ pos 1) *ℤ o)) (sym same.0) (sym same.1) second.within)
  where
    clash : (a b : ℤ) → a <ℤ b → b ≤ℤ a → ⊥
    clash a b h g = omega (arith, ints, h, g)

none_or_may : (best : Option Best) (node : State) → HasNoBetter best node → MayHaveBetter best node → ⊥
none_or_may None node first second = first
none_or_may (Some best) node first second = no_less_or_less node best.extent first second

pub one_move_each : OneMove
one_move_each best node (Pivot p q) (Pivot r s) first second = let same = one_pivot node p q r s first.0 second.0 in λ i. Pivot (same.0 i) (same.1 i)
one_move_each best node (Pivot p q) (Ray r) first second = absurd (ray_has_none node r p q second first.0)
one_move_each best node (Pivot p q) (Whole kept) first second = absurd (optimum_has_none node p q second.optimum first.0)
one_move_each best node (Pivot p q) Pruned first second = absurd (optimum_has_none node p q second.optimum first.0)
one_move_each best node (Pivot p q) (Branch j n) first second = absurd (optimum_has_none node p q second.optimum first.0)
one_move_each best node (Ray r) (Pivot p q) first second = absurd (ray_has_none node r p q first second.0)
one_move_each best node (Ray r) (Ray s) first second = ap (λ k. Ray k) (one_leaving node r s first.leaving second.leaving)
one_move_each best node (Ray r) (Whole kept) first second = absurd (optimum_is_no_ray node r second.optimum first)
one_move_each best node (Ray r) Pruned first second = absurd (optimum_is_no_ray node r second.optimum first)
one_move_each best node (Ray r) (Branch j n) first second = absurd (optimum_is_no_ray node r second.optimum first)
one_move_each best node (Whole kept) (Pivot p q) first second = absurd (optimum_has_none node p q first.optimum second.0)
one_move_each best node (Whole kept) (Ray r) first second = absurd (optimum_is_no_ray node r first.optimum second)
one_move_each best node (Whole kept) (Whole other) first second = ap (λ b. Whole b) (one_kept best node kept other first second)
one_move_each best node (Whole kept) Pruned first second = absurd (none_broken node first.at second.j second.n first.whole second.first)
one_move_each best node (Whole kept) (Branch j n) first second = absurd (none_broken node first.at j n first.whole second.first)
one_move_each best node Pruned (Pivot p q) first second = absurd (optimum_has_none node p q first.optimum second.0)
one_move_each best node Pruned (Ray r) first second = absurd (optimum_is_no_ray node r first.optimum second)
one_move_each best node Pruned (Whole kept) first second = absurd (none_broken node second.at first.j first.n second.whole first.first)
one_move_each best node Pruned Pruned first second = refl
one_move_each best node Pruned (Branch j n) first second = absurd (none_or_may best node first.none second.may)
one_move_each best node (Branch j n) (Pivot p q) first second = absurd (optimum_has_none node p q first.optimum second.0)
one_move_each best node (Branch j n) (Ray r) first second = absurd (optimum_is_no_ray node r first.optimum second)
one_move_each best node (Branch j n) (Whole kept) first second = absurd (none_broken node second.at j n second.whole first.first)
one_move_each best node (Branch j n) Pruned first second = absurd (none_or_may best node second.none first.may)
one_move_each best node (Branch j n) (Branch k m) first second = let same = one_first node j k n m first.first second.first in λ i. Branch (same.0 i) (same.1 i)
