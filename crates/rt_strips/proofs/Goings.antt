-- The strips of the code that may go on, one after the other.
use Rattle.std.proofs.Common.{◌≡◌, ℕ, ◌+◌, ◌<◌, ◌≤◌, ℤ, ◌<ℤ◌, List, length, get_or, map, sym, ap, subst, ◌∙◌, arith, inl, inr}
use Rattle.std.proofs.lemmas.Bool.{cases_lt}
use Rattle.std.proofs.lemmas.List.{get_or-map}
use Rattle.rt_strips.specs.declared.one_mask.stack.Going.{Going}
use Rattle.rt_strips.specs.Stacks.{opened_at, none_opened}
use Rattle.rt_strips.specs.Goings.{opened}

pub one_more_before : (going : List Going) (from number : ℕ) (left : ℤ) (g : Going) → number < length going → (get_or going number g).at.x1 <ℤ left
    → ((j : ℕ) → from ≤ j → j < number → (opened_at (map opened going) j).left <ℤ left)
    → (j : ℕ) → from ≤ j → j < number + 1 → (opened_at (map opened going) j).left <ℤ left
one_more_before going from number left g inside low before j h l = elim (cases_lt j number) [
  | inl lt ↦ before j h lt
  | inr ge ↦
      let e : j ≡ number = omega arith in
      subst (λ n. (opened_at (map opened going) n).left <ℤ left) (sym e)
      (subst (λ o. o.left <ℤ left) (sym (get_or-map opened going number g none_opened inside)) low)
]
