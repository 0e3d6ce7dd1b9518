-- Cases on numbers, and options that hold a cell.
use Rattle.std.proofs.Common.{◌≡◌, ℕ, ◌<◌, ◌≤◌, ◌⊎◌, ap, subst, arith, inl, inr}
use Rattle.std.specs.Prelude.{Option, None, Some}
use Rattle.std.proofs.lemmas.Bool.{cases_order}
use Rattle.rt_base.specs.declared.plane.Cell.{Cell}

pub first_or_after : (n k : ℕ) → n ≤ k → (n ≡ k) ⊎ (n < k)
first_or_after n k h = grind (arith, h)

pub by_same_n : {P : Type 0} (a b : ℕ) → (a ≡ b → P) → ((a ≡ b → ⊥) → P) → P
by_same_n {P} a b f g = elim (cases_order a b) [
  | inl e ↦ f e
  | inr (inl h) ↦ g (λ e. absurd (omega (arith, e, h)))
  | inr (inr h) ↦ g (λ e. absurd (omega (arith, e, h)))
]

cell_of : Option Cell → Cell → Cell
cell_of (Some p) d = p
cell_of None d = d

Holding : Option Cell → Type 0
Holding (Some p) = Unit {0}
Holding None = ⊥

pub same_cell : (p q : Cell) → Some p ≡ Some q → p ≡ q
unfolding cell_of
same_cell p q e = ap (λ o. cell_of o p) e

pub not_none : (p : Cell) → Some p ≡ None → ⊥
unfolding Holding
not_none p e = subst Holding e tt
