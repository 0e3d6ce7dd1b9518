-- Cases on numbers, and what options hold.
use Rattle.std.proofs.Common.{◌≡◌, ℕ, ap, subst, arith, inl, inr, refl}
use Rattle.std.specs.Prelude.{Option, None, Some, IsSomeAnd}
use Rattle.std.proofs.lemmas.Bool.{cases_order}

pub by_same : {P : Type 0} (a b : ℕ) → (a ≡ b → P) → ((a ≡ b → ⊥) → P) → P
by_same {P} a b f g = elim (cases_order a b) [
  | inl e ↦ f e
  | inr (inl h) ↦ g (λ e. absurd (omega (arith, e, h)))
  | inr (inr h) ↦ g (λ e. absurd (omega (arith, e, h)))
]

value_of : {X : Type 0} → Option X → X → X
value_of (Some x) d = x
value_of None d = d

Holding : {X : Type 0} → Option X → Type 0
Holding (Some x) = Unit {0}
Holding None = ⊥

pub same_value : {X : Type 0} (x y : X) → Some x ≡ Some y → x ≡ y
unfolding value_of
same_value x y e = ap (λ o. value_of o x) e

pub not_none : {X : Type 0} (x : X) → Some x ≡ None → ⊥
unfolding Holding
not_none x e = subst Holding e tt

-- an option that holds a value of which P holds, and the value
pub some_and : {X : Type 0} (o : Option X) (P : X → Type 0) → IsSomeAnd o P → (x : X) × (o ≡ Some x) × P x
some_and (Some x) P p = (x, refl, p)
some_and None P p = absurd p
