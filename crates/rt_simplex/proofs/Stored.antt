-- Numbers as code reads them.
use Rattle.std.proofs.Common.{◌≡◌, ℕ, suc, ◌<◌, Bool, true, false, ◌==◌, if◌then◌else◌, ℤ, pos, neg_ℤ, ◌-ℤ◌, ◌*ℤ◌, ◌≤ℤ◌, ◌<ℤ◌, Option, Some, to_z, of_z, refl, sym, ap, subst₂, ◌∙◌, arith, MatchBool}
use Rattle.std.proofs.lemmas.Bool.{eqb-true}
use Rattle.std.proofs.lemmas.Int.{ints, to_z-of_z}
use mir.Syntax.{w64, w128}
use lib.Signed.{lt_z}
use Rattle.rt_rows.specs.Known.{IsSmall}
use Rattle.rt_rows.proofs.Products.{small_product, product_fits}
use Rattle.rt_solved.specs.Systems.{columns_of}
use Rattle.rt_solved.specs.Tables.{IsWhole}
use Rattle.rt_tableau.specs.States.{State, IsWholeEntry, IsGoalRow}
use Rattle.rt_tableau.proofs.Combined.{wide_read}
use Rattle.rt_simplex.specs.Choices.{goal_of, cost_by}
use Rattle.rt_simplex.specs.Among.{IsCostBy}
use Rattle.rt_simplex.proofs.Chosen.{stored, small_stored}
use Rattle.rt_simplex.proofs.Entering.{column_in}

abbrev wide : ℤ → ℤ
wide z = to_z w128 (of_z w128 z)

product_is : (a b ra rb : ℤ) → IsSmall a → IsSmall b → ra ≡ to_z w64 (of_z w64 a) → rb ≡ to_z w64 (of_z w64 b) → wide (wide ra *ℤ wide rb) ≡ a *ℤ b
product_is a b ra rb h g e f =
    (λ i. wide (wide_read a ra h e i *ℤ wide_read b rb g f i)) ∙ to_z-of_z w128 (a *ℤ b) (product_fits (a *ℤ b) (small_product a b h g))

compared : (p q : ℤ) → MatchBool (lt_z p q) (p <ℤ q) (q ≤ℤ p)
compared p q = by (lt_z p q) refl
  where
    by : (t : Bool) → lt_z p q ≡ t → MatchBool t (p <ℤ q) (q ≤ℤ p)
    by true e = omega (arith, ints, e)
    by false e = omega (arith, ints, e)

pub less_told : (a b x y ra rb rx ry : ℤ) → IsSmall a → IsSmall b → IsSmall x → IsSmall y → ra ≡ to_z w64 (of_z w64 a) → rb ≡ to_z w64 (of_z w64 b) → rx ≡ to_z w64 (of_z w64 x) → ry ≡ to_z w64 (of_z w64 y)
    → MatchBool (lt_z (wide (wide ra *ℤ wide rb)) (wide (wide rx *ℤ wide ry))) ((a *ℤ b) <ℤ (x *ℤ y)) ((x *ℤ y) ≤ℤ (a *ℤ b))
less_told a b x y ra rb rx ry ha hb hx hy ea eb ex ey =
    subst₂ (λ s t. MatchBool (lt_z s t) ((a *ℤ b) <ℤ (x *ℤ y)) ((x *ℤ y) ≤ℤ (a *ℤ b))) (sym (product_is a b ra rb ha hb ea eb)) (sym (product_is x y rx ry hx hy ex ey)) (compared (a *ℤ b) (x *ℤ y))

turned_small : (z : ℤ) → IsSmall z → IsSmall (pos 0 -ℤ z)
turned_small z h = record { low = omega (arith, ints, h.low, h.high); high = omega (arith, ints, h.low, h.high) }

-- what a column costs by the goal's row
pub cost_told : (state : State) (row : Option ℕ) (i j : ℕ) (r : ℤ) → row ≡ Some i → IsGoalRow state i → (j ≡ goal_of state → ⊥) → j < columns_of state.system → IsWholeEntry state i j r → IsSmall r
    → IsCostBy state row j (stored (pos 0 -ℤ stored r))
cost_told state row i j r e goal n there is small = record { each = each }
  where
    value : stored (pos 0 -ℤ stored r) ≡ pos 0 -ℤ r
    value = ap (λ z. stored (pos 0 -ℤ z)) (small_stored r small) ∙ small_stored (pos 0 -ℤ r) (turned_small r small)

    turned : (a b : ℤ) → a ≡ b → pos 0 -ℤ a ≡ neg_ℤ b
    turned a b e = omega (arith, ints, e)

    by_test : (table : ℕ → ℕ → ℤ) (b : Bool) → (j == goal_of state) ≡ b → (b ≡ true → j ≡ goal_of state) → neg_ℤ (table i (suc j)) ≡ (if b then pos 0 else neg_ℤ (table i (suc j)))
    by_test table true f g = absurd (n (g refl))
    by_test table false f g = refl

    each : (table : ℕ → ℕ → ℤ) → IsWhole state.system state.basis table → stored (pos 0 -ℤ stored r) ≡ cost_by (goal_of state) row table j
    each table whole =
        value ∙ turned r (table i (suc j)) (column_in state table i j r whole goal.there there is)
        ∙ by_test table (j == goal_of state) refl (λ t. eqb-true j (goal_of state) t) ∙ ap (λ o. cost_by (goal_of state) o table j) (sym e)
