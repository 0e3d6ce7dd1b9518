-- Where no column costs less than 0, the goal is least at the point of the basis.
use Rattle.std.proofs.Common.{◌≡◌, ℕ, zero, suc, ◌<◌, ◌⊎◌, List, ℤ, pos, ◌+ℤ◌, ◌*ℤ◌, ◌≤ℤ◌, ◌<ℤ◌, length, refl, sym, ap, subst, ◌∙◌, inl, inr, arith}
use Rattle.std.proofs.lemmas.Bool.{cases_lt}
use Rattle.std.proofs.lemmas.Int.{ints}
use Rattle.rt_cells.proofs.Times.{times_cancel_le, times_le, product_not_negative}
use Rattle.rt_proofs.proofs.Products.{times_comm, times_assoc}
use Rattle.rt_solved.specs.Lines.{total}
use Rattle.rt_solved.specs.Systems.{columns_of}
use Rattle.rt_solved.specs.Tables.{basic_of}
use Rattle.rt_solved.proofs.Proportional.{same_or_not}
use Rattle.rt_tableau.specs.States.{State}
use Rattle.rt_simplex.specs.Choices.{goal_of}
use Rattle.rt_simplex.specs.Points.{IsPoint, IsBasisPoint, IsLeastPoint}
use Rattle.rt_simplex.specs.Feasible.{IsDualFeasible}
use Rattle.rt_simplex.proofs.Rays.{total_not_below}

-- a column is basic in one of the first rows, or in none
pub basic_or_off : (basis : List ℕ) (j n : ℕ) → ((i : ℕ) × (i < n) × (basic_of basis i ≡ j)) ⊎ ((i : ℕ) → i < n → basic_of basis i ≡ j → ⊥)
basic_or_off basis j zero = inr (λ i h e. omega (arith, h))
basic_or_off basis j (suc n) = further (basic_or_off basis j n) (same_or_not (basic_of basis n) j)
  where
    further : ((i : ℕ) × (i < n) × (basic_of basis i ≡ j)) ⊎ ((i : ℕ) → i < n → basic_of basis i ≡ j → ⊥) → (basic_of basis n ≡ j) ⊎ (basic_of basis n ≡ j → ⊥)
        → ((i : ℕ) × (i < suc n) × (basic_of basis i ≡ j)) ⊎ ((i : ℕ) → i < suc n → basic_of basis i ≡ j → ⊥)
    further (inl t) e = let h = t.1 in inl (t.0, omega (arith, h), t.2)
    further (inr f) (inl e) = inl (n, omega arith, e)
    further (inr f) (inr m) = inr none
      where
        none : (i : ℕ) → i < suc n → basic_of basis i ≡ j → ⊥
        none i h e =
            elim (cases_lt i n) [
              | inl l ↦ f i l e
              | inr g ↦ let same : i ≡ n = omega (arith, h, g) in m (subst (λ k. basic_of basis k ≡ j) same e)
            ]

total_none : (n : ℕ) (f : ℕ → ℤ) → ((j : ℕ) → j < n → f j ≡ pos 0) → total n f ≡ pos 0
total_none zero f h = refl
total_none (suc n) f h = omega (arith, ints, total_none n f (λ j l. h j (omega (arith, l))), h n (omega arith))

module _ (state : State) (feasible : IsDualFeasible state) where
  t : ℤ
  t = feasible.times

  c : ℕ → ℤ
  c = feasible.costs

  -- at the point of the basis the goal is what stands on the right side
  pub basis_goal : (point : ℕ → ℤ) → IsBasisPoint state point → feasible.times *ℤ point (suc (goal_of state)) ≡ feasible.costs 0 *ℤ point 0
  basis_goal point basis = alone _ _ _ (feasible.are.equal point basis.meets.solution) (total_none (columns_of state.system) (λ j. feasible.costs (suc j) *ℤ point (suc j)) each)
    where
      alone : (g r s : ℤ) → g ≡ r +ℤ s → s ≡ pos 0 → g ≡ r
      alone g r s e f = omega (arith, ints, e, f)

      first_none : (a b : ℤ) → a ≡ pos 0 → a *ℤ b ≡ pos 0
      first_none a b e = let none : pos 0 *ℤ b ≡ pos 0 = omega (arith, ints) in ap (λ z. z *ℤ b) e ∙ none

      second_none : (a b : ℤ) → b ≡ pos 0 → a *ℤ b ≡ pos 0
      second_none a b e = times_comm a b ∙ first_none b a e

      each : (j : ℕ) → j < columns_of state.system → feasible.costs (suc j) *ℤ point (suc j) ≡ pos 0
      each j h =
          elim (basic_or_off state.basis j (length state.system.rows)) [
            | inl at ↦ first_none (feasible.costs (suc j)) (point (suc j)) (subst (λ k. feasible.costs (suc k) ≡ pos 0) at.2 (feasible.are.basic at.0 at.1))
            | inr off ↦ second_none (feasible.costs (suc j)) (point (suc j)) (basis.off j h off)
          ]

  -- at each point that meets the rows the goal is worth that at least
  pub goal_bound : (point : ℕ → ℤ) → IsPoint state.system point → (feasible.costs 0 *ℤ point 0) ≤ℤ (feasible.times *ℤ point (suc (goal_of state)))
  goal_bound point meets =
      more _ _ _ (feasible.are.equal point meets.solution)
      (total_not_below (columns_of state.system) (λ j. feasible.costs (suc j) *ℤ point (suc j)) (λ j h. product_not_negative (feasible.costs (suc j)) (point (suc j)) (feasible.none_below j h) (meets.columns j h)))
    where
      more : (g r s : ℤ) → g ≡ r +ℤ s → pos 0 ≤ℤ s → r ≤ℤ g
      more g r s e h = omega (arith, ints, e, h)

  pub least_at_basis : (point : ℕ → ℤ) → IsBasisPoint state point → IsLeastPoint state point
  least_at_basis point basis = record {
    meets = basis.meets;
    least = λ other meets.
        across feasible.times (feasible.costs 0) (point (suc (goal_of state))) (point 0) (other (suc (goal_of state))) (other 0) feasible.are.positive basis.meets.positive meets.positive (basis_goal point basis)
        (goal_bound other meets);
  }
    where
      across : (t r g x h y : ℤ) → pos 0 <ℤ t → pos 0 <ℤ x → pos 0 <ℤ y → t *ℤ g ≡ r *ℤ x → (r *ℤ y) ≤ℤ (t *ℤ h) → (g *ℤ y) ≤ℤ (h *ℤ x)
      across t r g x h y ht hx hy e k =
          times_cancel_le t (g *ℤ y) (h *ℤ x) (omega (arith, ints, ht))
          (under _ _ _ _ (sym (times_assoc t g y) ∙ ap (λ z. z *ℤ y) e ∙ times_assoc r x y ∙ ap (λ z. r *ℤ z) (times_comm x y) ∙ sym (times_assoc r y x) ∙ times_comm (r *ℤ y) x)
          (sym (times_assoc t h x) ∙ times_comm (t *ℤ h) x) (times_le x (r *ℤ y) (t *ℤ h) (omega (arith, ints, hx)) k))
        where
          under : (p q r s : ℤ) → p ≡ r → q ≡ s → r ≤ℤ s → p ≤ℤ q
          under p q r s e f h = omega (arith, ints, e, f, h)
