-- A state has one entry at a place.
use Rattle.std.proofs.Common.{◌≡◌, ℕ, zero, suc, ◌<◌, ◌≤◌, ℤ, pos, ◌+ℤ◌, ◌-ℤ◌, ◌*ℤ◌, ◌<ℤ◌, length, sym, ap, subst₂, ◌∙◌, inl, inr, arith}
use Rattle.std.proofs.lemmas.Bool.{cases_lt}
use Rattle.std.proofs.lemmas.Int.{ints}
use Rattle.rt_cells.proofs.Times.{times_sub}
use Rattle.rt_proofs.proofs.Products.{times_comm, times_assoc}
use Rattle.rt_frac.specs.declared.frac.Frac.{Frac}
use Rattle.rt_frac.specs.Fracs.{IsFracOf}
use Rattle.rt_frac.proofs.Unique.{one_fraction_each}
use Rattle.rt_solved.specs.Lines.{worth}
use Rattle.rt_solved.specs.Systems.{column_of, columns_of, IsSolution}
use Rattle.rt_solved.specs.Tables.{IsSolved, basic_of}
use Rattle.rt_solved.proofs.Totals.{worth_combined}
use Rattle.rt_solved.proofs.Proportional.{vanishes, positive_times}
use Rattle.rt_solved.proofs.Factors.{one_table_each}
use Rattle.rt_tableau.specs.States.{State, number_at, IsRowEntry, AreCosts, IsCost}
use Rattle.rt_tableau.specs.Laws.{OneEntry}
use Rattle.rt_tableau.proofs.Excluding.{number_within}

not_none : (z : ℤ) → pos 0 <ℤ z → z ≡ pos 0 → ⊥
not_none z h e = omega (arith, ints, h, e)

-- of rows
one_row_entry : (state : State) (i j : ℕ) (entry other : Frac) → i < length state.system.rows → j ≤ columns_of state.system → IsRowEntry state i j entry → IsRowEntry state i j other → entry ≡ other
one_row_entry state i j entry other h g first second =
    let columns = columns_of state.system in
    let within = number_within columns j g in
    let below : suc (basic_of state.basis i) ≤ columns = let t = first.whole.solved.there i h in omega (arith, t) in
    let num = one_table_each state.system state.basis first.table second.table first.whole second.whole i (number_at columns j) h within in
    let den = one_table_each state.system state.basis first.table second.table first.whole second.whole i (suc (basic_of state.basis i)) h below in
    one_fraction_each (first.table i (number_at columns j)) (first.table i (suc (basic_of state.basis i))) entry other (not_none _ (first.whole.solved.positive i h)) first.is
    (subst₂ (λ a b. IsFracOf a b other) (sym num) (sym den) second.is)

-- costs as a line, which has the other sign on its right side
as_line : (ℕ → ℤ) → ℕ → ℤ
as_line costs zero = pos 0 -ℤ costs 0
as_line costs (suc k) = costs (suc k)

-- it's worth the goal
line_worth : (state : State) (times : ℤ) (costs : ℕ → ℤ) → AreCosts state times costs → (x : ℕ → ℤ) → IsSolution state.system x
    → worth (columns_of state.system) (as_line costs) x ≡ times *ℤ x (suc (column_of state.system.strips state.goal))
unfolding as_line
line_worth state times costs are x sol = moved _ (costs 0) (x 0) _ (are.equal x sol)
  where
    moved : (t c y g : ℤ) → g ≡ c *ℤ y +ℤ t → t -ℤ (pos 0 -ℤ c) *ℤ y ≡ g
    moved t c y g e = omega (arith, ints, e, times_comm (pos 0 -ℤ c) y, times_sub y (pos 0) c, times_comm y c)

-- so many of one less so many of the other
mixed : ℤ → (ℕ → ℤ) → ℤ → (ℕ → ℤ) → ℕ → ℤ
mixed t c u d s = u *ℤ as_line c s +ℤ (pos 0 -ℤ t) *ℤ as_line d s

mixed_none : (state : State) (table : ℕ → ℕ → ℤ) (t u : ℤ) (c d : ℕ → ℤ) → IsSolved state.system state.basis table → AreCosts state t c → AreCosts state u d → (s : ℕ) → s ≤ columns_of state.system → mixed t c u d s ≡ pos 0
unfolding mixed as_line
mixed_none state table t u c d solved first second s h =
    vanishes (columns_of state.system) (length state.system.rows) (IsSolution state.system) (basic_of state.basis) table solved (mixed t c u d)
    (λ k l. both_none u (pos 0 -ℤ t) _ _ (first.basic k l) (second.basic k l))
    (λ x sol. balanced t u _ _ _ (x (suc (column_of state.system.strips state.goal)))
    (worth_combined (columns_of state.system) (mixed t c u d) (as_line c) (as_line d) x u (pos 0 -ℤ t) (pos 1) (λ r l. one_of (mixed t c u d r)))
    (line_worth state t c first x sol) (line_worth state u d second x sol)) s h
  where
    one_of : (z : ℤ) → pos 1 *ℤ z ≡ z
    one_of z = omega (arith, ints)

    both_none : (a b p q : ℤ) → p ≡ pos 0 → q ≡ pos 0 → a *ℤ p +ℤ b *ℤ q ≡ pos 0
    both_none a b p q e f = omega (arith, ints, ap (λ z. a *ℤ z) e, ap (λ z. b *ℤ z) f)

    balanced : (t u w a b g : ℤ) → pos 1 *ℤ w ≡ u *ℤ a +ℤ (pos 0 -ℤ t) *ℤ b → a ≡ t *ℤ g → b ≡ u *ℤ g → w ≡ pos 0
    balanced t u w a b g e f h =
        let left : u *ℤ a ≡ t *ℤ (u *ℤ g) = ap (λ z. u *ℤ z) f ∙ sym (times_assoc u t g) ∙ ap (λ z. z *ℤ g) (times_comm u t) ∙ times_assoc t u g in
        let right : (pos 0 -ℤ t) *ℤ b ≡ pos 0 -ℤ t *ℤ (u *ℤ g) = ap (λ z. (pos 0 -ℤ t) *ℤ z) h ∙ less (u *ℤ g) t in
        omega (arith, ints, e, left, right)
      where
        less : (p q : ℤ) → (pos 0 -ℤ q) *ℤ p ≡ pos 0 -ℤ q *ℤ p
        less p q = omega (arith, ints, times_comm (pos 0 -ℤ q) p, times_sub p (pos 0) q, times_comm p q)

-- costs are proportional
proportional_costs : (state : State) (table : ℕ → ℕ → ℤ) (t u : ℤ) (c d : ℕ → ℤ) → IsSolved state.system state.basis table → AreCosts state t c → AreCosts state u d → (s : ℕ) → s ≤ columns_of state.system → u *ℤ c s ≡ t *ℤ d s
unfolding mixed as_line
proportional_costs state table t u c d solved first second zero h = right u t (c 0) (d 0) (mixed_none state table t u c d solved first second 0 h)
  where
    right : (a b p q : ℤ) → a *ℤ (pos 0 -ℤ p) +ℤ (pos 0 -ℤ b) *ℤ (pos 0 -ℤ q) ≡ pos 0 → a *ℤ p ≡ b *ℤ q
    right a b p q e =
        omega (arith, ints, e, times_sub a (pos 0) p, times_comm (pos 0 -ℤ b) (pos 0 -ℤ q), times_sub (pos 0 -ℤ q) (pos 0) b, times_comm (pos 0 -ℤ q) b, times_sub b (pos 0) q)
proportional_costs state table t u c d solved first second (suc k) h = left u t (c (suc k)) (d (suc k)) (mixed_none state table t u c d solved first second (suc k) h)
  where
    left : (a b p q : ℤ) → a *ℤ p +ℤ (pos 0 -ℤ b) *ℤ q ≡ pos 0 → a *ℤ p ≡ b *ℤ q
    left a b p q e = omega (arith, ints, e, times_comm (pos 0 -ℤ b) q, times_sub q (pos 0) b, times_comm q b)

-- a fraction of two numbers is that of their multiples
fraction_times : (k n d : ℤ) (f : Frac) → IsFracOf n d f → IsFracOf (k *ℤ n) (k *ℤ d) f
fraction_times k n d f is = record {
  frac = is.frac;
  factor = k *ℤ is.factor;
  num_is = ap (λ z. k *ℤ z) is.num_is ∙ sym (times_assoc k is.factor f.num);
  den_is = ap (λ z. k *ℤ z) is.den_is ∙ sym (times_assoc k is.factor f.den);
}

-- of costs
one_cost : (state : State) (j : ℕ) (entry other : Frac) → j ≤ columns_of state.system → IsCost state j entry → IsCost state j other → entry ≡ other
one_cost state j entry other g first second =
    let s = number_at (columns_of state.system) j in
    let same = proportional_costs state first.table first.times second.times first.costs second.costs first.solved first.are second.are s (number_within (columns_of state.system) j g) in
    one_fraction_each (second.times *ℤ first.costs s) (second.times *ℤ first.times) entry other (not_none _ (positive_times second.times first.times second.are.positive first.are.positive))
    (fraction_times second.times (first.costs s) first.times entry first.is)
    (subst₂ (λ a b. IsFracOf a b other) (sym same) (times_comm first.times second.times) (fraction_times first.times (second.costs s) second.times other second.is))

pub one_entry_each : OneEntry
one_entry_each state i j entry other h g first second =
    elim (cases_lt i (length state.system.rows)) [
      | inl l ↦ one_row_entry state i j entry other l g (first.of_row l) (second.of_row l)
      | inr m ↦ costs (omega (arith, m, h))
    ]
  where
    costs : i ≡ length state.system.rows → entry ≡ other
    costs e = one_cost state j entry other g (first.of_costs e) (second.of_costs e)
