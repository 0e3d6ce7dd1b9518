-- Where no column costs less than 0, none does after a dual pivot.
use Rattle.std.proofs.Common.{◌≡◌, ℕ, zero, suc, ◌<◌, ◌⊎◌, ℤ, pos, neg_ℤ, ◌+ℤ◌, ◌-ℤ◌, ◌*ℤ◌, ◌≤ℤ◌, ◌<ℤ◌, length, set, sym, ap, subst, ◌∙◌, inl, inr, arith}
use Rattle.std.proofs.lemmas.Bool.{cases_lt}
use Rattle.std.proofs.lemmas.Int.{ints, by_lt_z}
use Rattle.std.proofs.lemmas.List.{get_or-set_same, get_or-set_other, set_past}
use Rattle.rt_cells.proofs.Times.{times_le, times_sum, times_sub, times_cancel_le, product_not_negative}
use Rattle.rt_proofs.proofs.Products.{times_comm, times_assoc}
use Rattle.rt_solved.specs.Lines.{total}
use Rattle.rt_solved.specs.Systems.{columns_of, IsSolution}
use Rattle.rt_solved.specs.Tables.{basic_of}
use Rattle.rt_solved.proofs.Totals.{total_combined, sign_out}
use Rattle.rt_solved.proofs.Proportional.{same_or_not, positive_times}
use Rattle.rt_tableau.specs.States.{State, exchanged_state}
use Rattle.rt_simplex.specs.Choices.{IsDualPivot, costs_by, goal_of}
use Rattle.rt_simplex.specs.Feasible.{IsDualFeasible}
use Rattle.rt_simplex.specs.Runs.{IsRun}
use Rattle.rt_simplex.specs.Runs.IsRun.{none, more}
use Rattle.rt_simplex.proofs.Columns.{sign_out_second}
use Rattle.rt_simplex.proofs.GoalLines.{goal_there, costs_proportional, Known, known}

module _ (state : State) (p q : ℕ) (feasible : IsDualFeasible state) (dual : IsDualPivot state p q) where
  line : ℕ → ℤ
  line = dual.entering.table p

  c : ℕ → ℤ
  c = feasible.costs

  a : ℤ
  a = neg_ℤ (dual.entering.table p (suc q))

  a_positive : pos 0 <ℤ a
  unfolding a
  a_positive = above (dual.entering.table p (suc q)) dual.entering.first.below
    where
      above : (z : ℤ) → z <ℤ pos 0 → pos 0 <ℤ neg_ℤ z
      above z h = omega (arith, ints, h)

  -- by the ratio test
  ratio : (j : ℕ) → j < columns_of state.system → line (suc j) <ℤ pos 0 → (c (suc q) *ℤ neg_ℤ (line (suc j))) ≤ℤ (c (suc j) *ℤ a)
  unfolding line c a
  ratio j h below = by_known (known state dual.entering.row dual.entering.table dual.entering.whole (goal_there state feasible) dual.entering.goal)
    where
      merged : {P : Type 0} (x y : ℤ) → (x <ℤ y) ⊎ ((x ≡ y) × P) → x ≤ℤ y
      merged x y (inl l) = omega (arith, ints, l)
      merged x y (inr e) = let same = e.0 in omega (arith, ints, same)

      -- u times c is t times k
      moved : (u t cq cj kq kj v w : ℤ) → pos 0 <ℤ u → pos 0 <ℤ t → u *ℤ cq ≡ t *ℤ kq → u *ℤ cj ≡ t *ℤ kj → (kq *ℤ v) ≤ℤ (kj *ℤ w) → (cq *ℤ v) ≤ℤ (cj *ℤ w)
      moved u t cq cj kq kj v w hu ht e f h =
          times_cancel_le u (cq *ℤ v) (cj *ℤ w) (omega (arith, ints, hu))
          (under _ _ _ _ (sym (times_assoc u cq v) ∙ ap (λ z. z *ℤ v) e ∙ times_assoc t kq v) (sym (times_assoc u cj w) ∙ ap (λ z. z *ℤ w) f ∙ times_assoc t kj w)
          (times_le t (kq *ℤ v) (kj *ℤ w) (omega (arith, ints, ht)) h))
        where
          under : (x y r s : ℤ) → x ≡ r → y ≡ s → r ≤ℤ s → x ≤ℤ y
          under x y r s e f h = omega (arith, ints, e, f, h)

      by_known : Known state dual.entering.row dual.entering.table → (feasible.costs (suc q) *ℤ neg_ℤ (dual.entering.table p (suc j))) ≤ℤ (feasible.costs (suc j) *ℤ neg_ℤ (dual.entering.table p (suc q)))
      by_known k =
          moved k.times feasible.times (feasible.costs (suc q)) (feasible.costs (suc j)) (k.costs (suc q)) (k.costs (suc j)) _ _ k.are.positive feasible.are.positive
          (costs_proportional state dual.entering.table feasible.times k.times feasible.costs k.costs dual.entering.whole.solved (goal_there state feasible) feasible.are k.are q dual.entering.first.there)
          (costs_proportional state dual.entering.table feasible.times k.times feasible.costs k.costs dual.entering.whole.solved (goal_there state feasible) feasible.are k.are j h)
          (subst (λ z. (z *ℤ neg_ℤ (dual.entering.table p (suc j))) ≤ℤ (k.costs (suc j) *ℤ neg_ℤ (dual.entering.table p (suc q)))) (sym (k.same q))
          (subst (λ z. (costs_by (goal_of state) dual.entering.row dual.entering.table (suc q) *ℤ neg_ℤ (dual.entering.table p (suc j))) ≤ℤ (z *ℤ neg_ℤ (dual.entering.table p (suc q)))) (sym (k.same j))
          (merged _ _ (dual.entering.first.first j h below))))

  -- the costs after the pivot
  new : ℕ → ℤ
  new zero = a *ℤ c 0 -ℤ c (suc q) *ℤ line 0
  new (suc j) = a *ℤ c (suc j) +ℤ c (suc q) *ℤ line (suc j)

  none_below_new : (j : ℕ) → j < columns_of state.system → pos 0 ≤ℤ new (suc j)
  unfolding new c
  none_below_new j h =
      by_lt_z (line (suc j)) (pos 0) (λ l. by_ratio (a *ℤ c (suc j)) (c (suc j) *ℤ a) (c (suc q) *ℤ neg_ℤ (line (suc j))) (c (suc q) *ℤ line (suc j)) (times_comm a (c (suc j))) (sign_out_second (c (suc q)) (line (suc j))) (ratio j h l))
      (λ l. both (a *ℤ c (suc j)) (c (suc q) *ℤ line (suc j)) (product_not_negative a (c (suc j)) (omega (arith, ints, a_positive)) (feasible.none_below j h))
      (product_not_negative (c (suc q)) (line (suc j)) (feasible.none_below q dual.entering.first.there) l))
    where
      by_ratio : (x y v w : ℤ) → x ≡ y → v ≡ neg_ℤ w → v ≤ℤ y → pos 0 ≤ℤ (x +ℤ w)
      by_ratio x y v w e f h = omega (arith, ints, e, f, h)

      both : (x y : ℤ) → pos 0 ≤ℤ x → pos 0 ≤ℤ y → pos 0 ≤ℤ (x +ℤ y)
      both x y h g = omega (arith, ints, h, g)

  equal_new : (x : ℕ → ℤ) → IsSolution state.system x → (a *ℤ feasible.times) *ℤ x (suc (goal_of state)) ≡ new 0 *ℤ x 0 +ℤ total (columns_of state.system) (λ j. new (suc j) *ℤ x (suc j))
  unfolding new c line
  equal_new x sol =
      summed a feasible.times (x (suc (goal_of state))) (c 0) (x 0) (c (suc q)) (line 0) _ _ _ (feasible.are.equal x sol) (dual.entering.whole.solved.holds x sol p dual.leaving.there).equal
      (total_combined (columns_of state.system) (λ j. c (suc j) *ℤ x (suc j)) (λ j. line (suc j) *ℤ x (suc j)) (λ j. (a *ℤ c (suc j) +ℤ c (suc q) *ℤ line (suc j)) *ℤ x (suc j)) a (c (suc q)) (pos 1)
      (λ j h. spread a (c (suc j)) (c (suc q)) (line (suc j)) (x (suc j))))
    where
      spread : (a b d w y : ℤ) → pos 1 *ℤ ((a *ℤ b +ℤ d *ℤ w) *ℤ y) ≡ a *ℤ (b *ℤ y) +ℤ d *ℤ (w *ℤ y)
      spread a b d w y = omega (arith, ints, times_comm (a *ℤ b +ℤ d *ℤ w) y, times_sum y (a *ℤ b) (d *ℤ w), times_comm y (a *ℤ b), times_comm y (d *ℤ w), times_assoc a b y, times_assoc d w y)

      summed : (a t g b y d w s r n : ℤ) → t *ℤ g ≡ b *ℤ y +ℤ s → r ≡ w *ℤ y → pos 1 *ℤ n ≡ a *ℤ s +ℤ d *ℤ r → (a *ℤ t) *ℤ g ≡ (a *ℤ b -ℤ d *ℤ w) *ℤ y +ℤ n
      summed a t g b y d w s r n e f h =
          omega (
            arith,
            ints,
            times_assoc a t g,
            ap (λ z. a *ℤ z) e,
            times_sum a (b *ℤ y) s,
            times_assoc a b y,
            ap (λ z. d *ℤ z) f,
            times_assoc d w y,
            h,
            times_comm (a *ℤ b -ℤ d *ℤ w) y,
            times_sub y (a *ℤ b) (d *ℤ w),
            times_comm y (a *ℤ b),
            times_comm y (d *ℤ w),
          )

  basic_new : p < length state.basis → (i : ℕ) → i < length state.system.rows → new (suc (basic_of (set state.basis p q) i)) ≡ pos 0
  unfolding new a c line
  basic_new here i h = step (same_or_not i p)
    where
      gone : (z d : ℤ) → neg_ℤ z *ℤ d +ℤ d *ℤ z ≡ pos 0
      gone z d = omega (arith, ints, sign_out z d, times_comm z d)

      none_of : (a b d w : ℤ) → b ≡ pos 0 → w ≡ pos 0 → a *ℤ b +ℤ d *ℤ w ≡ pos 0
      none_of a b d w e f = omega (arith, ints, ap (λ z. a *ℤ z) e, ap (λ z. d *ℤ z) f)

      at_q : new (suc q) ≡ pos 0
      at_q = gone (dual.entering.table p (suc q)) (feasible.costs (suc q))

      step : (i ≡ p) ⊎ (i ≡ p → ⊥) → new (suc (basic_of (set state.basis p q) i)) ≡ pos 0
      step (inl e) = ap (λ k. new (suc k)) (ap (basic_of (set state.basis p q)) e ∙ get_or-set_same state.basis p q 0 here) ∙ at_q
      step (inr n) =
          ap (λ k. new (suc k)) (get_or-set_other state.basis p i q 0 n)
          ∙ none_of a (c (suc (basic_of state.basis i))) (c (suc q)) (line (suc (basic_of state.basis i))) (feasible.are.basic i h) (dual.entering.whole.solved.alone p i dual.leaving.there h (λ e. n (sym e)))

  pub kept_by_pivot : IsDualFeasible (exchanged_state state p q)
  kept_by_pivot =
      elim (cases_lt p (length state.basis)) [
        | inl l ↦ record {
          rows = feasible.rows;
          goal = feasible.goal;
          times = a *ℤ feasible.times;
          costs = new;
          are = record { positive = positive_times a feasible.times a_positive feasible.are.positive; basic = basic_new l; equal = equal_new };
          none_below = none_below_new;
        }
        | inr g ↦ subst IsDualFeasible (λ i. record { system = state.system; goal = state.goal; basis = sym (set_past state.basis p q g) i }) feasible
      ]

-- none does after a run
pub kept_by_run : (start : State) (from : ℕ) (state : State) (count : ℕ) → IsDualFeasible start → IsRun start from state count → IsDualFeasible state
kept_by_run start from _ _ feasible none = feasible
kept_by_run start from _ _ feasible (more state count p q run dual small) = kept_by_pivot state p q (kept_by_run start from state count feasible run) dual
