-- Where no column costs less than 0, none does with a row added.
use Rattle.std.proofs.Common.{◌≡◌, ℕ, suc, ◌<◌, ◌⊎◌, Bool, true, false, ◌==◌, if◌then◌else◌, ℤ, pos, ◌+ℤ◌, ◌*ℤ◌, ◌≤ℤ◌, [], ◌∷◌, ◌++◌, length, refl, sym, ap, subst, ◌∙◌, inl, inr, length-append, arith}
use Rattle.std.proofs.Math.Seq.{get_or-append_seam}
use Rattle.std.proofs.lemmas.Bool.{cases_lt, eqb-true, eq-eqb}
use Rattle.std.proofs.lemmas.Int.{ints}
use Rattle.std.proofs.lemmas.List.{get_or_append_left}
use Rattle.rt_rows.specs.declared.row.Row.{Row}
use Rattle.rt_rows.specs.Rows.{sum_of_terms}
use Rattle.rt_solved.specs.Lines.{total}
use Rattle.rt_solved.specs.Systems.{columns_of, column_of, own_column, row_at, no_row, IsSolution}
use Rattle.rt_solved.specs.Tables.{basic_of}
use Rattle.rt_solved.proofs.Totals.{total_same}
use Rattle.rt_solved.proofs.Proportional.{same_or_not}
use Rattle.rt_tableau.specs.States.{State}
use Rattle.rt_tableau.specs.Added.{added_state}
use Rattle.rt_simplex.specs.Choices.{goal_of}
use Rattle.rt_tableau.specs.Starts.{HaveColumns}
use Rattle.rt_simplex.specs.Feasible.{IsDualFeasible}
use Rattle.rt_simplex.specs.Laws.{AddedRowsKeepFeasible}

-- the costs with the added row's own column, which costs nothing
added_costs : ℕ → (ℕ → ℤ) → ℕ → ℤ
added_costs own costs s = if s == suc own then pos 0 else costs s

own_free : (own : ℕ) (costs : ℕ → ℤ) → added_costs own costs (suc own) ≡ pos 0
unfolding added_costs
own_free own costs = rw (eq-eqb (suc own) (suc own) refl) refl

others_kept : (own : ℕ) (costs : ℕ → ℤ) (s : ℕ) → (s ≡ suc own → ⊥) → added_costs own costs s ≡ costs s
unfolding added_costs
others_kept own costs s n = by_test (s == suc own) refl
  where
    by_test : (b : Bool) → (s == suc own) ≡ b → (if b then pos 0 else costs s) ≡ costs s
    by_test true e = absurd (n (eqb-true s (suc own) e))
    by_test false e = refl

module _ (state : State) (row : Row) (one_each : length state.basis ≡ length state.system.rows) (named : HaveColumns state.system.strips row.terms) (feasible : IsDualFeasible state) where
  m : ℕ
  m = columns_of state.system

  c : ℕ → ℤ
  c = added_costs (columns_of state.system) feasible.costs

  one_more : length (state.system.rows ++ row ∷ []) ≡ suc (length state.system.rows)
  one_more = let e = length-append state.system.rows (row ∷ []) in omega (arith, e)

  columns_more : columns_of (added_state state row).system ≡ suc (columns_of state.system)
  columns_more = let e = one_more in omega (arith, e)

  row_before : (d : ℕ) → d < length state.system.rows → row_at (added_state state row).system d ≡ row_at state.system d
  row_before d h = get_or_append_left state.system.rows (row ∷ []) no_row d h

  row_last : (d : ℕ) → d ≡ length state.system.rows → row_at (added_state state row).system d ≡ row
  row_last d e = ap (row_at (added_state state row).system) e ∙ get_or-append_seam state.system.rows row [] no_row

  -- a solution of all rows is one of those before
  solution_before : (x : ℕ → ℤ) → IsSolution (added_state state row).system x → IsSolution state.system x
  solution_before x sol = record {
    each = λ d h. record {
      equal = subst
          (λ (r : Row). x (suc (own_column state.system d)) +ℤ r.least *ℤ x 0 ≡ sum_of_terms (λ var. x (suc (column_of state.system.strips var))) r.terms)
          (row_before d h) (sol.each d (let e = one_more in omega (arith, e, h))).equal;
    };
  }

  columns_new : (d : ℕ) → d < length (state.system.rows ++ row ∷ []) → HaveColumns state.system.strips (row_at (added_state state row).system d).terms
  columns_new d h =
      elim (cases_lt d (length state.system.rows)) [
        | inl l ↦ subst (λ (r : Row). HaveColumns state.system.strips r.terms) (sym (row_before d l)) (feasible.rows d l)
        | inr g ↦
            let e = one_more in
            subst (λ (r : Row). HaveColumns state.system.strips r.terms) (sym (row_last d (omega (arith, e, h, g)))) named
      ]

  basic_new : (i : ℕ) → i < length (state.system.rows ++ row ∷ []) → c (suc (basic_of (state.basis ++ columns_of state.system ∷ []) i)) ≡ pos 0
  unfolding c
  basic_new i h =
      elim (cases_lt i (length state.system.rows)) [
        | inl l ↦
            ap (λ b. c (suc b)) (get_or_append_left state.basis (columns_of state.system ∷ []) 0 i (omega (arith, l, one_each))) ∙ at (basic_of state.basis i) (feasible.are.basic i l) (same_or_not (basic_of state.basis i) (columns_of state.system))
        | inr g ↦
            let e = one_more in
            let last : i ≡ length state.basis = omega (arith, e, h, g, one_each) in
            ap (λ b. c (suc b)) (ap (basic_of (state.basis ++ columns_of state.system ∷ [])) last ∙ get_or-append_seam state.basis (columns_of state.system) [] 0) ∙ own_free (columns_of state.system) feasible.costs
      ]
    where
      at : (b : ℕ) → feasible.costs (suc b) ≡ pos 0 → (b ≡ columns_of state.system) ⊎ (b ≡ columns_of state.system → ⊥) → c (suc b) ≡ pos 0
      at b e (inl f) = ap (λ k. c (suc k)) f ∙ own_free (columns_of state.system) feasible.costs
      at b e (inr n) = others_kept (columns_of state.system) feasible.costs (suc b) (λ f. n (omega (arith, f))) ∙ e

  equal_new : (x : ℕ → ℤ) → IsSolution (added_state state row).system x
      → feasible.times *ℤ x (suc (goal_of state)) ≡ c 0 *ℤ x 0 +ℤ total (columns_of (added_state state row).system) (λ j. c (suc j) *ℤ x (suc j))
  unfolding c
  equal_new x sol =
      subst (λ n. feasible.times *ℤ x (suc (goal_of state)) ≡ c 0 *ℤ x 0 +ℤ total n (λ j. c (suc j) *ℤ x (suc j))) (sym columns_more)
      (with_last _ _ _ _ _ _ (feasible.are.equal x (solution_before x sol)) (ap (λ z. z *ℤ x 0) (others_kept (columns_of state.system) feasible.costs 0 (λ e. omega (arith, e))))
      (total_same (columns_of state.system) (λ j. c (suc j) *ℤ x (suc j)) (λ j. feasible.costs (suc j) *ℤ x (suc j))
      (λ j h. ap (λ z. z *ℤ x (suc j)) (others_kept (columns_of state.system) feasible.costs (suc j) (λ e. omega (arith, e, h)))))
      (none _ (x (suc (columns_of state.system))) (own_free (columns_of state.system) feasible.costs)))
    where
      with_last : (g r s r' s' l : ℤ) → g ≡ r +ℤ s → r' ≡ r → s' ≡ s → l ≡ pos 0 → g ≡ r' +ℤ (s' +ℤ l)
      with_last g r s r' s' l e f h k = omega (arith, ints, e, f, h, k)

      none : (a b : ℤ) → a ≡ pos 0 → a *ℤ b ≡ pos 0
      none a b e = let gone : pos 0 *ℤ b ≡ pos 0 = omega (arith, ints) in ap (λ z. z *ℤ b) e ∙ gone

  none_below_new : (j : ℕ) → j < columns_of (added_state state row).system → pos 0 ≤ℤ c (suc j)
  unfolding c
  none_below_new j h = at (same_or_not j (columns_of state.system))
    where
      not_below : (z : ℤ) → z ≡ pos 0 → pos 0 ≤ℤ z
      not_below z e = omega (arith, ints, e)

      at : (j ≡ columns_of state.system) ⊎ (j ≡ columns_of state.system → ⊥) → pos 0 ≤ℤ c (suc j)
      at (inl e) = not_below _ (ap (λ k. c (suc k)) e ∙ own_free (columns_of state.system) feasible.costs)
      at (inr n) =
          let e = columns_more in
          subst (λ z. pos 0 ≤ℤ z) (sym (others_kept (columns_of state.system) feasible.costs (suc j) (λ f. n (omega (arith, f))))) (feasible.none_below j (omega (arith, e, h, n)))

  pub kept_by_row : IsDualFeasible (added_state state row)
  kept_by_row = record {
    rows = columns_new;
    goal = feasible.goal;
    times = feasible.times;
    costs = c;
    are = record { positive = feasible.are.positive; basic = basic_new; equal = equal_new };
    none_below = none_below_new;
  }

pub added_rows_keep_feasible_each : AddedRowsKeepFeasible
added_rows_keep_feasible_each state row one_each fit feasible = kept_by_row state row one_each (subst (HaveColumns state.system.strips) (sym fit.only) (fit.column, tt)) feasible
