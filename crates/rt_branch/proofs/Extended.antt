-- A point that meets the rows and one more of them, with the added row's own column.
use Rattle.std.proofs.Common.{◌≡◌, ℕ, suc, ◌<◌, ◌≤◌, ◌⊎◌, ℤ, pos, ◌+ℤ◌, ◌-ℤ◌, ◌*ℤ◌, ◌≤ℤ◌, ◌<ℤ◌, [], ◌∷◌, ◌++◌, length, Some, None, sym, ap, subst, ◌∙◌, inl, inr, length-append, arith}
use Rattle.std.proofs.Math.Seq.{get_or-append_seam}
use Rattle.std.proofs.lemmas.Bool.{cases_lt}
use Rattle.std.proofs.lemmas.Int.{ints}
use Rattle.std.proofs.lemmas.List.{get_or_append_left}
use Rattle.rt_rows.specs.declared.row.Term.{Term}
use Rattle.rt_rows.specs.declared.row.Row.{Row}
use Rattle.rt_rows.specs.Rows.{sum_of_terms}
use Rattle.rt_solved.specs.Systems.{columns_of, column_of, own_column, row_at, no_row, IsSplit}
use Rattle.rt_solved.proofs.Proportional.{same_or_not}
use Rattle.rt_tableau.specs.States.{State}
use Rattle.rt_tableau.specs.Starts.{HasColumn}
use Rattle.rt_tableau.specs.Added.{added_state}
use Rattle.rt_tableau.proofs.StartLines.{column_below}
use Rattle.rt_simplex.specs.Feasible.{IsDualFeasible}
use Rattle.rt_simplex.specs.Points.{IsPoint}
use Rattle.rt_tableau.proofs.Sums.{with_own, own_there, others_there, sum_same}

module _ (node : State) (row : Row) (term : Term) (only : row.terms ≡ Some term ∷ None ∷ None ∷ []) (there : HasColumn node.system.strips term.var) (feasible : IsDualFeasible node) (y : ℕ → ℤ)
    (meets : IsPoint node.system y) (one : y 0 ≡ pos 1) (enough : row.least ≤ℤ (term.times *ℤ y (suc (column_of node.system.strips term.var)))) where
  a : ℤ
  a = term.times *ℤ y (suc (column_of node.system.strips term.var)) -ℤ row.least

  pub extended : ℕ → ℤ
  extended = with_own (suc (columns_of node.system)) y (term.times *ℤ y (suc (column_of node.system.strips term.var)) -ℤ row.least)

  pub same_there : (s : ℕ) → s ≤ columns_of node.system → extended s ≡ y s
  unfolding extended
  same_there s h = others_there (suc (columns_of node.system)) y (term.times *ℤ y (suc (column_of node.system.strips term.var)) -ℤ row.least) s (λ e. omega (arith, e, h))

  last : extended (suc (columns_of node.system)) ≡ term.times *ℤ y (suc (column_of node.system.strips term.var)) -ℤ row.least
  unfolding extended
  last = own_there (suc (columns_of node.system)) y (term.times *ℤ y (suc (column_of node.system.strips term.var)) -ℤ row.least)

  split_before : (d : ℕ) → d < length node.system.rows → IsSplit (added_state node row).system d extended
  split_before d h = record {
    equal = subst
        (λ (r : Row). extended (suc (own_column node.system d)) +ℤ r.least *ℤ extended 0 ≡ sum_of_terms (λ var. extended (suc (column_of node.system.strips var))) r.terms)
        (sym (get_or_append_left node.system.rows (row ∷ []) no_row d h))
        ((λ i. same_there (suc (own_column node.system d)) (omega (arith, h)) i +ℤ (row_at node.system d).least *ℤ same_there 0 (omega arith) i) ∙ (meets.solution.each d h).equal
        ∙ sym (sum_same node.system.strips extended y (row_at node.system d).terms (feasible.rows d h) (λ j l. same_there (suc j) (omega (arith, l)))));
  }

  split_last : IsSplit (added_state node row).system (length node.system.rows) extended
  split_last = record {
    equal = subst
        (λ (r : Row). extended (suc (columns_of node.system)) +ℤ r.least *ℤ extended 0 ≡ sum_of_terms (λ var. extended (suc (column_of node.system.strips var))) r.terms)
        (sym (get_or-append_seam node.system.rows row [] no_row))
        (subst (λ terms. extended (suc (columns_of node.system)) +ℤ row.least *ℤ extended 0 ≡ sum_of_terms (λ var. extended (suc (column_of node.system.strips var))) terms) (sym only)
        (told _ _ row.least _ term.times _ last (same_there 0 (omega arith) ∙ one)
        (same_there (suc (column_of node.system.strips term.var)) (let h = column_below node.system.strips term.var there.below in omega (arith, h)))));
  }
    where
      told : (z c l o t v : ℤ) → z ≡ t *ℤ c -ℤ l → o ≡ pos 1 → v ≡ c → z +ℤ l *ℤ o ≡ t *ℤ v +ℤ (pos 0 +ℤ (pos 0 +ℤ pos 0))
      told z c l o t v e f g = omega (arith, ints, e, ap (λ w. l *ℤ w) f, ap (λ w. t *ℤ w) g)

  count : length (node.system.rows ++ row ∷ []) ≡ suc (length node.system.rows)
  count = let e = length-append node.system.rows (row ∷ []) in omega (arith, e)

  split : (d : ℕ) → d < length (node.system.rows ++ row ∷ []) → IsSplit (added_state node row).system d extended
  split d h =
      elim (cases_lt d (length node.system.rows)) [
        | inl l ↦ split_before d l
        | inr g ↦
            let e = count in
            let at : d ≡ length node.system.rows = omega (arith, e, g, h) in
            subst (λ k. IsSplit (added_state node row).system k extended) (sym at) split_last
      ]

  not_below : (j : ℕ) → j < columns_of (added_state node row).system → pos 0 ≤ℤ extended (suc j)
  not_below j h = by_place (same_or_not j (columns_of node.system))
    where
      own_not_below : (z t l : ℤ) → z ≡ t -ℤ l → l ≤ℤ t → pos 0 ≤ℤ z
      own_not_below z t l e k = omega (arith, ints, e, k)

      by_place : (j ≡ columns_of node.system) ⊎ (j ≡ columns_of node.system → ⊥) → pos 0 ≤ℤ extended (suc j)
      by_place (inl e) = subst (λ k. pos 0 ≤ℤ extended (suc k)) (sym e) (own_not_below _ _ _ last enough)
      by_place (inr n) =
          let c = count in
          let before : j < columns_of node.system = omega (arith, c, h, n) in subst (λ w. pos 0 ≤ℤ w) (sym (same_there (suc j) (omega (arith, before)))) (meets.columns j before)

  pub extended_meets : IsPoint (added_state node row).system extended
  extended_meets = record { solution = record { each = split }; positive = subst (λ w. pos 0 <ℤ w) (sym (same_there 0 (omega arith))) meets.positive; columns = not_below }
