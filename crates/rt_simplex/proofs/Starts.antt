-- No column costs less than 0 where rows begin.
use Rattle.std.proofs.Common.{◌≡◌, ℕ, zero, suc, ◌<◌, ◌≤◌, ◌⊎◌, ℤ, pos, ◌-ℤ◌, ◌*ℤ◌, ◌≤ℤ◌, List, [], ◌∷◌, length, get_or, Option, Some, None, inl, inr, ap, sym, ◌∙◌, arith}
use Rattle.std.proofs.lemmas.Int.{ints}
use Rattle.rt_rows.specs.declared.row.Term.{Term}
use Rattle.rt_rows.specs.declared.row.Row.{Row}
use Rattle.rt_solved.specs.Systems.{columns_of, variables_of, row_at, no_row}
use Rattle.rt_solved.proofs.Totals.{unit, unit_there, unit_elsewhere}
use Rattle.rt_solved.proofs.Proportional.{same_or_not}
use Rattle.rt_tableau.specs.States.{IsGoalFree}
use Rattle.rt_tableau.specs.Starts.{strips_of, strips_of_row, strips_of_term, system_of, start_of}
use Rattle.rt_tableau.proofs.StartLines.{column_below}
use Rattle.rt_tableau.proofs.Starting.{column_is, row_within}
use Rattle.rt_simplex.specs.Choices.{goal_of}
use Rattle.rt_tableau.specs.Starts.{HaveColumns}
use Rattle.rt_simplex.specs.Laws.{StartIsFeasible}
use Rattle.rt_simplex.proofs.GoalLines.{costs_of_line, costs_are, zeros_hold, free_basic}

have_columns : (strips : ℕ) (terms : List (Option Term)) → ((k : ℕ) → k < length terms → strips_of_term (get_or terms k None) ≤ strips) → HaveColumns strips terms
have_columns strips [] h = tt
have_columns strips (None ∷ terms) h = have_columns strips terms (λ k l. h (suc k) (omega (arith, l)))
have_columns strips (Some term ∷ terms) h = (record { below = let l = h 0 (omega arith) in omega (arith, l) }, have_columns strips terms (λ k l. h (suc k) (omega (arith, l))))

each_of_three : (row : Row) (strips : ℕ) → length row.terms ≡ 3 → strips_of_row row ≤ strips → (k : ℕ) → k < length row.terms → strips_of_term (get_or row.terms k None) ≤ strips
each_of_three row strips e h zero l = omega (arith, h)
each_of_three row strips e h (suc zero) l = omega (arith, h)
each_of_three row strips e h (suc (suc zero)) l = omega (arith, h)
each_of_three row strips e h (suc (suc (suc k))) l = absurd (omega (arith, e, l))

pub start_is_feasible_each : StartIsFeasible
start_is_feasible_each rows goal three has = record {
  rows = λ d h. have_columns (strips_of rows) (row_at (system_of rows) d).terms (each_of_three (row_at (system_of rows) d) (strips_of rows) (three d h) (row_within rows d no_row h));
  goal = has;
  times = pos 1;
  costs = costs_of_line (start_of rows goal) (pos 1) (λ s. pos 0) there (omega (arith, ints)) (λ x sol. zeros_hold (columns_of (system_of rows)) x) (free_basic (start_of rows goal) free);
  are = costs_are (start_of rows goal) (pos 1) (λ s. pos 0) there (omega (arith, ints)) (λ x sol. zeros_hold (columns_of (system_of rows)) x) (free_basic (start_of rows goal) free);
  none_below = λ j h. at_goal j (same_or_not (goal_of (start_of rows goal)) j);
}
  where
    before : goal_of (start_of rows goal) < variables_of (system_of rows)
    before = column_below (strips_of rows) goal has.below

    there : goal_of (start_of rows goal) < columns_of (system_of rows)
    there = let h = before in omega (arith, h)

    free : IsGoalFree (start_of rows goal)
    free = record { free = λ i h e. let b = before in let c = column_is (variables_of (system_of rows)) (length rows) i h in omega (arith, b, c, e) }

    at_goal : (j : ℕ) → (goal_of (start_of rows goal) ≡ j) ⊎ (goal_of (start_of rows goal) ≡ j → ⊥) → pos 0 ≤ℤ (pos 1 *ℤ unit (goal_of (start_of rows goal)) j -ℤ pos 0)
    at_goal j (inl e) = one (unit (goal_of (start_of rows goal)) j) (ap (unit (goal_of (start_of rows goal))) (sym e) ∙ unit_there (goal_of (start_of rows goal)))
      where
        one : (u : ℤ) → u ≡ pos 1 → pos 0 ≤ℤ (pos 1 *ℤ u -ℤ pos 0)
        one u e = omega (arith, ints, e)
    at_goal j (inr n) = none (unit (goal_of (start_of rows goal)) j) (unit_elsewhere (goal_of (start_of rows goal)) j n)
      where
        none : (u : ℤ) → u ≡ pos 0 → pos 0 ≤ℤ (pos 1 *ℤ u -ℤ pos 0)
        none u e = omega (arith, ints, e)
