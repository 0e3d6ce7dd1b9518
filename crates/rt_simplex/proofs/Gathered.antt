-- Combinations and values as code gathers them.
use Rattle.std.proofs.Common.{◌≡◌, ℕ, suc, ◌+◌, ◌-◌, ◌<◌, ◌≤◌, ℤ, pos, ◌≤ℤ◌, ◌<ℤ◌, List, ◌++◌, length, take, replicate, Option, Some, sym, ap, subst, ◌∙◌, arith}
use Rattle.std.specs.Option.{MatchOption}
use Rattle.std.proofs.Math.Seq.{take-append_seam}
use Rattle.std.proofs.lemmas.List.{get_or-replicate, length-replicate}
use Rattle.rt_rows.specs.declared.proof.Share.{Share}
use Rattle.rt_rows.specs.Known.{IsSmall}
use Rattle.rt_frac.specs.declared.frac.Frac.{Frac}
use Rattle.rt_solved.specs.Systems.{columns_of, variables_of, own_column}
use Rattle.rt_solved.specs.Tables.{IsWhole, basic_of}
use Rattle.rt_tableau.specs.States.{State, IsWholeEntry, IsGoalRow, IsGoalFree}
use Rattle.rt_simplex.specs.Choices.{goal_of, costs_by, IsGoalAt, IsRay}
use Rattle.rt_simplex.specs.Among.{IsCostBy}
use Rattle.rt_simplex.specs.Points.{value_at}
use Rattle.rt_simplex.specs.Feasible.{IsDualFeasible}
use Rattle.rt_simplex.specs.Shares.{with_share, times_by, AreTimesBy, HasTable, AreTaken, AreTakenByCosts, AreTakenByRow, AreFilled}
use Rattle.rt_simplex.proofs.Chosen.{stored, small_stored}
use Rattle.rt_simplex.proofs.Entering.{column_in}
use Rattle.rt_simplex.proofs.TakenRows.{taken_further}
use Rattle.rt_simplex.proofs.Shown.{cost_not_below, ray_entry}

-- the column of a row as code counts it
own_at : (v r columns rows d : ℕ) → columns ≡ v + r → rows ≡ r → (columns - rows) + d ≡ v + d
own_at v r columns rows d e f = omega (arith, e, f)

-- a row more by its cost
pub cost_taken : (state : State) (row : Option ℕ) (columns rows end d : ℕ) (times : ℤ) (shares next : List Share) → IsDualFeasible state → IsGoalAt state row → columns ≡ columns_of state.system → rows ≡ length state.system.rows
    → end ≡ length state.system.rows → d < end → IsCostBy state row ((columns - rows) + d) times → IsSmall times → AreTakenByCosts state row d shares → next ≡ with_share shares d (stored times)
    → AreTakenByCosts state row (d + 1) next
cost_taken state row columns rows end d times shares next feasible goal ce re ee h is small so e = record { each = each }
  where
    at : (columns - rows) + d ≡ own_column state.system d
    at = own_at (variables_of state.system) (length state.system.rows) columns rows d ce re

    here : d < length state.system.rows
    here = omega (arith, h, ee)

    each : (table : ℕ → ℕ → ℤ) → IsWhole state.system state.basis table → AreTaken state.system (costs_by (goal_of state) row table) (d + 1) next
    each table whole =
        let cost = subst (λ j. IsCostBy state row j times) at is in
        let same = sym (cost.each table whole) in
        subst (AreTaken state.system (costs_by (goal_of state) row table) (d + 1)) (sym (e ∙ ap (with_share shares d) (small_stored times small)))
        (taken_further state.system (costs_by (goal_of state) row table) d here shares times same (subst (λ z. pos 0 ≤ℤ z) same (cost_not_below state row table whole feasible goal (own_column state.system d) (omega (arith, here)))) (so.each table whole))

-- a row more by the entry of a ray
pub entry_taken : (state : State) (p columns rows end d : ℕ) (times : ℤ) (shares next : List Share) → IsRay state p → columns ≡ columns_of state.system → rows ≡ length state.system.rows → end ≡ length state.system.rows → d < end
    → IsWholeEntry state p ((columns - rows) + d) times → IsSmall times → AreTakenByRow state p d shares → next ≡ with_share shares d (stored times) → AreTakenByRow state p (d + 1) next
entry_taken state p columns rows end d times shares next ray ce re ee h is small so e = record { each = each }
  where
    at : (columns - rows) + d ≡ own_column state.system d
    at = own_at (variables_of state.system) (length state.system.rows) columns rows d ce re

    here : d < length state.system.rows
    here = omega (arith, h, ee)

    below : own_column state.system d < columns_of state.system
    below = omega (arith, here)

    each : (table : ℕ → ℕ → ℤ) → IsWhole state.system state.basis table → AreTaken state.system (table p) (d + 1) next
    each table whole =
        let same = sym (column_in state table p (own_column state.system d) times whole ray.leaving.there below (subst (λ j. IsWholeEntry state p j times) at is)) in
        subst (AreTaken state.system (table p) (d + 1)) (sym (e ∙ ap (with_share shares d) (small_stored times small)))
        (taken_further state.system (table p) d here shares times same (subst (λ z. pos 0 ≤ℤ z) same (ray_entry state p table whole ray (own_column state.system d) below)) (so.each table whole))

-- at the last row
pub costs_at_last : (state : State) (row : Option ℕ) (shares : List Share) (d end : ℕ) → AreTakenByCosts state row d shares → end ≡ length state.system.rows → d ≤ end → end ≤ d → AreTakenByCosts state row (length state.system.rows) shares
costs_at_last state row shares d end so e h g = subst (λ n. AreTakenByCosts state row n shares) (omega (arith, e, h, g)) so

pub entries_at_last : (state : State) (p : ℕ) (shares : List Share) (d end : ℕ) → AreTakenByRow state p d shares → end ≡ length state.system.rows → d ≤ end → end ≤ d → AreTakenByRow state p (length state.system.rows) shares
entries_at_last state p shares d end so e h g = subst (λ n. AreTakenByRow state p n shares) (omega (arith, e, h, g)) so

pub values_at_last : (state : State) (at : List Frac) (i end : ℕ) → AreFilled state i at → end ≡ length state.system.rows → i ≤ end → end ≤ i → AreFilled state (length state.system.rows) at
values_at_last state at i end so e h g = subst (λ n. AreFilled state n at) (omega (arith, e, h, g)) so

-- a slice that is written back whole
pub written : (new old rest : List Frac) (n : ℕ) → length new ≡ length old → n ≡ length old → take n (new ++ rest) ≡ new
written new old rest n e f = ap (λ k. take k (new ++ rest)) (f ∙ sym e) ∙ take-append_seam new rest

-- values that are all 0
pub none_filled : (state : State) (at : List Frac) (columns rows : ℕ) → columns ≡ columns_of state.system → rows ≡ length state.system.rows → at ≡ replicate (columns - rows) (record { num = pos 0; den = pos 1 }) → AreFilled state 0 at
none_filled state at columns rows ce re e = record {
  one_each = ap length e ∙ length-replicate (columns - rows) (record { num = pos 0; den = pos 1 }) ∙ count;
  there = λ i h. absurd (omega (arith, h));
  rest = λ j h none. ap (λ xs. value_at xs j) e ∙ get_or-replicate (columns - rows) j (record { num = pos 0; den = pos 1 }) (record { num = pos 0; den = pos 1 }) (omega (arith, h, count));
}
  where
    count : columns - rows ≡ variables_of state.system
    count = counted (variables_of state.system) (length state.system.rows) columns rows ce re
      where
        counted : (v r c n : ℕ) → c ≡ v + r → n ≡ r → c - n ≡ v
        counted v r c n e f = omega (arith, e, f)

-- how many times the goal is taken by its row
pub times_told : (state : State) (row : Option ℕ) (i goal : ℕ) (r : ℤ) → row ≡ Some i → IsGoalAt state row → goal ≡ goal_of state → goal < columns_of state.system → IsWholeEntry state i goal r → IsSmall r
    → AreTimesBy state row (stored r)
times_told state row i goal r e at g h is small = record { each = each }
  where
    of_row : IsGoalRow state i
    of_row = subst (λ o. MatchOption o (IsGoalFree state) (IsGoalRow state)) e at

    each : (table : ℕ → ℕ → ℤ) → IsWhole state.system state.basis table → stored r ≡ times_by (goal_of state) row table
    each table whole =
        small_stored r small ∙ column_in state table i goal r whole of_row.there h is ∙ ap (λ n. table i (suc n)) g ∙ ap (λ o. times_by (goal_of state) o table) (sym e)

-- no rows have a table
pub no_table : (state : State) (rows : ℕ) → rows ≡ length state.system.rows → rows ≤ 0 → HasTable state
no_table state rows e h = record {
  table = λ i s. pos 0;
  whole = record {
    solved = record {
      there = λ i l. absurd (none i l);
      positive = λ i l. absurd (none i l);
      alone = λ i k l. absurd (none i l);
      holds = λ x sol i l. absurd (none i l);
      enough = λ x all. record { each = λ d l. absurd (none d l) };
    };
    reduced = λ i l. absurd (none i l);
  };
}
  where
    none : (i : ℕ) → i < length state.system.rows → ⊥
    none i l = omega (arith, l, e, h)

-- a row's denominator is above 0
pub over_positive : (state : State) (p b : ℕ) (r : ℤ) → p < length state.system.rows → b ≡ basic_of state.basis p → IsWholeEntry state p b r → pos 0 <ℤ r
over_positive state p b r h e is =
    subst (λ z. pos 0 <ℤ z) (sym (column_in state is.table p (basic_of state.basis p) r is.whole h (is.whole.solved.there p h) (subst (λ j. IsWholeEntry state p j r) e is))) (is.whole.solved.positive p h)
