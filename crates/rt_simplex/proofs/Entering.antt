-- The column that a pivot takes, as code finds it.
use Rattle.std.proofs.Common.{◌≡◌, ℕ, suc, ◌+◌, ◌<◌, ◌≤◌, ℤ, pos, ◌*ℤ◌, ◌≤ℤ◌, ◌<ℤ◌, length, Option, Some, None, ap, subst, subst₂, ◌∙◌, arith}
use Rattle.std.specs.Option.{MatchOption}
use Rattle.rt_solved.specs.Systems.{columns_of}
use Rattle.rt_solved.specs.Tables.{IsWhole}
use Rattle.rt_tableau.specs.States.{State, IsWholeEntry, IsNegative}
use Rattle.rt_tableau.proofs.NewLines.{column_at}
use Rattle.rt_simplex.specs.Choices.{IsLeaving, IsRay, IsEntering, IsDualPivot, goal_of, IsGoalAt, costs_by}
use Rattle.rt_simplex.specs.Among.{IsCostBy, IsColumnAmong}
use Rattle.rt_rows.specs.Known.{IsSmall}
use Rattle.rt_simplex.proofs.Chosen.{read_in, stored, small_stored}
use Rattle.rt_simplex.proofs.Columns.{column_passed, column_begun, column_kept, column_taken}

-- a column's whole entry is the number of any whole table
pub column_in : (state : State) (table : ℕ → ℕ → ℤ) (i j : ℕ) (entry : ℤ) → IsWhole state.system state.basis table → i < length state.system.rows → j < columns_of state.system → IsWholeEntry state i j entry
    → entry ≡ table i (suc j)
column_in state table i j entry whole h g is = read_in state table i j entry whole h (omega (arith, g)) is ∙ ap (table i) (column_at (columns_of state.system) j g)

pub entering : (state : State) (p q : ℕ) (row : Option ℕ) → IsGoalAt state row → IsColumnAmong state p row (columns_of state.system) (Some q) → IsEntering state p q
entering state p q row goal among = record { table = among.table; whole = among.whole; row = row; goal = goal; first = among.is }

pub ray : (state : State) (p : ℕ) (row : Option ℕ) → IsLeaving state p → IsColumnAmong state p row (columns_of state.system) None → IsRay state p
ray state p row leaving among = record {
  leaving = leaving;
  none = λ j h below. among.is j h (subst (λ z. z <ℤ pos 0) (column_in state among.table p j below.entry among.whole leaving.there h below.is) below.below);
}

module _ (state : State) (p : ℕ) (row : Option ℕ) (j : ℕ) (entry : ℤ) (here : p < length state.system.rows) (there : j < columns_of state.system) (is : IsWholeEntry state p j entry) where
  value : (table : ℕ → ℕ → ℤ) → IsWhole state.system state.basis table → entry ≡ table p (suc j)
  value table whole = column_in state table p j entry whole here there is

  pub passed : (found : Option ℕ) → pos 0 ≤ℤ entry → IsColumnAmong state p row j found → IsColumnAmong state p row (j + 1) found
  passed found h so = record {
    table = so.table;
    whole = so.whole;
    is = column_passed (so.table p) (costs_by (goal_of state) row so.table) j found (subst (λ z. pos 0 ≤ℤ z) (value so.table so.whole) h) so.is;
  }

  pub begun : entry <ℤ pos 0 → IsColumnAmong state p row j None → IsColumnAmong state p row (j + 1) (Some j)
  begun h so = record {
    table = so.table;
    whole = so.whole;
    is = column_begun (so.table p) (costs_by (goal_of state) row so.table) j (subst (λ z. z <ℤ pos 0) (value so.table so.whole) h) so.is;
  }

  pub kept : (q : ℕ) (cost other_cost other : ℤ) → IsWholeEntry state p q other → IsCostBy state row j cost → IsCostBy state row q other_cost → (cost *ℤ other) ≤ℤ (other_cost *ℤ entry)
      → IsColumnAmong state p row j (Some q) → IsColumnAmong state p row (j + 1) (Some q)
  kept q cost other_cost other at c d h so =
      let second = column_in state so.table p q other so.whole here (let t = so.is.there in omega (arith, t, there)) at in
      record {
        table = so.table;
        whole = so.whole;
        is = column_kept (so.table p) (costs_by (goal_of state) row so.table) j q so.is
            (subst₂ (λ a b. a ≤ℤ b) (λ i. c.each so.table so.whole i *ℤ second i) (λ i. d.each so.table so.whole i *ℤ value so.table so.whole i) h);
      }

  pub taken : (q : ℕ) (cost other_cost other : ℤ) → IsWholeEntry state p q other → IsCostBy state row j cost → IsCostBy state row q other_cost → entry <ℤ pos 0 → (other_cost *ℤ entry) <ℤ (cost *ℤ other)
      → IsColumnAmong state p row j (Some q) → IsColumnAmong state p row (j + 1) (Some j)
  taken q cost other_cost other at c d below h so =
      let second = column_in state so.table p q other so.whole here (let t = so.is.there in omega (arith, t, there)) at in
      record {
        table = so.table;
        whole = so.whole;
        is = column_taken (so.table p) (costs_by (goal_of state) row so.table) j q so.is (subst (λ z. z <ℤ pos 0) (value so.table so.whole) below)
            (subst₂ (λ a b. a <ℤ b) (λ i. d.each so.table so.whole i *ℤ value so.table so.whole i) (λ i. c.each so.table so.whole i *ℤ second i) h);
      }

-- a dual pivot's entry is below 0
pub negative : (state : State) (p q : ℕ) → IsDualPivot state p q → IsNegative state p q
negative state p q dual = record {
  row = dual.leaving.there;
  column = dual.entering.first.there;
  table = dual.entering.table;
  solved = dual.entering.whole.solved;
  negative = dual.entering.first.below;
}

-- the same as code reads it
module _ (state : State) (p : ℕ) (row : Option ℕ) (j : ℕ) (entry : ℤ) (here : p < length state.system.rows) (there : j < columns_of state.system) (is : IsWholeEntry state p j entry) (small : IsSmall entry) where
  pub passed_as_read : (found : Option ℕ) → pos 0 ≤ℤ stored entry → IsColumnAmong state p row j found → IsColumnAmong state p row (j + 1) found
  passed_as_read found h so = passed state p row j entry here there is found (subst (λ z. pos 0 ≤ℤ z) (small_stored entry small) h) so

  pub begun_as_read : stored entry <ℤ pos 0 → IsColumnAmong state p row j None → IsColumnAmong state p row (j + 1) (Some j)
  begun_as_read h so = begun state p row j entry here there is (subst (λ z. z <ℤ pos 0) (small_stored entry small) h) so

  pub kept_as_read : (q : ℕ) (cost other_cost other : ℤ) → IsWholeEntry state p q other → IsSmall other → IsCostBy state row j cost → IsSmall cost → IsCostBy state row q other_cost → IsSmall other_cost
      → (stored cost *ℤ stored other) ≤ℤ (stored other_cost *ℤ stored entry) → IsColumnAmong state p row j (Some q) → IsColumnAmong state p row (j + 1) (Some q)
  kept_as_read q cost other_cost other at so c sc d sd h among =
      kept state p row j entry here there is q cost other_cost other at c d
      (subst₂ (λ a b. a ≤ℤ b) (λ i. small_stored cost sc i *ℤ small_stored other so i) (λ i. small_stored other_cost sd i *ℤ small_stored entry small i) h) among

  pub taken_as_read : (q : ℕ) (cost other_cost other : ℤ) → IsWholeEntry state p q other → IsSmall other → IsCostBy state row j cost → IsSmall cost → IsCostBy state row q other_cost → IsSmall other_cost
      → stored entry <ℤ pos 0 → (stored other_cost *ℤ stored entry) <ℤ (stored cost *ℤ stored other) → IsColumnAmong state p row j (Some q) → IsColumnAmong state p row (j + 1) (Some j)
  taken_as_read q cost other_cost other at so c sc d sd below h among =
      taken state p row j entry here there is q cost other_cost other at c d (subst (λ z. z <ℤ pos 0) (small_stored entry small) below)
      (subst₂ (λ a b. a <ℤ b) (λ i. small_stored other_cost sd i *ℤ small_stored entry small i) (λ i. small_stored cost sc i *ℤ small_stored other so i) h) among

-- what the loop ends with
pub column_at_last : (state : State) (p : ℕ) (row found : Option ℕ) (j end : ℕ) → IsLeaving state p → IsGoalAt state row → IsColumnAmong state p row j found → end ≡ columns_of state.system → j ≤ end → end ≤ j
    → MatchOption found (IsRay state p) (IsEntering state p)
column_at_last state p row found j end leaving goal among e h g = last found (subst (λ n. IsColumnAmong state p row n found) (omega (arith, e, h, g)) among)
  where
    last : (found : Option ℕ) → IsColumnAmong state p row (columns_of state.system) found → MatchOption found (IsRay state p) (IsEntering state p)
    last None among = ray state p row leaving among
    last (Some q) among = entering state p q row goal among
