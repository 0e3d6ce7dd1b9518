-- A column's variable has that column, and the rows of a branch are those of a branch at a basic variable.
use Rattle.std.proofs.Common.{◌≡◌, ℕ, suc, ◌+◌, ◌*◌, ◌/◌, ◌%◌, ◌<◌, ◌≤◌, Bool, true, false, nat_lt, ◌==◌, if◌then◌else◌, ℤ, pos, negsuc, ◌+ℤ◌, ◌*ℤ◌, ◌≤ℤ◌, ◌<ℤ◌, refl, sym, ap, ◌∙◌, inl, inr, arith}
use Rattle.std.proofs.lemmas.Bool.{eqb-true, eqb-false, ltb-false}
use Rattle.std.proofs.lemmas.Int.{ints}
use Rattle.rt_rows.specs.declared.row.Var.TheVariants.{Axis}
use Rattle.rt_solved.specs.Systems.{column_of}
use Rattle.rt_solved.specs.Tables.{basic_of}
use Rattle.rt_tableau.specs.States.{State}
use Rattle.rt_branch.specs.Values.{IsBasicValue, IsValue}
use Rattle.rt_branch.specs.Branches.{is_upwards, low_side, high_side, extent_along, variable_of, variable_at}
use Rattle.rt_branch.specs.Laws.{RowsAreBranches}

low_column : (strips : ℕ) (upwards : Bool) (i : ℕ) → column_of strips (low_side upwards i) ≡ 2 * i
low_column strips true i = refl
low_column strips false i = refl

high_column : (strips : ℕ) (upwards : Bool) (i : ℕ) → column_of strips (high_side upwards i) ≡ 2 * i + 1
high_column strips true i = refl
high_column strips false i = refl

extent_column : (strips : ℕ) (upwards : Bool) → column_of strips (extent_along upwards) ≡ 2 * strips
extent_column strips true = refl
extent_column strips false = refl

even : (j : ℕ) → j % 2 ≡ 0 → 2 * (j / 2) ≡ j
even j e = omega (arith, e)

odd : (j : ℕ) → (j % 2 ≡ 0 → ⊥) → 2 * (j / 2) + 1 ≡ j
odd j n = omega (arith, n)

side_column : (strips : ℕ) (upwards : Bool) (j : ℕ) (b : Bool) → ((j % 2) == 0) ≡ b → column_of strips (if b then low_side upwards (j / 2) else high_side upwards (j / 2)) ≡ j
side_column strips upwards j true e = low_column strips upwards (j / 2) ∙ even j (eqb-true (j % 2) 0 e)
side_column strips upwards j false e = high_column strips upwards (j / 2) ∙ odd j (eqb-false (j % 2) 0 e)

last_column : (strips : ℕ) (upwards : Bool) (j : ℕ) (b : Bool) → (j == (2 * strips)) ≡ b → 2 * strips ≤ j → j < 2 * strips + 2 → column_of strips (if b then extent_along upwards else Axis) ≡ j
last_column strips upwards j true e h g = extent_column strips upwards ∙ sym (eqb-true j (2 * strips) e)
last_column strips upwards j false e h g = omega (arith, h, g, eqb-false j (2 * strips) e)

pub variable_column : (strips : ℕ) (upwards : Bool) (j : ℕ) → j < 2 * strips + 2 → column_of strips (variable_of strips upwards j) ≡ j
variable_column strips upwards j g = by_test (nat_lt j (2 * strips)) refl
  where
    by_test : (b : Bool) → nat_lt j (2 * strips) ≡ b
        → column_of strips (if b then (if (j % 2) == 0 then low_side upwards (j / 2) else high_side upwards (j / 2)) else (if j == (2 * strips) then extent_along upwards else Axis)) ≡ j
    by_test true e = side_column strips upwards j ((j % 2) == 0) refl
    by_test false e = last_column strips upwards j (j == (2 * strips)) refl (ltb-false j (2 * strips) e) g

-- a column that isn't whole is basic
pub broken_basic : (state : State) (j : ℕ) (n right over : ℤ) → IsValue state j right over → (n *ℤ over) <ℤ right → right <ℤ ((n +ℤ pos 1) *ℤ over) → IsBasicValue state j right over
broken_basic state j n right over (inl basic) from to = basic
broken_basic state j n right over (inr free) from to = absurd (clash n right over free.right_is free.over_is from to)
  where
    clash : (n r o : ℤ) → r ≡ pos 0 → o ≡ pos 1 → (n *ℤ o) <ℤ r → r <ℤ ((n +ℤ pos 1) *ℤ o) → ⊥
    clash n r o e f h g = omega (arith, ints, e, h, g, ap (λ z. n *ℤ z) f, ap (λ z. (n +ℤ pos 1) *ℤ z) f)

pub rows_are_branches_each : RowsAreBranches
rows_are_branches_each node j n first = (
  record {
    table = value.table;
    whole = value.whole;
    i = value.i;
    there = value.there;
    term = record { var = variable_at node j; times = negsuc 0 };
    only = refl;
    basic = basic;
    floor = n;
    from = from;
    to = to;
    side = inl (refl, refl);
  },
  record {
    table = value.table;
    whole = value.whole;
    i = value.i;
    there = value.there;
    term = record { var = variable_at node j; times = pos 1 };
    only = refl;
    basic = basic;
    floor = n;
    from = from;
    to = to;
    side = inr (refl, refl);
  },
)
  where
    value : IsBasicValue node j first.broken.right first.broken.over
    value = broken_basic node j n first.broken.right first.broken.over first.broken.value first.broken.from first.broken.to

    basic : basic_of node.basis value.i ≡ column_of node.system.strips (variable_at node j)
    basic = value.is ∙ sym (variable_column node.system.strips (is_upwards node.goal) j first.there)

    over_is : first.broken.over ≡ value.table value.i (suc (basic_of node.basis value.i))
    over_is = value.over_is ∙ ap (λ c. value.table value.i (suc c)) (sym value.is)

    under : (a b c d : ℤ) → a ≡ c → b ≡ d → a <ℤ b → c ≤ℤ d
    under a b c d e f h = omega (arith, ints, e, f, h)

    before : (a b c d : ℤ) → a ≡ c → b ≡ d → a <ℤ b → c <ℤ d
    before a b c d e f h = omega (arith, ints, e, f, h)

    from : (n *ℤ value.table value.i (suc (basic_of node.basis value.i))) ≤ℤ value.table value.i 0
    from = under _ _ _ _ (ap (λ z. n *ℤ z) over_is) value.right_is first.broken.from

    to : value.table value.i 0 <ℤ ((n +ℤ pos 1) *ℤ value.table value.i (suc (basic_of node.basis value.i)))
    to = before _ _ _ _ value.right_is (ap (λ z. (n +ℤ pos 1) *ℤ z) over_is) first.broken.to
