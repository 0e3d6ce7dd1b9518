-- Whole numbers that meet rows as points, with the rows' own columns.
use Rattle.std.proofs.Common.{◌≡◌, ℕ, zero, suc, ◌-◌, ◌<◌, Bool, true, false, nat_lt, if◌then◌else◌, ℤ, pos, ◌+ℤ◌, ◌-ℤ◌, ◌*ℤ◌, ◌≤ℤ◌, ◌<ℤ◌, List, length, refl, sym, ap, subst, inl, inr, arith}
use Rattle.std.proofs.lemmas.Bool.{cases_lt, ltb-true, ltb-false}
use Rattle.std.proofs.lemmas.Int.{ints}
use Rattle.rt_rows.specs.Rows.{sum_of_terms}
use Rattle.rt_solved.specs.Systems.{System, columns_of, variables_of, column_of, own_column, row_at, IsSplit}
use Rattle.rt_tableau.specs.Starts.{HaveColumns}
use Rattle.rt_tableau.proofs.Sums.{sum_same}
use Rattle.rt_branch.specs.Values.{whole_at}
use Rattle.rt_branch.specs.Wholes.{IsWholePoint, MeetRows}

-- the numbers in the places of columns
abbrev pub numbers : List ℤ → ℕ → ℤ
numbers at zero = pos 0
numbers at (suc j) = whole_at at j

-- what the terms of a row have beyond its least value
abbrev pub beyond_least : System → List ℤ → ℕ → ℤ
beyond_least system at d = sum_of_terms (λ var. numbers at (suc (column_of system.strips var))) (row_at system d).terms -ℤ (row_at system d).least

-- the numbers, and in each row's own column what its terms have beyond its least value
pub whole_point : System → List ℤ → ℕ → ℤ
whole_point system at zero = pos 1
whole_point system at (suc j) = if nat_lt j (variables_of system) then whole_at at j else beyond_least system at (j - variables_of system)

pub first_is : (system : System) (at : List ℤ) → whole_point system at 0 ≡ pos 1
unfolding whole_point
first_is system at = refl

pub one_positive : (system : System) (at : List ℤ) → pos 0 <ℤ whole_point system at 0
unfolding whole_point
one_positive system at = omega (arith, ints)

pub variable_is : (system : System) (at : List ℤ) (j : ℕ) → j < variables_of system → whole_point system at (suc j) ≡ whole_at at j
unfolding whole_point
variable_is system at j h = by_test (nat_lt j (variables_of system)) refl
  where
    by_test : (b : Bool) → nat_lt j (variables_of system) ≡ b → (if b then whole_at at j else beyond_least system at (j - variables_of system)) ≡ whole_at at j
    by_test true e = refl
    by_test false e = let g = ltb-false j (variables_of system) e in absurd (omega (arith, g, h))

pub own_is : (system : System) (at : List ℤ) (d : ℕ) → whole_point system at (suc (own_column system d)) ≡ beyond_least system at d
unfolding whole_point
own_is system at d = by_test (nat_lt (own_column system d) (variables_of system)) refl
  where
    by_test : (b : Bool) → nat_lt (own_column system d) (variables_of system) ≡ b
        → (if b then whole_at at (own_column system d) else beyond_least system at (own_column system d - variables_of system)) ≡ beyond_least system at d
    by_test true e = let g = ltb-true (own_column system d) (variables_of system) e in absurd (omega (arith, g))
    by_test false e = ap (beyond_least system at) (omega arith)

-- it's a solution
pub split : (system : System) (at : List ℤ) → ((d : ℕ) → d < length system.rows → HaveColumns system.strips (row_at system d).terms) → (d : ℕ) → d < length system.rows → IsSplit system d (whole_point system at)
split system at named d h = record {
  equal = summed _ _ (row_at system d).least _ _ (own_is system at d) (first_is system at) (sum_same system.strips (whole_point system at) (numbers at) (row_at system d).terms (named d h) (λ j l. variable_is system at j l));
}
  where
    summed : (z s l w o : ℤ) → z ≡ s -ℤ l → o ≡ pos 1 → w ≡ s → z +ℤ l *ℤ o ≡ w
    summed z s l w o e g f = omega (arith, ints, e, f, ap (λ y. l *ℤ y) g)

-- whole numbers that meet the rows are a whole point of theirs
pub numbers_meet : (system : System) (at : List ℤ) → ((d : ℕ) → d < length system.rows → HaveColumns system.strips (row_at system d).terms) → MeetRows system at → IsWholePoint system (whole_point system at)
numbers_meet system at named meet = record {
  meets = record { solution = record { each = λ d h. split system at named d h }; positive = one_positive system at; columns = not_below };
  one = first_is system at;
}
  where
    left_over : (z s l : ℤ) → z ≡ s -ℤ l → l ≤ℤ s → pos 0 ≤ℤ z
    left_over z s l e h = omega (arith, ints, e, h)

    not_below : (j : ℕ) → j < columns_of system → pos 0 ≤ℤ whole_point system at (suc j)
    not_below j h =
        elim (cases_lt j (variables_of system)) [
          | inl l ↦ subst (λ z. pos 0 ≤ℤ z) (sym (variable_is system at j l)) (meet.none_below j l)
          | inr g ↦
              let same : own_column system (j - variables_of system) ≡ j = omega (arith, g) in
              subst (λ c. pos 0 ≤ℤ whole_point system at (suc c)) same (left_over _ _ _ (own_is system at (j - variables_of system)) (meet.rows (j - variables_of system) (omega (arith, g, h))).holds)
        ]

-- and the numbers of a whole point meet the rows
pub point_meets : (system : System) (at : List ℤ) (point : ℕ → ℤ) → ((d : ℕ) → d < length system.rows → HaveColumns system.strips (row_at system d).terms) → length at ≡ variables_of system → IsWholePoint system point
    → ((j : ℕ) → j < variables_of system → point (suc j) ≡ whole_at at j) → MeetRows system at
point_meets system at point named one_each whole same = record {
  one_each = one_each;
  none_below = λ j h. subst (λ z. pos 0 ≤ℤ z) (same j h) (whole.meets.columns j (omega (arith, h)));
  rows = λ d h. record {
    holds = at_most_sum _ (row_at system d).least _ _ _ (whole.meets.solution.each d h).equal whole.one (sum_same system.strips point (numbers at) (row_at system d).terms (named d h) same)
        (whole.meets.columns (own_column system d) (omega (arith, h)));
  };
}
  where
    at_most_sum : (x l o s w : ℤ) → x +ℤ l *ℤ o ≡ s → o ≡ pos 1 → s ≡ w → pos 0 ≤ℤ x → l ≤ℤ w
    at_most_sum x l o s w e f g h = omega (arith, ints, e, ap (λ y. l *ℤ y) f, g, h)
