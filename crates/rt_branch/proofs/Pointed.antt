-- The point of a basis as code finds it.
use Rattle.std.proofs.Common.{◌≡◌, ℕ, ◌+◌, ◌^◌, ◌<◌, ◌≤◌, ℤ, pos, negsuc, neg_ℤ, ◌+ℤ◌, ◌*ℤ◌, ◌≤ℤ◌, ◌<ℤ◌, List, [], ◌∷◌, ◌++◌, length, get_or, take, replicate, Option, Some, None, refl, sym, ap, subst, ◌∙◌, inl, inr, length-append, arith}
use Rattle.std.proofs.Math.Seq.{get_or-append_seam, take-append_seam}
use Rattle.std.proofs.lemmas.Bool.{cases_lt}
use Rattle.std.proofs.lemmas.Int.{ints}
use Rattle.std.proofs.lemmas.List.{get_or-replicate, get_or_append_left, length-replicate}
use Rattle.rt_rows.specs.Known.{IsSmall}
use Rattle.rt_cells.proofs.Times.{times_le}
use Rattle.rt_solved.specs.Systems.{columns_of, variables_of}
use Rattle.rt_solved.specs.Tables.{basic_of}
use Rattle.rt_solved.proofs.Factors.{one_table_each}
use Rattle.rt_solved.proofs.Totals.{sign_out}
use Rattle.rt_tableau.specs.States.{State, IsWholeEntry, IsSmallTable}
use Rattle.rt_tableau.proofs.NewLines.{right_at}
use Rattle.rt_simplex.specs.Choices.{IsOptimum}
use Rattle.rt_simplex.proofs.Entering.{column_in}
use Rattle.rt_branch.specs.declared.parts.Value.{Value}
use Rattle.rt_branch.specs.declared.parts.Value.TheVariants as value
use Rattle.rt_branch.specs.Values.{IsValue, IsBasicValue, IsWholeValue, IsBrokenValue, IsFirstBroken, AreWhole, whole_at}
use Rattle.rt_branch.proofs.OneValue.{over_positive, less_by}
use Rattle.rt_branch.proofs.Variables.{broken_basic}
use Rattle.rt_branch.proofs.Addable.{below_bound, above_bound}
use Rattle.rt_branch.specs.Ends.{IsQuotient, IsRowAmong, IsRowOf, HasRows, IsValueOf}

-- no row is seen
pub none_seen : (state : State) (rows : List (Option ℕ)) (variables : ℕ) → variables ≡ variables_of state.system → rows ≡ replicate variables None → HasRows state 0 rows
none_seen state rows variables ve e = record {
  one_each = ap length e ∙ length-replicate variables None ∙ ve;
  each = λ j h. subst (IsRowAmong state 0 j) (sym (ap (λ xs. get_or xs j None) e ∙ get_or-replicate variables j None None (omega (arith, h, ve)))) (λ i l. absurd (omega (arith, l)));
}

pub all_seen : (state : State) (rows : List (Option ℕ)) (i end : ℕ) → HasRows state i rows → end ≡ length state.system.rows → i ≤ end → end ≤ i → HasRows state (length state.system.rows) rows
all_seen state rows i end so e h g = subst (λ n. HasRows state n rows) (omega (arith, e, h, g)) so

-- a slice that is written back whole
pub written : (new old rest : List (Option ℕ)) (n : ℕ) → length new ≡ length old → n ≡ length old → take n (new ++ rest) ≡ new
written new old rest n e f = ap (λ k. take k (new ++ rest)) (f ∙ sym e) ∙ take-append_seam new rest

-- what a basic column is worth, by the entries that are read
pub basic_read : (state : State) (i j : ℕ) (right over : ℤ) → i < length state.system.rows → basic_of state.basis i ≡ j → j < columns_of state.system → IsWholeEntry state i (columns_of state.system) right → IsWholeEntry state i j over
    → IsBasicValue state j right over
basic_read state i j right over there is below first second = record {
  i = i;
  there = there;
  is = is;
  table = first.table;
  whole = first.whole;
  right_is = first.is ∙ ap (first.table i) (right_at (columns_of state.system));
  over_is = column_in state first.table i j over first.whole there below second;
}

-- at an optimum it isn't below 0
pub right_not_below : (state : State) (i : ℕ) (right : ℤ) → IsOptimum state → i < length state.system.rows → IsWholeEntry state i (columns_of state.system) right → pos 0 ≤ℤ right
right_not_below state i (pos n) optimum there is = omega (arith, ints)
right_not_below state i (negsuc n) optimum there is = absurd (optimum.none i there (record { entry = negsuc n; is = is; below = omega (arith, ints) }))

pub basic_value_of : (state : State) (j : ℕ) (right over : ℤ) (found : Value) → IsBasicValue state j right over → IsQuotient right over found → IsValueOf state j found
basic_value_of state j right over (value.Whole n) is e = record { right = right; over = over; value = inl is; equal = e }
basic_value_of state j right over (value.Broken n) is (low, from, to) = (low, record { right = right; over = over; value = inl is; from = from; to = to })

pub free_value_of : (state : State) (j : ℕ) → IsRowOf state j None → IsWholeValue state j (pos 0)
free_value_of state j off = record { right = pos 0; over = pos 1; value = inr (record { off = off; right_is = refl; over_is = refl }); equal = omega (arith, ints) }

pub row_read : (state : State) (j i : ℕ) (row : Option ℕ) → row ≡ Some i → IsRowOf state j row → (i < length state.system.rows) × (basic_of state.basis i ≡ j)
row_read state j i row e is = subst (IsRowOf state j) e is

pub free_read : (state : State) (j : ℕ) (row : Option ℕ) → row ≡ None → IsRowOf state j row → IsRowOf state j None
free_read state j row e is = subst (IsRowOf state j) e is

-- so many whole values
pub record AreWholeSoFar (state : State) (count : ℕ) (at : List ℤ) : Type 0 where
  pub one_each : length at ≡ count
  pub each : (j : ℕ) → j < count → IsWholeValue state j (whole_at at j)

pub whole_further : (state : State) (j : ℕ) (at next : List ℤ) (n : ℤ) → AreWholeSoFar state j at → next ≡ at ++ n ∷ [] → IsWholeValue state j n → AreWholeSoFar state (j + 1) next
whole_further state j at next n so e is =
    subst (AreWholeSoFar state (j + 1)) (sym e) (record { one_each = length-append at (n ∷ []) ∙ ap (λ k. k + 1) so.one_each; each = each })
  where
    each : (k : ℕ) → k < j + 1 → IsWholeValue state k (whole_at (at ++ n ∷ []) k)
    each k h =
        elim (cases_lt k j) [
          | inl l ↦ subst (IsWholeValue state k) (sym (get_or_append_left at (n ∷ []) (pos 0) k (omega (arith, l, so.one_each)))) (so.each k l)
          | inr g ↦ at_last (omega (arith, g, h))
        ]
      where
        at_last : k ≡ j → IsWholeValue state k (whole_at (at ++ n ∷ []) k)
        at_last f =
            subst (λ t. IsWholeValue state t (whole_at (at ++ n ∷ []) t)) (sym f)
            (subst (IsWholeValue state j) (sym (ap (whole_at (at ++ n ∷ [])) (sym so.one_each) ∙ get_or-append_seam at n [] (pos 0))) is)

pub whole_at_last : (state : State) (at : List ℤ) (j : ℕ) → AreWholeSoFar state j at → j ≡ variables_of state.system → AreWhole state at
whole_at_last state at j so e = record { one_each = so.one_each ∙ e; each = λ k h. so.each k (omega (arith, h, e)) }

pub first_broken : (state : State) (at : List ℤ) (j : ℕ) (n : ℤ) → AreWholeSoFar state j at → j < variables_of state.system → (pos 0 ≤ℤ n) × IsBrokenValue state j n → (pos 0 ≤ℤ n) × IsFirstBroken state j n
first_broken state at j n so h (low, is) = (low, record { there = h; broken = is; before = λ k l. (whole_at at k, so.each k l) })

-- a whole number that is so many times in a small one is small
small_quotient : (n o r : ℤ) → pos 0 <ℤ o → r ≡ n *ℤ o → IsSmall r → IsSmall n
small_quotient n o r h e small =
    let bound = pos (10 ^ 18) +ℤ pos 1 in
    let grows = one_time bound (times_le bound (pos 1) o (omega (arith, ints)) (omega (arith, ints, h))) in
    let low = small.low in
    let high = small.high in
    let above = less_by n bound o h (omega (arith, ints, e, high, grows)) in
    let below = less_by (neg_ℤ bound) n o h (omega (arith, ints, e, low, grows, sign_out bound o)) in
    record { low = omega (arith, ints, below); high = omega (arith, ints, above) }
  where
    one_time : {c : ℤ} (z : ℤ) → (z *ℤ pos 1) ≤ℤ c → z ≤ℤ c
    one_time z h = omega (arith, ints, h)

pub whole_small : (state : State) (j : ℕ) (n : ℤ) → IsSmallTable state → IsWholeValue state j n → IsSmall n
whole_small state j n small is = small_quotient n is.over is.right (over_positive state j is.right is.over is.value) is.equal (by_value is.value)
  where
    by_value : IsValue state j is.right is.over → IsSmall is.right
    by_value (inl basic) =
        subst IsSmall (sym (basic.right_is ∙ one_table_each state.system state.basis basic.table small.table basic.whole small.whole basic.i 0 basic.there (omega arith)))
        ((small.small basic.i basic.there).each 0 (omega arith))
    by_value (inr free) = subst IsSmall (sym free.right_is) (record { low = omega (arith, ints); high = omega (arith, ints) })

pub broken_small : (state : State) (j : ℕ) (n : ℤ) → IsSmallTable state → IsBrokenValue state j n → IsSmall n
broken_small state j n small is =
    let value = broken_basic state j n is.right is.over is.value is.from is.to in
    let right = subst IsSmall (sym (value.right_is ∙ one_table_each state.system state.basis value.table small.table value.whole small.whole value.i 0 value.there (omega arith))) ((small.small value.i value.there).each 0 (omega arith)) in
    let positive = over_positive state j is.right is.over is.value in
    let above = below_bound n is.over is.right (pos (10 ^ 18)) positive is.from is.to right.low right.high (omega (arith, ints)) in
    let below = above_bound n is.over is.right (pos (10 ^ 18)) positive is.from is.to right.low right.high (omega (arith, ints)) in
    record { low = omega (arith, ints, below); high = omega (arith, ints, above) }
