-- Lines after an exchange, one by one.
use Rattle.std.proofs.Common.{◌≡◌, ℕ, suc, ◌+◌, ◌-◌, ◌<◌, ◌≤◌, Bool, true, false, ◌==◌, ℤ, pos, negsuc, neg_ℤ, ◌+ℤ◌, ◌*ℤ◌, ◌<ℤ◌, List, [], ◌∷◌, ◌++◌, length, get_or, refl, sym, ap, subst, ◌∙◌, ◌⊎◌, inl, inr, to_z, of_z, length-append, arith}
use Rattle.std.proofs.Math.Seq.{get_or-append_seam}
use mir.Syntax.{w64}
use Rattle.rt_rows.proofs.Products.{small_fits_64}
use Rattle.rt_rows.specs.Known.{IsSmall}
use Rattle.std.proofs.lemmas.Bool.{cases_lt, eqb-true, eq-eqb}
use Rattle.std.proofs.lemmas.Int.{ints, to_z-of_z}
use Rattle.std.proofs.lemmas.List.{get_or_default, get_or_append_left}
use Rattle.std.specs.Int.RustNames.{unsigned_abs}
use Rattle.rt_solved.proofs.Proportional.{same_or_not, times_cancel}
use Rattle.rt_solved.proofs.Exchanges.{turned_zero}
use Rattle.rt_tableau.specs.Numbers.{number_of, AreSmall, AreReduced, IsFirst, IsUpdated, PassesAt}
use Rattle.rt_tableau.specs.States.{number_at, IsFirstPast}
use Rattle.rt_tableau.specs.Tables.{line_at, table_of, IsKeptLine, IsNewLine, IsNewKept, IsNewPast, AreNew}
use Rattle.rt_tableau.specs.Turned.{IsTurned}
use Rattle.rt_tableau.proofs.Signs.{turned_small, turned_no_factor}

pub some_factor : (f : ℕ) → 0 < f → pos 0 <ℤ pos f
some_factor f h = omega (arith, ints, h)

-- a combination of 0 and 0 is 0, and so is its quotient
pub no_number : (f : ℕ) (n a b u v : ℤ) → 0 < f → u ≡ pos 0 → v ≡ pos 0 → pos f *ℤ n ≡ a *ℤ u +ℤ b *ℤ v → n ≡ pos 0
no_number f n a b u v h e g k =
    times_cancel (pos f) n (pos 0) (some_factor f h) (k ∙ omega (arith, ints, ap (λ z. a *ℤ z) e, ap (λ z. b *ℤ z) g))

-- behind the columns stands the right side
pub right_at : (columns : ℕ) → number_at columns columns ≡ 0
right_at columns = rw (eq-eqb columns columns refl) refl

-- a column's number
pub column_at : (columns j : ℕ) → j < columns → number_at columns j ≡ suc j
column_at columns j h = by_test (j == columns) refl
  where
    by_test : (b : Bool) → (j == columns) ≡ b → number_at columns j ≡ suc j
    by_test true e = absurd (omega (arith, h, eqb-true j columns e))
    by_test false e = rw e refl

pub place_first : (s columns : ℕ) → s ≡ 0 → s ≡ number_at columns columns
place_first s columns e = e ∙ sym (right_at columns)

pub place_behind : (s columns : ℕ) → s < suc columns → (s ≡ 0 → ⊥) → s ≡ number_at columns (s - 1)
place_behind s columns h n = let e : s ≡ suc (s - 1) = omega (arith, n) in e ∙ sym (column_at columns (s - 1) (omega (arith, h, n)))

-- the first number past the limit, by its place
pub first_place : (columns : ℕ) (numbers : ℕ → ℤ) (s j : ℕ) → s < suc columns → j < suc columns → s ≡ number_at columns j → IsFirst numbers s → IsFirstPast columns numbers j
first_place columns numbers s j h g e first = record {
  there = omega (arith, g);
  past = subst (λ t. 1000000000000000000 < unsigned_abs (numbers t)) e first.past;
  before = λ k l. by_place k l (same_or_not j columns);
}
  where
    by_place : (k : ℕ) → k < j → (j ≡ columns) ⊎ (j ≡ columns → ⊥) → IsSmall (numbers (number_at columns k))
    by_place k l (inl f) =
        subst (λ t. IsSmall (numbers t)) (sym (column_at columns k (omega (arith, l, f)))) (first.last (e ∙ ap (number_at columns) f ∙ right_at columns) (suc k) (omega arith))
    by_place k l (inr n) =
        let s_is : s ≡ suc j = e ∙ column_at columns j (omega (arith, g, n)) in
        subst (λ t. IsSmall (numbers t)) (sym (column_at columns k (omega (arith, l, g)))) (first.before (suc k) (omega arith) (omega (arith, s_is, l)))

module _ (lines : List (List ℤ)) (columns p q i : ℕ) (kept : IsKeptLine (suc columns) (line_at lines i)) where
  -- the pivot's line
  pub new_turned : (new : List ℤ) → i ≡ p → IsTurned (line_at lines i) new → IsNewKept (table_of lines) columns p q i new
  new_turned new e is = record {
    new = record {
      turned = λ f s. is.each s ∙ ap (λ r. neg_ℤ (table_of lines r s)) e;
      other = λ n. absurd (n e);
      reduced = turned_no_factor (number_of (line_at lines i)) (number_of new) kept.reduced is.each;
    };
    kept = record { none_behind = λ s h. turned_zero _ _ (is.each s) (kept.none_behind s h); small = turned_small (line_at lines i) new kept.small is; reduced = turned_no_factor (number_of (line_at lines i)) (number_of new) kept.reduced is.each };
  }

  magnitude : (z : ℤ) → z <ℤ pos 0 → pos (unsigned_abs z) ≡ neg_ℤ z
  magnitude (pos n) h = absurd (omega (arith, ints, h))
  magnitude (negsuc n) h = refl

  some : (z : ℤ) → z <ℤ pos 0 → 0 < unsigned_abs z
  some (pos n) h = absurd (omega (arith, ints, h))
  some (negsuc n) h = omega arith

  alone : (f a l b v : ℤ) → f ≡ a → b ≡ pos 0 → f *ℤ l ≡ a *ℤ l +ℤ b *ℤ v
  alone f a l b v e g = omega (arith, ints, ap (λ z. z *ℤ l) e, ap (λ z. z *ℤ v) g)

  -- a line that doesn't take column q
  pub new_copied : (new : List ℤ) → (i ≡ p → ⊥) → table_of lines p (suc q) <ℤ pos 0 → table_of lines i (suc q) ≡ pos 0 → new ≡ line_at lines i → IsNewKept (table_of lines) columns p q i new
  new_copied new n negative none e =
      subst (IsNewKept (table_of lines) columns p q i) (sym e)
      (record {
        new = record {
          turned = λ f. absurd (n f);
          other = λ m. (
            unsigned_abs (table_of lines p (suc q)),
            some _ negative,
            λ s. alone _ _ (table_of lines i s) (table_of lines i (suc q)) (table_of lines p s) (magnitude _ negative) none,
          );
          reduced = kept.reduced;
        };
        kept = kept;
      })

  is_new : (numbers : ℕ → ℤ) → (i ≡ p → ⊥) → AreReduced (line_at lines i) (line_at lines p) q numbers → IsNewLine (table_of lines) p q i numbers
  is_new numbers n are = record {
    turned = λ f. absurd (n f);
    other = λ m. (are.factor, are.positive, are.each);
    reduced = are.reduced;
  }

  -- its numbers behind the columns are 0
  none_new : (numbers : ℕ → ℤ) → IsKeptLine (suc columns) (line_at lines p) → AreReduced (line_at lines i) (line_at lines p) q numbers → (s : ℕ) → suc columns ≤ s → numbers s ≡ pos 0
  none_new numbers pivot are s h = no_number are.factor _ _ _ _ _ are.positive (kept.none_behind s h) (pivot.none_behind s h) (are.each s)

  -- a place past the limit is one of the columns', or the right side's
  pub past_there : (s : ℕ) → IsKeptLine (suc columns) (line_at lines p) → PassesAt (line_at lines i) (line_at lines p) q s → s < suc columns
  past_there s pivot is =
      elim (cases_lt s (suc columns)) [
        | inl l ↦ l
        | inr g ↦ absurd (none_past (is.numbers s) (none_new is.numbers pivot is.are s g) is.first.past)
      ]
    where
      none_past : (z : ℤ) → z ≡ pos 0 → 1000000000000000000 < unsigned_abs z → ⊥
      none_past z e h = let l : 1000000000000000000 < 0 = subst (λ y. 1000000000000000000 < unsigned_abs y) e h in omega (arith, l)

  -- any other line
  pub new_updated : (new : List ℤ) → IsKeptLine (suc columns) (line_at lines p) → (i ≡ p → ⊥) → IsUpdated (line_at lines i) (line_at lines p) q new → IsNewKept (table_of lines) columns p q i new
  new_updated new pivot n is = record {
    new = is_new (number_of new) n is.numbers;
    kept = record { none_behind = none_new (number_of new) pivot is.numbers; small = is.small; reduced = is.numbers.reduced };
  }

  pub new_past : (s j : ℕ) → IsKeptLine (suc columns) (line_at lines p) → (i ≡ p → ⊥) → j < suc columns → s ≡ number_at columns j → PassesAt (line_at lines i) (line_at lines p) q s
      → IsNewPast (table_of lines) columns p q i j
  new_past s j pivot n g e is = record {
    numbers = is.numbers;
    new = is_new is.numbers n is.are;
    first = first_place columns is.numbers s j (past_there s pivot is) g e is.first;
  }

-- a line that code reads
pub line_read : (lines : List (List ℤ)) (i : ℕ) (found slice : List ℤ) → i < length lines → found ≡ get_or lines i found → slice ≡ found → line_at lines i ≡ slice
line_read lines i found slice h e f = sym (f ∙ e ∙ get_or_default lines i found [] h)

-- a number that code finds to be 0
pub none_read : (line slice : List ℤ) (z : ℤ) (q : ℕ) → AreSmall line → line ≡ slice → z ≡ number_of slice (q + 1) → of_z w64 z ≡ 0 → number_of line (suc q) ≡ pos 0
none_read line slice z q small e f g =
    let is : z ≡ number_of line (suc q) = f ∙ (λ j. number_of (sym e j) (same j)) in
    sym (to_z-of_z w64 (number_of line (suc q)) (small_fits_64 (number_of line (suc q)) (small.each (suc q)))) ∙ ap (λ t. to_z w64 (of_z w64 t)) (sym is) ∙ ap (to_z w64) g
  where
    same : q + 1 ≡ suc q
    same = omega arith

-- one more line
pub new_further : (table : ℕ → ℕ → ℤ) (count columns p q : ℕ) (lines next : List (List ℤ)) (line : List ℤ) → AreNew table count columns p q lines → next ≡ lines ++ line ∷ [] → IsNewKept table columns p q count line
    → AreNew table (count + 1) columns p q next
new_further table count columns p q lines next line so e is =
    subst (AreNew table (count + 1) columns p q) (sym e) (record { one_each = length-append lines (line ∷ []) ∙ ap (λ n. n + 1) so.one_each; each = each_next })
  where
    each_next : (i : ℕ) → i < count + 1 → IsNewKept table columns p q i (line_at (lines ++ line ∷ []) i)
    each_next i h =
        elim (cases_lt i count) [
          | inl l ↦ subst (IsNewKept table columns p q i) (sym (get_or_append_left lines (line ∷ []) [] i (omega (arith, l, so.one_each)))) (so.each i l)
          | inr g ↦ at_last (omega (arith, g, h))
        ]
      where
        at_last : i ≡ count → IsNewKept table columns p q i (line_at (lines ++ line ∷ []) i)
        at_last f =
            subst (λ t. IsNewKept table columns p q t (line_at (lines ++ line ∷ []) t)) (sym f)
            (subst (IsNewKept table columns p q count) (sym (ap (line_at (lines ++ line ∷ [])) (sym so.one_each) ∙ get_or-append_seam lines line [] [])) is)
