-- The lines that rows begin with.
use Rattle.std.proofs.Common.{◌≡◌, ℕ, zero, suc, ◌+◌, ◌<◌, ◌≤◌, max, ℤ, List, [], ◌∷◌, ◌++◌, length, get_or, drop, refl, sym, ap, subst, ◌∙◌, inl, inr, length-append, arith}
use Rattle.std.proofs.Math.Seq.{get_or-append_seam}
use Rattle.std.proofs.Math.ListN.{drop_of_length-le}
use Rattle.std.proofs.lemmas.Bool.{cases_lt}
use Rattle.std.proofs.lemmas.List.{get_or_append_left, drop_more}
use Rattle.rt_rows.specs.declared.row.Row.{Row}
use Rattle.rt_tableau.specs.Starts.{strips_of, strips_of_row, columns_from, IsStartLine}
use Rattle.rt_solved.specs.Systems.{no_row}

-- what a row needs is no more than all need
pub row_within : (rows : List Row) (i : ℕ) (d : Row) → i < length rows → strips_of_row (get_or rows i d) ≤ strips_of rows
row_within [] i d h = absurd (omega (arith, h))
row_within (row ∷ rows) zero d h = omega arith
row_within (row ∷ rows) (suc i) d h = omega (arith, row_within rows i d (omega (arith, h)))

pub row_fits : (rows : List Row) (i : ℕ) (d : Row) → i < length rows → strips_of rows < 2147483648 → strips_of_row (get_or rows i d) < 2147483648
row_fits rows i d h g = omega (arith, row_within rows i d h, g)

-- a turn of the count of strips
pub strips_further : (rows : List Row) (i : ℕ) (d : Row) (strips more next : ℕ) → i < length rows → max strips (strips_of (drop i rows)) ≡ strips_of rows → more ≡ strips_of_row (get_or rows i d)
    → next ≡ max strips more → max next (strips_of (drop (i + 1) rows)) ≡ strips_of rows
strips_further rows i d strips more next h e f g =
    let split : strips_of (drop i rows) ≡ max (strips_of_row (get_or rows i d)) (strips_of (drop (i + 1) rows)) = ap strips_of (drop_more rows i d h) in
    omega (arith, e, f, g, split)

pub strips_at_last : (rows : List Row) (i strips : ℕ) → length rows ≤ i → max strips (strips_of (drop i rows)) ≡ strips_of rows → strips ≡ strips_of rows
strips_at_last rows i strips h e =
    let none : strips_of (drop i rows) ≡ 0 = ap strips_of (drop_of_length-le rows h) in
    omega (arith, e, none)

-- one more column
pub columns_further : (first d : ℕ) (columns next : List ℕ) → columns ≡ columns_from first d → next ≡ columns ++ (first + d) ∷ [] → next ≡ columns_from first (d + 1)
columns_further first d columns next e f =
    let more : suc d ≡ d + 1 = omega arith in
    f ∙ ap (λ xs. xs ++ (first + d) ∷ []) e ∙ ap (columns_from first) more

pub columns_length : (first count : ℕ) → length (columns_from first count) ≡ count
columns_length first zero = refl
columns_length first (suc count) = length-append (columns_from first count) ((first + count) ∷ []) ∙ ap (λ n. n + 1) (columns_length first count) ∙ omega arith

-- column number i in order
pub column_is : (first count i : ℕ) → i < count → get_or (columns_from first count) i 0 ≡ first + i
column_is first zero i h = absurd (omega (arith, h))
column_is first (suc count) i h =
    elim (cases_lt i count) [
      | inl l ↦ get_or_append_left (columns_from first count) ((first + count) ∷ []) 0 i (omega (arith, l, columns_length first count)) ∙ column_is first count i l
      | inr g ↦ last (omega (arith, g, h))
    ]
  where
    last : i ≡ count → get_or (columns_from first count ++ (first + count) ∷ []) i 0 ≡ first + i
    last e =
        ap (λ n. get_or (columns_from first count ++ (first + count) ∷ []) n 0) (e ∙ sym (columns_length first count)) ∙ get_or-append_seam (columns_from first count) (first + count) [] 0
        ∙ ap (λ n. first + n) (sym e)

-- what the loop keeps: the lines of the rows so far
pub record AreStartsSoFar (strips first : ℕ) (rows : List Row) (lines : List (List ℤ)) (i : ℕ) : Type 0 where
  pub one_each : length lines ≡ i
  pub each : (d : ℕ) → d < i → IsStartLine strips (first + d) (get_or rows d no_row) (get_or lines d [])

pub starts_further : (strips first : ℕ) (rows : List Row) (lines next : List (List ℤ)) (i : ℕ) (line : List ℤ) → AreStartsSoFar strips first rows lines i
    → IsStartLine strips (first + i) (get_or rows i no_row) line → next ≡ lines ++ line ∷ [] → AreStartsSoFar strips first rows next (i + 1)
starts_further strips first rows lines next i line so is e =
    subst (λ xs. AreStartsSoFar strips first rows xs (i + 1)) (sym e) (record { one_each = length-append lines (line ∷ []) ∙ ap (λ n. n + 1) so.one_each; each = each_next })
  where
    each_next : (d : ℕ) → d < i + 1 → IsStartLine strips (first + d) (get_or rows d no_row) (get_or (lines ++ line ∷ []) d [])
    each_next d l =
        elim (cases_lt d i) [
          | inl k ↦ subst (IsStartLine strips (first + d) (get_or rows d no_row)) (sym (get_or_append_left lines (line ∷ []) [] d (omega (arith, k, so.one_each)))) (so.each d k)
          | inr g ↦ last (omega (arith, g, l))
        ]
      where
        last : d ≡ i → IsStartLine strips (first + d) (get_or rows d no_row) (get_or (lines ++ line ∷ []) d [])
        last f =
            subst (λ n. IsStartLine strips (first + n) (get_or rows n no_row) (get_or (lines ++ line ∷ []) n [])) (sym f)
            (subst (IsStartLine strips (first + i) (get_or rows i no_row)) (sym (ap (λ n. get_or (lines ++ line ∷ []) n []) (sym so.one_each) ∙ get_or-append_seam lines line [] [])) is)
