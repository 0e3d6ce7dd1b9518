-- Strips of two masks that are kept clear: both ways round, and what shares a cell in the drawing shares one in the source.
use Rattle.std.proofs.Common.{ℕ, ℤ, pos, ◌+ℤ◌, ◌≤ℤ◌, ◌<ℤ◌, arith}
use Rattle.std.proofs.lemmas.Int.{ints, clamps}
use mathlib.Core.Logic.{inl, inr}
use Rattle.rt_cells.specs.Rectangles.{Rectangle, IsNonempty}
use Rattle.rt_cells.specs.Rectangles.{columns_between, rows_between}
use Rattle.rt_family.specs.Strips.{ShareColumn, ShareRow}
use Rattle.rt_family.specs.Carried.{AreFar, IsKeptClear}
use Rattle.rt_family.proofs.Hosted.{clear_apart}

turned_number : (p q n : ℤ) → p ≤ℤ q → q <ℤ n → p <ℤ n
turned_number p q n h k = omega (arith, ints)

turned_rows_between : (a b : Rectangle) → rows_between b a ≤ℤ rows_between a b
turned_rows_between a b = omega (arith, ints, clamps)

turned_columns_between : (a b : Rectangle) → columns_between b a ≤ℤ columns_between a b
turned_columns_between a b = omega (arith, ints, clamps)

-- what is kept clear of another mask, that mask is kept clear of
pub turned_clear : (first second : ℕ → Type 0) (source drawn : ℕ → Rectangle) (near clear : ℤ)
    → IsKeptClear first second source drawn near clear → IsKeptClear second first source drawn near clear
turned_clear first second source drawn near clear kept = record {
  right = λ i j m n l few. kept.left j i n m l (turned_number _ _ near (turned_rows_between (source i) (source j)) few);
  left = λ i j m n l few. kept.right j i n m l (turned_number _ _ near (turned_rows_between (source i) (source j)) few);
  above = λ i j m n l few. kept.below j i n m l (turned_number _ _ clear (turned_columns_between (drawn i) (drawn j)) few);
  below = λ i j m n l few. kept.above j i n m l (turned_number _ _ clear (turned_columns_between (drawn i) (drawn j)) few);
}

far_shares_none : (s : ℤ) (a b : Rectangle) → pos 1 ≤ℤ s → IsNonempty a → IsNonempty b → AreFar s a b → ShareColumn a b → ShareRow a b → ⊥
far_shares_none s a b p h k (inl g) over row = omega (arith, ints, clamps)
far_shares_none s a b p h k (inr g) over row = omega (arith, ints, clamps)

none_between : (s : ℤ) (a b : Rectangle) → pos 1 ≤ℤ s → ShareColumn a b → IsNonempty a → IsNonempty b → columns_between a b <ℤ s
none_between s a b p over h k = omega (arith, ints, clamps)

module _ (first second : ℕ → Type 0) (source drawn : ℕ → Rectangle) (near clear : ℤ) (some_near : pos 1 ≤ℤ near) (some_clear : pos 1 ≤ℤ clear)
    (kept : IsKeptClear first second source drawn near clear) where
  -- strips that share a cell in the drawing share one in the source
  pub source_overlap : (i j : ℕ) → first i → second j → IsNonempty (source i) → IsNonempty (source j) → IsNonempty (drawn i) → IsNonempty (drawn j)
      → ShareColumn (drawn i) (drawn j) → ShareRow (drawn i) (drawn j) → ShareColumn (source i) (source j) × ShareRow (source i) (source j)
  source_overlap i j m n h k p q over row =
      elim (clear_apart first second source drawn near clear some_near kept i j m n h k) [
        | inl both ↦ both
        | inr far ↦ absurd (far_shares_none clear (drawn i) (drawn j) some_clear p q far over row)
      ]

  -- of two strips that are drawn over one column, the one above in the source is drawn the number above
  pub above_over : (i j : ℕ) → first i → second j → IsNonempty (drawn i) → IsNonempty (drawn j) → ShareColumn (drawn i) (drawn j)
      → (source i).top ≤ℤ (source j).bottom → ((drawn i).top +ℤ clear) ≤ℤ (drawn j).bottom
  above_over i j m n p q over h = kept.above i j m n h (none_between clear (drawn i) (drawn j) some_clear over p q)

  pub below_over : (i j : ℕ) → first i → second j → IsNonempty (drawn i) → IsNonempty (drawn j) → ShareColumn (drawn i) (drawn j)
      → (source j).top ≤ℤ (source i).bottom → ((drawn j).top +ℤ clear) ≤ℤ (drawn i).bottom
  below_over i j m n p q over h = kept.below i j m n h (none_between clear (drawn i) (drawn j) some_clear over p q)
