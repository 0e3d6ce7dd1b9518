-- The polygon round a rectangle: the rectangle is its only slab.
use Rattle.std.proofs.Common.{◌≡◌, ◌≢◌, ℤ, pos, ◌-ℤ◌, ◌<ℤ◌, ◌⊎◌, Bool, true, false, ◌&&◌, List, [], ◌∷◌, refl, sym, ◌∙◌, subst, inl, inr, arith}
use Rattle.std.specs.Prelude.{int_le, int_lt}
use Rattle.std.specs.Int.{int_min, int_max}
use Rattle.std.specs.Ordering.{int_eq}
use Rattle.std.proofs.lemmas.Bool.{and_parts, and_from, false_from_ne_true}
use Rattle.std.proofs.lemmas.Bool.Decides.{Decides-int_eq}
use Rattle.std.proofs.lemmas.Int.{ints, clamps, by_lt_z}
use Rattle.std.proofs.lemmas.List.Elements.{All-nil}
use Rattle.rt_cells.specs.Line.{Within}
use Rattle.rt_cells.specs.Rectangles.{Rectangle, IsNonempty, Holds}
use Rattle.rt_cells.proofs.Lines.{within, first_place, not_before, not_after}
use Rattle.gds_slabs.specs.Polygon.{sides, crosses, Inside}
use Rattle.gds_slabs.specs.Slabs.{IsHeight, IsBefore, IsSlab, IsSlabs}
use Rattle.gds_slabs.proofs.Parity.{xor, parity, odd_from_parity, parity_from_odd}
use Rattle.gds_slabs.proofs.Members.{contains_from_among, among_from_contains}
use Rattle.gds_slabs.proofs.Crossings.{At, at_from_height, height_from_at}
use Rattle.gds_slabs.proofs.Odds.{le_yes, le_no, clash}
use Rattle.gds_slabs.proofs.Coverings.{le_says, slabs_apart, slabs_are_one}
use Rattle.rt_written.specs.Written.{corners_of}
use Rattle.rt_written.specs.Laws.{CornersAreOneSlab}

-- ---- the cells inside

differ : (a b : ℤ) → a ≢ b → int_eq a b ≡ false
differ a b h = false_from_ne_true (int_eq a b) (λ e. h ((Decides-int_eq a b).0 e))

itself : (a : ℤ) → int_eq a a ≡ true
itself a = (Decides-int_eq a a).1 refl

-- the sides along columns cross the rows between the heights, and the others none
two_sides : (u v w : Bool) → xor (u && w) (xor false (xor (v && w) false)) ≡ (xor u v && w)
two_sides true true true = refl
two_sides true true false = refl
two_sides true false true = refl
two_sides true false false = refl
two_sides false true true = refl
two_sides false true false = refl
two_sides false false w = refl

least : (a b : ℤ) → a <ℤ b → int_min a b ≡ a
least a b h = omega (arith, ints, clamps)

least_back : (a b : ℤ) → a <ℤ b → int_min b a ≡ a
least_back a b h = omega (arith, ints, clamps)

greatest : (a b : ℤ) → a <ℤ b → int_max a b ≡ b
greatest a b h = omega (arith, ints, clamps)

greatest_back : (a b : ℤ) → a <ℤ b → int_max b a ≡ b
greatest_back a b h = omega (arith, ints, clamps)

below_differ : (a b : ℤ) → a <ℤ b → a ≢ b
below_differ a b h e = omega (arith, ints)

above_differ : (a b : ℤ) → a <ℤ b → b ≢ a
above_differ a b h e = omega (arith, ints)

lt_says : (a b : ℤ) → int_lt a b ≡ true → a <ℤ b
lt_says a b h = omega (arith, ints)

lt_yes : (a b : ℤ) → a <ℤ b → int_lt a b ≡ true
lt_yes a b h = grind (arith, ints)

-- the column is at the first end or behind it, and not so for the other
within_from : (a b x : ℤ) → a <ℤ b → xor (int_le b x) (int_le a x) ≡ true → Within a b x
within_from a b x l h =
    by_lt_z x a
    (λ k. clash (xor (int_le b x) (int_le a x)) h (rw (le_no a x k, le_no b x (omega (arith, ints))) refl))
    (λ k. by_lt_z x b
    (λ m. within a b x k m)
    (λ m. clash (xor (int_le b x) (int_le a x)) h (rw (le_yes a x k, le_yes b x m) refl)))

from_within : (a b x : ℤ) → Within a b x → xor (int_le b x) (int_le a x) ≡ true
from_within a b x w = rw (le_yes a x w.from, le_no b x w.to) refl

module _ (r : Rectangle) (some : IsNonempty r) where
  -- the test of a cell: its column and its row are the rectangle's
  tested : (x y : ℤ) → parity (crosses x y) (sides (corners_of r)) ≡ (xor (int_le r.right x) (int_le r.left x) && (int_le r.bottom y && int_lt y r.top))
  tested x y =
      rw (
        differ r.left r.right (below_differ r.left r.right some.across),
        differ r.right r.left (above_differ r.left r.right some.across),
        itself r.left,
        itself r.right,
        least r.bottom r.top some.upwards,
        least_back r.bottom r.top some.upwards,
        greatest r.bottom r.top some.upwards,
        greatest_back r.bottom r.top some.upwards,
      ) (two_sides (int_le r.right x) (int_le r.left x) (int_le r.bottom y && int_lt y r.top))

  -- the cells inside are the rectangle's
  pub held : (x y : ℤ) → Inside (corners_of r) x y → Holds r x y
  held x y h =
      let t = and_parts (xor (int_le r.right x) (int_le r.left x)) (int_le r.bottom y && int_lt y r.top)
      (sym (tested x y) ∙ parity_from_odd (crosses x y) (sides (corners_of r)) h) in
      let u = and_parts (int_le r.bottom y) (int_lt y r.top) t.1 in
      record {
        column = within_from r.left r.right x some.across t.0;
        row = within r.bottom r.top y (le_says r.bottom y u.0) (lt_says y r.top u.1);
      }

  pub covered : (x y : ℤ) → Holds r x y → Inside (corners_of r) x y
  covered x y h =
      odd_from_parity (crosses x y) (sides (corners_of r))
      (tested x y
      ∙ and_from (xor (int_le r.right x) (int_le r.left x)) (int_le r.bottom y && int_lt y r.top) (from_within r.left r.right x h.column)
      (and_from (int_le r.bottom y) (int_lt y r.top) (le_yes r.bottom y h.row.from) (lt_yes y r.top h.row.to)))

  -- ---- the slab

  heights : (y : ℤ) → IsHeight (corners_of r) y → (r.bottom ≡ y) ⊎ (r.top ≡ y)
  heights y h = of (at_from_height (corners_of r) y h)
    where
      of : At (corners_of r) y → (r.bottom ≡ y) ⊎ (r.top ≡ y)
      of (inl k) = inl k
      of (inr (inl k)) = inl k
      of (inr (inr (inl k))) = inr k
      of (inr (inr (inr (inl k)))) = inr k
      of (inr (inr (inr (inr (inl k))))) = inl k
      of (inr (inr (inr (inr (inr k))))) = absurd k

  is_slab : IsSlab (corners_of r) r
  is_slab = record {
    heights = record {
      bottom = height_from_at (corners_of r) r.bottom (inl refl);
      top = height_from_at (corners_of r) r.top (inr (inr (inl refl)));
      upwards = some.upwards;
      none_between = λ y h k l. elim (heights y h) [ inl e ↦ omega (arith, ints) | inr e ↦ omega (arith, ints) ];
    };
    run = record {
      nonempty = some.across;
      inside = λ x w. covered x r.bottom (record { column = w; row = first_place r.bottom r.top some.upwards });
      before = λ k. not_before r.left r.right (held (r.left -ℤ pos 1) r.bottom k).column;
      after = λ k. not_after r.left r.right (held r.right r.bottom k).column;
    };
  }

  only_one : (q : Rectangle) → IsSlab (corners_of r) q → q ≡ r
  only_one q k =
      let column = first_place q.left q.right k.run.nonempty in
      slabs_apart (corners_of r) q r k is_slab q.left q.bottom (record { column = column; row = first_place q.bottom q.top k.heights.upwards })
      (held q.left q.bottom (k.run.inside q.left column))

  -- the rectangle is a list of the slabs
  pub corners_slab : IsSlabs (corners_of r) (r ∷ [])
  corners_slab = record {
    order = (All-nil (IsBefore r), tt);
    sound = λ q m. elim (among_from_contains (r ∷ []) q m) [ inl e ↦ subst (IsSlab (corners_of r)) e is_slab | inr k ↦ absurd k ];
    complete = λ q k. contains_from_among (r ∷ []) q (inl (sym (only_one q k)));
  }

  -- and each list of the slabs is that one
  pub corners_slabs_are : (rects : List Rectangle) → IsSlabs (corners_of r) rects → rects ≡ r ∷ []
  corners_slabs_are rects slabs = slabs_are_one (corners_of r) rects (r ∷ []) slabs corners_slab

pub corners_are_one_slab : CornersAreOneSlab
corners_are_one_slab r rects some = (
  corners_slabs_are r some rects,
  λ e. subst (IsSlabs (corners_of r)) (sym e) (corners_slab r some),
)
