-- A closed line that goes around a rectangle, from corner to corner: the rectangle is its only slab.
use Rattle.std.proofs.Common.{◌≡◌, ◌≢◌, ◌↔◌, ◌^◌, length, get_or, ℤ, pos, ◌-ℤ◌, ◌≤ℤ◌, ◌<ℤ◌, ◌⊎◌, Bool, true, false, ◌&&◌, List, [], ◌∷◌, refl, sym, ◌∙◌, ap, subst, inl, inr, arith}
use Rattle.std.specs.Prelude.{int_le, int_lt}
use Rattle.std.specs.Int.{int_min, int_max}
use Rattle.std.specs.Ordering.{int_eq}
use Rattle.std.proofs.lemmas.Bool.{and_parts, and_from}
use Rattle.std.proofs.lemmas.Bool.Decides.{Decides-int_eq}
use Rattle.std.proofs.lemmas.Int.{ints, clamps, by_lt_z}
use Rattle.std.proofs.lemmas.List.Elements.{All-nil}
use Rattle.rt_cells.specs.Line.{Within}
use Rattle.rt_cells.specs.Rectangles.{Rectangle, Holds}
use Rattle.rt_cells.proofs.Lines.{first_place, not_before, not_after}
use Rattle.rt_base.specs.declared.plane.Point.{Point}
use Rattle.rt_base.specs.declared.plane.Rect.{Rect}
use Rattle.rt_base.specs.Plane.{area}
use Rattle.gds_slabs.specs.Polygon.{sides, crosses, Inside, IsClosed, IsSlantedSide, slanted, GoesAround, IsSlanted}
use Rattle.gds_slabs.specs.Slabs.{IsHeight, IsBefore, IsSlab, IsSlabs, IsOnlySlab, IsSlabCount}
use Rattle.gds_slabs.specs.Steps.{IsWithin, AreCorners}
use Rattle.gds_slabs.proofs.Parity.{xor, xor_self, xor_comm, parity, odd_from_parity, parity_from_odd}
use Rattle.gds_slabs.proofs.Members.{Among, contains_from_among, among_from_contains}
use Rattle.gds_slabs.proofs.Crossings.{passes, toggles_parity, toggles_cross, between_says, and_false, same_row, closed_last, At, at_from_height, height_from_at}
use Rattle.gds_slabs.proofs.Paths.{min_below_max}
use Rattle.gds_slabs.proofs.Slants.{slanted_says, slanted_yes}
use Rattle.gds_slabs.proofs.Coverings.{le_says, slabs_apart}

-- ---- the corners

-- the corner between two opposite ones: at the column of the first and the height of the other, or the other way round
abbrev pub IsCorner : Point → Point → Point → Type 0
IsCorner a b c = ((b.x ≡ a.x) × (b.y ≡ c.y)) ⊎ ((b.x ≡ c.x) × (b.y ≡ a.y))

straight_side : (p q : Point) → (IsSlantedSide (p, q) → ⊥) → (p.x ≡ q.x) ⊎ (p.y ≡ q.y)
straight_side p q straight = by_test (int_eq p.x q.x) refl
  where
    by_test : (b : Bool) → int_eq p.x q.x ≡ b → (p.x ≡ q.x) ⊎ (p.y ≡ q.y)
    by_test true h = inl ((Decides-int_eq p.x q.x).0 h)
    by_test false h = inr (same_row p q straight h)

corner : (a b c : Point) → IsSlantedSide (a, c) → (IsSlantedSide (a, b) → ⊥) → (IsSlantedSide (b, c) → ⊥) → IsCorner a b c
corner a b c across first second = by (straight_side a b first) (straight_side b c second)
  where
    by : (a.x ≡ b.x) ⊎ (a.y ≡ b.y) → (b.x ≡ c.x) ⊎ (b.y ≡ c.y) → IsCorner a b c
    by (inl e) (inl f) = absurd (across.0 (e ∙ f))
    by (inl e) (inr f) = inl (sym e, f)
    by (inr e) (inl f) = inr (f, sym e)
    by (inr e) (inr f) = absurd (across.1 (e ∙ f))

-- ---- the cells

two_sides : (u v w : Bool) → xor (u && w) (xor (v && w) false) ≡ (xor u v && w)
two_sides true true true = refl
two_sides true true false = refl
two_sides true false true = refl
two_sides true false false = refl
two_sides false true true = refl
two_sides false true false = refl
two_sides false false w = refl

-- of the four sides those along columns pass the rows between the heights
columns_first : (u v m n : Bool) → xor (u && xor m n) (xor (u && xor n n) (xor (v && xor n m) (xor (v && xor m m) false))) ≡ (xor u v && xor m n)
columns_first u v m n = rw (xor_self n, xor_self m, and_false u, and_false v, xor_comm n m) (two_sides u v (xor m n))

rows_first : (u v m n : Bool) → xor (u && xor m m) (xor (v && xor m n) (xor (v && xor n n) (xor (u && xor n m) false))) ≡ (xor u v && xor m n)
rows_first u v m n = rw (xor_self n, xor_self m, and_false u, and_false v, xor_comm n m) (two_sides v u (xor m n) ∙ ap (λ t. t && xor m n) (xor_comm v u))

-- the test of a cell: its column is between the columns of the two corners, and its row between their heights
abbrev between : Point → Point → ℤ → ℤ → Bool
between a c x y = xor (int_le a.x x) (int_le c.x x) && xor (int_le a.y y) (int_le c.y y)

passing : (x y : ℤ) (a b c d e : Point) → IsCorner a b c → IsCorner c d a → IsSlantedSide (b, d) → e ≡ a
    → parity (passes (λ z. int_le z x) y) (sides (a ∷ b ∷ c ∷ d ∷ e ∷ [])) ≡ between a c x y
passing x y a b c d e (inl h) (inl k) across last =
    rw (h.0, h.1, k.0, k.1, last) (columns_first (int_le a.x x) (int_le c.x x) (int_le a.y y) (int_le c.y y))
passing x y a b c d e (inl h) (inr k) across last = absurd (across.0 (h.0 ∙ sym k.0))
passing x y a b c d e (inr h) (inl k) across last = absurd (across.0 (h.0 ∙ sym k.0))
passing x y a b c d e (inr h) (inr k) across last =
    rw (h.0, h.1, k.0, k.1, last) (rows_first (int_le a.x x) (int_le c.x x) (int_le a.y y) (int_le c.y y))

lt_says : (a b : ℤ) → int_lt a b ≡ true → a <ℤ b
lt_says a b h = omega (arith, ints)

le_true : (a b : ℤ) → a ≤ℤ b → int_le a b ≡ true
le_true a b h = grind (arith, ints)

lt_true : (a b : ℤ) → a <ℤ b → int_lt a b ≡ true
lt_true a b h = grind (arith, ints)

within_from : (p q z : ℤ) → xor (int_le p z) (int_le q z) ≡ true → Within (int_min p q) (int_max p q) z
within_from p q z e =
    let h = and_parts (int_le (int_min p q) z) (int_lt z (int_max p q)) (between_says p q z ∙ e) in
    record { from = le_says (int_min p q) z h.0; to = lt_says z (int_max p q) h.1 }

from_within : (p q z : ℤ) → Within (int_min p q) (int_max p q) z → xor (int_le p z) (int_le q z) ≡ true
from_within p q z w =
    sym (between_says p q z)
    ∙ and_from (int_le (int_min p q) z) (int_lt z (int_max p q)) (le_true (int_min p q) z w.from) (lt_true z (int_max p q) w.to)

-- ---- the slab

-- the height of a corner is one of the two
level : (a b c : Point) (y : ℤ) → IsCorner a b c → b.y ≡ y → (a.y ≡ y) ⊎ (c.y ≡ y)
level a b c y (inl h) e = inr (sym h.1 ∙ e)
level a b c y (inr h) e = inl (sym h.1 ∙ e)

lower_or_upper : (p q low high y : ℤ) → low ≡ int_min p q → high ≡ int_max p q → (p ≡ y) ⊎ (q ≡ y) → (y ≡ low) ⊎ (y ≡ high)
lower_or_upper p q low high y e f (inl h) = by_lt_z p q (λ l. inl (omega (arith, ints, clamps))) (λ l. inr (omega (arith, ints, clamps)))
lower_or_upper p q low high y e f (inr h) = by_lt_z p q (λ l. inr (omega (arith, ints, clamps))) (λ l. inl (omega (arith, ints, clamps)))

least_is_one : (p q low : ℤ) → low ≡ int_min p q → (p ≡ low) ⊎ (q ≡ low)
least_is_one p q low e = by_lt_z p q (λ l. inl (omega (arith, ints, clamps))) (λ l. inr (omega (arith, ints, clamps)))

greatest_is_one : (p q high : ℤ) → high ≡ int_max p q → (p ≡ high) ⊎ (q ≡ high)
greatest_is_one p q high e = by_lt_z p q (λ l. inr (omega (arith, ints, clamps))) (λ l. inl (omega (arith, ints, clamps)))

apart : (p q low high : ℤ) → p ≢ q → low ≡ int_min p q → high ≡ int_max p q → low <ℤ high
apart p q low high h e f = rw (e, f) (min_below_max p q h)

module _ (a b c d e : Point) (closed : IsClosed (a ∷ b ∷ c ∷ d ∷ e ∷ [])) (straight : IsSlanted (a ∷ b ∷ c ∷ d ∷ e ∷ []) → ⊥)
    (across : IsSlantedSide (a, c)) (other : IsSlantedSide (b, d)) (r : Rectangle) (corners : AreCorners (a.x, a.y) (c.x, c.y) r) where
  abbrev line : List Point
  line = a ∷ b ∷ c ∷ d ∷ e ∷ []

  last : e ≡ a
  last = closed_last a (b ∷ c ∷ d ∷ e ∷ []) closed

  no_side : (s : Point × Point) → Among (sides line) s → IsSlantedSide s → ⊥
  no_side s m k = straight (s, contains_from_among (sides line) s m, k)

  first_corner : IsCorner a b c
  first_corner = corner a b c across (no_side (a, b) (inl refl)) (no_side (b, c) (inr (inl refl)))

  second_corner : IsCorner c d a
  second_corner =
      corner c d a ((λ k. across.0 (sym k)), (λ k. across.1 (sym k))) (no_side (c, d) (inr (inr (inl refl))))
      (subst (λ p. IsSlantedSide (d, p) → ⊥) last (no_side (d, e) (inr (inr (inr (inl refl))))))

  tested : (x y : ℤ) → parity (crosses x y) (sides line) ≡ between a c x y
  tested x y =
      sym (toggles_cross x y line straight) ∙ toggles_parity (λ z. int_le z x) y a (b ∷ c ∷ d ∷ e ∷ [])
      ∙ passing x y a b c d e first_corner second_corner other last

  held : (x y : ℤ) → Inside line x y → Holds r x y
  held x y h =
      let t = and_parts (xor (int_le a.x x) (int_le c.x x)) (xor (int_le a.y y) (int_le c.y y)) (sym (tested x y) ∙ parity_from_odd (crosses x y) (sides line) h) in
      record {
        column = rw (corners.left, corners.right) (within_from a.x c.x x t.0);
        row = rw (corners.bottom, corners.top) (within_from a.y c.y y t.1);
      }

  covered : (x y : ℤ) → Holds r x y → Inside line x y
  covered x y h =
      let across_row : Within (int_min a.x c.x) (int_max a.x c.x) x = rw (← corners.left, ← corners.right) h.column in
      let up : Within (int_min a.y c.y) (int_max a.y c.y) y = rw (← corners.bottom, ← corners.top) h.row in
      odd_from_parity (crosses x y) (sides line)
      (tested x y
      ∙ and_from (xor (int_le a.x x) (int_le c.x x)) (xor (int_le a.y y) (int_le c.y y)) (from_within a.x c.x x across_row) (from_within a.y c.y y up))

  heights : (y : ℤ) → IsHeight line y → (y ≡ r.bottom) ⊎ (y ≡ r.top)
  heights y h = lower_or_upper a.y c.y r.bottom r.top y corners.bottom corners.top (of (at_from_height line y h))
    where
      of : At line y → (a.y ≡ y) ⊎ (c.y ≡ y)
      of (inl k) = inl k
      of (inr (inl k)) = level a b c y first_corner k
      of (inr (inr (inl k))) = inr k
      of (inr (inr (inr (inl k)))) = elim (level c d a y second_corner k) [ inl m ↦ inr m | inr m ↦ inl m ]
      of (inr (inr (inr (inr (inl k))))) = inl (ap (λ (p : Point). p.y) (sym last) ∙ k)
      of (inr (inr (inr (inr (inr k))))) = absurd k

  is_height : (y : ℤ) → (a.y ≡ y) ⊎ (c.y ≡ y) → IsHeight line y
  is_height y (inl k) = height_from_at line y (inl k)
  is_height y (inr k) = height_from_at line y (inr (inr (inl k)))

  upwards : r.bottom <ℤ r.top
  upwards = apart a.y c.y r.bottom r.top across.1 corners.bottom corners.top

  is_slab : IsSlab line r
  is_slab = record {
    heights = record {
      bottom = is_height r.bottom (least_is_one a.y c.y r.bottom corners.bottom);
      top = is_height r.top (greatest_is_one a.y c.y r.top corners.top);
      upwards = upwards;
      none_between = λ y h k l. elim (heights y h) [ inl e ↦ omega (arith, ints) | inr e ↦ omega (arith, ints) ];
    };
    run = record {
      nonempty = apart a.x c.x r.left r.right across.0 corners.left corners.right;
      inside = λ x w. covered x r.bottom (record { column = w; row = first_place r.bottom r.top upwards });
      before = λ k. not_before r.left r.right (held (r.left -ℤ pos 1) r.bottom k).column;
      after = λ k. not_after r.left r.right (held r.right r.bottom k).column;
    };
  }

  only_one : (q : Rectangle) → IsSlab line q → q ≡ r
  only_one q k =
      let column = first_place q.left q.right k.run.nonempty in
      slabs_apart line q r k is_slab q.left q.bottom (record { column = column; row = first_place q.bottom q.top k.heights.upwards })
      (held q.left q.bottom (k.run.inside q.left column))

  one_slab : IsSlabs line (r ∷ [])
  one_slab = record {
    order = (All-nil (IsBefore r), tt);
    sound = λ q m. elim (among_from_contains (r ∷ []) q m) [ inl e ↦ subst (IsSlab line) e is_slab | inr k ↦ absurd k ];
    complete = λ q k. contains_from_among (r ∷ []) q (inl (sym (only_one q k)));
  }

-- ---- the test

-- the test of the diagonals decides
pub around_decided : (points : List Point) (p q s t : Point) (v w : Bool) → length points ≡ 5 → v ≡ slanted (get_or points 0 p, get_or points 2 q)
    → w ≡ slanted (get_or points 1 s, get_or points 3 t) → (v && w) ≡ true ↔ GoesAround points
around_decided (a ∷ b ∷ c ∷ d ∷ e ∷ []) p q s t v w five f g = (
  (λ h. let k = and_parts v w h in (slanted_says (a, c) (sym f ∙ k.0), slanted_says (b, d) (sym g ∙ k.1))),
  (λ h. and_from v w (f ∙ slanted_yes (a, c) h.0) (g ∙ slanted_yes (b, d) h.1)),
)
around_decided points p q s t v w five f g = absurd (omega arith)

-- the opposite corners of a line that goes around
pub opposite : (points : List Point) (p q : Point) → GoesAround points → IsSlantedSide (get_or points 0 p, get_or points 2 q)
opposite (a ∷ b ∷ c ∷ d ∷ e ∷ []) p q h = h.0
opposite points p q h = absurd h

-- the rectangle of the opposite corners is the only slab
pub only_slab : (points : List Point) (p q : Point) (r : Rect) → IsClosed points → (IsSlanted points → ⊥) → GoesAround points
    → AreCorners ((get_or points 0 p).x, (get_or points 0 p).y) ((get_or points 2 q).x, (get_or points 2 q).y) (area r)
    → IsWithin (pos (2 ^ 32)) (area r) → IsOnlySlab points r
only_slab (a ∷ b ∷ c ∷ d ∷ e ∷ []) p q r closed straight h corners near =
    record { only = one_slab a b c d e closed straight h.0 h.1 (area r) corners; near = near }
only_slab points p q r closed straight h corners near = absurd h

-- so there is one slab
pub one_counted : (points : List Point) → IsClosed points → (IsSlanted points → ⊥) → GoesAround points → IsSlabCount points 1
one_counted (a ∷ b ∷ c ∷ d ∷ e ∷ []) closed straight h =
    let r : Rectangle = record { left = int_min a.x c.x; right = int_max a.x c.x; bottom = int_min a.y c.y; top = int_max a.y c.y } in
    (r ∷ [], one_slab a b c d e closed straight h.0 h.1 r (record { left = refl; right = refl; bottom = refl; top = refl }), refl)
one_counted points closed straight h = absurd h
