-- The rectangles of one mask, by their numbers, as a family of strips.
use Rattle.std.proofs.Common.{◌≡◌, ℕ, ℤ, ◌≤ℤ◌, ◌<ℤ◌, ◌⊎◌, ◌↔◌, ◌==◌, true, List, length, filter, sym, ap, ◌∙◌, subst, arith, inl, inr}
use Rattle.std.specs.Prelude.{Contains}
use Rattle.std.proofs.lemmas.Int.{ints, clamps, by_lt_z}
use Rattle.std.specs.Int.{int_max, int_min}
use Rattle.std.proofs.lemmas.Bool.Decides.{nat_tests}
use Rattle.std.proofs.lemmas.List.{get_or_default}
use Rattle.std.proofs.lemmas.List.Elements.{Contains-get_or}
use Rattle.rt_cells.specs.Line.{Within}
use Rattle.rt_cells.specs.Rectangles.{Rectangle, IsNonempty, Holds}
use Rattle.rt_cells.proofs.Lists.{mapped, mapped_from, filtered, filtered_from}
use Rattle.rt_family.specs.Strips as family
use Rattle.rt_family.specs.Laws.{IsOfMask as IsNumberOfMask}
use Rattle.rt_strips.specs.Placed.{Placed, no_strip, strip_at, mask_of, left_of, right_of, bottom_of, top_of, areas_of, covered_by}
use Rattle.rt_strips.specs.Standing.{AreOfOneMask, StandsOn, IsClimbed}
use Rattle.rt_strips.specs.Standing.IsClimbed.{step, onward}
use Rattle.rt_strips.specs.StripsOf.{AreStripsOf, AreStrips}

-- strip i is of the mask
abbrev pub IsOfMask : List Placed → ℕ → ℕ → Type 0
IsOfMask strips m = IsNumberOfMask (length strips) (mask_of strips) m

-- the rectangle of a number
abbrev pub box_of : List Placed → ℕ → Rectangle
box_of strips i = (strip_at strips i).area

-- the mask's strips hold the cell: one of them does
pub covered_from : (strips : List Placed) (m : ℕ) (x y : ℤ) → covered_by m strips x y
    → (i : ℕ) × IsOfMask strips m i × Holds (box_of strips i) x y
covered_from strips m x y (r, c, holds) =
    let d = mapped_from (λ (p : Placed). p.area) (filter (λ (p : Placed). p.mask == m) strips) r c in
    let p = d.0 in
    let e = filtered_from (λ (p : Placed). p.mask == m) strips p d.1 in
    let at : strip_at strips e.0.0 ≡ p = get_or_default strips e.0.0 no_strip p e.0.1 ∙ e.0.2 in (
      e.0.0,
      record { below = e.0.1; of_mask = ap (λ (q : Placed). q.mask) at ∙ same_mask p.mask m e.1 },
      subst (λ (q : Placed). Holds q.area x y) (sym at) (subst (λ (q : Rectangle). Holds q x y) (sym d.2) holds),
    )
  where
    same_mask : (k m : ℕ) → (k == m) ≡ true → k ≡ m
    same_mask k m e = grind (arith, nat_tests)

-- a strip's rectangle is one of its mask's
pub area_there : (strips : List Placed) (m i : ℕ) → IsOfMask strips m i → Contains (areas_of m strips) (box_of strips i)
area_there strips m i h =
    mapped (λ (p : Placed). p.area) (filter (λ (p : Placed). p.mask == m) strips) (strip_at strips i)
    (filtered (λ (p : Placed). p.mask == m) strips (strip_at strips i) (Contains-get_or strips i no_strip h.below) (same_test (mask_of strips i) m h.of_mask))
  where
    same_test : (k m : ℕ) → k ≡ m → (k == m) ≡ true
    same_test k m e = grind (arith, nat_tests)

-- what a strip holds its mask covers
pub covered_at : (strips : List Placed) (m i : ℕ) (x y : ℤ) → IsOfMask strips m i → Holds (box_of strips i) x y → covered_by m strips x y
covered_at strips m i x y h holds = (box_of strips i, area_there strips m i h, holds)

-- both ways of saying that the mask covers a cell
pub covered_by_family : (strips : List Placed) (m : ℕ) (x y : ℤ) → covered_by m strips x y ↔ family.CoveredBy (IsOfMask strips m) (box_of strips) x y
covered_by_family strips m x y = (
  λ c. let d = covered_from strips m x y c in record { number = d.0; holds = record { strip = d.1; cell = d.2 } },
  λ c. covered_at strips m c.number x y c.holds.strip c.holds.cell,
)

-- strips of some cells are the strips of what they cover
pub are_strips : (cells : ℕ → ℤ → ℤ → Type 0) (masks : ℕ) (strips : List Placed) → AreStripsOf cells masks strips → AreStrips strips
are_strips cells masks strips are = record {
  masks = masks;
  strips_are = record {
    on_masks = are.on_masks;
    nonempty = are.nonempty;
    same_cells = λ m x y below. (λ c. c, λ c. c);
    once = are.once;
    whole_runs = are.whole_runs;
    unstacked = are.unstacked;
    in_order = are.in_order;
  };
}

common_place : (b t b' t' : ℤ) → b <ℤ t → b' <ℤ t' → b <ℤ t' → b' <ℤ t → Within b t (int_max b b') × Within b' t' (int_max b b')
common_place b t b' t' h g k l = (
  record { from = omega (arith, ints, clamps); to = omega (arith, ints, clamps) },
  record { from = omega (arith, ints, clamps); to = omega (arith, ints, clamps) },
)

begins_in : (l r l' r' : ℤ) → l ≤ℤ l' → l' <ℤ r → l' <ℤ r' → Within l r l' × Within l' r' l'
begins_in l r l' r' h g k = (record { from = h; to = g }, record { from = omega (arith, ints); to = k })

at_end : (r l : ℤ) → l ≤ℤ r → r ≤ℤ l → l ≡ r
at_end r l h g = omega (arith, ints)

module _ (cells : ℕ → ℤ → ℤ → Type 0) (masks : ℕ) (strips : List Placed) (are : AreStripsOf cells masks strips) where
  -- two strips of a mask with a common row, of which the one doesn't begin before the other
  parted_after : (i j : ℕ) → AreOfOneMask strips i j → (y : ℤ) → Within (bottom_of strips i) (top_of strips i) y → Within (bottom_of strips j) (top_of strips j) y
      → left_of strips i ≤ℤ left_of strips j → (i ≡ j) ⊎ (right_of strips i <ℤ left_of strips j)
  parted_after i j one y h g order =
      let across = (are.nonempty j one.second).across in
      by_lt_z (right_of strips i) (left_of strips j)
      (λ l. inr l)
      (λ l. by_lt_z (left_of strips j) (right_of strips i)
      (λ k. let w = begins_in (left_of strips i) (right_of strips i) (left_of strips j) (right_of strips j) order k across in
      inl (are.once i j one (left_of strips j) y (record { column = w.0; row = h }) (record { column = w.1; row = g })))
      (λ k. absurd ((are.whole_runs i one.first y h).after
      (subst (λ z. covered_by (mask_of strips i) strips z y) (at_end (right_of strips i) (left_of strips j) l k)
      (covered_at strips (mask_of strips i) j (left_of strips j) y (record { below = one.second.below_count; of_mask = sym one.one_mask })
      (record { column = record { from = omega (arith, ints); to = across }; row = g }))))))

  -- two strips of a mask with a common row are one, or a column lies between them
  pub parted_in_row : (i j : ℕ) → AreOfOneMask strips i j → (y : ℤ) → Within (bottom_of strips i) (top_of strips i) y → Within (bottom_of strips j) (top_of strips j) y
      → (i ≡ j) ⊎ ((right_of strips i <ℤ left_of strips j) ⊎ (right_of strips j <ℤ left_of strips i))
  parted_in_row i j one y h g =
      by_lt_z (left_of strips i) (left_of strips j)
      (λ l. elim (parted_after i j one y h g (omega (arith, ints, l))) [ inl e ↦ inl e | inr k ↦ inr (inl k) ])
      (λ l. elim (parted_after j i (record { first = one.second; second = one.first; one_mask = sym one.one_mask }) y g h l) [ inl e ↦ inl (sym e) | inr k ↦ inr (inr k) ])

  -- the strips of a mask are a family
  pub is_family : (m : ℕ) → family.IsFamily (IsOfMask strips m) (box_of strips)
  is_family m = record {
    nonempty = λ i h. are.nonempty i (record { below_count = h.below });
    parted = λ i j h g rows.
        let w = common_place (bottom_of strips i) (top_of strips i) (bottom_of strips j) (top_of strips j)
        (are.nonempty i (record { below_count = h.below })).upwards (are.nonempty j (record { below_count = g.below })).upwards rows.first rows.second in
        parted_in_row i j (record { first = record { below_count = h.below }; second = record { below_count = g.below }; one_mask = h.of_mask ∙ sym g.of_mask }) _ w.0 w.1;
  }

  -- strip j stands on strip i of its mask, and does so in the family
  pub stands_in_family : (m i j : ℕ) → mask_of strips i ≡ m → StandsOn strips i j → family.StandsOn (IsOfMask strips m) (box_of strips) i j
  stands_in_family m i j e s =
      let one = s.strips_of_one_mask in
      record {
        lower = record { below = one.first.below_count; of_mask = e };
        upper = record { below = one.second.below_count; of_mask = sym one.one_mask ∙ e };
        adjoin = s.adjoin;
        over = columns (box_of strips i) (box_of strips j) s.over.common;
      }
    where
      columns : (a b : Rectangle) → int_max a.left b.left <ℤ int_min a.right b.right → family.ShareColumn a b
      columns a b h = record { first = omega (arith, ints, clamps); second = omega (arith, ints, clamps) }

  -- and the other way round
  pub stands_from_family : (m i j : ℕ) → family.StandsOn (IsOfMask strips m) (box_of strips) i j → StandsOn strips i j
  stands_from_family m i j s = record {
    strips_of_one_mask = record { first = record { below_count = s.lower.below }; second = record { below_count = s.upper.below }; one_mask = s.lower.of_mask ∙ sym s.upper.of_mask };
    adjoin = s.adjoin;
    over = record { common = columns (box_of strips i) (box_of strips j) (are.nonempty i (record { below_count = s.lower.below })) (are.nonempty j (record { below_count = s.upper.below })) s.over };
  }
    where
      columns : (a b : Rectangle) → IsNonempty a → IsNonempty b → family.ShareColumn a b → int_max a.left b.left <ℤ int_min a.right b.right
      columns a b h g s = omega (arith, ints, clamps)

  -- a climb is one of the family
  pub climb_in_family : (m i j : ℕ) → mask_of strips i ≡ m → IsClimbed strips i j → family.IsClimbed (IsOfMask strips m) (box_of strips) i j × (mask_of strips j ≡ m)
  climb_in_family m i j e (step _ s) = let t = stands_in_family m i j e s in (family.IsClimbed.step j t, t.upper.of_mask)
  climb_in_family m i j e (onward k _ c s) =
      let d = climb_in_family m i k e c in
      let t = stands_in_family m k j d.1 s in
      (family.IsClimbed.onward k j d.0 t, t.upper.of_mask)

  pub climb_from_family : (m i j : ℕ) → family.IsClimbed (IsOfMask strips m) (box_of strips) i j → IsClimbed strips i j
  climb_from_family m i j (family.IsClimbed.step _ s) = step j (stands_from_family m i j s)
  climb_from_family m i j (family.IsClimbed.onward k _ c s) = onward k j (climb_from_family m i k c) (stands_from_family m k j s)
