-- The layout of rectangles, each on its mask, in order, and of labels.
use Rattle.std.proofs.Common.{◌≡◌, ℕ, ◌-◌, ◌^◌, ◌<◌, ◌≤◌, ℤ, pos, negsuc, neg_ℤ, ◌≤ℤ◌, Bool, true, false, cond, ◌==◌, List, [], ◌∷◌, length, map, filter, get_or, All, refl, sym, ◌∙◌, ap, ap₂, arith, ⊎_elim}
use Rattle.std.specs.List.{AllZip, range_with_len}
use Rattle.std.proofs.Math.ListN.{get_or-eq_default}
use Rattle.std.proofs.lemmas.Bool.{cases_lt, eqb-true, false_from_ne_true}
use Rattle.std.proofs.lemmas.Int.{ints}
use Rattle.std.proofs.lemmas.List.FromFn.{get_or-map-range_with_len, length-map-range_with_len}
use Rattle.std.proofs.lemmas.List.Elements.{All-nil, All-cons, All-head, All-tail}
use Rattle.rt_base.specs.declared.plane.Rect.{Rect}
use Rattle.rt_base.specs.Plane.{area}
use Rattle.rt_cells.specs.Rectangles.{Rectangle, IsNonempty}
use Rattle.rt_layout.specs.declared.layout.Label.{Label}
use Rattle.rt_layout.specs.declared.layout.Layout.{Layout}
use Rattle.rt_tech.specs.declared.table.Tech.{Tech}
use Rattle.rt_tech.specs.Tech.{mask_count}
use Rattle.rt_strips.specs.Placed.{Placed, areas_of}
use Rattle.gds_stream.specs.declared.library.Element.{Element}
use Rattle.gds_slabs.specs.Steps.{IsWithin}
use Rattle.rt_written.specs.Written.{IsPolygonOf}
use Rattle.rt_written.specs.ReadBack.{IsInRange, IsLayoutOf}
use Rattle.rt_written.proofs.OneMask.{mask_below}

-- the rectangle has a cell, on a mask of so many, and a layout can have it
pub record IsDrawable (count : ℕ) (rectangle : Placed) : Type 0 where
  pub there : rectangle.mask < count
  pub nonempty : IsNonempty rectangle.area
  pub range : IsInRange rectangle

-- the rectangles of written polygons are so, where they are in range
pub polygons_drawable : (tech : Tech) (elements : List Element) (rectangles : List Placed) → AllZip (IsPolygonOf tech) elements rectangles → All IsInRange rectangles
    → All (IsDrawable (mask_count tech)) rectangles
polygons_drawable tech [] [] polygons range = All-nil (IsDrawable (mask_count tech))
polygons_drawable tech [] (r ∷ rs) polygons range = absurd polygons
polygons_drawable tech (e ∷ es) [] polygons range = absurd polygons
polygons_drawable tech (e ∷ es) (r ∷ rs) polygons range =
    let p : IsPolygonOf tech e r = polygons.0 in
    All-cons (IsDrawable (mask_count tech)) r rs
    (record { there = mask_below tech.masks p.layer p.datatype r.mask p.on_mask; nonempty = p.nonempty; range = All-head IsInRange r rs range })
    (polygons_drawable tech es rs polygons.1 (All-tail IsInRange r rs range))

-- ---- the rectangles of a mask

low_side : (a : ℤ) → neg_ℤ (pos (2 ^ 62 - 1)) ≤ℤ a → negsuc (2 ^ 62 - 2) ≤ℤ a
low_side a h = omega (arith, ints)

-- the rectangle as a layout has it
rect_of : (r : Rectangle) → IsNonempty r → IsWithin (pos (2 ^ 62 - 1)) r → Rect
rect_of r some within = record {
  x1 = r.left;
  y1 = r.bottom;
  x2 = r.right;
  y2 = r.top;
  across = some.across;
  upwards = some.upwards;
  from_left = low_side r.left within.left;
  to_right = within.right;
  from_bottom = low_side r.bottom within.bottom;
  to_top = within.top;
}

rect_is : (r : Rectangle) (some : IsNonempty r) (within : IsWithin (pos (2 ^ 62 - 1)) r) → area (rect_of r some within) ≡ r
unfolding rect_of
rect_is r some within = refl

-- the rectangles, as a layout has them
record AreRects (areas : List Rectangle) : Type 0 where
  rects : List Rect
  are : map area rects ≡ areas

kept : (b : Bool) (r : Placed) (rs : List Placed) (rect : Rect) → area rect ≡ r.area → AreRects (map (λ (p : Placed). p.area) rs)
    → AreRects (map (λ (p : Placed). p.area) (cond b (r ∷ rs) rs))
kept true r rs rect e rest = record { rects = rect ∷ rest.rects; are = ap₂ (λ (q : Rectangle) (qs : List Rectangle). q ∷ qs) e rest.are }
kept false r rs rect e rest = rest

rects_on : (count m : ℕ) (rectangles : List Placed) → All (IsDrawable count) rectangles → AreRects (areas_of m rectangles)
rects_on count m [] all = record { rects = []; are = refl }
rects_on count m (r ∷ rs) all =
    let d : IsDrawable count r = All-head (IsDrawable count) r rs all in
    kept (r.mask == m) r (filter (λ (p : Placed). p.mask == m) rs) (rect_of r.area d.nonempty d.range) (rect_is r.area d.nonempty d.range)
    (rects_on count m rs (All-tail (IsDrawable count) r rs all))

-- a mask that isn't there has none
none_there : (count m : ℕ) (rectangles : List Placed) → All (IsDrawable count) rectangles → count ≤ m → areas_of m rectangles ≡ []
none_there count m [] all over = refl
none_there count m (r ∷ rs) all over =
    let d : IsDrawable count r = All-head (IsDrawable count) r rs all in
    let low = d.there in
    let other : (r.mask == m) ≡ false = false_from_ne_true (r.mask == m) (λ e. let same = eqb-true r.mask m e in absurd (omega (arith, low, same, over))) in
    ap (λ (b : Bool). map (λ (p : Placed). p.area) (cond b (r ∷ filter (λ (p : Placed). p.mask == m) rs) (filter (λ (p : Placed). p.mask == m) rs))) other
    ∙ none_there count m rs (All-tail (IsDrawable count) r rs all) over

-- ---- the layout

module _ (tech : Tech) (rectangles : List Placed) (labels : List Label) (all : All (IsDrawable (mask_count tech)) rectangles) where
  abbrev mask : ℕ → List Rect
  mask m = (rects_on (mask_count tech) m rectangles all).rects

  abbrev masks : List (List Rect)
  masks = map mask (range_with_len 0 (mask_count tech))

  long : length masks ≡ mask_count tech
  long = length-map-range_with_len mask 0 (mask_count tech)

  there : (m : ℕ) → m < mask_count tech → map area (get_or masks m []) ≡ areas_of m rectangles
  there m h =
      ap (map area) (get_or-map-range_with_len mask 0 (mask_count tech) m m [] h (omega arith)) ∙ (rects_on (mask_count tech) m rectangles all).are

  beyond : (m : ℕ) → mask_count tech ≤ m → map area (get_or masks m []) ≡ areas_of m rectangles
  beyond m over =
      let e = long in
      ap (map area) (get_or-eq_default masks [] (omega (arith, e, over))) ∙ sym (none_there (mask_count tech) m rectangles all over)

  -- the layout has just these
  pub drawn : (layout : Layout) × IsLayoutOf tech rectangles labels layout
  drawn = (
    record { masks = masks; labels = labels },
    record {
      masks = long;
      rectangles_are = λ m. ⊎_elim (there m) (beyond m) (cases_lt m (mask_count tech));
      labels_are = refl;
    },
  )
