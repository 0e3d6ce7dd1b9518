-- A written cell is one structure that places nothing: what it covers on a mask is what the rectangles of the mask cover. Texts cover nothing.
use Rattle.std.proofs.Common.{◌≡◌, ℕ, ℤ, ◌⊎◌, Bool, true, false, cond, ◌==◌, List, [], ◌∷◌, ◌++◌, filter, Some, None, AllPairs, Contains, refl, sym, ◌∙◌, ap, subst, inl, inr, eq-eqb}
use Rattle.std.specs.List.{AllZip}
use Rattle.std.proofs.lemmas.Bool.{eqb-true}
use Rattle.std.proofs.lemmas.Slice.Eq.{bytes_eq-Decides}
use Rattle.rt_cells.specs.Rectangles.{Rectangle, Holds, Covers}
use Rattle.rt_cells.proofs.Lists.{mapped, mapped_from, filtered, filtered_from}
use Rattle.rt_layout.specs.declared.layout.Label.{Label}
use Rattle.rt_tech.specs.declared.table.Tech.{Tech}
use Rattle.rt_tech.specs.Tech.{AreDistinct}
use Rattle.rt_strips.specs.Placed.{Placed, areas_of}
use Rattle.gds_stream.specs.declared.library.Element.{Element}
use Rattle.gds_stream.specs.declared.library.Structure.{Structure}
use Rattle.gds_slabs.proofs.Members.{Among, among_from_contains, contains_from_among, among_append_left, among_append_cases}
use Rattle.gds_flat.specs.Reach.{Name, structure_named, target, is_named}
use Rattle.gds_flat.specs.Elements.{mask_of}
use Rattle.gds_flat.specs.Placing.{ElementCovers, Covered}
use Rattle.gds_flat.specs.Placing.Covered.{own, placed}
use Rattle.rt_written.specs.Written.{IsPolygonOf, IsTextOf}
use Rattle.rt_written.proofs.OnePolygon.{held, covered}
use Rattle.rt_written.proofs.OneMask.{mask_found}

-- ---- the structure

-- the one structure of the cell
abbrev pub the_structure : Name → List Element → Structure
the_structure name elements = record { name = name; elements = elements }

-- it is found by its name
pub structure_found : (name : Name) (elements : List Element) → structure_named (the_structure name elements ∷ []) name ≡ Some (the_structure name elements)
structure_found name elements = ap (λ (b : Bool). cond b (Some (the_structure name elements)) None) ((bytes_eq-Decides name name).1 refl)

only_found : (b : Bool) (t s : Structure) → cond b (Some t) None ≡ Some s → t ≡ s
only_found true t s e = cc
only_found false t s e = cc

-- ---- its elements

zip_left : {X Y : Type 0} (R : X → Y → Type 0) (xs : List X) (ys : List Y) (x : X) → AllZip R xs ys → Among xs x → (y : Y) × Among ys y × R x y
zip_left R [] ys x all at = absurd at
zip_left R (z ∷ xs) [] x all at = absurd all
zip_left {X} {Y} R (z ∷ xs) (y ∷ ys) x all (inl e) = (y, inl refl, subst (λ (t : X). R t y) e all.0)
zip_left R (z ∷ xs) (y ∷ ys) x all (inr at) = let f = zip_left R xs ys x all.1 at in (f.0, inr f.1, f.2)

zip_right : {X Y : Type 0} (R : X → Y → Type 0) (xs : List X) (ys : List Y) (y : Y) → AllZip R xs ys → Among ys y → (x : X) × Among xs x × R x y
zip_right R xs [] y all at = absurd at
zip_right R [] (z ∷ ys) y all at = absurd all
zip_right {X} {Y} R (x ∷ xs) (z ∷ ys) y all (inl e) = (x, inl refl, subst (λ (t : Y). R x t) e all.0)
zip_right R (x ∷ xs) (z ∷ ys) y all (inr at) = let f = zip_right R xs ys y all.1 at in (f.0, inr f.1, f.2)

module _ (tech : Tech) (apart : AllPairs AreDistinct tech.masks) (element : Element) (rectangle : Placed) (p : IsPolygonOf tech element rectangle) where
  -- the element is on the rectangle's mask
  on_mask : mask_of tech element ≡ Some rectangle.mask
  on_mask = ap (mask_of tech) p.is_polygon ∙ mask_found tech.masks p.layer p.datatype rectangle.mask apart p.on_mask

  places_none : target element ≡ None
  places_none = ap target p.is_polygon

  covers_held : (x y : ℤ) → ElementCovers element (x, y) → Holds rectangle.area x y
  covers_held x y h = held rectangle.area p.nonempty x y (subst (λ (e : Element). ElementCovers e (x, y)) p.is_polygon h)

  held_covers : (x y : ℤ) → Holds rectangle.area x y → ElementCovers element (x, y)
  held_covers x y h = subst (λ (e : Element). ElementCovers e (x, y)) (sym p.is_polygon) (covered rectangle.area p.nonempty x y h)

-- ---- the cells

one_some : (m n : ℕ) → Some m ≡ Some n → m ≡ n
one_some m n e = cc

-- a rectangle that holds the cell, on its mask
areas_cover : (m : ℕ) (rectangles : List Placed) (r : Placed) (x y : ℤ) → Among rectangles r → r.mask ≡ m → Holds r.area x y → Covers (areas_of m rectangles) x y
areas_cover m rectangles r x y at e holds = (
  r.area,
  mapped (λ (p : Placed). p.area) (filter (λ (p : Placed). p.mask == m) rectangles) r
      (filtered (λ (p : Placed). p.mask == m) rectangles r (contains_from_among rectangles r at) (eq-eqb r.mask m e)),
  holds,
)

module _ (tech : Tech) (apart : AllPairs AreDistinct tech.masks) (name : Name) (outlines notes : List Element) (rectangles : List Placed) (labels : List Label)
    (polygons : AllZip (IsPolygonOf tech) outlines rectangles) (texts : AllZip (IsTextOf tech) notes labels) where
  -- what the rectangles cover, the cell covers
  pub drawn_covered : (m : ℕ) (x y : ℤ) → Covers (areas_of m rectangles) x y → Covered (the_structure name (outlines ++ notes) ∷ []) tech name m (x, y)
  drawn_covered m x y h =
      let f = mapped_from (λ (p : Placed). p.area) (filter (λ (p : Placed). p.mask == m) rectangles) h.0 h.1 in
      let g = filtered_from (λ (p : Placed). p.mask == m) rectangles f.0 f.1 in
      let z = zip_right (IsPolygonOf tech) outlines rectangles f.0 polygons (among_from_contains rectangles f.0 g.0) in
      own (the_structure name (outlines ++ notes)) z.0 (structure_found name (outlines ++ notes))
      (contains_from_among (outlines ++ notes) z.0 (among_append_left outlines notes z.0 z.1))
      (on_mask tech apart z.0 f.0 z.2 ∙ ap Some (eqb-true (f.0).mask m g.1))
      (held_covers tech apart z.0 f.0 z.2 x y (subst (λ (r : Rectangle). Holds r x y) (sym f.2) h.2))

  -- an element of the cell is a polygon or a text
  element_cases : (s : Structure) (e : Element) → the_structure name (outlines ++ notes) ≡ s → Contains s.elements e → Among outlines e ⊎ Among notes e
  element_cases s e same has =
      among_append_cases outlines notes e (among_from_contains (outlines ++ notes) e (subst (λ (t : Structure). Contains t.elements e) (sym same) has))

  -- an element that covers a cell on a mask is a polygon
  by_element : (m : ℕ) (cell : ℤ × ℤ) (e : Element) → Among outlines e ⊎ Among notes e → mask_of tech e ≡ Some m → ElementCovers e cell
      → Covers (areas_of m rectangles) cell.0 cell.1
  by_element m cell e (inl k) at covers =
      let z = zip_left (IsPolygonOf tech) outlines rectangles e polygons k in
      areas_cover m rectangles z.0 cell.0 cell.1 z.1 (one_some (z.0).mask m (sym (on_mask tech apart e z.0 z.2) ∙ at))
      (covers_held tech apart e z.0 z.2 cell.0 cell.1 covers)
  by_element m cell e (inr k) at covers =
      let z = zip_left (IsTextOf tech) notes labels e texts k in
      absurd (subst (λ (t : Element). ElementCovers t cell) (z.2).is_text covers)

  -- none places a structure
  none_placed : (e : Element) → Among outlines e ⊎ Among notes e → target e ≡ None
  none_placed e (inl k) = let z = zip_left (IsPolygonOf tech) outlines rectangles e polygons k in places_none tech apart e z.0 z.2
  none_placed e (inr k) = let z = zip_left (IsTextOf tech) notes labels e texts k in ap target (z.2).is_text

  -- and nothing else
  pub covered_drawn : {n : Name} {m : ℕ} {cell : ℤ × ℤ} → Covered (the_structure name (outlines ++ notes) ∷ []) tech n m cell
      → Covers (areas_of m rectangles) cell.0 cell.1
  covered_drawn {n = n} {m = m} {cell = cell} (own s e found has at covers) =
      let same = only_found (is_named n (the_structure name (outlines ++ notes))) (the_structure name (outlines ++ notes)) s found in
      by_element m cell e (element_cases s e same has) at covers
  covered_drawn {n = n} {m = m} {cell = cell} (placed s e to steps step from found has is of among within moved) =
      let same = only_found (is_named n (the_structure name (outlines ++ notes))) (the_structure name (outlines ++ notes)) s found in
      let none = none_placed e (element_cases s e same has) in
      cc
