-- The layout that a written cell draws.
use Rattle.std.proofs.Common.{◌≡◌, ℕ, suc, zero, ◌+◌, ◌<◌, ℤ, pos, List, [], ◌∷◌, length, map, Some, None, Option, AllPairs, refl, sym, ap, ◌∙◌, subst, arith}
use Rattle.std.specs.Prelude.{slice_get, unwrap_or}
use Rattle.std.specs.List.{AllZip, AllByRecursion}
use Rattle.rt_cells.specs.Rectangles.{IsNonempty}
use Rattle.gds_stream.specs.declared.cell.Flat.{Flat}
use Rattle.gds_stream.specs.declared.library.Element.{Element}
use Rattle.gds_stream.specs.declared.library.Library.{Library}
use Rattle.gds_stream.specs.Written.{IsMadeOf, IsLabelOf, OneCell}
use Rattle.rt_layout.specs.declared.layout.Label.{Label}
use Rattle.rt_tech.specs.declared.table.Mask.{Mask}
use Rattle.rt_tech.specs.declared.table.Tech.{Tech}
use Rattle.rt_tech.specs.Tech.{mask_at, mask_count, DoNotClash}
use Rattle.rt_rows.specs.declared.row.Var.{Var}
use Rattle.rt_strips.specs.Placed.{Placed, mask_of}
use Rattle.rt_template.specs.Drawing.{drawn_area, drawn_from}
use Rattle.rt_carry.specs.Shapes.{shape_of, layer_of_mask, datatype_of_mask}
use Rattle.rt_carry.specs.Texts.{pair_of_notes, note_of, IsNoted, IsDrawnLabel}
use Rattle.rt_written.specs.Written.{IsMaskOfPair, IsMaskOfNote, IsPolygonOf, IsTextOf, IsWrittenAs}
use Rattle.rt_written.proofs.OneMask.{note_alone}

-- ---- labels

-- no other mask of a table has the layer and the text type of a label's mask
note_there : (tech : Tech) → AllPairs DoNotClash tech.masks → (label : Label) → IsNoted tech label
    → IsMaskOfNote tech (pair_of_notes (mask_at tech label.mask)).0 (pair_of_notes (mask_at tech label.mask)).1 label.mask
note_there tech apart label n =
    let pair : pair_of_notes (mask_at tech label.mask) ≡ n.pair =
    ap pair_of_notes n.there ∙ ap (λ (o : Option (ℤ × ℤ)). unwrap_or o (pos 0, pos 0)) n.noted in
    subst (λ (p : ℤ × ℤ). IsMaskOfNote tech p.0 p.1 label.mask) (sym pair) (note_alone tech.masks (n.pair).0 (n.pair).1 label.mask n.mask apart n.there n.noted)

-- texts of labels are written as these labels
written_texts : (tech : Tech) → AllPairs DoNotClash tech.masks → (notes : List Element) (labels : List Label) → AllZip IsLabelOf notes (map (note_of tech) labels)
    → AllByRecursion (IsNoted tech) labels → AllZip (IsTextOf tech) notes labels
written_texts tech apart [] [] a b = tt
written_texts tech apart [] (l ∷ labels) a b = absurd a
written_texts tech apart (e ∷ notes) [] a b = absurd a
written_texts tech apart (e ∷ notes) (l ∷ labels) a b = (
  record {
    offset = (a.0).0;
    layer = (pair_of_notes (mask_at tech l.mask)).0;
    texttype = (pair_of_notes (mask_at tech l.mask)).1;
    is_text = (a.0).1;
    on_mask = note_there tech apart l b.0;
  },
  written_texts tech apart notes labels a.1 b.1,
)

-- a label is drawn on its mask, so its mask in the table has a text pair where the label's has
pub drawn_noted : (tech : Tech) (grid : ℤ) (strips : List Placed) (at : Var → ℤ) (labels drawn : List Label) → AllZip (IsDrawnLabel grid strips at) labels drawn
    → AllByRecursion (IsNoted tech) labels → AllByRecursion (IsNoted tech) drawn
drawn_noted tech grid strips at [] [] a b = tt
drawn_noted tech grid strips at [] (d ∷ drawn) a b = absurd a
drawn_noted tech grid strips at (l ∷ labels) [] a b = absurd a
drawn_noted tech grid strips at (l ∷ labels) (d ∷ drawn) a b =
    let of : IsDrawnLabel grid strips at l d = a.0 in
    let n : IsNoted tech l = b.0 in (
      record { mask = n.mask; there = ap (λ (x : Label). mask_at tech x.mask) of.is ∙ n.there; pair = n.pair; noted = n.noted },
      drawn_noted tech grid strips at labels drawn a.1 b.1,
    )

-- ---- rectangles

-- a rectangle on a mask of the table, with a cell
pub record IsDrawable (tech : Tech) (rectangle : Placed) : Type 0 where
  pub there : rectangle.mask < mask_count tech
  pub nonempty : IsNonempty rectangle.area

there_is_some : (masks : List Mask) (m : ℕ) → m < length masks → slice_get masks m ≡ None → ⊥
there_is_some [] m h e = absurd (omega arith)
there_is_some (mask ∷ masks) zero h e = cc
there_is_some (mask ∷ masks) (suc m) h e = there_is_some masks m (omega arith) e

pair_there : (tech : Tech) (m : ℕ) → m < mask_count tech → IsMaskOfPair tech (layer_of_mask (mask_at tech m)) (datatype_of_mask (mask_at tech m)) m
pair_there tech m h = found (mask_at tech m) refl
  where
    found : (o : Option Mask) → mask_at tech m ≡ o → IsMaskOfPair tech (layer_of_mask (mask_at tech m)) (datatype_of_mask (mask_at tech m)) m
    found (Some mask) e = record { mask = mask; is_mask = e; pair = rw e refl }
    found None e = absurd (there_is_some tech.masks m h e)

drawn_polygon : (tech : Tech) (element : Element) (rectangle : Placed) → IsMadeOf element (shape_of tech rectangle) → IsDrawable tech rectangle → IsPolygonOf tech element rectangle
drawn_polygon tech element rectangle made is = record {
  offset = made.0;
  layer = layer_of_mask (mask_at tech rectangle.mask);
  datatype = datatype_of_mask (mask_at tech rectangle.mask);
  is_polygon = made.1;
  on_mask = pair_there tech rectangle.mask is.there;
  nonempty = is.nonempty;
}

drawn_polygons : (tech : Tech) (elements : List Element) (drawing : List Placed) → AllZip IsMadeOf elements (map (shape_of tech) drawing) → AllByRecursion (IsDrawable tech) drawing → AllZip (IsPolygonOf tech) elements drawing
drawn_polygons tech [] [] a b = tt
drawn_polygons tech [] (p ∷ drawing) a b = absurd a
drawn_polygons tech (e ∷ elements) [] a b = absurd a
drawn_polygons tech (e ∷ elements) (p ∷ drawing) a b = (drawn_polygon tech e p a.0 b.0, drawn_polygons tech elements drawing a.1 b.1)

-- a cell of a drawing is written as its rectangles and its labels
pub drawn_layout : (tech : Tech) (library : Library) (cell : Flat) (drawing : List Placed) (labels : List Label) → OneCell library cell
    → AllPairs DoNotClash tech.masks → cell.shapes ≡ map (shape_of tech) drawing → cell.texts ≡ map (note_of tech) labels
    → AllByRecursion (IsDrawable tech) drawing → AllByRecursion (IsNoted tech) labels → IsWrittenAs tech library cell.name drawing labels
drawn_layout tech library cell drawing labels one apart shapes texts all noted = record {
  outlines = one.drawn;
  notes = one.labels;
  one_structure = ap (λ (l : Library). l.structures) one.is_library;
  polygons = drawn_polygons tech one.drawn drawing (subst (AllZip IsMadeOf one.drawn) shapes one.are_shapes) all;
  texts = written_texts tech apart one.labels labels (subst (AllZip IsLabelOf one.labels) texts one.are_texts) noted;
}

-- each rectangle of a drawing can be drawn, where its mask is there and its area has a cell
pub drawables : (tech : Tech) (grid : ℤ) (at : Var → ℤ) (n : ℕ) (strips : List Placed)
    → ((i : ℕ) → i < length strips → mask_of strips i < mask_count tech)
    → ((i : ℕ) → i < length strips → IsNonempty (drawn_area grid at (n + i)))
    → AllByRecursion (IsDrawable tech) (drawn_from grid at n strips)
drawables tech grid at n [] masks areas = tt
drawables tech grid at n (strip ∷ strips) masks areas = (
  record { there = masks 0 (omega arith); nonempty = subst (λ (k : ℕ). IsNonempty (drawn_area grid at k)) (n_plus_zero n) (areas 0 (omega arith)) },
  drawables tech grid at (suc n) strips
      (λ i h. masks (suc i) (omega arith))
      (λ i h. subst (λ (k : ℕ). IsNonempty (drawn_area grid at k)) (n_plus_suc n i) (areas (suc i) (omega arith))),
)
  where
    n_plus_zero : (n : ℕ) → n + 0 ≡ n
    n_plus_zero n = omega arith

    n_plus_suc : (n i : ℕ) → n + suc i ≡ suc n + i
    n_plus_suc n i = omega arith
