-- What is written is read back.
use Rattle.std.proofs.Common.{◌≡◌, ℕ, List, [], ◌∷◌, ◌++◌, refl, sym, ◌∙◌, ap, subst}
use Rattle.std.specs.List.{AllZip}
use Rattle.rt_cells.specs.Rectangles.{Rectangle, Covers}
use Rattle.rt_layout.specs.declared.layout.Label.{Label}
use Rattle.rt_layout.specs.declared.layout.Layout.{Layout}
use Rattle.rt_layout.specs.Covering.{MaskCovers}
use Rattle.rt_tech.specs.declared.table.Tech.{Tech}
use Rattle.rt_tech.specs.Tech.{IsMeasured}
use Rattle.rt_strips.specs.Placed.{Placed, covered_by}
use Rattle.rt_rules.proofs.Alike.{AreAlike, breaks_none_alike}
use Rattle.gds_stream.specs.declared.library.Element.{Element}
use Rattle.gds_stream.specs.declared.library.Structure.{Structure}
use Rattle.gds_flat.specs.Items.{Pieces, marks_of, areas_on, Flat}
use Rattle.gds_flat.specs.Reach.{Name, structure_named}
use Rattle.gds_flat.proofs.PiecesOne.{pieces_one}
use Rattle.rt_written.specs.Written.{IsPolygonOf, IsTextOf}
use Rattle.rt_written.specs.ReadBack.{IsLayoutOf}
use Rattle.rt_written.specs.Laws.{FlatIsTheDrawing, DrawingIsFlat, WrittenReadsBack, StreamReadsBack, LayoutCoversAlike, LayoutKeepsRules, FlatKeepsRules}
use Rattle.rt_written.proofs.PiecesOf.{GiveThese, elements_give}
use Rattle.rt_written.proofs.OneCell.{the_structure, structure_found, drawn_covered, covered_drawn}
use Rattle.rt_written.proofs.Drawn.{polygons_drawable, drawn}
use Rattle.rt_written.proofs.InRange.{written_in_range}

-- the pieces of the cell are those that its elements give
cell_pieces : (library : List Structure) (tech : Tech) (name : Name) (elements : List Element) (rectangles : List Placed) (labels : List Label)
    → library ≡ the_structure name elements ∷ [] → (give : GiveThese library tech elements rectangles labels) → Pieces library tech name give.pieces
cell_pieces library tech name elements rectangles labels one give = record {
  structure = the_structure name elements;
  found = ap (λ (l : List Structure). structure_named l name) one ∙ structure_found name elements;
  are = give.of;
}

-- whatever the written cell flattens to is the drawing
pub flat_is_the_drawing : FlatIsTheDrawing
flat_is_the_drawing tech library name rectangles labels measured written layout flat =
    let give = elements_give library.structures tech measured.apart written.outlines written.notes rectangles labels written.polygons written.texts in
    let same = pieces_one library.structures tech name flat.pieces give.pieces flat.are
    (cell_pieces library.structures tech name (written.outlines ++ written.notes) rectangles labels written.one_structure give) in
    record {
      masks = flat.masks;
      rectangles_are = λ m. flat.rectangles m ∙ ap (areas_on m) same ∙ give.areas m;
      labels_are = flat.labels ∙ ap marks_of same ∙ give.marks;
    }

-- a layout of the rectangles and labels is flat
flat_of : (tech : Tech) → IsMeasured tech → (name : Name) (outlines notes : List Element) (rectangles : List Placed) (labels : List Label)
    → AllZip (IsPolygonOf tech) outlines rectangles → AllZip (IsTextOf tech) notes labels → (layout : Layout) → IsLayoutOf tech rectangles labels layout
    → Flat (the_structure name (outlines ++ notes) ∷ []) tech name layout
flat_of tech measured name outlines notes rectangles labels polygons texts layout is =
    let library : List Structure = the_structure name (outlines ++ notes) ∷ [] in
    let give : GiveThese library tech (outlines ++ notes) rectangles labels =
    elements_give library tech measured.apart outlines notes rectangles labels polygons texts in
    record {
      pieces = give.pieces;
      are = cell_pieces library tech name (outlines ++ notes) rectangles labels refl give;
      labels = is.labels_are ∙ sym give.marks;
      masks = is.masks;
      cells = λ m x y. (
        λ h. drawn_covered tech measured.apart name outlines notes rectangles labels polygons texts m x y
            (subst (λ (rs : List Rectangle). Covers rs x y) (is.rectangles_are m) h),
        λ h. subst (λ (rs : List Rectangle). Covers rs x y) (sym (is.rectangles_are m))
            (covered_drawn tech measured.apart name outlines notes rectangles labels polygons texts h),
      );
      rectangles = λ m. is.rectangles_are m ∙ sym (give.areas m);
    }

-- each layout of the rectangles and labels is what the written cell flattens to
pub drawing_is_flat : DrawingIsFlat
drawing_is_flat tech library name rectangles labels measured written layout is =
    subst (λ (l : List Structure). Flat l tech name layout) (sym written.one_structure)
    (flat_of tech measured name written.outlines written.notes rectangles labels written.polygons written.texts layout is)

-- the written cell flattens to the drawing
pub written_reads_back : WrittenReadsBack
written_reads_back tech library name rectangles labels measured written range =
    let d = drawn tech rectangles labels (polygons_drawable tech written.outlines rectangles written.polygons range) in
    record { layout = d.0; flat = drawing_is_flat tech library name rectangles labels measured written d.0 d.1; is = d.1 }

-- so it does where bytes hold it
pub stream_reads_back : StreamReadsBack
stream_reads_back tech bytes library name rectangles labels measured stream written =
    written_reads_back tech library name rectangles labels measured written (written_in_range tech bytes library name rectangles labels stream written)

-- a layout of rectangles covers what they cover
pub layout_covers_alike : LayoutCoversAlike
layout_covers_alike tech rectangles labels layout is m x y = (
  λ h. subst (λ (rs : List Rectangle). Covers rs x y) (is.rectangles_are m) h,
  λ h. subst (λ (rs : List Rectangle). Covers rs x y) (sym (is.rectangles_are m)) h,
)

-- a layout of rectangles that break no rule breaks none
pub layout_keeps_rules : LayoutKeepsRules
layout_keeps_rules unit tech pairs rectangles labels layout none is =
    breaks_none_alike unit tech pairs (λ m. covered_by m rectangles) (MaskCovers layout) (λ m h. alike m) none
  where
    alike : (m : ℕ) → AreAlike (covered_by m rectangles) (MaskCovers layout m)
    alike m = record {
      to = λ x y h. (layout_covers_alike tech rectangles labels layout is m x y).1 h;
      from = λ x y h. (layout_covers_alike tech rectangles labels layout is m x y).0 h;
    }

-- and so does whatever the written cell flattens to
pub flat_keeps_rules : FlatKeepsRules
flat_keeps_rules unit tech pairs library name rectangles labels measured written none layout flat =
    layout_keeps_rules unit tech pairs rectangles labels layout none (flat_is_the_drawing tech library name rectangles labels measured written layout flat)
