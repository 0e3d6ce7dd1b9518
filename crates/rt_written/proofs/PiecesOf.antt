-- The pieces of what is written: the rectangles and then the labels, on their masks and in order.
use Rattle.std.proofs.Common.{◌≡◌, ℕ, Bool, true, false, nat_eq, cond, List, [], ◌∷◌, ◌++◌, map, filter, Some, None, AllPairs, refl, sym, ◌∙◌, ap, subst}
use Rattle.std.specs.List.{AllZip, cons_option}
use Rattle.rt_cells.specs.Rectangles.{Rectangle, IsNonempty}
use Rattle.rt_layout.specs.declared.layout.Label.{Label}
use Rattle.rt_tech.specs.declared.table.Tech.{Tech}
use Rattle.rt_tech.specs.Tech.{AreDistinct}
use Rattle.rt_strips.specs.Placed.{Placed, areas_of}
use Rattle.gds_stream.specs.declared.library.Element.{Element}
use Rattle.gds_stream.specs.declared.library.Element.TheVariants.{Boundary, Label as Text}
use Rattle.gds_stream.specs.declared.library.Structure.{Structure}
use Rattle.gds_flat.specs.Items.{Piece, area_piece, note_piece, AreSlabPieces, PiecesOf, marks_of, areas_on}
use Rattle.gds_flat.specs.Items.PiecesOf.{none, own}
use Rattle.gds_flat.proofs.PiecesThere.{own_some}
use Rattle.rt_written.specs.Written.{corners_of, IsPolygonOf, IsTextOf}
use Rattle.rt_written.proofs.OnePolygon.{corners_slab}
use Rattle.rt_written.proofs.OneMask.{mask_found, note_found}

-- the elements give pieces that are the rectangles on each mask, and the labels
pub record GiveThese (library : List Structure) (tech : Tech) (elements : List Element) (rectangles : List Placed) (labels : List Label) : Type 0 where
  pub pieces : List Piece
  pub of : PiecesOf library tech elements pieces
  pub areas : (m : ℕ) → areas_on m pieces ≡ areas_of m rectangles
  pub marks : marks_of pieces ≡ labels

-- ---- labels

-- a text on another mask or on this one is no rectangle of it
no_area : (b : Bool) (areas : List Rectangle) → cons_option (cond b None None) areas ≡ areas
no_area true areas = refl
no_area false areas = refl

-- texts give their labels
texts_give : (library : List Structure) (tech : Tech) (notes : List Element) (labels : List Label) → AllZip (IsTextOf tech) notes labels
    → GiveThese library tech notes [] labels
texts_give library tech [] [] texts = record { pieces = []; of = none; areas = λ m. refl; marks = refl }
texts_give library tech [] (l ∷ ls) texts = absurd texts
texts_give library tech (e ∷ es) [] texts = absurd texts
texts_give library tech (e ∷ es) (l ∷ ls) texts =
    let t : IsTextOf tech e l = texts.0 in
    let rest : GiveThese library tech es [] ls = texts_give library tech es ls texts.1 in
    let text : Element = Text t.offset t.layer t.texttype (record { x = l.at.0; y = l.at.1 }) l.text in
    let piece : Piece = note_piece t.offset l.mask (record { x = l.at.0; y = l.at.1 }) l.text in
    let P : Element → Type 0 = λ x. PiecesOf library tech (x ∷ es) (piece ∷ rest.pieces) in
    record {
      pieces = piece ∷ rest.pieces;
      of = subst P (sym t.is_text)
          (own text (piece ∷ []) rest.pieces refl
          (own_some tech text l.mask (piece ∷ []) (note_found tech.masks t.layer t.texttype l.mask t.on_mask) refl)
          rest.of refl);
      areas = λ m. no_area (nat_eq l.mask m) (areas_on m rest.pieces) ∙ rest.areas m;
      marks = ap (λ (marks : List Label). l ∷ marks) rest.marks;
    }

-- ---- polygons

polygon_piece : (offset mask : ℕ) (r : Rectangle) → IsNonempty r → AreSlabPieces offset mask (corners_of r) (area_piece offset mask r ∷ [])
polygon_piece offset mask r some = record { rects = r ∷ []; slabs = corners_slab r some; are = refl }

area_kept : (b : Bool) (p : Placed) (areas : List Rectangle) (kept : List Placed) → areas ≡ map (λ (p : Placed). p.area) kept
    → cons_option (cond b (Some p.area) None) areas ≡ map (λ (p : Placed). p.area) (cond b (p ∷ kept) kept)
area_kept true p areas kept e = ap (λ rs. p.area ∷ rs) e
area_kept false p areas kept e = e

-- polygons round rectangles, and texts behind them, give these
pub elements_give : (library : List Structure) (tech : Tech) → AllPairs AreDistinct tech.masks → (outlines notes : List Element) (rectangles : List Placed)
    (labels : List Label) → AllZip (IsPolygonOf tech) outlines rectangles → AllZip (IsTextOf tech) notes labels
    → GiveThese library tech (outlines ++ notes) rectangles labels
elements_give library tech apart [] notes [] labels polygons texts = texts_give library tech notes labels texts
elements_give library tech apart [] notes (r ∷ rs) labels polygons texts = absurd polygons
elements_give library tech apart (e ∷ es) notes [] labels polygons texts = absurd polygons
elements_give library tech apart (e ∷ es) notes (r ∷ rs) labels polygons texts =
    let p : IsPolygonOf tech e r = polygons.0 in
    let rest : GiveThese library tech (es ++ notes) rs labels = elements_give library tech apart es notes rs labels polygons.1 texts in
    let piece : Piece = area_piece p.offset r.mask r.area in
    let boundary : Element = Boundary p.offset p.layer p.datatype (corners_of r.area) in
    let P : Element → Type 0 = λ x. PiecesOf library tech (x ∷ (es ++ notes)) (piece ∷ rest.pieces) in
    record {
      pieces = piece ∷ rest.pieces;
      of = subst P (sym p.is_polygon)
          (own boundary (piece ∷ []) rest.pieces refl
          (own_some tech boundary r.mask (piece ∷ []) (mask_found tech.masks p.layer p.datatype r.mask apart p.on_mask)
          (polygon_piece p.offset r.mask r.area p.nonempty))
          rest.of refl);
      areas = λ m. area_kept (nat_eq r.mask m) r (areas_on m rest.pieces) (filter (λ (p : Placed). nat_eq p.mask m) rs) (rest.areas m);
      marks = rest.marks;
    }
