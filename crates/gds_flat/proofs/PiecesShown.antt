-- The rectangles of polygons and paths as pieces, which are near the axes.
use Rattle.std.proofs.Common.{◌≡◌, ℕ, suc, ℤ, List, [], ◌∷◌, ◌++◌, map, Some, All, Result, Ok, Err, OnOk, refl, ap, subst, ◌∙◌, arith}
use Rattle.std.proofs.lemmas.List.{map-append}
use Rattle.std.proofs.lemmas.List.Elements.{All-nil, All-cons}
use Rattle.rt_base.specs.declared.plane.Point.{Point}
use Rattle.rt_base.specs.declared.plane.Rect.{Rect}
use Rattle.rt_base.specs.Plane.{area}
use Rattle.rt_cells.specs.Rectangles.{Rectangle}
use Rattle.gds_slabs.specs.declared.path.PathEnd.{PathEnd}
use Rattle.gds_slabs.specs.Slabs.{IsSlabs, IsOnlySlab}
use Rattle.gds_slabs.specs.Path.{path_areas, half_of}
use Rattle.gds_slabs.specs.Steps.{IsWithin, AreInReach}
use Rattle.gds_flat.specs.declared.item.Drawn.TheVariants.{Note}
use Rattle.gds_flat.specs.declared.item.Item.{Item}
use Rattle.gds_flat.specs.Items.{area_piece, note_piece, AreSlabPieces, ArePathPieces}
use Rattle.gds_flat.specs.Elements.{end_of}
use Rattle.gds_flat.specs.Drawn.{piece_of, pieces_in}
use Rattle.gds_flat.specs.Building.{SpotWithin, IsNotePiece, PieceWithin, reach_of, area_item, Appends, AreNearAnd}

areas_in : (offset mask : ℕ) (rects : List Rect) → pieces_in (map (area_item offset mask) rects) ≡ map (area_piece offset mask) (map area rects)
areas_in offset mask [] = refl
areas_in offset mask (r ∷ rects) = ap (λ ps. area_piece offset mask (area r) ∷ ps) (areas_in offset mask rects)

areas_appended : (offset mask : ℕ) (rects : List Rect) (areas : List Rectangle) (old new : List Item) → map area rects ≡ areas
    → new ≡ old ++ map (area_item offset mask) rects → pieces_in new ≡ pieces_in old ++ map (area_piece offset mask) areas
areas_appended offset mask rects areas old new same is =
    ap pieces_in is ∙ map-append piece_of old (map (area_item offset mask) rects)
    ∙ ap (λ ps. pieces_in old ++ ps) (areas_in offset mask rects ∙ ap (map (area_piece offset mask)) same)

pieces_near : (offset mask : ℕ) (rects : List Rectangle) → All (IsWithin (reach_of 0)) rects → All (PieceWithin (reach_of 0)) (map (area_piece offset mask) rects)
pieces_near offset mask [] h = All-nil (PieceWithin (reach_of 0))
pieces_near offset mask (r ∷ rects) h =
    All-cons (PieceWithin (reach_of 0)) (area_piece offset mask r) (map (area_piece offset mask) rects) (record { within = head }) (pieces_near offset mask rects (λ i d b. h (suc i) d (omega arith)))
  where
    head : IsWithin (reach_of 0) r
    head = h 0 r (omega arith)

-- the pieces of a polygon are appended
pub polygon_appended : {T E : Type 0} (r : Result T E) (offset mask : ℕ) (points : List Point) (rects shown : List Rect) (old new : List Item)
    → IsSlabs points (map area rects) → AreInReach rects → shown ≡ rects → OnOk r (new ≡ old ++ map (area_item offset mask) shown)
    → OnOk r (Appends (AreNearAnd (AreSlabPieces offset mask points)) old new)
polygon_appended (Err e) offset mask points rects shown old new slabs near same h = tt
polygon_appended (Ok x) offset mask points rects shown old new slabs near same h = record {
  more = map (area_piece offset mask) (map area rects);
  appended = areas_appended offset mask shown (map area rects) old new (ap (map area) same) h;
  are = record {
    are = record { rects = map area rects; slabs = slabs; are = refl };
    near = pieces_near offset mask (map area rects) near.near;
  };
}

-- the piece of a polygon that is one rectangle is appended
pub rectangle_appended : {T E : Type 0} (r : Result T E) (offset mask : ℕ) (points : List Point) (rect : Rect) (old new : List Item)
    → IsOnlySlab points rect → OnOk r (new ≡ old ++ area_item offset mask rect ∷ []) → OnOk r (Appends (AreNearAnd (AreSlabPieces offset mask points)) old new)
rectangle_appended r offset mask points rect old new is h =
    let near : All (IsWithin (reach_of 0)) (area rect ∷ []) = All-cons (IsWithin (reach_of 0)) (area rect) [] is.near (All-nil (IsWithin (reach_of 0))) in
    polygon_appended r offset mask points (rect ∷ []) (rect ∷ []) old new is.only (record { near = near }) refl h

-- the piece of a label is appended
pub label_appended : (offset mask : ℕ) (at : Point) (text shown : List ℕ) (x y : ℤ) (old new : List Item) → SpotWithin (reach_of 0) (at.x, at.y)
    → x ≡ at.x → y ≡ at.y → shown ≡ text → new ≡ old ++ record { offset = offset; mask = mask; drawn = Note (x, y) shown } ∷ []
    → Appends (AreNearAnd (IsNotePiece offset mask at text)) old new
label_appended offset mask at text shown x y old new near across up same is =
    let piece = note_piece offset mask at text in
    record {
      more = piece ∷ [];
      appended = ap pieces_in is ∙ map-append piece_of old (record { offset = offset; mask = mask; drawn = Note (x, y) shown } ∷ []) ∙ rw (across, up, same) refl;
      are = record {
        are = refl;
        near = All-cons (PieceWithin (reach_of 0)) piece [] (record { within = near }) (All-nil (PieceWithin (reach_of 0)));
      };
    }

-- the pieces of a path are appended
pub path_appended : {T E : Type 0} (r : Result T E) (offset mask : ℕ) (pathtype width : ℤ) (points : List Point) (end : PathEnd) (rects shown : List Rect) (old new : List Item)
    → AreInReach rects → end_of pathtype ≡ Some end → map area rects ≡ path_areas (half_of width) end points → shown ≡ rects
    → OnOk r (new ≡ old ++ map (area_item offset mask) shown) → OnOk r (Appends (AreNearAnd (ArePathPieces offset mask pathtype width points)) old new)
path_appended (Err e) offset mask pathtype width points end rects shown old new near ends are same h = tt
path_appended (Ok x) offset mask pathtype width points end rects shown old new near ends are same h =
    let areas = path_areas (half_of width) end points in
    let Near : List Rectangle → Type 0 = λ rs. All (IsWithin (reach_of 0)) rs in
    record {
      more = map (area_piece offset mask) areas;
      appended = areas_appended offset mask shown areas old new (ap (map area) same ∙ are) h;
      are = record {
        are = record { end = end; ends = ends; are = refl };
        near = pieces_near offset mask areas (subst Near are near.near);
      };
    }
