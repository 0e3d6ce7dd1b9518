-- The rectangles and labels that a structure gives, in order, and the flat layout of them.
use Rattle.std.specs.Prelude.{◌≡◌, ℕ, ◌≤◌, ◌↔◌, ℤ, List, [], ◌∷◌, ◌++◌, length, map, Option, Some, None, MatchOption, All, unsigned_abs, nat_eq, cond}
use Rattle.std.specs.List.{flat_map, filter_map}
use Rattle.rt_base.specs.declared.plane.Point.{Point}
use Rattle.rt_base.specs.Plane.{area}
use Rattle.rt_cells.specs.Rectangles.{Rectangle}
use Rattle.rt_tech.specs.declared.table.Tech.{Tech}
use Rattle.rt_layout.specs.declared.layout.Layout.{Layout}
use Rattle.rt_layout.specs.declared.layout.Label.{Label as Mark}
use Rattle.rt_layout.specs.Covering.{MaskCovers, rectangles_of}
use Rattle.gds_stream.specs.declared.library.Element.{Element}
use Rattle.gds_stream.specs.declared.library.Element.TheVariants.{Boundary, Path, Sref, Aref, Label, BoxShape}
use Rattle.gds_stream.specs.declared.library.Structure.{Structure}
use Rattle.gds_slabs.specs.declared.step.Step.{Step}
use Rattle.gds_slabs.specs.declared.path.PathEnd.{PathEnd}
use Rattle.gds_slabs.specs.Slabs.{IsSlabs}
use Rattle.gds_slabs.specs.Path.{path_areas, half_of}
use Rattle.gds_slabs.specs.Steps.{moved_point, moved_rect}
use Rattle.gds_flat.specs.declared.limits.TheConstants.{FARTHEST}
use Rattle.gds_flat.specs.Reach.{Name, structure_named, target}
use Rattle.gds_flat.specs.Elements.{mask_of, end_of}
use Rattle.gds_flat.specs.Placing.{StepsOf, Covered}

-- what an item draws: a rectangle, or a text at a point
pub data Drawing : Type 0 where
  area_of : Rectangle → Drawing
  note_at : ℤ × ℤ → List ℕ → Drawing

-- a rectangle or a label on a mask, with the offset of the element that gives it
pub record Piece : Type 0 where
  pub offset : ℕ
  pub mask : ℕ
  pub drawing : Drawing

-- a rectangle as an item
abbrev pub area_piece : ℕ → ℕ → Rectangle → Piece
area_piece offset mask r = record { offset = offset; mask = mask; drawing = area_of r }

-- a label as an item
abbrev pub note_piece : ℕ → ℕ → Point → List ℕ → Piece
note_piece offset mask at text = record { offset = offset; mask = mask; drawing = note_at (at.x, at.y) text }

-- the rectangles of a polygon as items
pub record AreSlabPieces (offset mask : ℕ) (points : List Point) (pieces : List Piece) : Type 0 where
  pub rects : List Rectangle
  pub slabs : IsSlabs points rects
  pub are : pieces ≡ map (area_piece offset mask) rects

-- the rectangles of a path as items
pub record ArePathPieces (offset mask : ℕ) (pathtype width : ℤ) (points : List Point) (pieces : List Piece) : Type 0 where
  pub end : PathEnd
  pub ends : end_of pathtype ≡ Some end
  pub are : pieces ≡ map (area_piece offset mask) (path_areas (half_of width) end points)

-- the items that an element on the mask gives by itself
abbrev pub GivesOn : Element → ℕ → List Piece → Type 0
GivesOn (Boundary offset layer datatype points) mask pieces = AreSlabPieces offset mask points pieces
GivesOn (Path offset layer datatype pathtype width points) mask pieces =
    ArePathPieces offset mask pathtype width points pieces
GivesOn (Sref offset name place at) mask pieces = pieces ≡ []
GivesOn (Aref offset name place columns rows points) mask pieces = pieces ≡ []
GivesOn (Label offset layer texttype at text) mask pieces = pieces ≡ note_piece offset mask at text ∷ []
GivesOn (BoxShape offset layer boxtype) mask pieces = pieces ≡ []

-- the items that an element gives by itself: none if it has no mask
abbrev pub Own : Tech → Element → List Piece → Type 0
Own tech element pieces = MatchOption (mask_of tech element) (pieces ≡ []) (λ mask. GivesOn element mask pieces)

-- what a step moves
abbrev pub drawing_moved : Step → Drawing → Drawing
drawing_moved step (area_of r) = area_of (moved_rect step r)
drawing_moved step (note_at at text) = note_at (moved_point step at) text

-- an item moved by a step
abbrev pub piece_moved : Step → Piece → Piece
piece_moved step piece = record { offset = piece.offset; mask = piece.mask; drawing = drawing_moved step piece.drawing }

-- the items moved by each step in turn
abbrev pub all_moved : List Step → List Piece → List Piece
all_moved steps pieces = flat_map (λ step. map (piece_moved step) pieces) steps

-- the items of elements in order: their own, and what references place
pub data PiecesOf (library : List Structure) (tech : Tech) : List Element → List Piece → Type 0 where
  none : PiecesOf library tech [] []
  own : {es : List Element} {pieces : List Piece} (e : Element) (mine others : List Piece) → target e ≡ None → Own tech e mine
      → PiecesOf library tech es others → pieces ≡ mine ++ others → PiecesOf library tech (e ∷ es) pieces
  placed : {es : List Element} {pieces : List Piece} (e : Element) (to : Name) (s : Structure) (inner others : List Piece) (steps : List Step)
      → target e ≡ Some to → structure_named library to ≡ Some s → PiecesOf library tech s.elements inner → StepsOf e steps
      → PiecesOf library tech es others → pieces ≡ all_moved steps inner ++ others → PiecesOf library tech (e ∷ es) pieces

-- the items of the structure of the name
pub record Pieces (library : List Structure) (tech : Tech) (name : Name) (pieces : List Piece) : Type 0 where
  pub structure : Structure
  pub found : structure_named library name ≡ Some structure
  pub are : PiecesOf library tech structure.elements pieces

-- an item as a label, if it is one
abbrev pub mark_of_drawing : ℕ → Drawing → Option Mark
mark_of_drawing mask (area_of r) = None
mark_of_drawing mask (note_at at text) = Some (record { mask = mask; at = at; text = text })

-- the labels among items
abbrev pub marks_of : List Piece → List Mark
marks_of pieces = filter_map (λ piece. mark_of_drawing piece.mask piece.drawing) pieces

-- the rectangle of a drawing, if it is one
abbrev pub rect_of_drawing : Drawing → Option Rectangle
rect_of_drawing (area_of r) = Some r
rect_of_drawing (note_at at text) = None

-- the rectangle of a piece on the mask, if it is one
abbrev pub area_on : ℕ → Piece → Option Rectangle
area_on m piece = cond (nat_eq piece.mask m) (rect_of_drawing piece.drawing) None

-- the rectangles of the pieces on the mask, in order
abbrev pub areas_on : ℕ → List Piece → List Rectangle
areas_on m pieces = filter_map (area_on m) pieces

-- the layout is the flat cell of the structure by the name: the cells that it covers, its labels in order, and on each mask
-- the rectangles of its items in order
pub record Flat (library : List Structure) (tech : Tech) (name : Name) (layout : Layout) : Type 0 where
  pub pieces : List Piece
  pub are : Pieces library tech name pieces
  pub labels : layout.labels ≡ marks_of pieces
  pub masks : length layout.masks ≡ length tech.masks
  pub cells : (m : ℕ) (x y : ℤ) → MaskCovers layout m x y ↔ Covered library tech name m (x, y)
  pub rectangles : (m : ℕ) → map area (rectangles_of layout m) ≡ areas_on m pieces

-- the magnitude is at most the farthest that is taken
abbrev pub IsNear : ℤ → Type 0
IsNear z = unsigned_abs z ≤ FARTHEST

-- the coordinates of the drawing are near
abbrev pub DrawingIsNear : Drawing → Type 0
DrawingIsNear (area_of r) = IsNear r.left × IsNear r.right × IsNear r.bottom × IsNear r.top
DrawingIsNear (note_at at text) = IsNear at.0 × IsNear at.1

-- a coordinate of the drawing isn't near
abbrev pub DrawingIsFar : Drawing → Type 0
DrawingIsFar d = ¬ DrawingIsNear d

-- the offset is that of the first item that isn't near
pub record FirstFar (pieces : List Piece) (offset : ℕ) : Type 0 where
  pub before : List Piece
  pub piece : Piece
  pub behind : List Piece
  pub split : pieces ≡ before ++ piece ∷ behind
  pub near : All (λ p. DrawingIsNear p.drawing) before
  pub far : DrawingIsFar piece.drawing
  pub at : offset ≡ piece.offset
