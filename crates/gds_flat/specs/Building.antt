-- Items as they are built: how far they lie from the axes, what is appended, and the items of the structures of the finish.
use Rattle.std.specs.Prelude.{◌≡◌, ℕ, ◌+◌, ◌*◌, ◌^◌, ◌≤◌, ℤ, pos, neg_ℤ, ◌+ℤ◌, ◌*ℤ◌, ◌≤ℤ◌, nat_le, List, [], ◌∷◌, ◌++◌, length, map, Some, slice_get, All, Contains}
use Rattle.std.specs.List.{flat_map, range_with_len}
use Rattle.rt_base.specs.declared.plane.Orient.{Orient}
use Rattle.rt_base.specs.declared.plane.Point.{Point}
use Rattle.rt_base.specs.declared.plane.Rect.{Rect}
use Rattle.rt_tech.specs.declared.table.Tech.{Tech}
use Rattle.gds_records.specs.Reals.{IsQuarterTurns}
use Rattle.gds_stream.specs.declared.library.Element.{Element}
use Rattle.gds_stream.specs.declared.library.Structure.{Structure}
use Rattle.gds_stream.specs.declared.library.Place.{Place}
use Rattle.gds_slabs.specs.declared.step.Step.{Step}
use Rattle.gds_slabs.specs.Steps.{IsWithin, ShiftsWithin}
use Rattle.gds_flat.specs.declared.item.Drawn.TheVariants.{Area}
use Rattle.gds_flat.specs.declared.item.Item.{Item}
use Rattle.gds_flat.specs.Reach.{Name, references, Chain, Shallow}
use Rattle.gds_flat.specs.Elements.{Fine, AreSteps, point_at}
use Rattle.gds_flat.specs.Items.{Drawing, area_of, note_at, Piece, note_piece, all_moved, PiecesOf, Pieces}
use Rattle.gds_flat.specs.Drawn.{pieces_in, IsDrawable}
use Rattle.gds_flat.specs.Walking.{name_at, elements_at, IsFirst}
use Rattle.gds_flat.specs.Depths.{PlaceOnly}

-- the point is at most so far from the axes
pub record SpotWithin (reach : ℤ) (at : ℤ × ℤ) : Type 0 where
  pub left : neg_ℤ reach ≤ℤ at.0
  pub right : at.0 ≤ℤ reach
  pub down : neg_ℤ reach ≤ℤ at.1
  pub up : at.1 ≤ℤ reach

-- the drawing is at most so far from the axes
abbrev pub DrawingWithin : ℤ → Drawing → Type 0
DrawingWithin reach (area_of r) = IsWithin reach r
DrawingWithin reach (note_at at text) = SpotWithin reach at

-- the piece is at most so far from the axes
pub record PieceWithin (reach : ℤ) (piece : Piece) : Type 0 where
  pub within : DrawingWithin reach piece.drawing

-- the most that a step shifts
abbrev pub most_shift : ℤ
most_shift = pos (2 ^ 50)

-- how far from the axes pieces are at most that come by so many references
abbrev pub reach_of : ℕ → ℤ
reach_of n = pos (2 ^ 32 + n * 2 ^ 50)

-- the step to the place in a row and a column of an array
abbrev pub step_at : Orient → Point → ℤ × ℤ → ℤ × ℤ → ℕ → ℕ → Step
step_at orient origin across up j i = record {
  orient = orient;
  dx = (origin.x +ℤ pos j *ℤ up.0) +ℤ pos i *ℤ across.0;
  dy = (origin.y +ℤ pos j *ℤ up.1) +ℤ pos i *ℤ across.1;
}

-- the steps of a row
abbrev pub row_steps : Orient → Point → ℤ × ℤ → ℤ × ℤ → ℕ → ℕ → List Step
row_steps orient origin across up columns j = map (step_at orient origin across up j) (range_with_len 0 columns)

-- the steps of all rows
abbrev pub all_steps : Orient → Point → ℤ × ℤ → ℤ × ℤ → ℕ → ℕ → List Step
all_steps orient origin across up columns rows = flat_map (row_steps orient origin across up columns) (range_with_len 0 rows)

-- a rectangle as an item
abbrev pub area_item : ℕ → ℕ → Rect → Item
area_item offset mask rect = record { offset = offset; mask = mask; drawn = Area rect }

-- the farthest from the axes that pieces are moved
abbrev pub most_reach : ℤ
most_reach = pos (2 ^ 60)

-- the items were added to, and what was added is so
pub record Appends (so : List Piece → Type 0) (old new : List Item) : Type 0 where
  pub more : List Piece
  pub appended : pieces_in new ≡ pieces_in old ++ more
  pub are : so more

-- the pieces are so, and near the axes
pub record AreNearAnd (so : List Piece → Type 0) (pieces : List Piece) : Type 0 where
  pub are : so pieces
  pub near : All (PieceWithin (reach_of 0)) pieces

-- the piece is the label
abbrev pub IsNotePiece : ℕ → ℕ → Point → List ℕ → List Piece → Type 0
IsNotePiece offset mask at text pieces = pieces ≡ note_piece offset mask at text ∷ []

-- the pieces are those inside, moved by steps that are so
pub record AreMovedBy (so : List Step → Type 0) (inner pieces : List Piece) : Type 0 where
  pub steps : List Step
  pub of : so steps
  pub small : All (ShiftsWithin most_shift) steps
  pub are : pieces ≡ all_moved steps inner

-- the turn is that of the place
pub record HasTurn (place : Place) (orient : Orient) : Type 0 where
  pub reflect : orient.reflect ≡ nat_le (2 ^ 15) place.flags
  pub quarters : IsQuarterTurns place.angle orient.quarters

-- the turn, the first point and the steps are those of the array
pub record AreStrides (place : Place) (columns rows : ℤ) (points : List Point) (orient : Orient) (origin : Point) (across up : ℤ × ℤ) : Type 0 where
  pub turn : HasTurn place orient
  pub first : origin ≡ point_at points 0
  pub whole : AreSteps columns rows points across up

-- a chain from what the elements place
abbrev pub ChainFrom : List Structure → List Element → List Name → Type 0
ChainFrom library elements [] = Unit {0}
ChainFrom library elements (n ∷ names) = Contains (references elements) n × Chain library n names

-- the pieces are as near as a chain from the elements lets them be
pub record AreNear (library : List Structure) (elements : List Element) (pieces : List Piece) : Type 0 where
  pub names : List Name
  pub chain : ChainFrom library elements names
  pub near : All (PieceWithin (reach_of (length names))) pieces

-- the pieces of elements, and how near they are
pub record AreFrom (library : List Structure) (tech : Tech) (elements : List Element) (pieces : List Piece) : Type 0 where
  pub pieces_of : PiecesOf library tech elements pieces
  pub near : AreNear library elements pieces

-- the pieces of the structure of the name, and how near they are
pub record IsListOf (library : List Structure) (tech : Tech) (name : Name) (pieces : List Piece) : Type 0 where
  pub are : Pieces library tech name pieces
  pub shallow : Shallow library name
  pub names : List Name
  pub chain : Chain library name names
  pub near : All (PieceWithin (reach_of (length names))) pieces

-- the items of the first structures of the finish
pub record AreLists (library : List Structure) (tech : Tech) (finish : List ℕ) (lists : List (List Item)) : Type 0 where
  pub few : length lists ≤ length finish
  pub are : (p k : ℕ) (items : List Item) → slice_get lists p ≡ Some items → slice_get finish p ≡ Some k
      → IsListOf library tech (name_at library k) (pieces_in items)

-- the elements can be drawn: they are fine, polygons are closed, and paths have two points
pub record CanBeDrawn (tech : Tech) (element : Element) : Type 0 where
  pub fine : Fine tech element
  pub drawable : IsDrawable element

-- the list of the structure can be found: it is the first of its name, what it places stands among the first so many of the finish,
-- its elements can be drawn, and chains from it are short
pub record CanBeListed (library : List Structure) (tech : Tech) (finish : List ℕ) (count structure : ℕ) : Type 0 where
  pub first : IsFirst library structure
  pub before : PlaceOnly library finish count (elements_at library structure)
  pub drawn : All (CanBeDrawn tech) (elements_at library structure)
  pub shallow : Shallow library (name_at library structure)
