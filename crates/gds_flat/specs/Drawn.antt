-- Items as the code holds them, what elements must be for their items to be found, and how many items there are.
use Rattle.std.specs.Prelude.{◌≡◌, ℕ, ◌-◌, ◌^◌, ◌≤◌, min, List, length, map, Some, slice_get, All}
use Rattle.rt_base.specs.Plane.{area}
use Rattle.rt_tech.specs.declared.table.Tech.{Tech}
use Rattle.gds_stream.specs.declared.library.Element.{Element}
use Rattle.gds_stream.specs.declared.library.Element.TheVariants.{Boundary, Path, Sref, Aref, Label, BoxShape}
use Rattle.gds_stream.specs.declared.library.Structure.{Structure}
use Rattle.gds_slabs.specs.Polygon.{IsClosed}
use Rattle.gds_flat.specs.declared.item.Drawn.{Drawn}
use Rattle.gds_flat.specs.declared.item.Drawn.TheVariants.{Area, Note}
use Rattle.gds_flat.specs.declared.item.Item.{Item}
use Rattle.gds_flat.specs.declared.limits.TheConstants.{MOST_ITEMS}
use Rattle.gds_flat.specs.Reach.{Name}
use Rattle.gds_flat.specs.Items.{Drawing, area_of, note_at, Piece, Pieces}
use Rattle.gds_flat.specs.Walking.{name_at}

-- what an item draws, as a rectangle or a text at a point
abbrev pub drawing_of : Drawn → Drawing
drawing_of (Area rect) = area_of (area rect)
drawing_of (Note at text) = note_at at text

-- an item as a piece of the flat cell
abbrev pub piece_of : Item → Piece
piece_of item = record { offset = item.offset; mask = item.mask; drawing = drawing_of item.drawn }

-- items as pieces of the flat cell, in order
abbrev pub pieces_in : List Item → List Piece
pieces_in items = map piece_of items

-- a polygon is closed, and a path has two points at least
abbrev pub IsDrawable : Element → Type 0
IsDrawable (Boundary offset layer datatype points) = IsClosed points
IsDrawable (Path offset layer datatype pathtype width points) = 2 ≤ length points
IsDrawable (Sref offset name place at) = Unit {0}
IsDrawable (Aref offset name place columns rows points) = Unit {0}
IsDrawable (Label offset layer texttype at text) = Unit {0}
IsDrawable (BoxShape offset layer boxtype) = Unit {0}

-- the polygons of the structures are closed, and their paths have two points at least
abbrev pub AreDrawable : List Structure → Type 0
AreDrawable library = All (λ s. All IsDrawable s.elements) library

-- the count is that of the pieces, or 2^64 - 1 where there are more
abbrev pub IsCount : List Piece → ℕ → Type 0
IsCount pieces count = count ≡ min (length pieces) (2 ^ 64 - 1)

-- the structure of the name has so many pieces, or the count is 2^64 - 1 and it has more
pub record HasCount (library : List Structure) (tech : Tech) (name : Name) (count : ℕ) : Type 0 where
  pub pieces : List Piece
  pub are : Pieces library tech name pieces
  pub counted : IsCount pieces count

-- the structure of the name has a count, which is taken
pub record HasFew (library : List Structure) (tech : Tech) (name : Name) : Type 0 where
  pub count : ℕ
  pub has : HasCount library tech name count
  pub few : count ≤ MOST_ITEMS

-- the counts of the structures of the finish, in its order
pub record AreCounts (library : List Structure) (tech : Tech) (finish counts : List ℕ) : Type 0 where
  pub all : length counts ≡ length finish
  pub are : (p k count : ℕ) → slice_get finish p ≡ Some k → slice_get counts p ≡ Some count → HasCount library tech (name_at library k) count
