-- What a layout draws of the pieces of a flat cell, and what a walk that is accepted shows.
use Rattle.std.specs.Prelude.{◌≡◌, ℕ, ◌<◌, ◌↔◌, ℤ, nat_eq, cond, List, [], ◌≤◌, length, map, Option, Some, None, slice_index_or, All, Contains}
use Rattle.std.specs.List.{filter_map}
use Rattle.rt_base.specs.declared.plane.Rect.{Rect}
use Rattle.rt_base.specs.Plane.{area}
use Rattle.rt_cells.specs.Rectangles.{Rectangle, Holds}
use Rattle.rt_tech.specs.declared.table.Tech.{Tech}
use Rattle.rt_layout.specs.declared.layout.Layout.{Layout}
use Rattle.rt_layout.specs.Covering.{MaskCovers, rectangles_of}
use Rattle.gds_stream.specs.declared.library.Structure.{Structure}
use Rattle.gds_flat.specs.declared.item.Drawn.{Drawn}
use Rattle.gds_flat.specs.declared.item.Drawn.TheVariants.{Area, Note}
use Rattle.gds_flat.specs.declared.item.Item.{Item}
use Rattle.gds_flat.specs.declared.walk.Walk.{Walk}
use Rattle.gds_flat.specs.declared.limits.TheConstants.{MOST_ITEMS}
use Rattle.gds_flat.specs.Reach.{Name, Shallow}
use Rattle.gds_flat.specs.Elements.{Fine}
use Rattle.gds_flat.specs.Items.{Piece, Pieces, marks_of, areas_on}
use Rattle.gds_flat.specs.Items.Drawing.{area_of}
use Rattle.gds_flat.specs.Walking.{names_at}
use Rattle.gds_flat.specs.Depths.{IsTree}
use Rattle.gds_flat.specs.Refused.{elements_along, Accepted}

-- the piece is a rectangle on the mask that holds the cell
pub record Shows (m : ℕ) (cell : ℤ × ℤ) (piece : Piece) : Type 0 where
  pub rect : Rectangle
  pub on : piece.mask ≡ m
  pub draws : piece.drawing ≡ area_of rect
  pub holds : Holds rect cell.0 cell.1

-- one of the pieces is such a rectangle
abbrev pub OneShows : List Piece → ℕ → ℤ × ℤ → Type 0
OneShows pieces m cell = (p : Piece) × Contains pieces p × Shows m cell p

-- the rectangle that an item draws, if it is one
abbrev pub rect_of : Drawn → Option Rect
rect_of (Area rect) = Some rect
rect_of (Note at text) = None

-- the rectangle of an item on the mask
abbrev pub rect_on : ℕ → Item → Option Rect
rect_on m item = cond (nat_eq item.mask m) (rect_of item.drawn) None

-- the rectangles of the items on the mask, in order
abbrev pub rects_on : ℕ → List Item → List Rect
rects_on m items = filter_map (rect_on m) items

-- each of so many masks has the rectangles of the items on it
pub record AreOnMasks (items : List Item) (count : ℕ) (masks : List (List Rect)) : Type 0 where
  pub all : length masks ≡ count
  pub each : (m : ℕ) → m < count → slice_index_or masks m [] ≡ rects_on m items

-- the layout has the labels of the pieces, so many masks, the cells that the pieces hold, and their rectangles
pub record Draws (pieces : List Piece) (count : ℕ) (layout : Layout) : Type 0 where
  pub labels : layout.labels ≡ marks_of pieces
  pub masks : length layout.masks ≡ count
  pub cells : (m : ℕ) (x y : ℤ) → MaskCovers layout m x y ↔ OneShows pieces m (x, y)
  pub rectangles : (m : ℕ) → map area (rectangles_of layout m) ≡ areas_on m pieces

-- the pieces are those of the structure of the name, which is accepted, and they are no more than are taken
pub record AreFewPieces (library : List Structure) (top : Name) (tech : Tech) (pieces : List Piece) : Type 0 where
  pub accepted : Accepted library top tech
  pub are : Pieces library tech top pieces
  pub few : length pieces ≤ MOST_ITEMS

-- a walk without a circle that isn't too deep, and all that it reaches is fine
pub record IsAcceptedWalk (library : List Structure) (top : Name) (tech : Tech) (walk : Walk) : Type 0 where
  pub tree : IsTree library top walk
  pub shallow : Shallow library top
  pub fine : All (Fine tech) (elements_along library (names_at library walk.order.items))
