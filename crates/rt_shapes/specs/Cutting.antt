-- The shapes of cuts by their strips.
use Rattle.std.specs.Prelude.{◌≡◌, ℕ, ◌<◌, ℤ, ◌≤ℤ◌, List, [], length, slice_index, slice_index_or, Option, Some, MatchOption}
use Rattle.rt_cells.specs.Rectangles.{Rectangle}
use Rattle.rt_base.specs.declared.plane.Cell.{Cell}
use Rattle.rt_tech.specs.declared.table.Mask.{Mask}
use Rattle.rt_tech.specs.declared.table.Role.TheVariants.{Cut}
use Rattle.rt_tech.specs.declared.table.Tech.{Tech}
use Rattle.rt_tech.specs.Tech.{mask_at}
use Rattle.rt_family.specs.Strips.{CoveredBy}
use Rattle.rt_strips.specs.declared.contact.Seam.{Seam}
use Rattle.rt_strips.specs.declared.listing.Strip.{Strip}
use Rattle.rt_strips.specs.Placed.{Placed, mask_of}
use Rattle.rt_strips.specs.Standing.{IsStrip}
use Rattle.rt_cover.specs.Covering.{IsWhole, IsMissing, found_at}
use Rattle.rt_pieces.specs.Members.{IsOf, box_of}
use Rattle.rt_pieces.specs.Numbering.{AreNumbersOfPieces, Stands}
use Rattle.rt_base.specs.declared.plane.Rect.{Rect}
use Rattle.rt_view.specs.Shapes.{IsCut}

-- what each mask covers by its strips
abbrev pub cells_by : List Placed → ℕ → ℤ → ℤ → Type 0
cells_by strips m = CoveredBy (IsOf m strips) (box_of strips)

-- the rectangle of a strip
abbrev pub place_of : Strip → Rect
place_of strip = strip.at

-- at the seam a strip of a cut stands on another
pub record IsBentAt (tech : Tech) (strips : List Placed) (seam : Seam) : Type 0 where
  pub cut : IsCut tech (mask_of strips seam.below)
  pub stands : Stands (mask_of strips seam.below) strips seam.below seam.above

-- no strip of a cut stands on another
pub record CutsStandAlone (tech : Tech) (strips : List Placed) : Type 0 where
  pub none : (m i j : ℕ) → IsCut tech m → ¬ Stands m strips i j

-- the first rectangle lies within the second
pub record IsInside (r around : Rectangle) : Type 0 where
  pub left : around.left ≤ℤ r.left
  pub right : r.right ≤ℤ around.right
  pub bottom : around.bottom ≤ℤ r.bottom
  pub top : r.top ≤ℤ around.top

module _ (m : ℕ) (strips : List Placed) (numbers : List ℕ) (of : ℕ) where
  -- strip i of mask m has the number of a strip
  pub record HasNumberOf (i : ℕ) : Type 0 where
    pub strip : IsOf m strips i
    pub same : slice_index numbers i ≡ slice_index numbers of

  -- the least rectangle around those of the first n strips that have the number, and a strip of that number
  pub record IsBoxOf (n : ℕ) (r : Rectangle) : Type 0 where
    pub around : (i : ℕ) → i < n → HasNumberOf i → IsInside (box_of strips i) r
    pub left : (i : ℕ) × HasNumberOf i × ((box_of strips i).left ≡ r.left)
    pub right : (i : ℕ) × HasNumberOf i × ((box_of strips i).right ≡ r.right)
    pub bottom : (i : ℕ) × HasNumberOf i × ((box_of strips i).bottom ≡ r.bottom)
    pub top : (i : ℕ) × HasNumberOf i × ((box_of strips i).top ≡ r.top)

-- the least rectangle around the strips that are of one piece with strip `of`
pub record IsBoxAround (strips : List Placed) (of : ℕ) (r : Rectangle) : Type 0 where
  pub numbers : List ℕ
  pub of_pieces : AreNumbersOfPieces (mask_of strips of) strips numbers
  pub boxed : IsBoxOf (mask_of strips of) strips numbers of (length strips) r

-- what a table tells of a strip in a mask: a cell of it that the mask leaves bare
abbrev pub bare_at : List (List (Option Cell)) → ℕ → ℕ → Option Cell
bare_at table l i = found_at (slice_index_or table l []) i

-- for each of so many masks and each strip a cell of the strip that the mask leaves bare, or none where it covers it whole
pub record AreBareCells (strips : List Placed) (masks : ℕ) (table : List (List (Option Cell))) : Type 0 where
  pub counted : length table ≡ masks
  pub rows : (l : ℕ) → l < masks → length (slice_index_or table l []) ≡ length strips
  pub each : (l i : ℕ) → l < masks → i < length strips
      → MatchOption (bare_at table l i) (IsWhole (cells_by strips l) (box_of strips i)) (IsMissing (cells_by strips l) (box_of strips i))

-- each strip is of one of the first masks: none is a channel
pub record AreOfMasks (masks : ℕ) (strips : List Placed) : Type 0 where
  pub each : (i : ℕ) → IsStrip strips i → mask_of strips i < masks

-- mask m of the table is this cut
pub record IsCutAt (tech : Tech) (m : ℕ) (mask : Mask) : Type 0 where
  pub there : mask_at tech m ≡ Some mask
  pub of_role : mask.role ≡ Cut
