-- Strips of cuts in their upper and lower masks.
use Rattle.std.specs.Prelude.{◌≡◌, ℕ, List, length, slice_index, Contains, Option}
use Rattle.rt_cells.specs.Rectangles.{IsNonempty}
use Rattle.rt_base.specs.declared.plane.Cell.{Cell}
use Rattle.rt_base.specs.Plane.{area}
use Rattle.rt_tech.specs.declared.table.Tech.{Tech}
use Rattle.rt_strips.specs.Placed.{Placed, mask_of}
use Rattle.rt_strips.specs.Standing.{IsStrip}
use Rattle.rt_cover.specs.Covering.{IsWhole}
use Rattle.rt_pieces.specs.Members.{box_of}
use Rattle.rt_view.specs.declared.shapes.NetError.{NetError}
use Rattle.rt_view.specs.declared.shapes.NetError.TheVariants.{SourceShape, OutOfMemory}
use Rattle.rt_view.specs.declared.shapes.Shape.TheVariants.{CutLower}
use Rattle.rt_view.specs.Shapes.{IsCut, IsUpper, IsLower}
use Rattle.rt_shapes.specs.Cutting.{cells_by, AreOfMasks, AreBareCells}

-- the mask covers strip i whole
abbrev pub CoversStrip : List Placed → ℕ → ℕ → Type 0
CoversStrip strips i m = IsWhole (cells_by strips m) (box_of strips i)

module _ (tech : Tech) (strips : List Placed) (i : ℕ) where
  -- the upper mask of the strip's cut covers strip i, if it is of a cut
  pub record HasUpper : Type 0 where
    pub covered : (u : ℕ) → IsUpper tech (mask_of strips i) u → CoversStrip strips i u

  -- strip i is of a cut whose upper mask doesn't cover it
  pub record LacksUpper : Type 0 where
    pub upper : ℕ
    pub strip : IsStrip strips i
    pub is_upper : IsUpper tech (mask_of strips i) upper
    pub bare : ¬ CoversStrip strips i upper

  -- mask l is the one lower mask of the strip's cut that covers strip i
  pub record StandsInOne (l : ℕ) : Type 0 where
    pub lower : IsLower tech (mask_of strips i) l
    pub whole : CoversStrip strips i l
    pub alone : (k : ℕ) → IsLower tech (mask_of strips i) k → CoversStrip strips i k → k ≡ l

  -- of a strip of a cut the one lower mask that covers it, and 0 of another strip
  pub record IsLowerAt (l : ℕ) : Type 0 where
    pub of_cut : IsCut tech (mask_of strips i) → StandsInOne l
    pub of_other : ¬ IsCut tech (mask_of strips i) → l ≡ 0

  -- strip i is of a cut, and not exactly one lower mask covers it
  pub record LacksLower : Type 0 where
    pub strip : IsStrip strips i
    pub cut : IsCut tech (mask_of strips i)
    pub none : (l : ℕ) → ¬ StandsInOne l

-- each strip of a cut is covered by the upper mask
pub record AllHaveUpper (tech : Tech) (strips : List Placed) : Type 0 where
  pub each : (i : ℕ) → IsStrip strips i → HasUpper tech strips i

-- for each strip its lower mask
pub record AllHaveLower (tech : Tech) (strips : List Placed) (lowers : List ℕ) : Type 0 where
  pub counted : length lowers ≡ length strips
  pub each : (i : ℕ) → IsStrip strips i → IsLowerAt tech strips i (slice_index lowers i)

-- a strip that lacks its lower mask is refused with its rectangle
abbrev pub IsLooseRefusal : Tech → List Placed → NetError → Type 0
IsLooseRefusal tech strips (SourceShape shape rect) = (shape ≡ CutLower) × ((i : ℕ) × LacksLower tech strips i × (area rect ≡ box_of strips i))
IsLooseRefusal tech strips OutOfMemory = Unit {0}

-- one of the masks covers strip i
pub record IsOneOf (strips : List Placed) (i : ℕ) (masks : List ℕ) (l : ℕ) : Type 0 where
  pub listed : Contains masks l
  pub whole : CoversStrip strips i l

-- no mask of the list but this covers strip i
pub record IsAlone (strips : List Placed) (i : ℕ) (masks : List ℕ) (l : ℕ) : Type 0 where
  pub none : (k : ℕ) → Contains masks k → CoversStrip strips i k → k ≡ l

-- it is the one mask of the list that covers strip i
pub record IsOnlyOne (strips : List Placed) (i : ℕ) (masks : List ℕ) (l : ℕ) : Type 0 where
  pub one : IsOneOf strips i masks l
  pub alone : IsAlone strips i masks l

-- a table tells of each of its masks which strips it covers; each strip is of one of these masks, and has a cell
pub record IsBareTable (strips : List Placed) (table : List (List (Option Cell))) : Type 0 where
  pub cells : AreBareCells strips (length table) table
  pub of_masks : AreOfMasks (length table) strips
  pub nonempty : (i : ℕ) → IsStrip strips i → IsNonempty (box_of strips i)
