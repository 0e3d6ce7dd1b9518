-- The shapes of a layout by its strips, and what a refusal of each says.
use Rattle.std.specs.Prelude.{◌≡◌, ℕ, ℤ, List}
use Rattle.rt_base.specs.Plane.{area}
use Rattle.rt_layout.specs.declared.layout.Label.{Label}
use Rattle.rt_tech.specs.declared.table.Tech.{Tech}
use Rattle.rt_strips.specs.Placed.{Placed}
use Rattle.rt_pieces.specs.Members.{box_of}
use Rattle.rt_view.specs.declared.shapes.NetError.{NetError}
use Rattle.rt_view.specs.declared.shapes.NetError.TheVariants.{SourceShape, OutOfMemory}
use Rattle.rt_view.specs.declared.shapes.Shape.TheVariants.{CutShape, CutUpper, StrayLabel}
use Rattle.rt_view.specs.Shapes.{ShowsBentCut, ShowsStrayLabel}
use Rattle.rt_shapes.specs.Cutting.{cells_by, CutsStandAlone}
use Rattle.rt_shapes.specs.Sides.{LacksUpper, AllHaveUpper, AllHaveLower}

-- no strip of a cut stands on another, and each lies in its upper mask and in the one lower mask that is listed for it
pub record AreSoundCuts (tech : Tech) (strips : List Placed) (lowers : List ℕ) : Type 0 where
  pub alone : CutsStandAlone tech strips
  pub upper : AllHaveUpper tech strips
  pub lower : AllHaveLower tech strips lowers

-- a piece of a cut that is no rectangle is refused with the least rectangle around it
abbrev pub IsBentRefusal : Tech → List Placed → NetError → Type 0
IsBentRefusal tech strips (SourceShape shape rect) = (shape ≡ CutShape) × ShowsBentCut tech (cells_by strips) (area rect)
IsBentRefusal tech strips OutOfMemory = Unit {0}

-- a strip that its upper mask doesn't cover is refused with its rectangle
abbrev pub IsBareRefusal : Tech → List Placed → NetError → Type 0
IsBareRefusal tech strips (SourceShape shape rect) = (shape ≡ CutUpper) × ((i : ℕ) × LacksUpper tech strips i × (area rect ≡ box_of strips i))
IsBareRefusal tech strips OutOfMemory = Unit {0}

-- a stray label is refused with the square at its point
abbrev pub IsStrayRefusal : (ℕ → ℤ → ℤ → Type 0) → List Label → NetError → Type 0
IsStrayRefusal cells labels (SourceShape shape rect) = (shape ≡ StrayLabel) × ShowsStrayLabel cells labels (area rect)
IsStrayRefusal cells labels OutOfMemory = Unit {0}
