-- Where references place what they name, and what a structure covers with all that it places.
use Rattle.std.specs.Prelude.{◌≡◌, ℕ, ◌^◌, ℤ, pos, ◌+ℤ◌, ◌*ℤ◌, nat_le, List, [], ◌∷◌, map, Some, All, Contains, unsigned_abs}
use Rattle.std.specs.List.{flat_map, range_with_len}
use Rattle.rt_base.specs.declared.plane.Point.{Point}
use Rattle.rt_cells.specs.Rectangles.{Rectangle, Holds}
use Rattle.rt_tech.specs.declared.table.Tech.{Tech}
use Rattle.gds_records.specs.Reals.{IsQuarterTurns}
use Rattle.gds_stream.specs.declared.library.Element.{Element}
use Rattle.gds_stream.specs.declared.library.Element.TheVariants.{Boundary, Path, Sref, Aref, Label, BoxShape}
use Rattle.gds_stream.specs.declared.library.Structure.{Structure}
use Rattle.gds_stream.specs.declared.library.Place.{Place}
use Rattle.gds_slabs.specs.declared.step.Step.{Step}
use Rattle.gds_slabs.specs.declared.path.PathEnd.{PathEnd}
use Rattle.gds_slabs.specs.Polygon.{Inside}
use Rattle.gds_slabs.specs.Path.{PathArea, half_of}
use Rattle.gds_slabs.specs.Steps.{moved_cell}
use Rattle.gds_flat.specs.Reach.{Name, structure_named, target}
use Rattle.gds_flat.specs.Elements.{mask_of, end_of, AreSteps, point_at}

-- the step turns as the place says: the first bit of its flags reflects
pub record IsTurnOf (place : Place) (step : Step) : Type 0 where
  pub reflect : step.orient.reflect ≡ nat_le (2 ^ 15) place.flags
  pub quarters : IsQuarterTurns place.angle step.orient.quarters

-- the shift of a step
abbrev pub shift_of : Step → ℤ × ℤ
shift_of step = (step.dx, step.dy)

-- the steps turn as the place says and have these shifts, in order
pub record AreStepsTo (place : Place) (shifts : List (ℤ × ℤ)) (steps : List Step) : Type 0 where
  pub turns : All (IsTurnOf place) steps
  pub follow : map shift_of steps ≡ shifts

-- the shift to the place in a column and a row of an array
abbrev pub shift_at : Point → ℤ × ℤ → ℤ × ℤ → ℕ → ℕ → ℤ × ℤ
shift_at origin across up j i =
    ((origin.x +ℤ pos j *ℤ up.0) +ℤ pos i *ℤ across.0, (origin.y +ℤ pos j *ℤ up.1) +ℤ pos i *ℤ across.1)

-- the shifts of an array: row by row, and in each row column by column
abbrev pub array_shifts : Point → ℤ × ℤ → ℤ × ℤ → ℕ → ℕ → List (ℤ × ℤ)
array_shifts origin across up columns rows =
    flat_map (λ j. map (shift_at origin across up j) (range_with_len 0 columns)) (range_with_len 0 rows)

-- the steps of an array
pub record AreArraySteps (place : Place) (columns rows : ℤ) (points : List Point) (steps : List Step) : Type 0 where
  pub across : ℤ × ℤ
  pub up : ℤ × ℤ
  pub whole : AreSteps columns rows points across up
  pub are : AreStepsTo place (array_shifts (point_at points 0) across up (unsigned_abs columns) (unsigned_abs rows)) steps

-- the steps by which a reference places what it names, in order
abbrev pub StepsOf : Element → List Step → Type 0
StepsOf (Boundary offset layer datatype points) steps = ⊥
StepsOf (Path offset layer datatype pathtype width points) steps = ⊥
StepsOf (Sref offset name place at) steps = AreStepsTo place ((at.x, at.y) ∷ []) steps
StepsOf (Aref offset name place columns rows points) steps = AreArraySteps place columns rows points steps
StepsOf (Label offset layer texttype at text) steps = ⊥
StepsOf (BoxShape offset layer boxtype) steps = ⊥

-- a path covers the cell: one of its rectangles holds it
pub record PathCovers (pathtype width : ℤ) (points : List Point) (cell : ℤ × ℤ) : Type 0 where
  pub end : PathEnd
  pub ends : end_of pathtype ≡ Some end
  pub rect : Rectangle
  pub of : PathArea (half_of width) end points rect
  pub holds : Holds rect cell.0 cell.1

-- the element by itself covers the cell
abbrev pub ElementCovers : Element → ℤ × ℤ → Type 0
ElementCovers (Boundary offset layer datatype points) cell = Inside points cell.0 cell.1
ElementCovers (Path offset layer datatype pathtype width points) cell = PathCovers pathtype width points cell
ElementCovers (Sref offset name place at) cell = ⊥
ElementCovers (Aref offset name place columns rows points) cell = ⊥
ElementCovers (Label offset layer texttype at text) cell = ⊥
ElementCovers (BoxShape offset layer boxtype) cell = ⊥

-- the structure of the name covers the cell on the mask: an element of its own does, or what one of its references places
pub data Covered (library : List Structure) (tech : Tech) : Name → ℕ → ℤ × ℤ → Type 0 where
  own : {n : Name} {m : ℕ} {cell : ℤ × ℤ} (s : Structure) (e : Element) → structure_named library n ≡ Some s → Contains s.elements e
      → mask_of tech e ≡ Some m → ElementCovers e cell → Covered library tech n m cell
  placed : {n : Name} {m : ℕ} {cell : ℤ × ℤ} (s : Structure) (e : Element) (to : Name) (steps : List Step) (step : Step) (from : ℤ × ℤ)
      → structure_named library n ≡ Some s → Contains s.elements e → target e ≡ Some to → StepsOf e steps → Contains steps step
      → Covered library tech to m from → cell ≡ moved_cell step from → Covered library tech n m cell
