-- The positions of a job, and that it has none.
use Rattle.std.specs.Prelude.{◌≡◌, ◌≢◌, ℤ, ◌↔◌, List, None, length, map, All, AllPairs, Contains}
use Rattle.rt_base.specs.declared.plane.Axis.{Axis}
use Rattle.rt_base.specs.declared.plane.Axis.TheVariants.{Across, Upwards}
use Rattle.rt_rows.specs.declared.name.Name.{Name}
use Rattle.rt_rows.specs.declared.row.Var.{Var}
use Rattle.rt_rows.specs.declared.row.Row.{Row}
use Rattle.rt_rows.specs.declared.positions.Positions.{Positions}
use Rattle.rt_rows.specs.Places.{places}
use Rattle.rt_view.specs.declared.job.Job.{Job}
use Rattle.rt_view.specs.Job.{strips_of}
use Rattle.rt_template.specs.Horizontal.{MeetsAcross, IsLeastAcross}
use Rattle.rt_template.specs.Vertical.{MeetsUpwards, IsLeastUpwards}
use Rattle.rt_place.specs.declared.placing.PlaceError.{PlaceError}
use Rattle.rt_place.specs.declared.placing.PlaceError.TheVariants.{NoneMeet, OutOfMemory}

-- the rows of a template with their names, in any order, each name once
pub record HoldsRows (template : Name → Row → Type 0) (rows : List (Name × Row)) : Type 0 where
  pub exact : (name : Name) (row : Row) → Contains rows (name, row) ↔ template name row
  pub once : AllPairs (λ (a b : Name × Row). a.0 ≢ b.0) rows

-- the names in order, each with a row of the template
pub record AreRowsOf (template : Name → Row → Type 0) (names : List Name) (rows : List (Name × Row)) : Type 0 where
  pub named : map (λ (named : Name × Row). named.0) rows ≡ names
  pub each : All (λ (named : Name × Row). template named.0 named.1) rows

-- each strip has an entry in the lists of columns, and no other has; the columns are the least that meet the template across
pub record AreColumnsOf (job : Job) (at : Positions) : Type 0 where
  pub lefts : length at.l ≡ length (strips_of job)
  pub rights : length at.r ≡ length (strips_of job)
  pub least : IsLeastAcross job (places at)

-- the same upwards, at these columns
pub record AreHeightsOf (job : Job) (columns at : Positions) : Type 0 where
  pub bottoms : length at.b ≡ length (strips_of job)
  pub tops : length at.t ≡ length (strips_of job)
  pub least : IsLeastUpwards job (places columns) (places at)

-- the positions of a job: the least columns, and the least heights at them
pub record ArePositionsOf (job : Job) (at : Positions) : Type 0 where
  pub columns : AreColumnsOf job at
  pub heights : AreHeightsOf job at at

-- no positions meet the template of the axis; upwards none do at the least columns
pub data NoneMeetOf (job : Job) : Axis → Type 0 where
  across : ((other : Var → ℤ) → ¬ MeetsAcross job other) → NoneMeetOf job Across
  upwards : (columns : Var → ℤ) → IsLeastAcross job columns → ((other : Var → ℤ) → ¬ MeetsUpwards job columns other) → NoneMeetOf job Upwards

-- what a refusal says
abbrev pub IsPlaceErrorOf : Job → PlaceError → Type 0
IsPlaceErrorOf job (NoneMeet axis) = NoneMeetOf job axis
IsPlaceErrorOf job OutOfMemory = Unit {0}

-- columns and heights as positions
abbrev pub joined_of : Positions → Positions → Positions
joined_of columns heights = record {
  l = columns.l;
  r = columns.r;
  b = heights.b;
  t = heights.t;
  width = columns.width;
  height = heights.height;
  axis = None;
}
