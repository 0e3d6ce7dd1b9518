-- The rows of a template, listed with their names.
use Rattle.std.specs.Prelude.{ℤ, pos, neg_ℤ, List, All, AllPairs, Contains, Option, Some, None, unwrap_or, ◌≡◌}
use Rattle.rt_rows.specs.declared.positions.TheConstants.{EXTENT_LIMIT}
use Rattle.rt_rows.specs.declared.row.Var.{Var}
use Rattle.rt_rows.specs.declared.row.Var.TheVariants.{B, T, Height}
use Rattle.rt_rows.specs.declared.row.Row.{Row}
use Rattle.rt_rows.specs.declared.name.Name.{Name}
use Rattle.rt_rows.specs.declared.name.Name.TheVariants.{Lo, Hi, Zero, Top, Tall, Size, On, Under, Gap, Run, Off, Inb, Int}
use Rattle.rt_rows.specs.Order.{ComesBefore}
use Rattle.rt_rows.specs.Rows.{at_least, at_most, beyond}
use Rattle.rt_view.specs.declared.job.Job.{Job}
use Rattle.rt_template.specs.Between.{enclose_number, apart_number, least_height}
use Rattle.rt_template.specs.Horizontal.{space_between}
use Rattle.rt_template.specs.Vertical.{width_upwards, RowUpwards, HasUpwards}

-- the rows of a template with their names: each of the list is one of its rows, every row that it has is in the list, and the names stand in
-- order
pub record ListsRows (in_template : Name → Row → Type 0) (rows : List (Name × Row)) : Type 0 where
  pub each : All (λ (named : Name × Row). in_template named.0 named.1) rows
  pub every : (name : Name) (row : Row) → in_template name row → Contains rows (name, row)
  pub in_order : AllPairs (λ (a b : Name × Row). ComesBefore a.0 b.0) rows

-- the row of a name, if its kind is one of the template upwards
abbrev pub row_of : Job → Name → Option Row
row_of job (Lo i) = Some (at_least (B i) (pos 0))
row_of job (Hi i) = Some (beyond (T i) Height (pos 0))
row_of job Zero = Some (at_least Height (pos 0))
row_of job Top = Some (at_most Height EXTENT_LIMIT)
row_of job (Tall i) = Some (beyond (B i) (T i) (least_height job i))
row_of job (Size i) = Some (beyond (T i) (B i) (neg_ℤ (width_upwards job i)))
row_of job (On i j) = Some (beyond (T i) (B j) (pos 0))
row_of job (Under i j) = Some (beyond (B j) (T i) (pos 0))
row_of job (Gap i j) = Some (beyond (T i) (B j) (space_between job i j))
row_of job (Run i j) = Some (beyond (B i) (T j) (width_upwards job i))
row_of job (Off q i j) = Some (beyond (T i) (B j) (apart_number job.target q))
row_of job (Inb q i h) = Some (beyond (B h) (B i) (enclose_number job.target q))
row_of job (Int q i h) = Some (beyond (T i) (T h) (enclose_number job.target q))
row_of job _ = None

-- the kind of the name is one of the template upwards
pub record IsKnown (job : Job) (name : Name) : Type 0 where
  pub row : Row
  pub is : row_of job name ≡ Some row

-- the name with its row
abbrev pub with_row : Job → Name → Name × Row
with_row job name = (name, unwrap_or (row_of job name) (at_least Height (pos 0)))

-- the template upwards has no row of that name, at any columns
pub record HasNoRow (job : Job) (name : Name) : Type 0 where
  pub none : (columns : Var → ℤ) → ¬ HasUpwards job columns name

-- at whichever columns the template upwards has a row of that name, it is this one
pub record IsRowOf (job : Job) (name : Name) (row : Row) : Type 0 where
  pub is_row : (columns : Var → ℤ) → HasUpwards job columns name → RowUpwards job columns name row
