-- Strips that keep a distance between masks above one another, as the code tests it.
use Rattle.std.specs.Prelude.{ℕ, ℤ, pos, ◌-ℤ◌, ◌≤ℤ◌, ◌<ℤ◌}
use Rattle.rt_near.specs.declared.near.Sides.{Sides}
use Rattle.rt_rows.specs.declared.row.Var.{Var}
use Rattle.rt_strips.specs.Placed.{Placed, strip_at}
use Rattle.rt_view.specs.declared.job.Job.{Job}
use Rattle.rt_view.specs.Job.{strips_of}
use Rattle.rt_vtemplate.specs.Steps.{columns_of}

-- the second begins where the first ends, or above it
pub record IsHigher (lower upper : Placed) : Type 0 where
  pub above : lower.area.top ≤ℤ upper.area.bottom

-- the same of two strips by their numbers
abbrev pub StripsAreHigher : (job : Job) (i j : ℕ) → Type 0
StripsAreHigher job i j = IsHigher (strip_at (strips_of job) i) (strip_at (strips_of job) j)

-- the second interval begins fewer places than the number behind the first
pub record IsBehind (a b : Sides) (number : ℤ) : Type 0 where
  pub behind : (b.low -ℤ a.high) <ℤ number

-- each of the two intervals begins fewer places than the number, which is above 0, behind the other
pub record AreWithin (a b : Sides) (number : ℤ) : Type 0 where
  pub some : pos 0 <ℤ number
  pub first : IsBehind a b number
  pub second : IsBehind b a number

-- the same of the columns of two strips in the drawing
abbrev pub StripsAreWithin : (job : Job) (columns : Var → ℤ) (number : ℤ) (i j : ℕ) → Type 0
StripsAreWithin job columns number i j = AreWithin (columns_of job columns i) (columns_of job columns j) number
