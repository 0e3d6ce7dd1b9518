-- Which strips are seen and which are kept apart, as the code tests it.
use Rattle.std.specs.Prelude.{◌≡◌, ℕ, ◌<◌, ℤ, ◌-ℤ◌, ◌≤ℤ◌, ◌<ℤ◌, List}
use Rattle.std.specs.Int.{int_max}
use Rattle.rt_cells.specs.Line.{gap_of}
use Rattle.rt_near.specs.declared.near.Sides.{Sides}
use Rattle.rt_rows.specs.declared.row.Var.{Var}
use Rattle.rt_rows.specs.declared.row.Var.TheVariants.{L}
use Rattle.rt_strips.specs.Placed.{Placed, strip_at}
use Rattle.rt_strips.specs.Standing.{IsStrip}
use Rattle.rt_view.specs.declared.job.Job.{Job}
use Rattle.rt_view.specs.Job.{strips_of}
use Rattle.rt_template.specs.Vertical.{LiesBetween}
use Rattle.rt_template.specs.Horizontal.{space_between}
use Rattle.rt_vtemplate.specs.Steps.{columns_of}

-- the third rectangle is of the first one's mask and lies between the rows of the other two
pub record LiesInRows (first second third : Placed) : Type 0 where
  pub one_mask : first.mask ≡ third.mask
  pub above_first : first.area.top ≤ℤ third.area.bottom
  pub below_second : third.area.top ≤ℤ second.area.bottom

-- strip k is of strip i's mask and lies between the rows of strips i and j
abbrev pub AreInRows : List Placed → ℕ → ℕ → ℕ → Type 0
AreInRows strips i j k = LiesInRows (strip_at strips i) (strip_at strips j) (strip_at strips k)

-- at the column no strip lies between strips i and j
pub record HasNoneBetween (job : Job) (columns : Var → ℤ) (i j : ℕ) (x : ℤ) : Type 0 where
  pub none : (k : ℕ) → ¬ LiesBetween job columns i j x k

-- before the column, each that strips i and j can have in common has a strip between them
pub record AreHiddenBefore (job : Job) (columns : Var → ℤ) (i j : ℕ) (x : ℤ) : Type 0 where
  pub from : int_max (columns (L i)) (columns (L j)) ≤ℤ x
  pub hidden : (y : ℤ) → int_max (columns (L i)) (columns (L j)) ≤ℤ y → y <ℤ x → (k : ℕ) × LiesBetween job columns i j y k

-- the two numbers are less than the reach apart
pub record IsLessApart (low high reach : ℤ) : Type 0 where
  pub less : (high -ℤ low) <ℤ reach

-- fewer places than the reach lie between the two intervals
pub record AreClose (a b : Sides) (reach : ℤ) : Type 0 where
  pub near : gap_of a.low a.high b.low b.high <ℤ reach

-- the strips are near each other in the columns of the drawing, by the target's space of the first one's mask
abbrev pub AreCloseStrips : Job → (Var → ℤ) → ℕ → ℕ → Type 0
AreCloseStrips job columns i j = AreClose (columns_of job columns i) (columns_of job columns j) (space_between job i j)

-- the rectangles are of one of so many masks, and the second lies above the first
pub record LiesAbove (masks : ℕ) (lower upper : Placed) : Type 0 where
  pub one_mask : lower.mask ≡ upper.mask
  pub is_drawn : lower.mask < masks
  pub above : lower.area.top ≤ℤ upper.area.bottom

-- strips i and j are of one drawn mask, and j lies above i
abbrev pub IsAbove : Job → ℕ → ℕ → Type 0
IsAbove job i j = LiesAbove job.view.strips.masks (strip_at (strips_of job) i) (strip_at (strips_of job) j)

-- both are strips
pub record AreBothStrips (strips : List Placed) (i j : ℕ) : Type 0 where
  pub first : IsStrip strips i
  pub second : IsStrip strips j
