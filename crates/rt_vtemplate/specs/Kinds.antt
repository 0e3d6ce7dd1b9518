-- The kinds of names of the template upwards, by what they are found from.
use Rattle.std.specs.Prelude.{ℕ, ℤ, ◌≤ℤ◌, ◌<ℤ◌, ◌⊎◌, List}
use Rattle.rt_rows.specs.declared.name.Name.{Name}
use Rattle.rt_rows.specs.declared.name.Name.TheVariants.{Lo, Hi, Zero, Top, Tall, On, Under, Gap}
use Rattle.rt_rows.specs.declared.row.Var.{Var}
use Rattle.rt_strips.specs.Placed.{Placed, bottom_of, top_of}
use Rattle.rt_strips.specs.Standing.{StandsOn, IsClimbed}
use Rattle.rt_view.specs.declared.job.Job.{Job}
use Rattle.rt_view.specs.Job.{strips_of}
use Rattle.rt_template.specs.Horizontal.{space_between, AreOfOneDrawnMask}
use Rattle.rt_template.specs.Vertical.{columns_apart}

-- of the whole drawing
pub data IsOfWhole : Name → Type 0 where
  zero : IsOfWhole Zero
  top : IsOfWhole Top

-- of strip i alone
pub data IsOfStrip (i : ℕ) : Name → Type 0 where
  lo : IsOfStrip i (Lo i)
  hi : IsOfStrip i (Hi i)
  tall : IsOfStrip i (Tall i)

-- of strips i and j, where j stands on i
pub data IsOfStanding (strips : List Placed) (i j : ℕ) : Name → Type 0 where
  on : StandsOn strips i j → IsOfStanding strips i j (On i j)
  under : StandsOn strips i j → IsOfStanding strips i j (Under i j)

-- strip j lies above strip i, and isn't climbed from it
pub record IsClearAbove (strips : List Placed) (i j : ℕ) : Type 0 where
  pub above : top_of strips i ≤ℤ bottom_of strips j
  pub unclimbed : ¬ IsClimbed strips i j

-- of strips i and j, where j is clear above i
pub data IsOfClear (strips : List Placed) (i j : ℕ) : Name → Type 0 where
  gap : IsClearAbove strips i j → IsOfClear strips i j (Gap i j)

-- of the two strips, where the one is clear above the other
abbrev pub IsOfPair : List Placed → ℕ → ℕ → Name → Type 0
IsOfPair strips i j name = IsOfClear strips i j name ⊎ IsOfClear strips j i name

-- the strips are of one drawn mask, and near each other in the columns of the drawing by the target's space
pub record AreNearStrips (job : Job) (columns : Var → ℤ) (i j : ℕ) : Type 0 where
  pub of_one_mask : AreOfOneDrawnMask job i j
  pub near : columns_apart job columns i j <ℤ space_between job i j

-- of strips i and j, where they are near in the columns, and j is clear above i
pub data IsOfNear (job : Job) (columns : Var → ℤ) (i j : ℕ) : Name → Type 0 where
  gap : AreNearStrips job columns i j → IsClearAbove (strips_of job) i j → IsOfNear job columns i j (Gap i j)

-- the name is of that kind of some two numbers
pub record IsOfTwo (kind : ℕ → ℕ → Name → Type 0) (name : Name) : Type 0 where
  pub first : ℕ
  pub second : ℕ
  pub of_kind : kind first second name
