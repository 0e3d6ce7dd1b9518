-- Slabs: rows at which no rectangle of a list begins or ends, and the rectangles that cross them.
use Rattle.std.specs.Prelude.{◌≡◌, ℤ, ◌≤ℤ◌, ◌<ℤ◌, ◌⊎◌, List, All, AllPairs, Contains, IsPermutation}
use Rattle.rt_cells.specs.Line.{Within}
use Rattle.rt_cells.specs.Rectangles.{Rectangle}
use Rattle.rt_base.specs.Plane.{area}
use Rattle.rt_sweep.specs.declared.bar.Bar.{Bar}

-- the rectangle has all rows from bottom up to, and without, top
pub record Crosses (bottom top : ℤ) (r : Rectangle) : Type 0 where
  pub from : r.bottom ≤ℤ bottom
  pub to : top ≤ℤ r.top

-- it has none of them
abbrev pub Misses : ℤ → ℤ → Rectangle → Type 0
Misses bottom top r = (r.top ≤ℤ bottom) ⊎ (top ≤ℤ r.bottom)

-- the bar is active: it is one of the bars, and crosses the rows
pub record IsActive (bars : List Bar) (bottom top : ℤ) (bar : Bar) : Type 0 where
  pub listed : Contains bars bar
  pub crosses : Crosses bottom top (area bar.at)

-- of the bars each crosses the rows, and is then among the active ones, or misses them; the active ones stand in order of their left ends
pub record IsSlab (bars : List Bar) (bottom top : ℤ) (active : List Bar) : Type 0 where
  pub some_rows : bottom <ℤ top
  pub each : (bar : Bar) → Contains bars bar → (Contains active bar × Crosses bottom top (area bar.at)) ⊎ Misses bottom top (area bar.at)
  pub are_active : All (IsActive bars bottom top) active
  pub in_order : AllPairs (λ a b. a.at.x1 ≤ℤ b.at.x1) active

-- no bar has a row from low up to, and without, high
pub record AreRowsFree (bars : List Bar) (low high : ℤ) : Type 0 where
  pub free : (bar : Bar) → Contains bars bar → (y : ℤ) → Within low high y → ¬ Within bar.at.y1 bar.at.y2 y

-- what a sweep knows: its bars, how high it has come, a height above which no bar ends, and which bars cross the slab that it passed last
pub record Passing : Type 0 where
  pub bars : List Bar
  pub height : ℤ
  pub highest : ℤ
  pub active : List Bar

-- every bar begins at the height or above it
abbrev pub AreAbove : List Bar → ℤ → Type 0
AreAbove bars height = All (λ bar. height ≤ℤ bar.at.y1) bars

-- no bar ends above the height
abbrev pub AreBelow : List Bar → ℤ → Type 0
AreBelow bars height = All (λ bar. bar.at.y2 ≤ℤ height) bars

-- a sweep of the bars, in an order of its own, that has passed none of them
pub record IsAtStart (bars : List Bar) (sweep : Passing) : Type 0 where
  pub same_bars : IsPermutation bars sweep.bars
  pub above : AreAbove bars sweep.height
  pub below : AreBelow bars sweep.highest

-- a sweep passes the next slab: no bar has a row between where it was and the slab, and it is then at the slab's top
pub record PassesSlab (before : Passing) (bottom top : ℤ) (after : Passing) : Type 0 where
  pub same_bars : after.bars ≡ before.bars
  pub same_highest : after.highest ≡ before.highest
  pub onward : before.height ≤ℤ bottom
  pub free : AreRowsFree before.bars before.height bottom
  pub slab : IsSlab before.bars bottom top after.active
  pub at_top : after.height ≡ top
  pub within : top ≤ℤ before.highest
