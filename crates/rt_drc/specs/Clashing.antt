-- Bars of groups, of which two may share a cell.
use Rattle.std.specs.Prelude.{◌≡◌, ℕ, ◌<◌, ◌<ℤ◌, List, length, Contains, slice_index}
use Rattle.rt_cells.specs.Rectangles.{Rectangle}
use Rattle.rt_base.specs.Plane.{area}
use Rattle.rt_sweep.specs.declared.bar.Bar.{Bar}
use Rattle.rt_family.specs.Strips.{ShareColumn, ShareRow}
use Rattle.rt_drc.specs.declared.clash.Clash.{Clash}

-- two nonempty rectangles share a cell
pub record ShareCell (a b : Rectangle) : Type 0 where
  pub columns : ShareColumn a b
  pub rows : ShareRow a b

-- the number of the group of a bar with that tag
abbrev pub group_of : List ℕ → Bar → ℕ
group_of groups bar = slice_index groups bar.tag

-- the bar's tag is that of a group
pub record HasGroup (groups : List ℕ) (bar : Bar) : Type 0 where
  pub below : bar.tag < length groups

-- the second bar begins before the first one ends, and is of another group
pub record IsStrange (groups : List ℕ) (first second : Bar) : Type 0 where
  pub before_end : second.at.x1 <ℤ first.at.x2
  pub different : ¬ (group_of groups first ≡ group_of groups second)

-- where the second bar begins before the first one ends, it is of its group
pub record IsFamiliar (groups : List ℕ) (first second : Bar) : Type 0 where
  pub one_group : second.at.x1 <ℤ first.at.x2 → group_of groups first ≡ group_of groups second

-- bars that have a column in common are of one group
pub record AreGroupedAcross (groups : List ℕ) (bars : List Bar) : Type 0 where
  pub grouped : (a b : Bar) → Contains bars a → Contains bars b → ShareColumn (area a.at) (area b.at) → group_of groups a ≡ group_of groups b

-- the two bars are listed, have a column in common, and are of different groups
pub record ClashAcross (groups : List ℕ) (bars : List Bar) (clash : Clash) : Type 0 where
  pub first : Contains bars clash.first
  pub second : Contains bars clash.second
  pub columns : ShareColumn (area clash.first.at) (area clash.second.at)
  pub different : ¬ (group_of groups clash.first ≡ group_of groups clash.second)

-- bars that share a cell are of one group
pub record AreGrouped (groups : List ℕ) (bars : List Bar) : Type 0 where
  pub grouped : (a b : Bar) → Contains bars a → Contains bars b → ShareCell (area a.at) (area b.at) → group_of groups a ≡ group_of groups b

-- the two bars are listed, share a cell, and are of different groups
pub record DoClash (groups : List ℕ) (bars : List Bar) (clash : Clash) : Type 0 where
  pub first : Contains bars clash.first
  pub second : Contains bars clash.second
  pub share : ShareCell (area clash.first.at) (area clash.second.at)
  pub different : ¬ (group_of groups clash.first ≡ group_of groups clash.second)
