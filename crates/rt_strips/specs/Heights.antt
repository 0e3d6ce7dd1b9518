-- The strips of the cells below a height, as a sweep over bars finds them.
use Rattle.std.specs.Prelude.{◌≡◌, ℕ, ℤ, ◌<ℤ◌, ◌↔◌, List, map, Contains}
use Rattle.rt_cells.specs.Rectangles.{Rectangle, Holds, Covers}
use Rattle.rt_base.specs.declared.plane.Rect.{Rect}
use Rattle.rt_base.specs.Plane.{area}
use Rattle.rt_sweep.specs.declared.bar.Bar.{Bar}
use Rattle.rt_strips.specs.declared.one_mask.stack.Stack.{Stack}
use Rattle.rt_strips.specs.Goings.{opened}
use Rattle.rt_strips.specs.Stacks.{Opened, Pile, IsPileOf}

-- a bar with the tag has the cell
pub record IsBarCell (bars : List Bar) (tag : ℕ) (x y : ℤ) : Type 0 where
  pub bar : Bar
  pub listed : Contains bars bar
  pub tagged : bar.tag ≡ tag
  pub holds : Holds (area bar.at) x y

-- bars of both tags, 0 and 1, have the cell
abbrev pub IsBothBarCell : List Bar → ℤ → ℤ → Type 0
IsBothBarCell bars x y = IsBarCell bars 0 x y × IsBarCell bars 1 x y

-- the rectangle as a bar
abbrev pub tagged_bar : ℕ → Rect → Bar
tagged_bar tag r = record { at = r; tag = tag }

-- the pile that the code's stack is
abbrev pub pile_of : Stack → Pile
pile_of s = record { kept = map area s.found.strips.items; count = s.found.count; going = map opened s.going.items }

-- the pile tells of the strips of those of the cells that lie below the height
pub record IsBuiltTo (cells : ℤ → ℤ → Type 0) (most : ℕ) (height : ℤ) (pile : Pile) : Type 0 where
  pub strips : List Rectangle
  pub told : List Opened
  pub of : IsPileOf most strips height told pile
  pub covers : (x y : ℤ) → Covers strips x y ↔ (cells x y × (y <ℤ height))
