-- Labels that strips touch.
use Rattle.std.specs.Prelude.{◌≡◌, List, All}
use Rattle.rt_base.specs.Plane.{AreCoordinates}
use Rattle.rt_layout.specs.declared.layout.Label.{Label}
use Rattle.rt_strips.specs.Placed.{Placed}
use Rattle.rt_cuts.specs.Labels.{Touches as TouchesRectangle}

-- the rectangle is of the label's mask, and has its point inside or on its border
pub record IsTouching (p : Placed) (label : Label) : Type 0 where
  pub of_mask : p.mask ≡ label.mask
  pub touches : TouchesRectangle p.area label.at.0 label.at.1

-- the label's point lies so near to the axes that the square at it is a rectangle
pub record IsPlain (label : Label) : Type 0 where
  pub point : AreCoordinates label.at

-- those of all labels do
abbrev pub ArePlain : List Label → Type 0
ArePlain labels = All IsPlain labels
