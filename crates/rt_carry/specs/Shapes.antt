-- The shapes that a cell has for rectangles of masks, and sides that can be written.
use Rattle.std.specs.Prelude.{ℕ, ℤ, pos, ◌≤ℤ◌, Option, Some, None}
use Rattle.rt_tech.specs.declared.table.Mask.{Mask}
use Rattle.rt_tech.specs.declared.table.Tech.{Tech}
use Rattle.rt_tech.specs.Tech.{mask_at}
use Rattle.rt_rows.specs.declared.positions.TheConstants.{EXTENT_LIMIT}
use Rattle.rt_rows.specs.declared.row.Var.{Var}
use Rattle.rt_rows.specs.declared.row.Var.TheVariants.{L, R, B, T}
use Rattle.rt_strips.specs.Placed.{Placed}
use Rattle.gds_stream.specs.declared.cell.Shape.{Shape}

-- a mask's layer and data type, and 0 where there is no mask
abbrev pub layer_of_mask : Option Mask → ℤ
layer_of_mask (Some mask) = mask.layer
layer_of_mask None = pos 0

abbrev pub datatype_of_mask : Option Mask → ℤ
datatype_of_mask (Some mask) = mask.datatype
datatype_of_mask None = pos 0

-- a rectangle of a mask as a shape on the layer and the data type of that mask in the table
abbrev pub shape_of : Tech → Placed → Shape
shape_of tech p = record {
  layer = layer_of_mask (mask_at tech p.mask);
  datatype = datatype_of_mask (mask_at tech p.mask);
  x1 = p.area.left;
  y1 = p.area.bottom;
  x2 = p.area.right;
  y2 = p.area.top;
}

-- the place isn't before 0 and isn't past the most that an extent may be
pub record IsInExtent (place : ℤ) : Type 0 where
  pub low : pos 0 ≤ℤ place
  pub high : place ≤ℤ EXTENT_LIMIT

-- the four sides of strip i
pub record AreInExtent (at : Var → ℤ) (i : ℕ) : Type 0 where
  pub left : IsInExtent (at (L i))
  pub right : IsInExtent (at (R i))
  pub bottom : IsInExtent (at (B i))
  pub top : IsInExtent (at (T i))
