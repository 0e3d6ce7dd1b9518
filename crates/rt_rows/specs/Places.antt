-- The values that positions give to the variables.
use Rattle.std.specs.Prelude.{ℤ, pos, slice_index_or, unwrap_or}
use Rattle.rt_rows.specs.declared.row.Var.{Var}
use Rattle.rt_rows.specs.declared.row.Var.TheVariants.{L, R, B, T, Width, Height, Axis}
use Rattle.rt_rows.specs.declared.positions.Positions.{Positions}

-- the value of each variable; a strip that isn't there stands at 0
abbrev pub places : Positions → Var → ℤ
places at (L i) = slice_index_or at.l i (pos 0)
places at (R i) = slice_index_or at.r i (pos 0)
places at (B i) = slice_index_or at.b i (pos 0)
places at (T i) = slice_index_or at.t i (pos 0)
places at Width = at.width
places at Height = at.height
places at Axis = unwrap_or at.axis (pos 0)
