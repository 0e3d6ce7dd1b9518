-- What the masks of a layout cover.
use Rattle.std.specs.Prelude.{ℕ, ℤ, List, [], map, slice_index_or}
use Rattle.rt_base.specs.declared.plane.Rect.{Rect}
use Rattle.rt_base.specs.Plane.{area}
use Rattle.rt_cells.specs.Rectangles.{Covers}
use Rattle.rt_layout.specs.declared.layout.Layout.{Layout}

-- the rectangles of a mask
abbrev pub rectangles_of : Layout → ℕ → List Rect
rectangles_of layout m = slice_index_or layout.masks m []

-- one of the mask's rectangles holds the cell
abbrev pub MaskCovers : Layout → ℕ → ℤ → ℤ → Type 0
MaskCovers layout m x y = Covers (map area (rectangles_of layout m)) x y
