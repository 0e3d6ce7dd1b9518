-- What is read back of what is written: a layout of just its rectangles and labels.
use Rattle.std.specs.Prelude.{◌≡◌, ℕ, ◌-◌, ◌^◌, pos, List, length, map}
use Rattle.rt_base.specs.Plane.{area}
use Rattle.rt_layout.specs.declared.layout.Label.{Label}
use Rattle.rt_layout.specs.declared.layout.Layout.{Layout}
use Rattle.rt_layout.specs.Covering.{rectangles_of}
use Rattle.rt_tech.specs.declared.table.Tech.{Tech}
use Rattle.rt_tech.specs.Tech.{mask_count}
use Rattle.rt_strips.specs.Placed.{Placed, areas_of}
use Rattle.gds_stream.specs.declared.library.Library.{Library}
use Rattle.gds_slabs.specs.Steps.{IsWithin}
use Rattle.gds_flat.specs.Items.{Flat}

-- a layout that has just these rectangles, by mask and in order, and just these labels, in order
pub record IsLayoutOf (tech : Tech) (rectangles : List Placed) (labels : List Label) (layout : Layout) : Type 0 where
  pub masks : length layout.masks ≡ mask_count tech
  pub rectangles_are : (m : ℕ) → map area (rectangles_of layout m) ≡ areas_of m rectangles
  pub labels_are : layout.labels ≡ labels

-- what is written is read back: the cell flattens to just these rectangles and labels
pub record ReadsBackAs (library : Library) (tech : Tech) (name : List ℕ) (rectangles : List Placed) (labels : List Label) : Type 0 where
  pub layout : Layout
  pub flat : Flat library.structures tech name layout
  pub is : IsLayoutOf tech rectangles labels layout

-- a layout can have the rectangle: no side is farther from the axes than 2^62 - 1
abbrev pub IsInRange : Placed → Type 0
IsInRange rectangle = IsWithin (pos (2 ^ 62 - 1)) rectangle.area
