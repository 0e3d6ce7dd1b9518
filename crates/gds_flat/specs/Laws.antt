-- Laws on flat layouts.
use Rattle.std.specs.Prelude.{◌≡◌, ℕ, List, length, map}
use Rattle.rt_base.specs.Plane.{area}
use Rattle.rt_layout.specs.declared.layout.Layout.{Layout}
use Rattle.rt_layout.specs.Covering.{rectangles_of}
use Rattle.rt_tech.specs.declared.table.Tech.{Tech}
use Rattle.gds_stream.specs.declared.library.Structure.{Structure}
use Rattle.gds_flat.specs.Reach.{Name}
use Rattle.gds_flat.specs.Refused.{IsFlattened}

-- two layouts have the same labels, as many masks, and the same rectangles on each, in order
pub record AreAlike (f g : Layout) : Type 0 where
  pub labels : f.labels ≡ g.labels
  pub masks : length f.masks ≡ length g.masks
  pub rectangles : (m : ℕ) → map area (rectangles_of f m) ≡ map area (rectangles_of g m)

-- two flat layouts of one structure of a library, by one table, are alike
abbrev pub OneFlat : Type 0
OneFlat = (library : List Structure) (top : Name) (tech : Tech) (f g : Layout)
    → IsFlattened library top tech f → IsFlattened library top tech g → AreAlike f g
