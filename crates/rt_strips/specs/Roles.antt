-- The rectangles of masks of one role.
use Rattle.std.specs.Prelude.{ℕ, ◌<◌, List, Contains}
use Rattle.rt_base.specs.declared.plane.Rect.{Rect}
use Rattle.rt_layout.specs.declared.layout.Layout.{Layout}
use Rattle.rt_layout.specs.Covering.{rectangles_of}
use Rattle.rt_tech.specs.declared.table.Role.{Role as MaskRole}
use Rattle.rt_tech.specs.declared.table.Tech.{Tech}
use Rattle.rt_strips.specs.Channels.{IsOfRole}

-- the rectangle is one of a mask of the role, among the first n masks
pub record IsRectOf (layout : Layout) (tech : Tech) (n : ℕ) (role : MaskRole) (rect : Rect) : Type 0 where
  pub mask : ℕ
  pub below : mask < n
  pub of_role : IsOfRole tech role mask
  pub there : Contains (rectangles_of layout mask) rect

-- the rectangles are those of all masks of the role, among the first n masks
pub record AreOfRole (layout : Layout) (tech : Tech) (n : ℕ) (role : MaskRole) (rects : List Rect) : Type 0 where
  pub each : (rect : Rect) → Contains rects rect → IsRectOf layout tech n role rect
  pub every : (rect : Rect) → IsRectOf layout tech n role rect → Contains rects rect
