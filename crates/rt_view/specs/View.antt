-- The view of a layout whose masks are metals and cuts.
use Rattle.std.specs.Prelude.{◌≡◌, [], length, map, replicate}
use Rattle.rt_layout.specs.declared.layout.Layout.{Layout}
use Rattle.rt_layout.specs.Covering.{MaskCovers}
use Rattle.rt_tech.specs.declared.table.Mask.{Mask}
use Rattle.rt_tech.specs.declared.table.Role.TheVariants.{Metal}
use Rattle.rt_tech.specs.declared.table.Tech.{Tech}
use Rattle.rt_strips.specs.Channels.{IsStripsOf}
use Rattle.rt_strips.specs.Placed.{placed}
use Rattle.rt_view.specs.declared.shapes.View.{View}
use Rattle.rt_view.specs.Lowers.{AreLowersOf}
use Rattle.rt_view.specs.Shapes.{HasSoundShapes}

-- a mask of metal
abbrev pub IsMetal : Mask → Type 0
IsMetal mask = mask.role ≡ Metal

-- it has the layout's strips and labels, and for each strip of a cut its lower mask; the layout has the shapes of a sound source. Without gate and
-- active there is no channel, and without active no strip has a kind
pub record IsViewOf (layout : Layout) (tech : Tech) (view : View) : Type 0 where
  pub strips : IsStripsOf layout tech view.strips
  pub channels : view.channels ≡ []
  pub lowers : AreLowersOf tech (MaskCovers layout) (map placed view.strips.list) view.lowers
  pub kinds : view.kinds ≡ replicate (length view.strips.list) 0
  pub labels : view.labels ≡ layout.labels
  pub sound : HasSoundShapes tech (MaskCovers layout) layout.labels

-- the view is that of some layout
pub record IsView (tech : Tech) (view : View) : Type 0 where
  pub layout : Layout
  pub view_of : IsViewOf layout tech view
