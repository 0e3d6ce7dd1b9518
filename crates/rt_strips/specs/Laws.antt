-- What holds of the strips of a layout.
use Rattle.std.specs.Prelude.{◌≡◌, ℕ, ◌<◌, ℤ, ◌↔◌, List}
use Rattle.rt_cells.specs.Rectangles.{Rectangle}
use Rattle.rt_layout.specs.declared.layout.Layout.{Layout}
use Rattle.rt_layout.specs.Covering.{MaskCovers}
use Rattle.rt_tech.specs.declared.table.Tech.{Tech}
use Rattle.rt_tech.specs.Tech.{mask_count}
use Rattle.rt_strips.specs.Placed.{Placed, strip_at, mask_of, covered_by}
use Rattle.rt_strips.specs.Standing.{IsStrip}
use Rattle.rt_rules.specs.Pieces.{IsPiece}
use Rattle.rt_strips.specs.Channels.{IsChannelCell, AreLayoutStrips}

-- two lists that are the strips of a layout are the same list
abbrev pub OneListOfStrips : Type 0
OneListOfStrips = (layout : Layout) (tech : Tech) (a b : List Placed) → AreLayoutStrips layout tech a → AreLayoutStrips layout tech b → a ≡ b

-- a mask's strips cover what the mask covers
abbrev pub StripsCover : Type 0
StripsCover = (layout : Layout) (tech : Tech) (strips : List Placed) → AreLayoutStrips layout tech strips
    → (m : ℕ) (x y : ℤ) → m < mask_count tech → MaskCovers layout m x y ↔ covered_by m strips x y

-- the rectangle is that of a strip behind the masks
pub record IsChannelStrip (tech : Tech) (strips : List Placed) (r : Rectangle) : Type 0 where
  pub number : ℕ
  pub strip : IsStrip strips number
  pub behind_masks : mask_of strips number ≡ mask_count tech
  pub area_is : (strip_at strips number).area ≡ r

-- the strips behind the masks are the channels that are rectangles, the pieces of what gates and actives both cover
abbrev pub ChannelsArePieces : Type 0
ChannelsArePieces = (layout : Layout) (tech : Tech) (strips : List Placed) → AreLayoutStrips layout tech strips
    → (r : Rectangle) → IsChannelStrip tech strips r ↔ IsPiece (IsChannelCell layout tech) r
