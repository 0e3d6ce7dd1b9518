-- Channels that are rectangles, and what strips are of in a layout: the masks, and such channels behind them.
use Rattle.std.specs.Prelude.{◌≡◌, ℕ, suc, ◌<◌, ℤ, ◌⊎◌, Some, List, length, map, min, ◌^◌, ◌-◌}
use Rattle.rt_cells.specs.Rectangles.{Rectangle, Holds}
use Rattle.rt_layout.specs.declared.layout.Layout.{Layout}
use Rattle.rt_layout.specs.Covering.{MaskCovers}
use Rattle.rt_rules.specs.Pieces.{IsPiece}
use Rattle.rt_tech.specs.declared.table.Mask.{Mask}
use Rattle.rt_tech.specs.declared.table.Role.{Role as MaskRole}
use Rattle.rt_tech.specs.declared.table.Role.TheVariants.{Gate, Active}
use Rattle.rt_tech.specs.declared.table.Tech.{Tech}
use Rattle.rt_tech.specs.Tech.{mask_count, mask_at}
use Rattle.rt_strips.specs.declared.listing.StripError.{StripError}
use Rattle.rt_strips.specs.declared.listing.StripError.TheVariants.{TooMany, OutOfMemory}
use Rattle.rt_strips.specs.declared.listing.Strips.{Strips}
use Rattle.rt_strips.specs.Placed.{Placed, placed}
use Rattle.rt_strips.specs.StripsOf.{AreStripsOf}

-- mask m of the table has the role
pub record IsOfRole (tech : Tech) (role : MaskRole) (m : ℕ) : Type 0 where
  pub mask : Mask
  pub there : mask_at tech m ≡ Some mask
  pub of_role : mask.role ≡ role

-- both the gate and the active cover the cell
pub record IsChannelCell (layout : Layout) (tech : Tech) (x y : ℤ) : Type 0 where
  pub gate : ℕ
  pub active : ℕ
  pub is_gate : IsOfRole tech Gate gate
  pub is_active : IsOfRole tech Active active
  pub in_gate : MaskCovers layout gate x y
  pub in_active : MaskCovers layout active x y

-- the cell lies in a channel that is a rectangle
pub record IsInChannel (layout : Layout) (tech : Tech) (x y : ℤ) : Type 0 where
  pub channel : Rectangle
  pub piece : IsPiece (IsChannelCell layout tech) channel
  pub holds : Holds channel x y

-- what the strips of number m are of: the cells of mask m, and behind the masks those of the channels that are rectangles
pub record IsStripCell (layout : Layout) (tech : Tech) (m : ℕ) (x y : ℤ) : Type 0 where
  pub of_mask_or_channel : ((m < mask_count tech) × MaskCovers layout m x y) ⊎ ((m ≡ mask_count tech) × IsInChannel layout tech x y)

-- the strips of the layout: of each mask of the table, then of the channels that are rectangles
abbrev pub AreLayoutStrips : Layout → Tech → List Placed → Type 0
AreLayoutStrips layout tech strips = AreStripsOf (IsStripCell layout tech) (suc (mask_count tech)) strips

-- the same, with the number of masks of the table
pub record IsStripsOf (layout : Layout) (tech : Tech) (strips : Strips) : Type 0 where
  pub counted : strips.masks ≡ mask_count tech
  pub strips_are : AreLayoutStrips layout tech (map placed strips.list)

-- the strips of the layout are more than the limit, and the count is how many they are; a count past its type stands at its end
pub record AreTooMany (layout : Layout) (tech : Tech) (limit count : ℕ) : Type 0 where
  pub strips : List Placed
  pub strips_are : AreLayoutStrips layout tech strips
  pub beyond : limit < length strips
  pub counted : count ≡ min (length strips) (2 ^ 64 - 1)

-- what a refusal says
abbrev pub RefusesStrips : Layout → Tech → ℕ → StripError → Type 0
RefusesStrips layout tech limit (TooMany count) = AreTooMany layout tech limit count
RefusesStrips layout tech limit OutOfMemory = Unit {0}
