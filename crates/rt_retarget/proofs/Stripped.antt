-- What the strips of a layout cover.
use Rattle.std.proofs.Common.{ℕ, ◌<◌, List, inl, inr, arith}
use Rattle.rt_layout.specs.declared.layout.Layout.{Layout}
use Rattle.rt_layout.specs.Covering.{MaskCovers}
use Rattle.rt_rules.proofs.Alike.{AreAlike}
use Rattle.rt_strips.specs.Channels.{AreLayoutStrips}
use Rattle.rt_strips.specs.Placed.{Placed, covered_by}
use Rattle.rt_tech.specs.declared.table.Tech.{Tech}
use Rattle.rt_tech.specs.Tech.{mask_count}

-- cells of one of the masks of the table, as what its strips cover
pub covered_alike : (layout : Layout) (tech : Tech) (strips : List Placed) → AreLayoutStrips layout tech strips → (m : ℕ) → m < mask_count tech
    → AreAlike (covered_by m strips) (MaskCovers layout m)
covered_alike layout tech strips are m h = record {
  to = λ x y c. elim ((are.same_cells m x y (omega (arith, h))).1 c).of_mask_or_channel [
    | inl of_mask ↦ of_mask.1
    | inr channel ↦ absurd (omega (arith, h, channel.0))
  ];
  from = λ x y c. (are.same_cells m x y (omega (arith, h))).0 (record { of_mask_or_channel = inl (h, c) });
}
