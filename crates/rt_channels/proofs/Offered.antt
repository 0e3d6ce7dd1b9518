-- The public laws, from the lemmas over any strips and channels.
use Rattle.std.specs.Prelude.{ℕ, true, false}
use Rattle.rt_cells.specs.Rectangles.{Rectangle}
use Rattle.rt_family.specs.Laws.{IsOfMask}
use Rattle.rt_channels.specs.Crossings.{AreCarriedChannels}
use Rattle.rt_channels.specs.Laws.{IsChannelThat, CarriedChannelsAreDrawn, CarriedChannelsKeepCross, CarriedChannelsKeepReach, KeepsOrder, CarriedChannelsKeepOrder, ScalingKeepsChannels}
use Rattle.rt_channels.proofs.Crossings.{drawn_channels, keeps_cross}
use Rattle.rt_channels.proofs.Reach.{keeps_reach, turned_channels}
use Rattle.rt_channels.proofs.Order.{beside, above}
use Rattle.rt_channels.proofs.Fine.{scaled_channels}

pub channels_drawn : CarriedChannelsAreDrawn
channels_drawn count mask m n source drawn channels lies area target all =
    drawn_channels (IsOfMask count mask m) (IsOfMask count mask n) source drawn (IsChannelThat channels lies false) (IsChannelThat channels lies true) area target all.carried

pub cross_kept : CarriedChannelsKeepCross
cross_kept count mask m n source drawn channels lies area target all =
    keeps_cross (IsOfMask count mask m) (IsOfMask count mask n) source drawn (IsChannelThat channels lies false) (IsChannelThat channels lies true) area target all.carried

pub reach_kept : CarriedChannelsKeepReach
reach_kept count mask m n source drawn channels lies area target all = (
  keeps_reach (IsOfMask count mask m) (IsOfMask count mask n) source drawn (IsChannelThat channels lies false) (IsChannelThat channels lies true) area target all.carried,
  keeps_reach (IsOfMask count mask n) (IsOfMask count mask m) source drawn (IsChannelThat channels lies true) (IsChannelThat channels lies false) area target
      (turned_channels (IsOfMask count mask m) (IsOfMask count mask n) source drawn (IsChannelThat channels lies false) (IsChannelThat channels lies true) area target all.carried),
)

in_order : (first second : ℕ → Type 0) (source drawn : ℕ → Rectangle) (upright lying : ℕ → Type 0) (area target : ℕ → Rectangle)
    → AreCarriedChannels first second source drawn upright lying area target → KeepsOrder first second source upright area target
in_order first second source drawn upright lying area target all = record {
  beside = λ c d a is_c is_d h k. beside first second source drawn all.together (area c) (target c) _ _ _ _ (all.upright_carried c is_c)
      (area d) (target d) _ _ _ _ (all.upright_carried d is_d) a h k;
  above = λ c d a is_c is_d h k. above first second source drawn all.together (area c) (target c) _ _ _ _ (all.upright_carried c is_c)
      (area d) (target d) _ _ _ _ (all.upright_carried d is_d) a h k;
}

pub order_kept : CarriedChannelsKeepOrder
order_kept count mask m n source drawn channels lies area target all = (
  in_order (IsOfMask count mask m) (IsOfMask count mask n) source drawn (IsChannelThat channels lies false) (IsChannelThat channels lies true) area target all.carried,
  in_order (IsOfMask count mask n) (IsOfMask count mask m) source drawn (IsChannelThat channels lies true) (IsChannelThat channels lies false) area target
      (turned_channels (IsOfMask count mask m) (IsOfMask count mask n) source drawn (IsChannelThat channels lies false) (IsChannelThat channels lies true) area target all.carried),
)

pub channels_scaled : ScalingKeepsChannels
channels_scaled count mask m n source drawn channels lies area target grid some all = record {
  carried = scaled_channels grid some (IsOfMask count mask m) (IsOfMask count mask n) source drawn (IsChannelThat channels lies false) (IsChannelThat channels lies true)
      area target all.carried;
}
