-- What is promised of carried channels: they are the channels of the drawing, and the drawing keeps the rules cross and reach.
use Rattle.std.specs.Prelude.{◌≡◌, ℕ, ◌<◌, ℤ, pos, ◌≤ℤ◌, ◌<ℤ◌, Bool, true, false}
use Rattle.rt_cells.specs.Rectangles.{Rectangle, scaled}
use Rattle.rt_family.specs.Strips.{CoveredBy, IsHost}
use Rattle.rt_family.specs.Laws.{IsOfMask}
use Rattle.rt_channels.specs.Crossings.{KeepsCross, KeepsReach, AreCarriedChannels, AreDrawnChannels}

-- channel c, of so many, lies or stands
pub record IsChannelThat (count : ℕ) (lies : ℕ → Bool) (way : Bool) (c : ℕ) : Type 0 where
  pub below : c < count
  pub lies_so : lies c ≡ way

-- the strips and the channels of two masks
pub record AreCarried (count : ℕ) (mask : ℕ → ℕ) (m n : ℕ) (source drawn : ℕ → Rectangle) (channels : ℕ) (lies : ℕ → Bool) (area target : ℕ → Rectangle) : Type 0 where
  pub carried : AreCarriedChannels (IsOfMask count mask m) (IsOfMask count mask n) source drawn (IsChannelThat channels lies false) (IsChannelThat channels lies true) area target

-- the drawn channels are the channels of the drawing
abbrev pub CarriedChannelsAreDrawn : Type 0
CarriedChannelsAreDrawn = (count : ℕ) (mask : ℕ → ℕ) (m n : ℕ) (source drawn : ℕ → Rectangle) (channels : ℕ) (lies : ℕ → Bool) (area target : ℕ → Rectangle)
    → AreCarried count mask m n source drawn channels lies area target
    → AreDrawnChannels (IsOfMask count mask m) (IsOfMask count mask n) source drawn (IsChannelThat channels lies false) (IsChannelThat channels lies true) area target

-- the rule cross is kept
abbrev pub CarriedChannelsKeepCross : Type 0
CarriedChannelsKeepCross = (count : ℕ) (mask : ℕ → ℕ) (m n : ℕ) (source drawn : ℕ → Rectangle) (channels : ℕ) (lies : ℕ → Bool) (area target : ℕ → Rectangle)
    → (all : AreCarried count mask m n source drawn channels lies area target)
    → KeepsCross all.carried.together.clear (CoveredBy (IsOfMask count mask m) drawn) (CoveredBy (IsOfMask count mask n) drawn)

-- the reach of both masks beyond the channels is kept
abbrev pub CarriedChannelsKeepReach : Type 0
CarriedChannelsKeepReach = (count : ℕ) (mask : ℕ → ℕ) (m n : ℕ) (source drawn : ℕ → Rectangle) (channels : ℕ) (lies : ℕ → Bool) (area target : ℕ → Rectangle)
    → (all : AreCarried count mask m n source drawn channels lies area target)
    → KeepsReach all.carried.reach_first all.carried.reach_second (CoveredBy (IsOfMask count mask m) drawn) (CoveredBy (IsOfMask count mask n) drawn)
    × KeepsReach all.carried.reach_second all.carried.reach_first (CoveredBy (IsOfMask count mask n) drawn) (CoveredBy (IsOfMask count mask m) drawn)

-- of channels of one strip that follow each other, the drawn ones do: of two beside each other that cut one strip of the many mask, and of two
-- one above the other that one strip of the single mask runs through
pub record KeepsOrder (single many : ℕ → Type 0) (source : ℕ → Rectangle) (channel : ℕ → Type 0) (area target : ℕ → Rectangle) : Type 0 where
  pub beside : (c d a : ℕ) → channel c → channel d → IsHost many source (area c) a → IsHost many source (area d) a
      → (area c).right ≤ℤ (area d).left → (target c).right <ℤ (target d).left
  pub above : (c d a : ℕ) → channel c → channel d → IsHost single source (area c) a → IsHost single source (area d) a
      → (area c).top <ℤ (area d).bottom → (target c).top <ℤ (target d).bottom

-- the drawn channels keep their order along the strips
abbrev pub CarriedChannelsKeepOrder : Type 0
CarriedChannelsKeepOrder = (count : ℕ) (mask : ℕ → ℕ) (m n : ℕ) (source drawn : ℕ → Rectangle) (channels : ℕ) (lies : ℕ → Bool) (area target : ℕ → Rectangle)
    → AreCarried count mask m n source drawn channels lies area target
    → KeepsOrder (IsOfMask count mask m) (IsOfMask count mask n) source (IsChannelThat channels lies false) area target
    × KeepsOrder (IsOfMask count mask n) (IsOfMask count mask m) source (IsChannelThat channels lies true) area target

-- channels that are carried in steps are carried in database units, with so many of them a step
abbrev pub ScalingKeepsChannels : Type 0
ScalingKeepsChannels = (count : ℕ) (mask : ℕ → ℕ) (m n : ℕ) (source drawn : ℕ → Rectangle) (channels : ℕ) (lies : ℕ → Bool) (area target : ℕ → Rectangle)
    (grid : ℤ) → pos 1 ≤ℤ grid → AreCarried count mask m n source drawn channels lies area target
    → AreCarried count mask m n source (λ i. scaled grid (drawn i)) channels lies area (λ c. scaled grid (target c))
