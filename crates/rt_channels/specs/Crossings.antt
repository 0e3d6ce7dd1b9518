-- All channels of two masks: those where a strip of the first runs upwards through strips of the second, and those that lie.
use Rattle.std.specs.Prelude.{◌≡◌, ℕ, ℤ, ◌≤ℤ◌, ◌⊎◌}
use Rattle.rt_cells.specs.Line.{Within, between}
use Rattle.rt_cells.specs.Cells.{Joined}
use Rattle.rt_cells.specs.Rectangles.{Rectangle, Holds}
use Rattle.rt_family.specs.Strips.{SpansColumns, CoveredBy}
use Rattle.rt_channels.specs.Channels.{widened, stretched, IsFilled, SpansRows, IsChannel, IsCarriedChannel, AreCarriedTogether}

-- strip i runs upwards through strip j, and the cells that they have in common lie in the rectangle
pub record IsCrossing (box : ℕ → Rectangle) (area : Rectangle) (i j : ℕ) : Type 0 where
  pub columns : SpansColumns (box j) (box i)
  pub rows : SpansRows (box i) (box j)
  pub inside : (x y : ℤ) → Within (box i).left (box i).right x → Within (box j).bottom (box j).top y → Holds area x y

-- strip i runs upwards through strip j in the source and in the drawing, in one channel
pub record IsKeptCrossing (source drawn : ℕ → Rectangle) (area target : Rectangle) (i j : ℕ) : Type 0 where
  pub in_source : IsCrossing source area i j
  pub in_drawing : IsCrossing drawn target i j

-- the cell is of both masks
pub record IsOfBoth (first second : ℤ → ℤ → Type 0) (x y : ℤ) : Type 0 where
  pub of_first : first x y
  pub of_second : second x y

-- cells of one row, one of the first mask alone and one of the second alone, have so many cells between them, and so in columns
pub record KeepsCross (cross : ℤ) (first second : ℤ → ℤ → Type 0) : Type 0 where
  pub rows : (x u y : ℤ) → first x y → ¬ second x y → second u y → ¬ first u y → cross ≤ℤ between x u
  pub columns : (x y v : ℤ) → first x y → ¬ second x y → second x v → ¬ first x v → cross ≤ℤ between y v

-- each channel is covered so far below and above by the single mask, and so far left and right by the many
pub record KeepsReach (reach_single reach_many : ℤ) (single many : ℤ → ℤ → Type 0) : Type 0 where
  pub of_single : (r : Rectangle) → IsChannel single many r → IsFilled single (stretched reach_single r)
  pub of_many : (r : Rectangle) → IsChannel single many r → IsFilled many (widened reach_many r)

module _ (first second : ℕ → Type 0) (source drawn : ℕ → Rectangle) (upright lying : ℕ → Type 0) (area target : ℕ → Rectangle) where
  -- the channels of the source are carried, each cell of both masks is in one of them, and in one alone
  pub record AreCarriedChannels : Type 0 where
    pub near_first : ℤ
    pub near_second : ℤ
    pub reach_first : ℤ
    pub reach_second : ℤ
    pub together : AreCarriedTogether first second source drawn
    pub upright_carried : (c : ℕ) → upright c → IsCarriedChannel first second source drawn (area c) (target c) near_first near_second reach_first reach_second
    pub lying_carried : (c : ℕ) → lying c → IsCarriedChannel second first source drawn (area c) (target c) near_second near_first reach_second reach_first
    pub every : (x y : ℤ) → IsOfBoth (CoveredBy first source) (CoveredBy second source) x y → (c : ℕ) × (upright c ⊎ lying c) × Holds (area c) x y
    pub once : (c d : ℕ) (x y : ℤ) → upright c ⊎ lying c → upright d ⊎ lying d → Holds (area c) x y → Holds (area d) x y → c ≡ d

  -- the strips cross in the channel, in the source and in the drawing
  abbrev pub CrossIn : ℕ → ℕ → ℕ → Type 0
  CrossIn c i j = (upright c × IsKeptCrossing source drawn (area c) (target c) i j) ⊎ (lying c × IsKeptCrossing source drawn (area c) (target c) j i)

  -- the drawn channels are those of the source, each as it stood or lay there: the pieces of the cells of both masks
  pub record AreDrawnChannels : Type 0 where
    pub upright_drawn : (c : ℕ) → upright c → IsChannel (CoveredBy first drawn) (CoveredBy second drawn) (target c)
    pub lying_drawn : (c : ℕ) → lying c → IsChannel (CoveredBy second drawn) (CoveredBy first drawn) (target c)
    pub every : (x y : ℤ) → IsOfBoth (CoveredBy first drawn) (CoveredBy second drawn) x y → (c : ℕ) × (upright c ⊎ lying c) × Holds (target c) x y
    pub once : (c d : ℕ) (x y : ℤ) → upright c ⊎ lying c → upright d ⊎ lying d → Holds (target c) x y → Holds (target d) x y → c ≡ d
    pub whole : (c : ℕ) (x y u v : ℤ) → upright c ⊎ lying c → Holds (target c) x y → Joined (IsOfBoth (CoveredBy first drawn) (CoveredBy second drawn)) x y u v → Holds (target c) u v
    pub connected : (c : ℕ) (x y u v : ℤ) → upright c ⊎ lying c → Holds (target c) x y → Holds (target c) u v → Joined (IsOfBoth (CoveredBy first drawn) (CoveredBy second drawn)) x y u v
