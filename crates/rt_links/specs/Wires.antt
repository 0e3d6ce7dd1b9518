-- What conducts: the strips of several masks, joined where they touch and where a cut lies on two of them; and drawings that carry all that.
use Rattle.std.specs.Prelude.{◌≡◌, ℕ, ℤ, pos, ◌≤ℤ◌, ◌⊎◌, Bool, IsTrue}
use Rattle.rt_cells.specs.Cells.{ShareSide}
use Rattle.rt_cells.specs.Rectangles.{Rectangle, IsNonempty, Holds}
use Rattle.rt_family.specs.Strips.{HoldsCell, CoveredBy}
use Rattle.rt_family.specs.Carried.{IsCarried}
use Rattle.rt_family.specs.Laws.{IsOfMask}
use Rattle.rt_cuts.specs.Cuts.{grown, IsKeptInside}

-- so many strips, the mask of each, which masks conduct, which strips are cuts, and the masks above and below each cut
pub record Wires : Type 0 where
  pub count : ℕ
  pub mask : ℕ → ℕ
  pub conducting : ℕ → Bool
  pub cuts : ℕ → Bool
  pub upper : ℕ → ℕ
  pub lower : ℕ → ℕ

-- the strips of mask m
abbrev pub OfMask : Wires → ℕ → ℕ → Type 0
OfMask wires m = IsOfMask wires.count wires.mask m

-- a cell of a mask
pub record Spot : Type 0 where
  pub mask : ℕ
  pub x : ℤ
  pub y : ℤ

-- two spots of one mask share a side
pub record AreBeside (p q : Spot) : Type 0 where
  pub one_mask : q.mask ≡ p.mask
  pub side : ShareSide p.x p.y q.x q.y

module _ (wires : Wires) (box : ℕ → Rectangle) where
  -- the mask of the spot conducts, and covers its cell
  pub record IsLive (p : Spot) : Type 0 where
    pub conducts : IsTrue (wires.conducting p.mask)
    pub covered : CoveredBy (OfMask wires p.mask) box p.x p.y

  -- the spot is live, and strip i holds its cell
  pub record IsOfStrip (p : Spot) (i : ℕ) : Type 0 where
    pub conducts : IsTrue (wires.conducting p.mask)
    pub holds : HoldsCell (OfMask wires p.mask) box i p.x p.y

  -- a cut lies on both spots, of which the one is of the mask above it and the other of the mask below it
  pub record AreCutTogether (p q : Spot) : Type 0 where
    pub cut : ℕ
    pub is_cut : IsTrue (wires.cuts cut)
    pub upper : wires.upper cut ≡ p.mask
    pub lower : wires.lower cut ≡ q.mask
    pub first_in : Holds (box cut) p.x p.y
    pub second_in : Holds (box cut) q.x q.y

  -- two live spots are joined directly. A net is a class of spots that are linked by such pairs
  pub record AreNeighbours (p q : Spot) : Type 0 where
    pub first : IsLive p
    pub second : IsLive q
    pub near : AreBeside p q ⊎ AreCutTogether p q

module _ (wires : Wires) (source drawn : ℕ → Rectangle) where
  -- cut c lies in mask m in the source, with `near` around it, and is drawn inside of its hosts there
  pub record IsKeptWithin (c m : ℕ) : Type 0 where
    pub conducts : IsTrue (wires.conducting m)
    pub near : ℤ
    pub number : ℤ
    pub some_near : pos 0 ≤ℤ near
    pub some_number : pos 0 ≤ℤ number
    pub covered : (x y : ℤ) → Holds (grown near (source c)) x y → CoveredBy (OfMask wires m) source x y
    pub inside : IsKeptInside (λ i. i ≡ c) (OfMask wires m) source drawn near number

  -- cut c has a cell, in the source and drawn, and is kept within the mask above it and the mask below it
  pub record IsKeptCut (c : ℕ) : Type 0 where
    pub source_cell : IsNonempty (source c)
    pub drawn_cell : IsNonempty (drawn c)
    pub in_upper : IsKeptWithin c (wires.upper c)
    pub in_lower : IsKeptWithin c (wires.lower c)

  -- each mask that conducts is carried, and each cut is kept
  pub record CarriesWires : Type 0 where
    pub width : ℕ → ℤ
    pub space : ℕ → ℕ → ℕ → ℤ
    pub carried : (m : ℕ) → IsTrue (wires.conducting m) → IsCarried (OfMask wires m) source drawn (width m) (space m)
    pub cuts : (c : ℕ) → IsTrue (wires.cuts c) → IsKeptCut c

  -- a spot of the source and a spot of the drawing are of one strip
  pub record AreOfOneStrip (p r : Spot) : Type 0 where
    pub strip : ℕ
    pub in_source : IsOfStrip wires source p strip
    pub in_drawing : IsOfStrip wires drawn r strip
