-- Strips that channels cut into parts, in one layout.
use Rattle.std.specs.Prelude.{◌≡◌, ℕ, ◌<◌, ◌≤◌, Bool, true, false, ℤ, pos, ◌-ℤ◌, ◌≤ℤ◌, ◌<ℤ◌, ◌⊎◌}
use Rattle.rt_cells.specs.Line.{Within}
use Rattle.rt_cells.specs.Cells.{ShareSide}
use Rattle.rt_cells.specs.Rectangles.{Rectangle, IsNonempty, Holds}
use Rattle.rt_family.specs.Strips.{SpansColumns, HoldsCell, CoveredBy, IsFamily, StandsOn}

-- a cell
pub record Place : Type 0 where
  pub x : ℤ
  pub y : ℤ

-- the part of a strip behind so many of its channels
pub record Part : Type 0 where
  pub strip : ℕ
  pub place : ℕ

-- which channels cut which strips: whether those of a strip lie, how many they are, which they are in their order, and on which side
-- of a strip a channel stands that cuts a neighbour of the strip alone
pub record Cuts : Type 0 where
  pub lies : ℕ → Bool
  pub count : ℕ → ℕ
  pub number : ℕ → ℕ → ℕ
  pub before : ℕ → ℕ → Bool

-- so many intervals of a line end up to the place, and the others begin after it
pub record IsSlot (low high : ℕ → ℤ) (count k : ℕ) (t : ℤ) : Type 0 where
  pub few : k ≤ count
  pub past : (j : ℕ) → j < k → high j ≤ℤ t
  pub ahead : (j : ℕ) → k ≤ j → j < count → t <ℤ low j

-- the line that channels follow each other on: columns, or rows where they lie
abbrev pub along : Bool → ℤ → ℤ → ℤ
along true x y = y
along false x y = x

abbrev pub low_of : Bool → Rectangle → ℤ
low_of true r = r.bottom
low_of false r = r.left

abbrev pub high_of : Bool → Rectangle → ℤ
high_of true r = r.top
high_of false r = r.right

-- a channel cuts a strip from its bottom to its top, and leaves columns of it on both sides
pub record CutsUpright (strip cut : Rectangle) : Type 0 where
  pub left : strip.left <ℤ cut.left
  pub right : cut.right <ℤ strip.right
  pub bottom : cut.bottom ≤ℤ strip.bottom
  pub top : strip.top ≤ℤ cut.top

-- a channel cuts a strip from its left to its right
pub record CutsLying (strip cut : Rectangle) : Type 0 where
  pub left : cut.left ≤ℤ strip.left
  pub right : strip.right ≤ℤ cut.right
  pub bottom : strip.bottom ≤ℤ cut.bottom
  pub top : cut.top ≤ℤ strip.top

-- a channel stands before a strip, or behind it
pub record IsBeside (before : Bool) (cut strip : Rectangle) : Type 0 where
  pub first : before ≡ true → cut.right ≤ℤ strip.left
  pub second : before ≡ false → strip.right ≤ℤ cut.left

-- a channel isn't one of those of the strip
abbrev pub IsAlone : Cuts → ℕ → ℕ → Type 0
IsAlone cuts c z = (j : ℕ) → j < cuts.count z → ¬ (cuts.number z j ≡ c)

-- of two strips, the upright channels of one are before the part where they stand before the other strip, if they don't cut it
abbrev pub KeepsSides : Cuts → Part → Part → Type 0
KeepsSides cuts u v =
    cuts.lies u.strip ≡ false → (i : ℕ) → i < cuts.count u.strip → IsAlone cuts (cuts.number u.strip i) v.strip
    → (i < u.place → cuts.before (cuts.number u.strip i) v.strip ≡ true) × (cuts.before (cuts.number u.strip i) v.strip ≡ true → i < u.place)

-- the parts of two strips, of which the second stands on the first, that touch
pub record Adjoin (stands : ℕ → ℕ → Type 0) (cuts : Cuts) (u v : Part) : Type 0 where
  pub stand : stands u.strip v.strip
  pub first_few : u.place ≤ cuts.count u.strip
  pub second_few : v.place ≤ cuts.count v.strip
  pub last : cuts.lies u.strip ≡ true → u.place ≡ cuts.count u.strip
  pub first : cuts.lies v.strip ≡ true → v.place ≡ 0
  pub both : cuts.lies u.strip ≡ false → cuts.lies v.strip ≡ false → (i j : ℕ) → i < cuts.count u.strip → j < cuts.count v.strip
      → cuts.number u.strip i ≡ cuts.number v.strip j → (i < u.place → j < v.place) × (j < v.place → i < u.place)
  pub lower : KeepsSides cuts u v
  pub upper : KeepsSides cuts v u

-- a strip spans the columns of a cut, which lies behind so many of its channels and before the others
pub record IsBesideCut (member : ℕ → Type 0) (box channel : ℕ → Rectangle) (cuts : Cuts) (place : ℕ → ℕ) (cut : Rectangle) (h : ℕ) : Type 0 where
  pub strip : member h
  pub wide : SpansColumns (box h) cut
  pub few : place h ≤ cuts.count h
  pub past : (j : ℕ) → j < place h → high_of (cuts.lies h) (channel (cuts.number h j)) ≤ℤ low_of (cuts.lies h) cut
  pub ahead : (j : ℕ) → place h ≤ j → j < cuts.count h → high_of (cuts.lies h) cut ≤ℤ low_of (cuts.lies h) (channel (cuts.number h j))

module _ (member : ℕ → Type 0) (box channel : ℕ → Rectangle) (gate : ℤ → ℤ → Type 0) (stands : ℕ → ℕ → Type 0) (cuts : Cuts) where
  -- the cell is of a strip and isn't gate
  pub record IsBare (x y : ℤ) : Type 0 where
    pub covered : CoveredBy member box x y
    pub no_gate : ¬ gate x y

  -- two cells of strips that aren't gate share a side
  pub record AreNext (p q : Place) : Type 0 where
    pub first : IsBare p.x p.y
    pub second : IsBare q.x q.y
    pub side : ShareSide p.x p.y q.x q.y

  -- the cell is of the part
  pub record IsInPart (u : Part) (x y : ℤ) : Type 0 where
    pub holds : HoldsCell member box u.strip x y
    pub slot : IsSlot (λ j. low_of (cuts.lies u.strip) (channel (cuts.number u.strip j))) (λ j. high_of (cuts.lies u.strip) (channel (cuts.number u.strip j)))
        (cuts.count u.strip) u.place (along (cuts.lies u.strip) x y)

  -- the strips are cut by the channels
  pub record IsCutting : Type 0 where
    pub family : IsFamily member box
    pub stands_there : (a z : ℕ) → stands a z → StandsOn member box a z
    pub stands_here : (a z : ℕ) → StandsOn member box a z → stands a z
    pub nonempty : (a j : ℕ) → member a → j < cuts.count a → IsNonempty (channel (cuts.number a j))
    pub crossed : (a : ℕ) (x y : ℤ) → HoldsCell member box a x y → gate x y → (j : ℕ) × (j < cuts.count a) × Holds (channel (cuts.number a j)) x y
    pub crossing : (a j : ℕ) (x y : ℤ) → HoldsCell member box a x y → j < cuts.count a → Holds (channel (cuts.number a j)) x y → gate x y
    pub upright : (a j : ℕ) → member a → cuts.lies a ≡ false → j < cuts.count a → CutsUpright (box a) (channel (cuts.number a j))
    pub lying : (a j : ℕ) → member a → cuts.lies a ≡ true → j < cuts.count a → CutsLying (box a) (channel (cuts.number a j))
    pub some : (a : ℕ) → member a → cuts.lies a ≡ true → 0 < cuts.count a
    pub one_way : (a z i j : ℕ) → member a → member z → i < cuts.count a → j < cuts.count z → cuts.number a i ≡ cuts.number z j → cuts.lies a ≡ cuts.lies z
    pub order : (a i j : ℕ) → member a → i < j → j < cuts.count a
        → high_of (cuts.lies a) (channel (cuts.number a i)) <ℤ low_of (cuts.lies a) (channel (cuts.number a j))
    pub beside : (a z i : ℕ) → stands a z ⊎ stands z a → cuts.lies a ≡ false → i < cuts.count a → IsAlone cuts (cuts.number a i) z
        → IsBeside (cuts.before (cuts.number a i) z) (channel (cuts.number a i)) (box z)
    pub above : (a j : ℕ) (x : ℤ) → member a → cuts.lies a ≡ true → j < cuts.count a
        → Within (channel (cuts.number a j)).left (channel (cuts.number a j)).right x → IsBare x (channel (cuts.number a j)).top
    pub below : (a j : ℕ) (x : ℤ) → member a → cuts.lies a ≡ true → j < cuts.count a
        → Within (channel (cuts.number a j)).left (channel (cuts.number a j)).right x → IsBare x ((channel (cuts.number a j)).bottom -ℤ pos 1)
