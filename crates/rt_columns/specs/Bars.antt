-- Strips over a column as bars, in order of their bottoms: the rows of a strip are its bar's columns, and its columns are the bar's rows.
use Rattle.std.specs.Prelude.{◌≡◌, ℕ, ◌<◌, ◌≤◌, ℤ, pos, ◌≤ℤ◌, ◌<ℤ◌, ◌⊎◌, List, [], ◌∷◌, ◌++◌, length, map, All, Contains, slice_index_or}
use Rattle.rt_sweep.specs.declared.bar.Bar.{Bar}
use Rattle.rt_sweep.specs.Rows.{AreAcross}
use Rattle.rt_rows.specs.declared.name.Name.{Name}
use Rattle.rt_rows.specs.declared.name.Name.TheVariants.{Gap, Run}
use Rattle.rt_strips.specs.Placed.{Placed, bottom_of, top_of}
use Rattle.rt_strips.specs.Standing.{IsStrip, StandsOn}

-- a strip by its number and its rows
pub record Line : Type 0 where
  pub tag : ℕ
  pub bottom : ℤ
  pub top : ℤ

-- that of a bar
abbrev pub line : Bar → Line
line bar = record { tag = bar.tag; bottom = bar.at.x1; top = bar.at.x2 }

-- stands for one that isn't there
abbrev pub no_line : Line
no_line = record { tag = 0; bottom = pos 0; top = pos 1 }

-- the bar has the number of a strip, and its rows
pub record IsBarOf (strips : List Placed) (bar : Bar) : Type 0 where
  pub strip : IsStrip strips bar.tag
  pub bottom : bar.at.x1 ≡ bottom_of strips bar.tag
  pub top : bar.at.x2 ≡ top_of strips bar.tag
  pub some_rows : bar.at.x1 <ℤ bar.at.x2

-- bars of strips, in order of their bottoms
pub record AreBarsOf (strips : List Placed) (over : List Bar) : Type 0 where
  pub each : All (IsBarOf strips) over
  pub in_order : AreAcross over

-- the bars that go on beyond the column
pub record ArePassing (active : List Bar) (column : ℤ) (through : List Bar) : Type 0 where
  pub each : All (λ bar. Contains active bar × (column <ℤ bar.at.y2)) through
  pub every : (bar : Bar) → Contains active bar → column <ℤ bar.at.y2 → Contains through bar
  pub in_order : AreAcross through

-- the strip at a place
abbrev pub line_at : List Bar → ℕ → Line
line_at over p = slice_index_or (map line over) p no_line

-- the one of two places whose strip ends lower
pub record IsLowerTop (over : List Bar) (p q lower : ℕ) : Type 0 where
  pub either : (lower ≡ p) ⊎ (lower ≡ q)
  pub first : (line_at over lower).top ≤ℤ (line_at over p).top
  pub second : (line_at over lower).top ≤ℤ (line_at over q).top

-- the place is the first one behind p whose strip lies above that at p
pub record IsFirstAbove (over : List Bar) (p first : ℕ) : Type 0 where
  pub onward : p < first
  pub inside : first ≤ length over
  pub before : (r : ℕ) → p < r → r < first → (line_at over r).bottom <ℤ (line_at over p).top
  pub above : first < length over → (line_at over p).top ≤ℤ (line_at over first).bottom

-- the strips at the places before one end below each that begins at another place or behind it
pub record ArePassed (over : List Bar) (from k : ℕ) : Type 0 where
  pub up_to : from ≤ k
  pub passed : (r s : ℕ) → r < from → k ≤ s → s < length over → (line_at over r).top <ℤ (line_at over s).bottom

-- one of the places has a strip that ends in the row where that of place q begins, or above it
pub record GoesUpTo (over : List Bar) (places : List ℕ) (q : ℕ) : Type 0 where
  pub r : ℕ
  pub listed : Contains places r
  pub up_to : (line_at over q).bottom ≤ℤ (line_at over r).top

module _ (strips : List Placed) (over : List Bar) where
  -- the strip at place q stands on the one at place p
  abbrev pub IsOn : ℕ → ℕ → Type 0
  IsOn p q = StandsOn strips (line_at over p).tag (line_at over q).tag

  -- the strip at place q lies above the one at place p, with no other between their rows
  pub record IsSeen (p q : ℕ) : Type 0 where
    pub there : q < length over
    pub above : (line_at over p).top ≤ℤ (line_at over q).bottom
    pub none_between : (r : ℕ) → r < length over → (line_at over p).top ≤ℤ (line_at over r).bottom → (line_at over r).top ≤ℤ (line_at over q).bottom → ⊥

  -- the name is of the gap between the strips at two places, of which the upper one doesn't stand on the lower one
  pub record IsGapName (p q : ℕ) (name : Name) : Type 0 where
    pub apart : ¬ IsOn p q
    pub named : name ≡ Gap (line_at over p).tag (line_at over q).tag

  -- the name is of the gap between the strip at place p and one that is seen from it
  pub record IsGapFrom (p : ℕ) (name : Name) : Type 0 where
    pub q : ℕ
    pub seen : IsSeen p q
    pub gap : IsGapName p q name

  -- the same of some place below another
  pub record IsGapBelow (end : ℕ) (name : Name) : Type 0 where
    pub p : ℕ
    pub below : p < end
    pub gap : IsGapFrom p name

  -- a gap of the bars
  abbrev pub IsGapAmong : Name → Type 0
  IsGapAmong = IsGapBelow (length over)

  -- place q is reached from place p: by strips that each stand on the one before
  pub data IsReached (p : ℕ) : ℕ → Type 0 where
    here : IsReached p p
    onward : (q r : ℕ) → IsReached p q → r < length over → IsOn q r → IsReached p r

  -- nothing stands on the strip at the place
  abbrev pub IsHighest : ℕ → Type 0
  IsHighest q = (r : ℕ) → r < length over → ¬ IsOn q r

  -- it stands on nothing
  abbrev pub IsLowest : ℕ → Type 0
  IsLowest p = (r : ℕ) → r < length over → ¬ IsOn r p

  -- something stands on it
  pub record IsStoodOn (q : ℕ) : Type 0 where
    pub r : ℕ
    pub there : r < length over
    pub on : IsOn q r

  -- it stands on something
  pub record IsStanding (p : ℕ) : Type 0 where
    pub r : ℕ
    pub there : r < length over
    pub on : IsOn r p

  -- it stands on one of the places
  pub record IsOnOne (places : List ℕ) (q : ℕ) : Type 0 where
    pub r : ℕ
    pub listed : Contains places r
    pub on : IsOn r q

  -- a place of the bars that is reached
  pub record IsReachedThere (p q : ℕ) : Type 0 where
    pub there : q < length over
    pub reached : IsReached p q

  -- the places are those that are reached from p
  pub record AreReached (p : ℕ) (places : List ℕ) : Type 0 where
    pub sound : All (IsReachedThere p) places
    pub complete : (q : ℕ) → IsReached p q → Contains places q

  -- the place is appended where its strip stands on that of one of the places
  abbrev pub IsTaken : ℕ → List ℕ → List ℕ → Type 0
  IsTaken next before after = (IsOnOne before next × (after ≡ before ++ next ∷ [])) ⊎ ((¬ IsOnOne before next) × (after ≡ before))

  -- the name is of the run from the strip at place p to that at place q, on which nothing stands
  pub record IsRunTo (p q : ℕ) (name : Name) : Type 0 where
    pub highest : IsHighest q
    pub named : name ≡ Run (line_at over p).tag (line_at over q).tag

  -- the name is of the run from the strip at place p to the end of a chain
  pub record IsRunFrom (p : ℕ) (name : Name) : Type 0 where
    pub q : ℕ
    pub there : q < length over
    pub reached : IsReached p q
    pub run : IsRunTo p q name

  -- the same, where the strip at place p stands on nothing
  pub record IsRunAt (p : ℕ) (name : Name) : Type 0 where
    pub lowest : IsLowest p
    pub run : IsRunFrom p name

  -- the same for some place below another
  pub record IsRunBelow (end : ℕ) (name : Name) : Type 0 where
    pub p : ℕ
    pub below : p < end
    pub run : IsRunAt p name

  -- a run of the bars
  abbrev pub IsRunAmong : Name → Type 0
  IsRunAmong = IsRunBelow (length over)
