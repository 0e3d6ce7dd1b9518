-- The strips over a column of a drawing, and the names that they show. A drawing is told by the left and the right side of each strip.
use Rattle.std.specs.Prelude.{◌≡◌, ℕ, ℤ, pos, ◌+ℤ◌, ◌≤ℤ◌, ◌<ℤ◌, ◌⊎◌, List, All, Contains}
use Rattle.rt_cells.specs.Line.{Within}
use Rattle.rt_sweep.specs.declared.bar.Bar.{Bar}
use Rattle.rt_rows.specs.declared.name.Name.{Name}
use Rattle.rt_rows.specs.declared.name.Name.TheVariants.{Gap, Run}
use Rattle.rt_strips.specs.Placed.{Placed, mask_of, bottom_of, top_of}
use Rattle.rt_strips.specs.Standing.{IsStrip, StandsOn}
use Rattle.rt_columns.specs.Bars.{IsBarOf, AreBarsOf}

-- of a set of strips, the name is of the gap between one and another that lies above it, is seen from it and doesn't stand on it
pub record IsGapIn (strips : List Placed) (Over : ℕ → Type 0) (name : Name) : Type 0 where
  pub i : ℕ
  pub j : ℕ
  pub lower : Over i
  pub upper : Over j
  pub above : top_of strips i ≤ℤ bottom_of strips j
  pub none_between : (k : ℕ) → Over k → top_of strips i ≤ℤ bottom_of strips k → top_of strips k ≤ℤ bottom_of strips j → ⊥
  pub apart : ¬ StandsOn strips i j
  pub named : name ≡ Gap i j

-- a chain of strips of the set: each stands on the one before
pub data IsChainIn (strips : List Placed) (Over : ℕ → Type 0) (i : ℕ) : ℕ → Type 0 where
  one : Over i → IsChainIn strips Over i i
  onward : (j k : ℕ) → IsChainIn strips Over i j → StandsOn strips j k → Over k → IsChainIn strips Over i k

-- of a set of strips, the name is of the run of a chain to which none can be added at either end
pub record IsRunIn (strips : List Placed) (Over : ℕ → Type 0) (name : Name) : Type 0 where
  pub i : ℕ
  pub j : ℕ
  pub chain : IsChainIn strips Over i j
  pub lowest : (k : ℕ) → Over k → ¬ StandsOn strips k i
  pub highest : (k : ℕ) → Over k → ¬ StandsOn strips j k
  pub named : name ≡ Run i j

-- a bar has the number of the strip
pub record HasBar (bars : List Bar) (i : ℕ) : Type 0 where
  pub bar : Bar
  pub listed : Contains bars bar
  pub of : bar.tag ≡ i

-- the bars are those of a set of strips
pub record AreBarsOver (strips : List Placed) (Over : ℕ → Type 0) (over : List Bar) : Type 0 where
  pub bars : AreBarsOf strips over
  pub each : All (λ bar. Over bar.tag) over
  pub every : (i : ℕ) → Over i → HasBar over i

module _ (strips : List Placed) (left right : ℕ → ℤ) (m : ℕ) where
  -- the strip is of mask m and covers both columns
  pub record IsOver (x u : ℤ) (i : ℕ) : Type 0 where
    pub strip : IsStrip strips i
    pub of_mask : mask_of strips i ≡ m
    pub first : Within (left i) (right i) x
    pub second : Within (left i) (right i) u

  -- the name is of a gap at a column of the drawing, or of a run at one column or two adjacent ones; all columns are of one sort
  pub data IsShownWhere (Where : ℤ → Type 0) (name : Name) : Type 0 where
    gap : (x : ℤ) → Where x → IsGapIn strips (IsOver x x) name → IsShownWhere Where name
    run : (x u : ℤ) → Where x → (u ≡ x) ⊎ (u ≡ x +ℤ pos 1) → IsRunIn strips (IsOver x u) name → IsShownWhere Where name

  -- at a column below a height
  abbrev pub IsShownTo : ℤ → Name → Type 0
  IsShownTo height = IsShownWhere (λ x. x <ℤ height)

  -- at some column
  abbrev pub IsShownSomewhere : Name → Type 0
  IsShownSomewhere = IsShownWhere (λ x. Unit {0})

  -- a bar of a strip of mask m, with its rows and the columns that it covers
  pub record IsColumnBar (bar : Bar) : Type 0 where
    pub of_strip : IsBarOf strips bar
    pub of_mask : mask_of strips bar.tag ≡ m
    pub from : bar.at.y1 ≡ left bar.tag
    pub to : bar.at.y2 ≡ right bar.tag

  -- the bars of all strips of mask m
  pub record AreColumnBars (bars : List Bar) : Type 0 where
    pub each : All IsColumnBar bars
    pub every : (i : ℕ) → IsStrip strips i → mask_of strips i ≡ m → HasBar bars i
