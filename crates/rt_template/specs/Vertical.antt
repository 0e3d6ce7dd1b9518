-- The template upwards, at the columns that were found across: the rows that positions have to meet there, each with its name and the
-- condition under which it is there.
use Rattle.std.specs.Prelude.{◌≡◌, ℕ, ◌<◌, ◌≤◌, ℤ, pos, neg_ℤ, ◌+ℤ◌, ◌≤ℤ◌, ◌<ℤ◌, ◌⊎◌, length}
use Rattle.rt_cells.specs.Line.{gap_of, Within}
use Rattle.rt_tech.specs.Tech.{width_of}
use Rattle.rt_rows.specs.declared.positions.TheConstants.{EXTENT_LIMIT}
use Rattle.rt_rows.specs.declared.positions.Positions.{Positions}
use Rattle.rt_rows.specs.declared.row.Var.{Var}
use Rattle.rt_rows.specs.declared.row.Var.TheVariants.{L, R, B, T, Height}
use Rattle.rt_rows.specs.declared.row.Row.{Row}
use Rattle.rt_rows.specs.declared.name.Name.{Name}
use Rattle.rt_rows.specs.declared.name.Name.TheVariants.{Lo, Hi, Zero, Top, Tall, Size, On, Under, Gap, Run, Off, Inb, Int}
use Rattle.rt_rows.specs.Places.{places}
use Rattle.rt_rows.specs.Rows.{MeetsRow, at_least, at_most, beyond}
use Rattle.rt_view.specs.declared.job.Job.{Job}
use Rattle.rt_view.specs.Job.{strips_of}
use Rattle.rt_strips.specs.Placed.{mask_of, bottom_of, top_of}
use Rattle.rt_strips.specs.Standing.{IsStrip, AreOfOneMask, StandsOn, Touch, IsClimbed}
use Rattle.rt_template.specs.Between.{enclose_number, apart_number, IsCutStrip, least_height, IsLowestHost, IsHighestHost, AreOnTwoSides}
use Rattle.rt_template.specs.Horizontal.{space_between, AreOfOneDrawnMask}

-- how high a chain of strips has to be: its mask's width in the target, which of a cut is its size
abbrev pub width_upwards : Job → ℕ → ℤ
width_upwards job i = width_of job.target (mask_of (strips_of job) i)

-- positions that can be taken for columns: each strip has a left and a right side there, in that order
pub record HaveColumns (job : Job) (columns : Positions) : Type 0 where
  pub lefts : length (strips_of job) ≤ length columns.l
  pub rights : length (strips_of job) ≤ length columns.r
  pub apart : (i : ℕ) → IsStrip (strips_of job) i → places columns (L i) <ℤ places columns (R i)

-- each strip has the same sides in both
pub record HaveSameSides (job : Job) (columns other : Var → ℤ) : Type 0 where
  pub left : (i : ℕ) → IsStrip (strips_of job) i → columns (L i) ≡ other (L i)
  pub right : (i : ℕ) → IsStrip (strips_of job) i → columns (R i) ≡ other (R i)

module _ (job : Job) (columns : Var → ℤ) where
  -- strip i covers the column in the drawing
  abbrev pub CoversColumn : ℕ → ℤ → Type 0
  CoversColumn i x = Within (columns (L i)) (columns (R i)) x

  -- how many columns lie between the two strips in the drawing
  abbrev pub columns_apart : ℕ → ℕ → ℤ
  columns_apart i j = gap_of (columns (L i)) (columns (R i)) (columns (L j)) (columns (R j))

  -- strip k covers the column in the drawing, and lies between the rows of strips i and j in the source
  pub record LiesBetween (i j : ℕ) (x : ℤ) (k : ℕ) : Type 0 where
    pub with_first : AreOfOneMask (strips_of job) i k
    pub column : CoversColumn k x
    pub above_first : top_of (strips_of job) i ≤ℤ bottom_of (strips_of job) k
    pub below_second : top_of (strips_of job) k ≤ℤ bottom_of (strips_of job) j

  -- strip j is seen from strip i: some column of both in the drawing has no strip between them
  pub record IsSeenFrom (i j : ℕ) : Type 0 where
    pub x : ℤ
    pub first : CoversColumn i x
    pub second : CoversColumn j x
    pub none_between : (k : ℕ) → ¬ LiesBetween i j x k

  -- strip j is open to strip i: it isn't climbed from it, or is seen from it
  abbrev pub AreOpen : ℕ → ℕ → Type 0
  AreOpen i j = (¬ IsClimbed (strips_of job) i j) ⊎ IsSeenFrom i j

  -- strip j lies above strip i, doesn't touch it, is near it in the found columns by the target's space, and open
  pub record IsKeptAbove (i j : ℕ) : Type 0 where
    pub of_one_mask : AreOfOneDrawnMask job i j
    pub untouched : ¬ Touch (strips_of job) i j
    pub above : top_of (strips_of job) i ≤ℤ bottom_of (strips_of job) j
    pub near : columns_apart i j <ℤ space_between job i j
    pub open_to : AreOpen i j

  -- strip i covers both columns in the drawing
  pub record CoversBoth (x u : ℤ) (i : ℕ) : Type 0 where
    pub strip : IsStrip (strips_of job) i
    pub first : CoversColumn i x
    pub second : CoversColumn i u

  -- a chain from strip i to strip j: each stands on the one before, and all cover both columns
  pub data IsChain (x u : ℤ) (i : ℕ) : ℕ → Type 0 where
    one : CoversBoth x u i → IsChain x u i i
    onward : (j k : ℕ) → IsChain x u i j → StandsOn (strips_of job) j k → CoversBoth x u k → IsChain x u i k

  -- a chain of a drawn mask at one column, or at two adjacent ones, to which no strip can be added at either end
  pub record IsWholeChain (i j : ℕ) : Type 0 where
    pub x : ℤ
    pub u : ℤ
    pub one_or_two : (u ≡ x) ⊎ (u ≡ x +ℤ pos 1)
    pub is_drawn : mask_of (strips_of job) i < job.view.strips.masks
    pub chain : IsChain x u i j
    pub lowest : (k : ℕ) → CoversBoth x u k → ¬ StandsOn (strips_of job) k i
    pub highest : (k : ℕ) → CoversBoth x u k → ¬ StandsOn (strips_of job) j k

  -- strip j lies above strip i on the other side of distance q, and fewer columns than the target's number lie between them in the drawing
  pub record IsOffAbove (q i j : ℕ) : Type 0 where
    pub sides : AreOnTwoSides job q i j
    pub above : top_of (strips_of job) i ≤ℤ bottom_of (strips_of job) j
    pub near : columns_apart i j <ℤ apart_number job.target q

  -- the template has a row of that name, and which
  pub data RowUpwards : Name → Row → Type 0 where
    lo : (i : ℕ) → IsStrip (strips_of job) i → RowUpwards (Lo i) (at_least (B i) (pos 0))
    hi : (i : ℕ) → IsStrip (strips_of job) i → RowUpwards (Hi i) (beyond (T i) Height (pos 0))
    zero : RowUpwards Zero (at_least Height (pos 0))
    top : RowUpwards Top (at_most Height EXTENT_LIMIT)
    tall : (i : ℕ) → IsStrip (strips_of job) i → RowUpwards (Tall i) (beyond (B i) (T i) (least_height job i))
    size : (i : ℕ) → IsCutStrip job i → RowUpwards (Size i) (beyond (T i) (B i) (neg_ℤ (width_upwards job i)))
    on : (i j : ℕ) → StandsOn (strips_of job) i j → RowUpwards (On i j) (beyond (T i) (B j) (pos 0))
    under : (i j : ℕ) → StandsOn (strips_of job) i j → RowUpwards (Under i j) (beyond (B j) (T i) (pos 0))
    gap : (i j : ℕ) → IsKeptAbove i j → RowUpwards (Gap i j) (beyond (T i) (B j) (space_between job i j))
    run : (i j : ℕ) → IsWholeChain i j → RowUpwards (Run i j) (beyond (B i) (T j) (width_upwards job i))
    off : (q i j : ℕ) → IsOffAbove q i j → RowUpwards (Off q i j) (beyond (T i) (B j) (apart_number job.target q))
    inb : (q i h : ℕ) → IsLowestHost job q i h → RowUpwards (Inb q i h) (beyond (B h) (B i) (enclose_number job.target q))
    int : (q i h : ℕ) → IsHighestHost job q i h → RowUpwards (Int q i h) (beyond (T i) (T h) (enclose_number job.target q))

  -- the template has a row of that name
  abbrev pub HasUpwards : Name → Type 0
  HasUpwards name = (row : Row) × RowUpwards name row

  -- the positions meet every row of the template at these columns
  pub record MeetsUpwards (at : Var → ℤ) : Type 0 where
    pub meets : (name : Name) (row : Row) → RowUpwards name row → MeetsRow at row

  -- they meet it, and no positions that do are less high
  pub record HasLeastHeight (at : Var → ℤ) : Type 0 where
    pub meets : MeetsUpwards at
    pub height : (other : Var → ℤ) → MeetsUpwards other → at Height ≤ℤ other Height

  -- and each side stands at the least place that it has in any positions that meet the template
  pub record IsLeastUpwards (at : Var → ℤ) : Type 0 where
    pub extent : HasLeastHeight at
    pub bottom : (other : Var → ℤ) → MeetsUpwards other → (i : ℕ) → IsStrip (strips_of job) i → at (B i) ≤ℤ other (B i)
    pub top_side : (other : Var → ℤ) → MeetsUpwards other → (i : ℕ) → IsStrip (strips_of job) i → at (T i) ≤ℤ other (T i)

-- a name has one row at most
abbrev pub OneRowUpwards : Type 0
OneRowUpwards = (job : Job) (columns : Var → ℤ) (name : Name) (row other : Row)
    → RowUpwards job columns name row → RowUpwards job columns name other → row ≡ other
