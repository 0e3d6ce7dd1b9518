-- The template across: the rows that positions have to meet there, each with its name and the condition under which it is there.
-- Conditions speak of the source; what a row asks for is in target steps.
use Rattle.std.specs.Prelude.{ℕ, ◌<◌, ℤ, pos, neg_ℤ, ◌-ℤ◌, ◌≤ℤ◌, ◌<ℤ◌, ◌⊎◌, ◌≡◌}
use Rattle.std.specs.Int.{int_min}
use Rattle.rt_tech.specs.Tech.{width_of, space_of}
use Rattle.rt_rows.specs.declared.positions.TheConstants.{EXTENT_LIMIT}
use Rattle.rt_rows.specs.declared.row.Var.{Var}
use Rattle.rt_rows.specs.declared.row.Var.TheVariants.{L, R, Width}
use Rattle.rt_rows.specs.declared.row.Row.{Row}
use Rattle.rt_rows.specs.declared.name.Name.{Name}
use Rattle.rt_rows.specs.declared.name.Name.TheVariants.{Lo, Hi, Zero, Top, Wide, Size, Ll, Rr, Share, Gap, Off, Inl, Inr}
use Rattle.rt_rows.specs.Rows.{MeetsRow, at_least, at_most, beyond}
use Rattle.rt_view.specs.declared.job.Job.{Job}
use Rattle.rt_view.specs.Job.{strips_of}
use Rattle.rt_strips.specs.Placed.{mask_of, left_of, right_of}
use Rattle.rt_strips.specs.Standing.{IsStrip, AreOfOneMask, ShareRow, rows_apart, Touch, IsClimbed}
use Rattle.rt_template.specs.Between.{enclose_number, apart_number, IsCutStrip, IsHostUnder, IsOffRight}

-- how wide a strip has to be: its mask's width in the target
abbrev pub width_across : Job → ℕ → ℤ
width_across job i = width_of job.target (mask_of (strips_of job) i)

-- how far two strips of one mask have to be apart: the mask's space in the target
abbrev pub space_between : Job → ℕ → ℕ → ℤ
space_between job i j = space_of job.target (mask_of (strips_of job) i)

-- how few rows make two strips of one mask near: fewer than the mask's space in the source
abbrev pub near_between : Job → ℕ → ℕ → ℤ
near_between job i j = space_of job.source (mask_of (strips_of job) i)

-- a side that lies at `second` in the source stays behind one at `first`: not before it, and by a step at least where they differ
abbrev pub kept_behind : ℤ → ℤ → ℤ
kept_behind first second = int_min (second -ℤ first) (pos 1)

module _ (job : Job) where
  -- both are strips of one mask that is drawn: channels aren't
  pub record AreOfOneDrawnMask (i j : ℕ) : Type 0 where
    pub one_mask : AreOfOneMask (strips_of job) i j
    pub is_drawn : mask_of (strips_of job) i < job.view.strips.masks

  -- of two strips near in rows, they share a row; or fewer rows than the source's space lie between, and neither is climbed from the other
  abbrev pub AreNear : ℕ → ℕ → Type 0
  AreNear i j = ShareRow (strips_of job) i j
      ⊎ ((rows_apart (strips_of job) i j <ℤ near_between job i j)
      × (¬ IsClimbed (strips_of job) i j) × (¬ IsClimbed (strips_of job) j i))

  -- strip j lies right of strip i, doesn't touch it, and is near it in rows
  pub record IsKeptRightOf (i j : ℕ) : Type 0 where
    pub of_one_mask : AreOfOneDrawnMask i j
    pub untouched : ¬ Touch (strips_of job) i j
    pub beside : right_of (strips_of job) i ≤ℤ left_of (strips_of job) j
    pub near : AreNear i j

  -- the template has a row of that name, and which
  pub data RowAcross : Name → Row → Type 0 where
    lo : (i : ℕ) → IsStrip (strips_of job) i → RowAcross (Lo i) (at_least (L i) (pos 0))
    hi : (i : ℕ) → IsStrip (strips_of job) i → RowAcross (Hi i) (beyond (R i) Width (pos 0))
    zero : RowAcross Zero (at_least Width (pos 0))
    top : RowAcross Top (at_most Width EXTENT_LIMIT)
    wide : (i : ℕ) → IsStrip (strips_of job) i → RowAcross (Wide i) (beyond (L i) (R i) (width_across job i))
    size : (i : ℕ) → IsCutStrip job i → RowAcross (Size i) (beyond (R i) (L i) (neg_ℤ (width_across job i)))
    ll : (i j : ℕ) → Touch (strips_of job) i j → left_of (strips_of job) i ≤ℤ left_of (strips_of job) j
        → RowAcross (Ll i j) (beyond (L i) (L j) (kept_behind (left_of (strips_of job) i) (left_of (strips_of job) j)))
    rr : (i j : ℕ) → Touch (strips_of job) i j → right_of (strips_of job) i ≤ℤ right_of (strips_of job) j
        → RowAcross (Rr i j) (beyond (R i) (R j) (kept_behind (right_of (strips_of job) i) (right_of (strips_of job) j)))
    share : (i j : ℕ) → Touch (strips_of job) i j → left_of (strips_of job) i ≤ℤ left_of (strips_of job) j
        → right_of (strips_of job) i ≤ℤ right_of (strips_of job) j → RowAcross (Share i j) (beyond (L j) (R i) (width_across job i))
    gap : (i j : ℕ) → IsKeptRightOf i j → RowAcross (Gap i j) (beyond (R i) (L j) (space_between job i j))
    off : (q i j : ℕ) → IsOffRight job q i j → RowAcross (Off q i j) (beyond (R i) (L j) (apart_number job.target q))
    inl : (q i h : ℕ) → IsHostUnder job q i h → RowAcross (Inl q i h) (beyond (L h) (L i) (enclose_number job.target q))
    inr : (q i h : ℕ) → IsHostUnder job q i h → RowAcross (Inr q i h) (beyond (R i) (R h) (enclose_number job.target q))

  -- the template has a row of that name
  abbrev pub HasAcross : Name → Type 0
  HasAcross name = (row : Row) × RowAcross name row

  -- the positions meet every row of the template
  pub record MeetsAcross (at : Var → ℤ) : Type 0 where
    pub meets : (name : Name) (row : Row) → RowAcross name row → MeetsRow at row

  -- they meet it, and no positions that do are less wide
  pub record HasLeastWidth (at : Var → ℤ) : Type 0 where
    pub meets : MeetsAcross at
    pub width : (other : Var → ℤ) → MeetsAcross other → at Width ≤ℤ other Width

  -- and each side stands at the least place that it has in any positions that meet the template
  pub record IsLeastAcross (at : Var → ℤ) : Type 0 where
    pub extent : HasLeastWidth at
    pub left : (other : Var → ℤ) → MeetsAcross other → (i : ℕ) → IsStrip (strips_of job) i → at (L i) ≤ℤ other (L i)
    pub right : (other : Var → ℤ) → MeetsAcross other → (i : ℕ) → IsStrip (strips_of job) i → at (R i) ≤ℤ other (R i)

-- a name has one row at most
abbrev pub OneRowAcross : Type 0
OneRowAcross = (job : Job) (name : Name) (row other : Row) → RowAcross job name row → RowAcross job name other → row ≡ other
