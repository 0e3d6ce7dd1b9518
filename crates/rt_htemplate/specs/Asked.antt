-- What is asked of strips to tell whether the template across has a row.
use Rattle.std.specs.Prelude.{◌≡◌, ℕ, ℤ, ◌≤ℤ◌, ◌<ℤ◌, Option, MatchOption, List}
use Rattle.std.specs.Int.{int_max, int_min}
use Rattle.rt_tech.specs.declared.table.Tech.{Tech}
use Rattle.rt_tech.specs.Tech.{width_of, space_of}
use Rattle.rt_rows.specs.declared.row.Row.{Row}
use Rattle.rt_rows.specs.declared.row.Var.TheVariants.{L, R}
use Rattle.rt_rows.specs.declared.name.Name.{Name}
use Rattle.rt_rows.specs.Rows.{beyond}
use Rattle.rt_view.specs.declared.job.Job.{Job}
use Rattle.rt_view.specs.Job.{strips_of}
use Rattle.rt_cells.specs.Line.{gap_of}
use Rattle.rt_strips.specs.Placed.{Placed, strip_at}
use Rattle.rt_strips.specs.Standing.{IsClimbed}
use Rattle.rt_template.specs.Horizontal.{RowAcross, kept_behind}

-- the row is that of the name, or the template has none
abbrev pub IsRowOf : Job → Name → Option Row → Type 0
IsRowOf job name found = MatchOption found ((row : Row) → RowAcross job name row → ⊥) (RowAcross job name)

-- neither left side lies before the other's, and the row keeps them so
pub record KeepsLeft (i j : ℕ) (a b : Placed) (row : Row) : Type 0 where
  pub order : a.area.left ≤ℤ b.area.left
  pub row_is : row ≡ beyond (L i) (L j) (kept_behind a.area.left b.area.left)

-- that is the row, where the second begins no earlier
abbrev pub IsLeftKept : ℕ → ℕ → Placed → Placed → Option Row → Type 0
IsLeftKept i j a b found = MatchOption found (b.area.left <ℤ a.area.left) (KeepsLeft i j a b)

-- the same of right sides
pub record KeepsRight (i j : ℕ) (a b : Placed) (row : Row) : Type 0 where
  pub order : a.area.right ≤ℤ b.area.right
  pub row_is : row ≡ beyond (R i) (R j) (kept_behind a.area.right b.area.right)

abbrev pub IsRightKept : ℕ → ℕ → Placed → Placed → Option Row → Type 0
IsRightKept i j a b found = MatchOption found (b.area.right <ℤ a.area.right) (KeepsRight i j a b)

-- neither side of the second lies before that of the first
pub record LeansRight (a b : Placed) : Type 0 where
  pub lefts : a.area.left ≤ℤ b.area.left
  pub rights : a.area.right ≤ℤ b.area.right

-- then the row by which they share the mask's width
pub record SharesWidth (target : Tech) (i j : ℕ) (a b : Placed) (row : Row) : Type 0 where
  pub leans : LeansRight a b
  pub row_is : row ≡ beyond (L j) (R i) (width_of target a.mask)

abbrev pub IsShared : Tech → ℕ → ℕ → Placed → Placed → Option Row → Type 0
IsShared target i j a b found = MatchOption found (¬ LeansRight a b) (SharesWidth target i j a b)

-- the second begins where the first ends, or behind it
pub record LieBeside (a b : Placed) : Type 0 where
  pub beside : a.area.right ≤ℤ b.area.left

-- the second begins where the first ends, or behind it, and fewer rows than the number lie between them
pub record LiesOff (a b : Placed) (number : ℤ) : Type 0 where
  pub beside : LieBeside a b
  pub few : gap_of a.area.bottom a.area.top b.area.bottom b.area.top <ℤ number

-- the same of two strips by their numbers
abbrev pub StripsLieOff : (job : Job) (number : ℤ) (i j : ℕ) → Type 0
StripsLieOff job number i j = LiesOff (strip_at (strips_of job) i) (strip_at (strips_of job) j) number

-- the two have a common row
pub record HaveRow (a b : Placed) : Type 0 where
  pub common : int_max a.area.bottom b.area.bottom <ℤ int_min a.area.top b.area.top

-- fewer rows lie between the two than the space of the first one's mask
pub record AreFewRowsApart (source : Tech) (a b : Placed) : Type 0 where
  pub few : gap_of a.area.bottom a.area.top b.area.bottom b.area.top <ℤ space_of source a.mask

-- neither strip is climbed from the other
pub record IsNeitherClimbed (strips : List Placed) (i j : ℕ) : Type 0 where
  pub there : ¬ IsClimbed strips i j
  pub back : ¬ IsClimbed strips j i
