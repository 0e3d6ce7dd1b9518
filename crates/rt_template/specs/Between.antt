-- The strips of which the rules of cuts, the enclosures and the distances of the source's table speak. Enclosures and distances go by their numbers
-- in the table, from 0.
use Rattle.std.specs.Prelude.{ℕ, ℤ, pos, ◌≤ℤ◌, ◌<ℤ◌, ◌⊎◌, ◌≡◌, Bool, cond, Option, Some, None, IfSome, IsSomeAnd, IsTrue, length, slice_index}
use Rattle.rt_cells.specs.Rectangles.{Rectangle}
use Rattle.rt_tech.specs.declared.table.Apart.{Apart as Distance}
use Rattle.rt_tech.specs.declared.table.Enclose.{Enclose as Enclosure}
use Rattle.rt_tech.specs.declared.table.Role.TheVariants.{Cut}
use Rattle.rt_tech.specs.declared.table.Tech.{Tech}
use Rattle.rt_tech.specs.Rules.{is_role_at}
use Rattle.rt_tech.specs.Tech.{width_of}
use Rattle.rt_rules.specs.Pairs.{enclose_at, apart_at, lower_of, enclose_number as number_of_enclose, apart_number as number_of_apart}
use Rattle.rt_family.specs.Laws.{IsOfMask}
use Rattle.rt_family.specs.Strips.{IsHost}
use Rattle.rt_cuts.specs.Cuts.{grown}
use Rattle.rt_strips.specs.Placed.{strip_at, mask_of, left_of, right_of, bottom_of, top_of}
use Rattle.rt_strips.specs.Standing.{IsStrip, rows_apart}
use Rattle.rt_view.specs.declared.job.Job.{Job}
use Rattle.rt_view.specs.Job.{strips_of}

-- how far enclosure q of the table reaches
abbrev pub enclose_number : Tech → ℕ → ℤ
enclose_number tech q = number_of_enclose (enclose_at tech q)

-- how far distance q of the table keeps two masks apart
abbrev pub apart_number : Tech → ℕ → ℤ
apart_number tech q = number_of_apart (apart_at tech q)

module _ (job : Job) where
  -- strip i is of mask m
  abbrev pub IsStripOf : ℕ → ℕ → Type 0
  IsStripOf m i = IsOfMask (length (strips_of job)) (mask_of (strips_of job)) m i

  -- the rectangle of strip i in the source
  abbrev pub source_area : ℕ → Rectangle
  source_area i = (strip_at (strips_of job) i).area

  -- the mask of strip i is a cut
  abbrev pub is_of_cut : ℕ → Bool
  is_of_cut i = is_role_at Cut job.source.masks (mask_of (strips_of job) i)

  -- strip i is one of a cut
  pub record IsCutStrip (i : ℕ) : Type 0 where
    pub strip : IsStrip (strips_of job) i
    pub is_cut : IsTrue (is_of_cut i)

  -- how high a strip alone has to be: a strip of a cut has its size, and another one a row, since more may stand on it
  abbrev pub least_height : ℕ → ℤ
  least_height i = cond (is_of_cut i) (width_of job.target (mask_of (strips_of job) i)) (pos 1)

  -- strip i is of mask m; where a lower mask is named, m is a cut, and i lies in that lower mask
  pub record IsStripIn (m : ℕ) (lower : Option ℕ) (i : ℕ) : Type 0 where
    pub of_mask : IsStripOf m i
    pub lies : IfSome lower (λ l. slice_index job.view.lowers i ≡ l)

  -- the enclosure speaks of strip i: it is one of its cut, and where its mask is a lower one, it lies in that
  abbrev pub IsEnclosed : Enclosure → ℕ → Type 0
  IsEnclosed enclose i = IsStripIn enclose.cut (lower_of job.source enclose) i

  -- the enclosure speaks of strip i, and strip h of its mask shares a cell with i once i is grown by its number on all sides
  pub record IsHostIn (enclose : Enclosure) (i h : ℕ) : Type 0 where
    pub enclosed : IsEnclosed enclose i
    pub overlaps : IsHost (IsStripOf enclose.mask) source_area (grown enclose.number (source_area i)) h

  -- strip h is a host of strip i under enclosure q
  abbrev pub IsHostUnder : (q i h : ℕ) → Type 0
  IsHostUnder q i h = IsSomeAnd (enclose_at job.source q) (λ enclose. IsHostIn enclose i h)

  -- strip h is a host of strip i under enclosure q, and no host begins below it. In a source that keeps the enclosure one strip has the whole bottom
  -- row of the grown strip i, since strips are whole runs of rows; every other host stands higher, so that one is the lowest host, and the only one
  pub record IsLowestHost (q i h : ℕ) : Type 0 where
    pub host : IsHostUnder q i h
    pub lowest : (k : ℕ) → IsHostUnder q i k → bottom_of (strips_of job) h ≤ℤ bottom_of (strips_of job) k

  -- strip h is a host of strip i under enclosure q, and no host ends above it. In a source that keeps the enclosure it has the top row of the grown
  -- strip i
  pub record IsHighestHost (q i h : ℕ) : Type 0 where
    pub host : IsHostUnder q i h
    pub highest : (k : ℕ) → IsHostUnder q i k → top_of (strips_of job) k ≤ℤ top_of (strips_of job) h

  -- strip i is of the distance's first mask, and lies in the lower mask on which it speaks of it; strip j is of its second mask
  pub record AreKeptApart (apart : Distance) (i j : ℕ) : Type 0 where
    pub first : IsStripIn apart.a apart.on i
    pub second : IsStripOf apart.b j

  -- strips i and j are on the two sides of distance q, in one order or the other
  abbrev pub AreOnTwoSides : (q i j : ℕ) → Type 0
  AreOnTwoSides q i j = IsSomeAnd (apart_at job.source q) (λ apart. AreKeptApart apart i j ⊎ AreKeptApart apart j i)

  -- strip j lies right of strip i on the other side of distance q, and fewer rows than the source's number lie between them, none where they share one
  pub record IsOffRight (q i j : ℕ) : Type 0 where
    pub sides : AreOnTwoSides q i j
    pub beside : right_of (strips_of job) i ≤ℤ left_of (strips_of job) j
    pub near : rows_apart (strips_of job) i j <ℤ apart_number job.source q
