-- What the code makes of a job on the way to its names.
use Rattle.std.specs.Prelude.{◌≡◌, ℕ, ◌<◌, ℤ, List, length, Contains, slice_index_or, ◌↔◌}
use Rattle.rt_rows.specs.declared.name.Name.{Name}
use Rattle.rt_rows.specs.declared.row.Var.{Var}
use Rattle.rt_rows.specs.declared.row.Var.TheVariants.{L, R}
use Rattle.rt_strips.specs.declared.contact.Seam.{Seam}
use Rattle.rt_strips.specs.Placed.{Placed, mask_of}
use Rattle.rt_near.specs.declared.near.Sides.{Sides}
use Rattle.rt_near.specs.Near.{no_sides}
use Rattle.rt_view.specs.declared.job.Job.{Job}
use Rattle.rt_view.specs.Job.{strips_of}
use Rattle.rt_vtemplate.specs.Added.{IsOfFirst}
use Rattle.rt_vtemplate.specs.Kinds.{IsOfWhole, IsOfStrip, IsOfStanding, IsOfPair, IsOfTwo, AreNearStrips}

-- stand for what isn't in a list
abbrev pub no_seam : Seam
no_seam = record { below = 0; above = 0 }

abbrev pub no_pair : ℕ × ℕ
no_pair = (0, 0)

-- of the two strips of seam number k, where the one stands on the other
abbrev pub IsOfSeam : List Placed → List Seam → ℕ → Name → Type 0
IsOfSeam strips seams k = IsOfStanding strips (slice_index_or seams k no_seam).below (slice_index_or seams k no_seam).above

-- of the two strips of pair number k, where the one is clear above the other
abbrev pub IsOfPairAt : List Placed → List (ℕ × ℕ) → ℕ → Name → Type 0
IsOfPairAt strips pairs k = IsOfPair strips (slice_index_or pairs k no_pair).0 (slice_index_or pairs k no_pair).1

-- a name that the source alone tells: of the whole, of a strip, or of two of which one stands on the other
pub data IsOfSource (job : Job) (name : Name) : Type 0 where
  whole : IsOfWhole name → IsOfSource job name
  strip : IsOfFirst IsOfStrip (length job.view.strips.list) name → IsOfSource job name
  standing : IsOfTwo (IsOfStanding (strips_of job)) name → IsOfSource job name

-- both numbers are of strips
pub record ArePaired (strips : List Placed) (pair : ℕ × ℕ) : Type 0 where
  pub first : pair.0 < length strips
  pub second : pair.1 < length strips

-- the columns of strip i in the drawing, in the group of its mask
abbrev pub columns_of : Job → (Var → ℤ) → ℕ → Sides
columns_of job columns i = record { group = mask_of (strips_of job) i; low = columns (L i); high = columns (R i) }

-- the columns of the first strips, in order
pub record AreColumnsOf (job : Job) (columns : Var → ℤ) (count : ℕ) (sides : List Sides) : Type 0 where
  pub one_each : length sides ≡ count
  pub each : (i : ℕ) → i < count → slice_index_or sides i no_sides ≡ columns_of job columns i

-- the pairs are those of all strips that are near each other in the columns, the smaller number first
pub record ListsNearStrips (job : Job) (columns : Var → ℤ) (pairs : List (ℕ × ℕ)) : Type 0 where
  pub exact : (i j : ℕ) → Contains pairs (i, j) ↔ ((i < j) × AreNearStrips job columns i j)
