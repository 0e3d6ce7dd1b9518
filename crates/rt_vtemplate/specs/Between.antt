-- Names of the template upwards by cuts, enclosures and distances between masks.
use Rattle.std.specs.Prelude.{ℕ, ◌<◌, ℤ, ◌⊎◌, List, [], ◌∷◌, Contains, slice_index_or}
use Rattle.rt_rows.specs.declared.name.Name.{Name}
use Rattle.rt_rows.specs.declared.name.Name.TheVariants.{Zero, Size, Off, Inb, Int}
use Rattle.rt_rows.specs.declared.row.Var.{Var}
use Rattle.rt_view.specs.declared.job.Job.{Job}
use Rattle.rt_template.specs.Between.{IsCutStrip, IsLowestHost, IsHighestHost}
use Rattle.rt_template.specs.Vertical.{IsOffAbove, HasUpwards}
use Rattle.rt_between.specs.Offers.{pair_at}

-- of two strips that keep distance q
pub data IsOfDistance (job : Job) (columns : Var → ℤ) (q : ℕ) : Name → Type 0 where
  off : (i j : ℕ) → IsOffAbove job columns q i j → IsOfDistance job columns q (Off q i j)

-- of a strip and its lowest or its highest host under enclosure q
pub data IsOfEnclosure (job : Job) (q : ℕ) : Name → Type 0 where
  bottom : (i h : ℕ) → IsLowestHost job q i h → IsOfEnclosure job q (Inb q i h)
  top : (i h : ℕ) → IsHighestHost job q i h → IsOfEnclosure job q (Int q i h)

-- of a strip of a cut, of a distance, or of an enclosure
pub data IsBetween (job : Job) (columns : Var → ℤ) : Name → Type 0 where
  size : (i : ℕ) → IsCutStrip job i → IsBetween job columns (Size i)
  distance : (q : ℕ) (name : Name) → IsOfDistance job columns q name → IsBetween job columns name
  enclosure : (q : ℕ) (name : Name) → IsOfEnclosure job q name → IsBetween job columns name

-- the names that are offered for a strip, for a pair by distance q, and for a pair by enclosure q
abbrev pub names_of_cut : ℕ → List Name
names_of_cut i = Size i ∷ []

abbrev pub names_off : ℕ → ℕ × ℕ → List Name
names_off q pair = Off q pair.0 pair.1 ∷ Off q pair.1 pair.0 ∷ []

abbrev pub names_off_at : ℕ → List (ℕ × ℕ) → ℕ → List Name
names_off_at q pairs k = names_off q (pair_at pairs k)

abbrev pub names_in : ℕ → ℕ × ℕ → List Name
names_in q pair = Inb q pair.0 pair.1 ∷ Inb q pair.1 pair.0 ∷ Int q pair.0 pair.1 ∷ Int q pair.1 pair.0 ∷ []

abbrev pub names_in_at : ℕ → List (ℕ × ℕ) → ℕ → List Name
names_in_at q pairs k = names_in q (pair_at pairs k)

-- all such names are among the offered ones
pub record HoldBetween (job : Job) (columns : Var → ℤ) (offered : List Name) : Type 0 where
  pub every : (name : Name) → IsBetween job columns name → Contains offered name

-- those of the first so many offered names that the template has are added
pub record AreThoseAdded (job : Job) (columns : Var → ℤ) (offered : List Name) (n : ℕ) (before after : List Name) : Type 0 where
  pub kept : (name : Name) → Contains before name → Contains after name
  pub each : (name : Name) → Contains after name → Contains before name ⊎ HasUpwards job columns name
  pub every : (k : ℕ) → k < n → HasUpwards job columns (slice_index_or offered k Zero) → Contains after (slice_index_or offered k Zero)

-- names that the template has are added, and among them all of cuts, distances and enclosures
pub record AreBetweenAdded (job : Job) (columns : Var → ℤ) (before after : List Name) : Type 0 where
  pub kept : (name : Name) → Contains before name → Contains after name
  pub each : (name : Name) → Contains after name → Contains before name ⊎ HasUpwards job columns name
  pub every : (name : Name) → IsBetween job columns name → Contains after name
