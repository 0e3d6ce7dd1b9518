-- What a host and the two sides of a distance are made of.
use Rattle.std.proofs.Common.{ℕ, zero, suc, ◌<◌, ◌⊎◌, Option, Some, None, inl, inr, List, [], ◌∷◌, length, arith}
use Rattle.std.specs.Prelude.{IsSomeAnd, slice_get}
use Rattle.rt_tech.specs.declared.table.Apart.{Apart as Distance}
use Rattle.rt_tech.specs.declared.table.Enclose.{Enclose as Enclosure}
use Rattle.rt_rules.specs.Pairs.{enclose_at, apart_at}
use Rattle.rt_view.specs.declared.job.Job.{Job}
use Rattle.rt_view.specs.Job.{strips_of}
use Rattle.rt_template.specs.Between.{IsHostIn, IsHostUnder, AreKeptApart, AreOnTwoSides}

entry_there : {X : Type 0} (entries : List X) (q : ℕ) (P : X → Type 0) → IsSomeAnd (slice_get entries q) P → q < length entries
entry_there [] q P some = absurd some
entry_there (x ∷ xs) zero P some = omega arith
entry_there (x ∷ xs) (suc q) P some = omega (arith, entry_there xs q P some)

module _ (job : Job) where
  host_strips : (enclose : Option Enclosure) (i h : ℕ) → IsSomeAnd enclose (λ e. IsHostIn job e i h) → (i < length (strips_of job)) × (h < length (strips_of job))
  host_strips None i h host = absurd host
  host_strips (Some enclose) i h host = (host.enclosed.of_mask.below, host.overlaps.strip.below)

  -- of a strip and its host both are strips
  pub of_host : (q i h : ℕ) → IsHostUnder job q i h → (i < length (strips_of job)) × (h < length (strips_of job))
  of_host q i h host = host_strips (enclose_at job.source q) i h host

  side_strips : (apart : Option Distance) (i j : ℕ) → IsSomeAnd apart (λ a. AreKeptApart job a i j ⊎ AreKeptApart job a j i)
      → (i < length (strips_of job)) × (j < length (strips_of job))
  side_strips None i j kept = absurd kept
  side_strips (Some apart) i j (inl kept) = (kept.first.of_mask.below, kept.second.below)
  side_strips (Some apart) i j (inr kept) = (kept.second.below, kept.first.of_mask.below)

  -- both on the sides of a distance are strips
  pub of_sides : (q i j : ℕ) → AreOnTwoSides job q i j → (i < length (strips_of job)) × (j < length (strips_of job))
  of_sides q i j sides = side_strips (apart_at job.source q) i j sides

  -- a distance that has two sides, and an enclosure that has a host, stands in the source's table
  pub there_apart : (q i j : ℕ) → AreOnTwoSides job q i j → q < length job.source.aparts
  there_apart q i j sides = entry_there job.source.aparts q _ sides

  pub there_enclose : (q i h : ℕ) → IsHostUnder job q i h → q < length job.source.encloses
  there_enclose q i h host = entry_there job.source.encloses q _ host
