-- The lowest and the highest hosts, by a pass over the strips.
use Rattle.std.proofs.Common.{ℕ, ◌<◌, ◌≤◌, ℤ, ◌≤ℤ◌, ◌<ℤ◌, Bool, true, false, length, arith}
use Rattle.std.specs.Bool.{MatchBool}
use Rattle.std.proofs.lemmas.Int.{ints}
use Rattle.rt_strips.proofs.Placed.{strip_below}
use Rattle.rt_strips.specs.Placed.{bottom_of, top_of}
use Rattle.rt_view.specs.declared.job.Job.{Job}
use Rattle.rt_view.specs.Job.{strips_of}
use Rattle.rt_template.specs.Between.{IsHostUnder, IsLowestHost, IsHighestHost}
use Rattle.rt_template.proofs.Sides.{of_host}
use Rattle.rt_between.specs.Ends.{IsHostBelow, IsHostAbove, NoneBeginsBelow, NoneEndsAbove}

not_less : (a b : ℤ) → (a <ℤ b → ⊥) → b ≤ℤ a
not_less a b h = grind (arith, ints, h)

both : (a b : ℤ) → a <ℤ b → b ≤ℤ a → ⊥
both a b h g = omega (arith, ints)

module _ (job : Job) (q i : ℕ) where
  within : (n k : ℕ) → length job.view.strips.list ≤ n → IsHostUnder job q i k → k < n
  within n k h host =
      let l = strip_below job.view.strips.list k (record { below_count = (of_host job q i k host).1 }) in
      omega (arith, h, l)

  -- where none of the strips is a host below the row, no host begins below it
  pub none_below : (row : ℤ) (n : ℕ) → length job.view.strips.list ≤ n → ((k : ℕ) → k < n → ¬ IsHostBelow job q i row k) → NoneBeginsBelow job q i row
  none_below row n h none = record {
    none = λ k host. not_less _ _ (λ below. none k (within n k h host) (record { below = below; host = host }));
  }

  pub some_below : (row : ℤ) (k : ℕ) → IsHostBelow job q i row k → ¬ NoneBeginsBelow job q i row
  some_below row k host none = both _ _ host.below (none.none k host.host)

  -- where none of the strips is a host above the row, no host ends above it
  pub none_above : (row : ℤ) (n : ℕ) → length job.view.strips.list ≤ n → ((k : ℕ) → k < n → ¬ IsHostAbove job q i row k) → NoneEndsAbove job q i row
  none_above row n h none = record {
    none = λ k host. not_less _ _ (λ above. none k (within n k h host) (record { above = above; host = host }));
  }

  pub some_above : (row : ℤ) (k : ℕ) → IsHostAbove job q i row k → ¬ NoneEndsAbove job q i row
  some_above row k host none = both _ _ host.above (none.none k host.host)

  -- a host is a lowest one where none begins below its bottom, and a highest one where none ends above its top
  pub lowest_told : (h : ℕ) (v : Bool) → IsHostUnder job q i h → MatchBool v (NoneBeginsBelow job q i (bottom_of (strips_of job) h)) (¬ NoneBeginsBelow job q i (bottom_of (strips_of job) h))
      → MatchBool v (IsLowestHost job q i h) (¬ IsLowestHost job q i h)
  lowest_told h true host none = record { host = host; lowest = none.none }
  lowest_told h false host some = λ lowest. some (record { none = lowest.lowest })

  pub highest_told : (h : ℕ) (v : Bool) → IsHostUnder job q i h → MatchBool v (NoneEndsAbove job q i (top_of (strips_of job) h)) (¬ NoneEndsAbove job q i (top_of (strips_of job) h))
      → MatchBool v (IsHighestHost job q i h) (¬ IsHighestHost job q i h)
  highest_told h true host none = record { host = host; highest = none.none }
  highest_told h false host some = λ highest. some (record { none = highest.highest })
