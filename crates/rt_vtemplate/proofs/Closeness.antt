-- Strips that lie above others, and near them.
use Rattle.std.proofs.Common.{◌≡◌, ◌≢◌, ℕ, ◌<◌, ◌≤◌, inl, inr, ℤ, pos, ◌-ℤ◌, ◌≤ℤ◌, ◌<ℤ◌, Bool, true, false, sym, ap, subst, ◌∙◌, arith, rules, w64}
use Rattle.std.proofs.lemmas.Int.{ints}
use Rattle.std.specs.Bool.{MatchBool}
use Rattle.std.specs.Int.RustNames.{FitsSigned}
use Rattle.rt_near.specs.declared.near.Sides.{Sides}
use Rattle.rt_rows.specs.declared.row.Var.{Var}
use Rattle.rt_tech.specs.declared.limits.TheConstants.{LENGTH_LIMIT}
use Rattle.rt_tech.specs.Tech.{space_of, IsLength}
use Rattle.rt_strips.specs.declared.listing.Strip.{Strip}
use Rattle.rt_strips.specs.Placed.{placed, bottom_of, top_of}
use Rattle.rt_strips.specs.Standing.{StandsOn, Touch, IsClimbed}
use Rattle.rt_strips.specs.Table.{tells}
use Rattle.rt_view.specs.declared.job.Job.{Job}
use Rattle.rt_view.specs.Job.{strips_of, IsJob}
use Rattle.rt_template.specs.Horizontal.{space_between, AreOfOneDrawnMask}
use Rattle.rt_template.specs.Vertical.{IsSeenFrom, IsKeptAbove}
use Rattle.rt_vtemplate.specs.Steps.{columns_of}
use Rattle.rt_vtemplate.specs.Open.{IsLessApart, AreClose, AreCloseStrips, LiesAbove, IsAbove, AreBothStrips}
use Rattle.rt_vtemplate.proofs.Upwards.{job_strips, no_circle}

-- a strip that lies above another of a drawn mask, or doesn't
pub above_there : (masks : ℕ) (a b : Strip) → a.mask ≡ b.mask → a.mask < masks → a.at.y2 ≤ℤ b.at.y1 → LiesAbove masks (placed a) (placed b)
above_there masks a b m d h = record { one_mask = m; is_drawn = d; above = h }

pub above_other_mask : (masks : ℕ) (a b : Strip) → a.mask ≢ b.mask → ¬ LiesAbove masks (placed a) (placed b)
above_other_mask masks a b m l = m l.one_mask

pub above_no_mask : (masks : ℕ) (a b : Strip) → masks ≤ a.mask → ¬ LiesAbove masks (placed a) (placed b)
above_no_mask masks a b m l = too_many a.mask masks m l.is_drawn
  where
    too_many : (m n : ℕ) → n ≤ m → m < n → ⊥
    too_many m n h g = omega arith

pub above_too_low : (masks : ℕ) (a b : Strip) → b.at.y1 <ℤ a.at.y2 → ¬ LiesAbove masks (placed a) (placed b)
above_too_low masks a b h l = lower b.at.y1 a.at.y2 h l.above
  where
    lower : (x y : ℤ) → x <ℤ y → y ≤ℤ x → ⊥
    lower x y h g = omega (arith, ints)

pub ruleset above = (above_there, above_other_mask, above_no_mask, above_too_low)

fits_small : (z : ℤ) → pos 0 ≤ℤ z → z <ℤ pos 1000000 → FitsSigned w64 z
fits_small z h g = search rules

-- numbers that are farther apart than their type counts are too far apart
pub too_far : (low high reach : ℤ) → low <ℤ high → IsLength reach → (¬ FitsSigned w64 (high -ℤ low)) → ¬ IsLessApart low high reach
too_far low high reach h g none l = none (fits_small (high -ℤ low) (positive low high h) (short (high -ℤ low) reach l.less g.high))
  where
    positive : (l h : ℤ) → l <ℤ h → pos 0 ≤ℤ (h -ℤ l)
    positive l h e = omega (arith, ints)

    short : (z r : ℤ) → z <ℤ r → r ≤ℤ LENGTH_LIMIT → z <ℤ pos 1000000
    short z r e f = omega (arith, ints)

-- closeness of the intervals that the code makes of two strips
pub close_strips : (job : Job) (columns : Var → ℤ) (i j : ℕ) (a b : Sides) (reach : ℤ) (v : Bool)
    → a ≡ columns_of job columns i → b ≡ columns_of job columns j → reach ≡ space_of job.target a.group
    → MatchBool v (AreClose a b reach) (¬ AreClose a b reach) → MatchBool v (AreCloseStrips job columns i j) (¬ AreCloseStrips job columns i j)
close_strips job columns i j a b reach v e f g m =
    subst (λ (s : Sides). MatchBool v (AreClose s (columns_of job columns j) (space_between job i j)) (¬ AreClose s (columns_of job columns j) (space_between job i j))) e
    (subst (λ (s : Sides). MatchBool v (AreClose a s (space_between job i j)) (¬ AreClose a s (space_between job i j))) f
    (subst (λ (z : ℤ). MatchBool v (AreClose a b z) (¬ AreClose a b z)) (g ∙ ap (λ (s : Sides). space_of job.target s.group) e) m))

module _ (job : Job) (is_job : IsJob job) (columns : Var → ℤ) (i j : ℕ) (both : AreBothStrips (strips_of job) i j) (above : IsAbove job i j) where
  climbs_told : (v : Bool) → v ≡ tells job.climbs i j → MatchBool v (IsClimbed (strips_of job) i j) (¬ IsClimbed (strips_of job) i j)
  climbs_told v e =
      subst (λ (w : Bool). MatchBool w (IsClimbed (strips_of job) i j) (¬ IsClimbed (strips_of job) i j)) (sym e)
      (is_job.job_of.climbs.exact i j both.first.below_count both.second.below_count)

  one_drawn_mask : AreOfOneDrawnMask job i j
  one_drawn_mask = record { one_mask = record { first = both.first; second = both.second; one_mask = above.one_mask }; is_drawn = above.is_drawn }

  not_under : ¬ StandsOn (strips_of job) j i
  not_under s =
      let are = job_strips job is_job in
      no_circle (bottom_of (strips_of job) i) (top_of (strips_of job) i) (bottom_of (strips_of job) j) (top_of (strips_of job) j)
      (are.strips_are.nonempty i both.first).upwards above.above (are.strips_are.nonempty j both.second).upwards s.adjoin

  -- a strip that isn't climbed is kept above
  pub kept_unclimbed : AreCloseStrips job columns i j → (v : Bool) → v ≡ tells job.climbs i j → v ≡ false → IsKeptAbove job columns i j
  kept_unclimbed close v e f =
      let none : ¬ IsClimbed (strips_of job) i j = subst (λ (w : Bool). MatchBool w (IsClimbed (strips_of job) i j) (¬ IsClimbed (strips_of job) i j)) f (climbs_told v e) in
      record {
        of_one_mask = one_drawn_mask;
        untouched = λ (t : Touch (strips_of job) i j). elim t [ inl s ↦ none (IsClimbed.step j s) | inr s ↦ not_under s ];
        above = above.above;
        near = close.near;
        open_to = inl none;
      }

  -- one that is climbed is where it doesn't touch the other one and is seen
  pub kept_seen : AreCloseStrips job columns i j → (v : Bool) → v ≡ tells job.climbs i j → v ≡ true → (¬ StandsOn (strips_of job) i j)
      → (w : Bool) → MatchBool w (IsSeenFrom job columns i j) (¬ IsSeenFrom job columns i j) → MatchBool w (IsKeptAbove job columns i j) (¬ IsKeptAbove job columns i j)
  kept_seen close v e f none true seen = record {
    of_one_mask = one_drawn_mask;
    untouched = λ (t : Touch (strips_of job) i j). elim t [ inl s ↦ none s | inr s ↦ not_under s ];
    above = above.above;
    near = close.near;
    open_to = inr seen;
  }
  kept_seen close v e f none false unseen = λ (k : IsKeptAbove job columns i j).
      let climbed : IsClimbed (strips_of job) i j = subst (λ (w : Bool). MatchBool w (IsClimbed (strips_of job) i j) (¬ IsClimbed (strips_of job) i j)) f (climbs_told v e) in
      elim k.open_to [ inl n ↦ n climbed | inr s ↦ unseen s ]
