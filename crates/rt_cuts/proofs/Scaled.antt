-- What is kept in steps is kept in database units, with so many of them a step.
use Rattle.std.proofs.Common.{ℕ, ℤ, pos, ◌*ℤ◌, ◌≤ℤ◌, ◌<ℤ◌, sym, ap, ◌∙◌, subst}
use lib.IntN.{*ℤ-zero}
use Rattle.rt_cells.specs.Line.{gap_of}
use Rattle.rt_cells.specs.Rectangles.{Rectangle, scaled}
use Rattle.rt_cells.proofs.Times.{not_negative, times_sum, times_positive, times_le, times_cancel_lt, times_beyond, times_gap_of}
use Rattle.rt_rules.specs.Cuts.{IsSquare}
use Rattle.rt_family.specs.Strips.{CoveredBy}
use Rattle.rt_family.specs.Carried.{IsKeptClear}
use Rattle.rt_cuts.specs.Cuts.{StripLiesIn, IsKeptInside, KeepsLowerMask}

module _ (grid : ℤ) (some_grid : pos 1 ≤ℤ grid) where
  whole : pos 0 ≤ℤ grid
  whole = not_negative grid some_grid

  -- a number that isn't negative isn't negative
  pub scaled_not_negative : (n : ℤ) → pos 0 ≤ℤ n → pos 0 ≤ℤ (grid *ℤ n)
  scaled_not_negative n h = subst (λ z. z ≤ℤ (grid *ℤ n)) (*ℤ-zero grid) (times_le grid (pos 0) n whole h)

  -- a square is a square
  pub scaled_square : (size : ℤ) (r : Rectangle) → IsSquare size r → IsSquare (grid *ℤ size) (scaled grid r)
  scaled_square size r square = record {
    across = sym (times_sum grid r.left size) ∙ ap (λ z. grid *ℤ z) square.across;
    upwards = sym (times_sum grid r.bottom size) ∙ ap (λ z. grid *ℤ z) square.upwards;
  }

  -- strips are inside of their hosts
  pub scaled_inside : (first host : ℕ → Type 0) (source drawn : ℕ → Rectangle) (near number : ℤ) → IsKeptInside first host source drawn near number
      → IsKeptInside first host source (λ i. scaled grid (drawn i)) near (grid *ℤ number)
  scaled_inside first host source drawn near number kept = record {
    left = λ i h m t. times_beyond grid (drawn h).left number (drawn i).left whole (kept.left i h m t);
    right = λ i h m t. times_beyond grid (drawn i).right number (drawn h).right whole (kept.right i h m t);
    bottom = λ i h m t w. times_beyond grid (drawn h).bottom number (drawn i).bottom whole (kept.bottom i h m t w);
    top = λ i h m t l. times_beyond grid (drawn i).top number (drawn h).top whole (kept.top i h m t l);
  }

  fewer : (clear low high low' high' : ℤ) → gap_of (grid *ℤ low) (grid *ℤ high) (grid *ℤ low') (grid *ℤ high') <ℤ (grid *ℤ clear) → gap_of low high low' high' <ℤ clear
  fewer clear low high low' high' h =
      times_cancel_lt grid (gap_of low high low' high') clear some_grid (subst (λ z. z <ℤ (grid *ℤ clear)) (sym (times_gap_of grid low high low' high' whole)) h)

  -- masks are kept clear
  pub scaled_clear : (first second : ℕ → Type 0) (source drawn : ℕ → Rectangle) (near clear : ℤ) → IsKeptClear first second source drawn near clear
      → IsKeptClear first second source (λ i. scaled grid (drawn i)) near (grid *ℤ clear)
  scaled_clear first second source drawn near clear kept = record {
    right = λ i j m n l rows. times_beyond grid (drawn i).right clear (drawn j).left whole (kept.right i j m n l rows);
    left = λ i j m n l rows. times_beyond grid (drawn j).right clear (drawn i).left whole (kept.left i j m n l rows);
    above = λ i j m n l few. times_beyond grid (drawn i).top clear (drawn j).bottom whole
        (kept.above i j m n l (fewer clear (drawn i).left (drawn i).right (drawn j).left (drawn j).right few));
    below = λ i j m n l few. times_beyond grid (drawn j).top clear (drawn i).bottom whole
        (kept.below i j m n l (fewer clear (drawn i).left (drawn i).right (drawn j).left (drawn j).right few));
  }

  -- a lower mask is kept
  pub scaled_lower : (cut lower other : ℕ → Type 0) (source drawn : ℕ → Rectangle) (near number reach clear : ℤ)
      → KeepsLowerMask cut lower other source drawn near number reach clear
      → KeepsLowerMask cut lower other source (λ i. scaled grid (drawn i)) near (grid *ℤ number) reach (grid *ℤ clear)
  scaled_lower cut lower other source drawn near number reach clear kept = record {
    some_near = kept.some_near;
    some_number = scaled_not_negative number kept.some_number;
    some_reach = kept.some_reach;
    some_clear = times_positive grid clear some_grid kept.some_clear;
    one_or_other = kept.one_or_other;
    others = kept.others;
    encloses = kept.encloses;
    apart = kept.apart;
    inside = scaled_inside (StripLiesIn cut source (CoveredBy lower source)) lower source drawn near number kept.inside;
    kept_clear = scaled_clear other lower source drawn reach clear kept.kept_clear;
  }
