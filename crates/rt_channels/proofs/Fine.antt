-- Carried channels on a finer grid: drawn in database units they are carried with the numbers in database units.
use Rattle.std.proofs.Common.{ℕ, ℤ, pos, ◌+ℤ◌, ◌-ℤ◌, ◌*ℤ◌, ◌≤ℤ◌, ◌<ℤ◌, sym, subst, ap, arith}
use Rattle.std.proofs.lemmas.Int.{ints}
use Rattle.rt_cells.specs.Rectangles.{Rectangle, scaled, columns_between}
use Rattle.rt_cells.proofs.Times.{not_negative, times_sum, times_sub, times_le, times_lt, times_cancel_lt, times_gap_of}
use Rattle.rt_family.specs.Strips.{SpansColumns}
use Rattle.rt_family.specs.Carried.{IsKeptClear}
use Rattle.rt_family.proofs.Scaled.{scaled_carried}
use Rattle.rt_channels.specs.Channels.{widened, IsCarriedChannel, AreCarriedTogether}
use Rattle.rt_channels.specs.Crossings.{AreCarriedChannels}

module _ (grid : ℤ) (some_grid : pos 1 ≤ℤ grid) where
  whole : pos 0 ≤ℤ grid
  whole = not_negative grid some_grid

  pub some_times : (n : ℤ) → pos 1 ≤ℤ n → pos 1 ≤ℤ (grid *ℤ n)
  some_times n h = from_one (grid *ℤ n) (times_le grid (pos 1) n whole h)
    where
      from_one : (p : ℤ) → (grid *ℤ pos 1) ≤ℤ p → pos 1 ≤ℤ p
      from_one p h = omega (arith, ints)

  beyond : (a n b : ℤ) → (a +ℤ n) ≤ℤ b → (grid *ℤ a +ℤ grid *ℤ n) ≤ℤ (grid *ℤ b)
  beyond a n b h = subst (λ z. z ≤ℤ (grid *ℤ b)) (times_sum grid a n) (times_le grid (a +ℤ n) b whole h)

  spans_scaled : (a b : Rectangle) → SpansColumns a b → SpansColumns (scaled grid a) (scaled grid b)
  spans_scaled a b h = record { left = times_le grid a.left b.left whole h.left; right = times_le grid b.right a.right whole h.right }

  spans_widened : (n : ℤ) (a b : Rectangle) → SpansColumns a (widened n b) → SpansColumns (scaled grid a) (widened (grid *ℤ n) (scaled grid b))
  spans_widened n a b h = record {
    left = subst (λ z. (grid *ℤ a.left) ≤ℤ z) (times_sub grid b.left n) (times_le grid a.left (b.left -ℤ n) whole h.left);
    right = beyond b.right n a.right h.right;
  }

  fewer : (n : ℤ) (a b : Rectangle) → columns_between (scaled grid a) (scaled grid b) <ℤ (grid *ℤ n) → columns_between a b <ℤ n
  fewer n a b h =
      times_cancel_lt grid (columns_between a b) n some_grid (subst (λ z. z <ℤ (grid *ℤ n)) (sym (times_gap_of grid a.left a.right b.left b.right whole)) h)

  -- strips that are kept clear are kept clear on a finer grid
  pub scaled_clear : (first second : ℕ → Type 0) (source drawn : ℕ → Rectangle) (near clear : ℤ)
      → IsKeptClear first second source drawn near clear → IsKeptClear first second source (λ i. scaled grid (drawn i)) near (grid *ℤ clear)
  scaled_clear first second source drawn near clear kept = record {
    right = λ i j m n l few. beyond (drawn i).right clear (drawn j).left (kept.right i j m n l few);
    left = λ i j m n l few. beyond (drawn j).right clear (drawn i).left (kept.left i j m n l few);
    above = λ i j m n l few. beyond (drawn i).top clear (drawn j).bottom (kept.above i j m n l (fewer clear (drawn i) (drawn j) few));
    below = λ i j m n l few. beyond (drawn j).top clear (drawn i).bottom (kept.below i j m n l (fewer clear (drawn i) (drawn j) few));
  }

  -- masks that are carried together are on a finer grid
  abbrev pub scaled_together : (single many : ℕ → Type 0) (source drawn : ℕ → Rectangle)
      → AreCarriedTogether single many source drawn → AreCarriedTogether single many source (λ i. scaled grid (drawn i))
  scaled_together single many source drawn both = record {
    single_width = grid *ℤ both.single_width;
    single_space = λ i j. grid *ℤ both.single_space i j;
    many_width = grid *ℤ both.many_width;
    many_space = λ i j. grid *ℤ both.many_space i j;
    near = both.near;
    clear = grid *ℤ both.clear;
    some_near = both.some_near;
    some_clear = some_times both.clear both.some_clear;
    single_carried = scaled_carried grid some_grid single source drawn both.single_width both.single_space both.single_carried;
    many_carried = scaled_carried grid some_grid many source drawn both.many_width both.many_space both.many_carried;
    kept = scaled_clear single many source drawn both.near both.clear both.kept;
    single_unstacked = both.single_unstacked;
    many_unstacked = both.many_unstacked;
  }

  -- a carried channel is carried on a finer grid
  pub scaled_channel : (single many : ℕ → Type 0) (source drawn : ℕ → Rectangle) (area target : Rectangle) (ns nm rs rm : ℤ)
      → IsCarriedChannel single many source drawn area target ns nm rs rm
      → IsCarriedChannel single many source (λ i. scaled grid (drawn i)) area (scaled grid target) ns nm (grid *ℤ rs) (grid *ℤ rm)
  scaled_channel single many source drawn area target ns nm rs rm c = record {
    channel = c.channel;
    single_reaches = c.single_reaches;
    many_reaches = c.many_reaches;
    some_near_single = c.some_near_single;
    some_near_many = c.some_near_many;
    some_reach_single = some_times rs c.some_reach_single;
    some_reach_many = some_times rm c.some_reach_many;
    nonempty = record { across = times_lt grid target.left target.right some_grid c.nonempty.across; upwards = times_lt grid target.bottom target.top some_grid c.nonempty.upwards };
    single_across = λ i h. spans_scaled (drawn i) target (c.single_across i h);
    single_equal = λ i h. spans_scaled target (drawn i) (c.single_equal i h);
    single_below = λ i h. beyond (drawn i).bottom rs target.bottom (c.single_below i h);
    single_above = λ i h. beyond target.top rs (drawn i).top (c.single_above i h);
    many_across = λ i h. spans_widened rm (drawn i) target (c.many_across i h);
    many_below = λ i h. ap (λ z. grid *ℤ z) (c.many_below i h);
    many_above = λ i h. ap (λ z. grid *ℤ z) (c.many_above i h);
  }

  -- carried channels are carried on a finer grid
  abbrev pub scaled_channels : (first second : ℕ → Type 0) (source drawn : ℕ → Rectangle) (upright lying : ℕ → Type 0) (area target : ℕ → Rectangle)
      → AreCarriedChannels first second source drawn upright lying area target
      → AreCarriedChannels first second source (λ i. scaled grid (drawn i)) upright lying area (λ c. scaled grid (target c))
  scaled_channels first second source drawn upright lying area target all = record {
    near_first = all.near_first;
    near_second = all.near_second;
    reach_first = grid *ℤ all.reach_first;
    reach_second = grid *ℤ all.reach_second;
    together = scaled_together first second source drawn all.together;
    upright_carried = λ c u. scaled_channel first second source drawn (area c) (target c) _ _ _ _ (all.upright_carried c u);
    lying_carried = λ c l. scaled_channel second first source drawn (area c) (target c) _ _ _ _ (all.lying_carried c l);
    every = all.every;
    once = all.once;
  }
