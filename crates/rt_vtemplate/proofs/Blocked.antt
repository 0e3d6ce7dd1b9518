-- Which columns of two strips are hidden by strips that lie between them.
use Rattle.std.proofs.Common.{◌≡◌, ◌≢◌, ℕ, ◌<◌, ◌≤◌, ◌⊎◌, inl, inr, ℤ, pos, negsuc, ◌≤ℤ◌, ◌<ℤ◌, Bool, true, false, length, sym, ap, ◌∙◌, arith}
use Rattle.std.proofs.lemmas.Int.{ints, clamps}
use Rattle.std.proofs.lemmas.Bool.{cases_lt}
use Rattle.std.specs.Bool.{MatchBool}
use Rattle.std.specs.Int.{int_max, int_min}
use Rattle.rt_rows.specs.declared.row.Var.{Var}
use Rattle.rt_rows.specs.declared.row.Var.TheVariants.{L, R}
use Rattle.rt_strips.specs.declared.listing.Strip.{Strip}
use Rattle.rt_strips.specs.Placed.{placed, mask_of, left_of, bottom_of, top_of}
use Rattle.rt_strips.specs.Standing.{AreOfOneMask}
use Rattle.rt_strips.specs.StripsOf.{AreStrips}
use Rattle.rt_strips.proofs.Placed.{strip_there}
use Rattle.rt_view.specs.declared.job.Job.{Job}
use Rattle.rt_view.specs.Job.{strips_of}
use Rattle.rt_template.specs.Vertical.{CoversColumn, LiesBetween, IsSeenFrom}
use Rattle.rt_vtemplate.specs.Open.{LiesInRows, AreInRows, HasNoneBetween, AreHiddenBefore}

-- a strip between the rows of two others, or not
pub rows_between : (a b c : Strip) → a.mask ≡ c.mask → a.at.y2 ≤ℤ c.at.y1 → c.at.y2 ≤ℤ b.at.y1 → LiesInRows (placed a) (placed b) (placed c)
rows_between a b c m h g = record { one_mask = m; above_first = h; below_second = g }

lower_than : (x y : ℤ) → x <ℤ y → y ≤ℤ x → ⊥
lower_than x y h g = omega (arith, ints)

pub rows_other_mask : (a b c : Strip) → a.mask ≢ c.mask → ¬ LiesInRows (placed a) (placed b) (placed c)
rows_other_mask a b c m l = m l.one_mask

pub rows_too_low : (a b c : Strip) → c.at.y1 <ℤ a.at.y2 → ¬ LiesInRows (placed a) (placed b) (placed c)
rows_too_low a b c h l = lower_than c.at.y1 a.at.y2 h l.above_first

pub rows_too_high : (a b c : Strip) → b.at.y1 <ℤ c.at.y2 → ¬ LiesInRows (placed a) (placed b) (placed c)
rows_too_high a b c h l = lower_than b.at.y1 c.at.y2 h l.below_second

pub ruleset in_rows = (rows_between, rows_other_mask, rows_too_low, rows_too_high)

-- a place is before another or isn't
pub cases_before : (x y : ℤ) → (y <ℤ x) ⊎ (x ≤ℤ y)
cases_before (pos a) (pos b) = elim (cases_lt b a) [ inl h ↦ inl (omega (arith, ints)) | inr h ↦ inr (omega (arith, ints)) ]
cases_before (pos a) (negsuc b) = inl (omega (arith, ints))
cases_before (negsuc a) (pos b) = inr (omega (arith, ints))
cases_before (negsuc a) (negsuc b) = elim (cases_lt a b) [ inl h ↦ inl (omega (arith, ints)) | inr h ↦ inr (omega (arith, ints)) ]

module _ (job : Job) (columns : Var → ℤ) (i j : ℕ) (one : AreOfOneMask (strips_of job) i j) where
  -- a strip lies between the two at a column where it covers the column and lies between their rows
  pub between_from : (x : ℤ) (k : ℕ) → k < length job.view.strips.list → CoversColumn job columns k x
      → (v : Bool) → MatchBool v (AreInRows (strips_of job) i j k) (¬ AreInRows (strips_of job) i j k)
      → MatchBool v (LiesBetween job columns i j x k) (¬ LiesBetween job columns i j x k)
  between_from x k h cover true rows = record {
    with_first = record { first = one.first; second = strip_there job.view.strips.list k h; one_mask = rows.one_mask };
    column = cover;
    above_first = rows.above_first;
    below_second = rows.below_second;
  }
  between_from x k h cover false none = λ (l : LiesBetween job columns i j x k).
      none (record { one_mask = l.with_first.one_mask; above_first = l.above_first; below_second = l.below_second })

  pub not_covering : (x : ℤ) (k : ℕ) → (¬ CoversColumn job columns k x) → ¬ LiesBetween job columns i j x k
  not_covering x k none l = none l.column

  no_order : (mi mk : ℕ) (bi ti bk li lk : ℤ) → mi ≡ mk → bi <ℤ ti → ti ≤ℤ bk
      → (mk < mi) ⊎ ((mk ≡ mi) × ((bk <ℤ bi) ⊎ ((bk ≡ bi) × (lk <ℤ li)))) → ⊥
  no_order mi mk bi ti bk li lk e h g (inl c) = omega arith
  no_order mi mk bi ti bk li lk e h g (inr (_, inl c)) = omega (arith, ints, h, g, c)
  no_order mi mk bi ti bk li lk e h g (inr (_, inr (c, _))) = omega (arith, ints, h, g, c)

  module _ (are : AreStrips (strips_of job)) where
    -- a strip of the mask that lies above another stands behind it
    behind : (a b : ℕ) → AreOfOneMask (strips_of job) a b → top_of (strips_of job) a ≤ℤ bottom_of (strips_of job) b → b < a → ⊥
    behind a b both above h =
        no_order (mask_of (strips_of job) a) (mask_of (strips_of job) b) (bottom_of (strips_of job) a) (top_of (strips_of job) a) (bottom_of (strips_of job) b)
        (left_of (strips_of job) a) (left_of (strips_of job) b) both.one_mask (are.strips_are.nonempty a both.first).upwards above
        (are.strips_are.in_order b a h both.first)

    -- so one between two has its number between theirs
    pub numbered_between : (x : ℤ) (k : ℕ) → LiesBetween job columns i j x k → (i ≤ k) × (k < j)
    numbered_between x k l = (from, to)
      where
        from : i ≤ k
        from = elim (cases_lt k i) [ inl h ↦ absurd (behind i k l.with_first l.above_first h) | inr h ↦ h ]

        not_same : (b t b' : ℤ) → b <ℤ t → t ≤ℤ b' → b ≡ b' → ⊥
        not_same b t b' h g e = omega (arith, ints)

        to : k < j
        to = elim (cases_lt k j) [
          | inl h ↦ h
          | inr h ↦ absurd (elim (cases_lt j k) [
            | inl g ↦ behind k j
                (record { first = l.with_first.second; second = one.second; one_mask = sym l.with_first.one_mask ∙ one.one_mask }) l.below_second g
            | inr g ↦ not_same (bottom_of (strips_of job) k) (top_of (strips_of job) k) (bottom_of (strips_of job) j)
                (are.strips_are.nonempty k l.with_first.second).upwards l.below_second (ap (bottom_of (strips_of job)) (same k j h g))
          ])
        ]
          where
            same : (k j : ℕ) → j ≤ k → k ≤ j → k ≡ j
            same k j h g = omega arith

    -- none of the numbers between is that of one between
    pub none_between : (x : ℤ) (end : ℕ) → j ≤ end → ((k : ℕ) → i ≤ k → k < end → ¬ LiesBetween job columns i j x k) → HasNoneBetween job columns i j x
    none_between x end over none = record {
      none = λ k l. let n = numbered_between x k l in none k n.0 (below k n.1) l;
    }
      where
        below : (k : ℕ) → k < j → k < end
        below k h = omega arith

  -- at the first column nothing is hidden yet
  pub hidden_none : (x : ℤ) → x ≡ int_max (columns (L i)) (columns (L j)) → AreHiddenBefore job columns i j x
  hidden_none x e = record { from = omega (arith, ints); hidden = λ y h g. absurd (nowhere (int_max (columns (L i)) (columns (L j))) x y e h g) }
    where
      nowhere : (m x y : ℤ) → x ≡ m → m ≤ℤ y → y <ℤ x → ⊥
      nowhere m x y e h g = omega (arith, ints)

  -- a strip between at the column hides what it covers behind it
  pub hidden_more : (x z : ℤ) (k : ℕ) → z ≡ columns (R k) → AreHiddenBefore job columns i j x → LiesBetween job columns i j x k → AreHiddenBefore job columns i j z
  hidden_more x z k e h l = record {
    from = reaches (int_max (columns (L i)) (columns (L j))) x z (columns (R k)) e h.from l.column.to;
    hidden = λ y f g. elim (cases_before x y) [
      | inl b ↦ h.hidden y f b
      | inr b ↦ (
        k,
        record {
          with_first = l.with_first;
          column = record { from = along (columns (L k)) x y l.column.from b; to = before y z (columns (R k)) e g };
          above_first = l.above_first;
          below_second = l.below_second;
        },
      )
    ];
  }
    where
      reaches : (m x z r : ℤ) → z ≡ r → m ≤ℤ x → x <ℤ r → m ≤ℤ z
      reaches m x z r e f g = omega (arith, ints)

      along : (l x y : ℤ) → l ≤ℤ x → x ≤ℤ y → l ≤ℤ y
      along l x y f g = omega (arith, ints)

      before : (y z r : ℤ) → z ≡ r → y <ℤ z → y <ℤ r
      before y z r e g = omega (arith, ints)

  -- a column of both without a strip between shows the one from the other
  pub seen_at : (x : ℤ) → AreHiddenBefore job columns i j x → x <ℤ int_min (columns (R i)) (columns (R j)) → HasNoneBetween job columns i j x → IsSeenFrom job columns i j
  seen_at x h g none = record {
    x = x;
    first = record { from = from_first (columns (L i)) (columns (L j)) x h.from; to = to_first (columns (R i)) (columns (R j)) x g };
    second = record { from = from_second (columns (L i)) (columns (L j)) x h.from; to = to_second (columns (R i)) (columns (R j)) x g };
    none_between = none.none;
  }
    where
      from_first : (a b x : ℤ) → int_max a b ≤ℤ x → a ≤ℤ x
      from_first a b x h = omega (arith, ints, clamps)

      from_second : (a b x : ℤ) → int_max a b ≤ℤ x → b ≤ℤ x
      from_second a b x h = omega (arith, ints, clamps)

      to_first : (a b x : ℤ) → x <ℤ int_min a b → x <ℤ a
      to_first a b x h = omega (arith, ints, clamps)

      to_second : (a b x : ℤ) → x <ℤ int_min a b → x <ℤ b
      to_second a b x h = omega (arith, ints, clamps)

  -- where every column of both is hidden, it isn't seen
  pub seen_nowhere : (x : ℤ) → AreHiddenBefore job columns i j x → int_min (columns (R i)) (columns (R j)) ≤ℤ x → ¬ IsSeenFrom job columns i j
  seen_nowhere x h end s =
      let c = h.hidden s.x (highest (columns (L i)) (columns (L j)) s.x s.first.from s.second.from)
      (lowest (columns (R i)) (columns (R j)) s.x x s.first.to s.second.to end) in
      s.none_between c.0 c.1
    where
      highest : (a b x : ℤ) → a ≤ℤ x → b ≤ℤ x → int_max a b ≤ℤ x
      highest a b x h g = omega (arith, ints, clamps)

      lowest : (a b y x : ℤ) → y <ℤ a → y <ℤ b → int_min a b ≤ℤ x → y <ℤ x
      lowest a b y x h g e = omega (arith, ints, clamps)
