-- The names that columns show are those of the template.
use Rattle.std.proofs.Common.{◌≡◌, ℕ, ◌+◌, ◌<◌, ℤ, pos, ◌+ℤ◌, ◌≤ℤ◌, ◌<ℤ◌, ◌⊎◌, List, [], refl, sym, subst, ◌∙◌, arith, inl, inr}
use Rattle.std.proofs.lemmas.Int.{ints, clamps}
use Rattle.rt_cells.specs.Line.{gap_of}
use Rattle.rt_cells.proofs.Numbers.{below_or_at}
use Rattle.rt_tech.specs.Tech.{space_of}
use Rattle.rt_rows.specs.declared.name.Name.{Name}
use Rattle.rt_rows.specs.declared.row.Var.{Var}
use Rattle.rt_rows.specs.declared.row.Var.TheVariants.{L, R}
use Rattle.rt_view.specs.declared.job.Job.{Job}
use Rattle.rt_view.specs.Job.{strips_of}
use Rattle.rt_strips.specs.Placed.{Placed, mask_of, bottom_of, top_of}
use Rattle.rt_strips.specs.Standing.{IsStrip, AreOfOneMask, Touch}
use Rattle.rt_template.specs.Vertical.IsChain.{one as chain_one, onward as chain_onward}
use Rattle.rt_template.specs.Vertical.{IsSeenFrom, IsKeptAbove, CoversBoth, IsChain}
use Rattle.rt_template.specs.Horizontal.{space_between}
use Rattle.rt_columns.specs.Adding.{Adds}
use Rattle.rt_columns.specs.Ranking.{IsShownBelow, ListsMasks}
use Rattle.rt_columns.specs.Columns.IsChainIn.{one as alone, onward as and_on}
use Rattle.rt_columns.specs.Columns.IsShownWhere.{gap, run}
use Rattle.rt_columns.specs.Columns.{IsGapIn, IsChainIn, IsRunIn, IsOver, IsShownSomewhere}
use Rattle.rt_columns.specs.Shown.IsShown.{seen, chained}
use Rattle.rt_columns.specs.Shown.{IsShown, ListsShown}

pub no_masks : (strips : List Placed) (left right : ℕ → ℤ) (names : List Name) → names ≡ [] → ListsMasks strips left right 0 names
no_masks strips left right names e = subst (ListsMasks strips left right 0) (sym e) (record { exact = λ name. (λ c. absurd (omega (arith, c.1)), λ h. absurd (omega (arith, h.below))) })

pub one_more_mask : (strips : List Placed) (left right : ℕ → ℤ) (m : ℕ) (before after : List Name) → ListsMasks strips left right m before
    → Adds (IsShownSomewhere strips left right m) before after → ListsMasks strips left right (m + 1) after
one_more_mask strips left right m before after known adds = record {
  exact = λ name. (
    λ c. elim ((adds.exact name).0 c) [
      | inl h ↦ let s = (known.exact name).0 h in record { m = s.m; below = omega (arith, s.below); shown = s.shown }
      | inr h ↦ record { m = m; below = omega arith; shown = h }
    ],
    λ s. (adds.exact name).1 (elim (below_or_at s.m m s.below) [
      | inl l ↦ inl ((known.exact name).1 (record { m = s.m; below = l; shown = s.shown }))
      | inr e ↦ inr (subst (λ n. IsShownSomewhere strips left right n name) e s.shown)
    ]),
  );
}

-- intervals with a common place have no gap, so one that is less than any space
no_gap_between : (l r l' r' x s : ℤ) → l ≤ℤ x → x <ℤ r → l' ≤ℤ x → x <ℤ r' → pos 1 ≤ℤ s → gap_of l r l' r' <ℤ s
no_gap_between l r l' r' x s a b c d h = omega (arith, ints, clamps)

module _ (job : Job) (columns : Var → ℤ) (nonempty : (i : ℕ) → IsStrip (strips_of job) i → bottom_of (strips_of job) i <ℤ top_of (strips_of job) i)
    (space : (m : ℕ) → pos 1 ≤ℤ space_of job.target m) where
  abbrev left : ℕ → ℤ
  left i = columns (L i)

  abbrev right : ℕ → ℤ
  right i = columns (R i)

  abbrev Over : ℕ → ℤ → ℤ → ℕ → Type 0
  Over m x u = IsOver (strips_of job) left right m x u

  -- a strip of mask m over both columns
  over_both : (m : ℕ) (x u : ℤ) (i : ℕ) → mask_of (strips_of job) i ≡ m → CoversBoth job columns x u i → Over m x u i
  over_both m x u i e h = record { strip = h.strip; of_mask = e; first = h.first; second = h.second }

  both_over : (m : ℕ) (x u : ℤ) (i : ℕ) → Over m x u i → CoversBoth job columns x u i
  both_over m x u i h = record { strip = h.strip; first = h.first; second = h.second }

  module _ (m : ℕ) (x : ℤ) (name : Name) (drawn : m < job.view.strips.masks) (g : IsGapIn (strips_of job) (Over m x x) name) where
    one_mask : AreOfOneMask (strips_of job) g.i g.j
    one_mask = record { first = g.lower.strip; second = g.upper.strip; one_mask = g.lower.of_mask ∙ sym g.upper.of_mask }

    is_seen : IsSeenFrom job columns g.i g.j
    is_seen = record {
      x = x;
      first = g.lower.first;
      second = g.upper.first;
      none_between = λ k b. g.none_between k
          (record { strip = b.with_first.second; of_mask = sym b.with_first.one_mask ∙ g.lower.of_mask; first = b.column; second = b.column }) b.above_first b.below_second;
    }

    untouched : ¬ Touch (strips_of job) g.i g.j
    untouched (inl on) = g.apart on
    untouched (inr on) =
        let e = on.adjoin in
        let a = nonempty g.i g.lower.strip in
        let b = nonempty g.j g.upper.strip in
        let up = g.above in
        omega (arith, ints)

    kept : IsKeptAbove job columns g.i g.j
    kept = record {
      of_one_mask = record { one_mask = one_mask; is_drawn = subst (λ n. n < job.view.strips.masks) (sym g.lower.of_mask) drawn };
      untouched = untouched;
      above = g.above;
      near = no_gap_between (left g.i) (right g.i) (left g.j) (right g.j) x (space_between job g.i g.j)
          g.lower.first.from g.lower.first.to g.upper.first.from g.upper.first.to (space (mask_of (strips_of job) g.i));
      open_to = inr is_seen;
    }

    gap_shown : IsShown job columns name
    gap_shown = subst (IsShown job columns) (sym g.named) (seen g.i g.j kept is_seen)

  first_mask : (m : ℕ) (x u : ℤ) (i j : ℕ) → IsChainIn (strips_of job) (Over m x u) i j → mask_of (strips_of job) i ≡ m
  first_mask m x u i _ (alone o) = o.of_mask
  first_mask m x u i _ (and_on j k chain on o) = first_mask m x u i j chain

  last_mask : (m : ℕ) (x u : ℤ) (i j : ℕ) → IsChainIn (strips_of job) (Over m x u) i j → mask_of (strips_of job) j ≡ m
  last_mask m x u i _ (alone o) = o.of_mask
  last_mask m x u i _ (and_on j k chain on o) = o.of_mask

  chain_to : (m : ℕ) (x u : ℤ) (i j : ℕ) → IsChainIn (strips_of job) (Over m x u) i j → IsChain job columns x u i j
  chain_to m x u i _ (alone o) = chain_one (both_over m x u i o)
  chain_to m x u i _ (and_on j k chain on o) = chain_onward j k (chain_to m x u i j chain) on (both_over m x u k o)

  run_shown : (m : ℕ) (x u : ℤ) (name : Name) → m < job.view.strips.masks → (u ≡ x) ⊎ (u ≡ x +ℤ pos 1) → IsRunIn (strips_of job) (Over m x u) name → IsShown job columns name
  run_shown m x u name drawn e g =
      let a = first_mask m x u g.i g.j g.chain in
      let b = last_mask m x u g.i g.j g.chain in
      subst (IsShown job columns) (sym g.named) (chained g.i g.j (record {
        x = x;
        u = u;
        one_or_two = e;
        is_drawn = subst (λ n. n < job.view.strips.masks) (sym a) drawn;
        chain = chain_to m x u g.i g.j g.chain;
        lowest = λ k c on. g.lowest k (over_both m x u k (on.strips_of_one_mask.one_mask ∙ a) c) on;
        highest = λ k c on. g.highest k (over_both m x u k (sym on.strips_of_one_mask.one_mask ∙ b) c) on;
      }))

  shown_of : (name : Name) → IsShownBelow (strips_of job) left right job.view.strips.masks name → IsShown job columns name
  shown_of name s = elim s.shown [
    | gap x _ g ↦ gap_shown s.m x name s.below g
    | run x u _ e g ↦ run_shown s.m x u name s.below e g
  ]

  chain_mask : (x u : ℤ) (i j : ℕ) → IsChain job columns x u i j → mask_of (strips_of job) j ≡ mask_of (strips_of job) i
  chain_mask x u i _ (chain_one c) = refl
  chain_mask x u i _ (chain_onward j k chain on c) = sym on.strips_of_one_mask.one_mask ∙ chain_mask x u i j chain

  chain_back : (x u : ℤ) (i j : ℕ) → IsChain job columns x u i j → IsChainIn (strips_of job) (Over (mask_of (strips_of job) i) x u) i j
  chain_back x u i _ (chain_one c) = alone (over_both (mask_of (strips_of job) i) x u i refl c)
  chain_back x u i _ (chain_onward j k chain on c) =
      and_on j k (chain_back x u i j chain) on
      (over_both (mask_of (strips_of job) i) x u k (sym on.strips_of_one_mask.one_mask ∙ chain_mask x u i j chain) c)

  shown_back : (name : Name) → IsShown job columns name → IsShownBelow (strips_of job) left right job.view.strips.masks name
  shown_back _ (seen i j kept s) =
      let m = mask_of (strips_of job) i in
      let both = kept.of_one_mask.one_mask in
      record {
        m = m;
        below = kept.of_one_mask.is_drawn;
        shown = gap s.x tt (record {
          i = i;
          j = j;
          lower = record { strip = both.first; of_mask = refl; first = s.first; second = s.first };
          upper = record { strip = both.second; of_mask = sym both.one_mask; first = s.second; second = s.second };
          above = kept.above;
          none_between = λ k h up down. s.none_between k (record {
            with_first = record { first = both.first; second = h.strip; one_mask = sym h.of_mask };
            column = h.first;
            above_first = up;
            below_second = down;
          });
          apart = λ on. kept.untouched (inl on);
          named = refl;
        });
      }
  shown_back _ (chained i j whole) =
      let m = mask_of (strips_of job) i in
      record {
        m = m;
        below = whole.is_drawn;
        shown = run whole.x whole.u tt whole.one_or_two (record {
          i = i;
          j = j;
          chain = chain_back whole.x whole.u i j whole.chain;
          lowest = λ k h. whole.lowest k (both_over m whole.x whole.u k h);
          highest = λ k h. whole.highest k (both_over m whole.x whole.u k h);
          named = refl;
        });
      }

  pub lists_shown : (names : List Name) → ListsMasks (strips_of job) left right job.view.strips.masks names → ListsShown job columns names
  lists_shown names lists = record {
    exact = λ name. (
      λ c. shown_of name ((lists.exact name).0 c),
      λ s. (lists.exact name).1 (shown_back name s),
    );
  }
