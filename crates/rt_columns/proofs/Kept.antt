-- Bars one after the other: those that go on, and those of a mask.
use Rattle.std.proofs.Common.{◌≡◌, ℕ, ◌+◌, ◌<◌, ◌≤◌, ℤ, ◌≤ℤ◌, ◌<ℤ◌, List, [], ◌∷◌, ◌++◌, length, map, get_or, sym, ap, subst, ◌∙◌, arith, inl, inr}
use Rattle.std.specs.List.{All, Contains}
use Rattle.std.proofs.lemmas.Int.{ints}
use Rattle.std.proofs.lemmas.List.Elements.{All-push, All-nil, All-contains, All-weaker, Contains-append_left, Contains-push}
use Rattle.std.proofs.lemmas.List.Quantifiers.{all_pairs_push}
use Rattle.rt_sweep.specs.declared.bar.Bar.{Bar}
use Rattle.rt_sweep.specs.Slabs.{Passing, AreAbove, AreBelow, PassesSlab, IsActive, IsSlab}
use Rattle.rt_sweep.specs.Rows.{AreAcross, IsKept}
use Rattle.rt_rows.specs.declared.name.Name.{Name}
use Rattle.std.specs.List.Sorted.{IsPermutation}
use Rattle.std.proofs.lemmas.List.Sorted.{All-permutation, Contains-permutation}
use Rattle.rt_cells.proofs.Numbers.{below_or_at}
use Rattle.rt_strips.specs.declared.listing.Strip.{Strip}
use Rattle.rt_strips.specs.Placed.{Placed, placed, mask_of, bottom_of, top_of}
use Rattle.rt_strips.proofs.Placed.{strip_is}
use Rattle.rt_strips.specs.Standing.{IsStrip}
use Rattle.rt_columns.specs.Adding.{Adds}
use Rattle.rt_columns.specs.Bars.{ArePassing, IsBarOf, AreBarsOf}
use Rattle.rt_columns.specs.Columns.{HasBar, IsShownTo, IsColumnBar, AreColumnBars}
use Rattle.rt_columns.specs.Slabs.{AddsSlab}
use Rattle.rt_columns.specs.Sides.{IsStripBar, IsBarAdded, ShowsBars}
use Rattle.rt_columns.proofs.Crossing.{none_at_start, all_at_end, one_slab}

-- a bar goes on beyond the column and has a place below another
pub record IsFrom (active : List Bar) (end : ℕ) (column : ℤ) (bar : Bar) : Type 0 where
  pub place : ℕ
  pub below : place < end
  pub is : (d : Bar) → get_or active place d ≡ bar
  pub goes_on : column <ℤ bar.at.y2

-- those of the first bars that go on are kept
pub record ArePassingTo (active : List Bar) (end : ℕ) (column : ℤ) (through : List Bar) : Type 0 where
  pub inside : end ≤ length active
  pub each : All (IsFrom active end column) through
  pub every : (k : ℕ) (d : Bar) → k < end → column <ℤ (get_or active k d).at.y2 → Contains through (get_or active k d)
  pub in_order : AreAcross through

pub none_passing : (active : List Bar) (column : ℤ) (through : List Bar) → through ≡ [] → ArePassingTo active 0 column through
none_passing active column through e = subst (ArePassingTo active 0 column) (sym e) (record {
  inside = omega arith;
  each = All-nil (IsFrom active 0 column);
  every = λ k d h. absurd (omega arith);
  in_order = λ i j d h k. absurd (omega arith);
})

more_from : (active : List Bar) (end : ℕ) (column : ℤ) (bar : Bar) → IsFrom active end column bar → IsFrom active (end + 1) column bar
more_from active end column bar h = record { place = h.place; below = omega (arith, h.below); is = h.is; goes_on = h.goes_on }

pub one_more_passing : (active : List Bar) → AreAcross active → (end : ℕ) (column : ℤ) (before after : List Bar) → ArePassingTo active end column before → end < length active
    → (bar : Bar) → ((d : Bar) → get_or active end d ≡ bar) → IsKept column bar before after → ArePassingTo active (end + 1) column after
one_more_passing active across end column before after known l bar is (inl (high, e)) =
    subst (ArePassingTo active (end + 1) column) (sym e) (record {
      inside = omega arith;
      each = All-push (IsFrom active (end + 1) column) before bar (All-weaker (IsFrom active end column) (IsFrom active (end + 1) column) (more_from active end column) before known.each)
          (record { place = end; below = omega arith; is = is; goes_on = high });
      every = λ k d h g. elim (below_or_at k end h) [
        | inl m ↦ Contains-append_left before (bar ∷ []) (get_or active k d) (known.every k d m g)
        | inr s ↦ subst (Contains (before ++ bar ∷ [])) (sym (ap (λ n. get_or active n d) s ∙ is d)) (Contains-push before bar)
      ];
      in_order = all_pairs_push (λ (a b : Bar). a.at.x1 ≤ℤ b.at.x1) before bar known.in_order (λ k d h.
          let f = known.each k d h in
          let low = across f.place end d f.below l in
          let a : (get_or active f.place d).at.x1 ≡ (get_or before k d).at.x1 = ap (λ (b : Bar). b.at.x1) (f.is d) in
          let b : (get_or active end d).at.x1 ≡ bar.at.x1 = ap (λ (c : Bar). c.at.x1) (is d) in
          omega (arith, ints));
    })
one_more_passing active across end column before after known l bar is (inr (low, e)) =
    subst (ArePassingTo active (end + 1) column) (sym e) (record {
      inside = omega arith;
      each = All-weaker (IsFrom active end column) (IsFrom active (end + 1) column) (more_from active end column) before known.each;
      every = λ k d h g. elim (below_or_at k end h) [
        | inl m ↦ known.every k d m g
        | inr s ↦ absurd (let b : (get_or active k d).at.y2 ≡ bar.at.y2 = ap (λ (c : Bar). c.at.y2) (ap (λ n. get_or active n d) s ∙ is d) in omega (arith, ints))
      ];
      in_order = known.in_order;
    })

pub all_passing : (active : List Bar) (end : ℕ) (column : ℤ) (through : List Bar) → ArePassingTo active end column through → length active ≤ end → ArePassing active column through
all_passing active end column through known h = record {
  each = All-weaker (IsFrom active end column) (λ (bar : Bar). Contains active bar × (column <ℤ bar.at.y2))
      (λ bar f. ((f.place, omega (arith, f.below, known.inside), f.is bar), f.goes_on)) through known.each;
  every = λ bar listed high.
      let k = listed.0 in
      let is = listed.2 in
      subst (Contains through) is (known.every k bar (omega (arith, listed.1)) (let b : (get_or active k bar).at.y2 ≡ bar.at.y2 = ap (λ (c : Bar). c.at.y2) is in omega (arith, ints)));
  in_order = known.in_order;
}

-- the bars of the first strips that are of the mask
pub record AreBarsTo (strips : List Placed) (left right : ℕ → ℤ) (m end : ℕ) (bars : List Bar) : Type 0 where
  pub each : All (IsColumnBar strips left right m) bars
  pub every : (i : ℕ) → i < end → mask_of strips i ≡ m → HasBar bars i

pub no_bars : (strips : List Placed) (left right : ℕ → ℤ) (m : ℕ) (bars : List Bar) → bars ≡ [] → AreBarsTo strips left right m 0 bars
no_bars strips left right m bars e = subst (AreBarsTo strips left right m 0) (sym e) (record {
  each = All-nil (IsColumnBar strips left right m);
  every = λ i h. absurd (omega arith);
})

column_bar_of : (strips : List Placed) (left right : ℕ → ℤ) (m i : ℕ) (bar : Bar) → IsStrip strips i → mask_of strips i ≡ m → IsStripBar strips left right i bar → IsColumnBar strips left right m bar
column_bar_of strips left right m i bar strip e is = record {
  of_strip = record {
    strip = subst (IsStrip strips) (sym is.tag) strip;
    bottom = is.bottom ∙ ap (bottom_of strips) (sym is.tag);
    top = is.top ∙ ap (top_of strips) (sym is.tag);
    some_rows = bar.at.across;
  };
  of_mask = ap (mask_of strips) is.tag ∙ e;
  from = is.from ∙ ap left (sym is.tag);
  to = is.to ∙ ap right (sym is.tag);
}

has_more : (before : List Bar) (bar : Bar) (i : ℕ) → HasBar before i → HasBar (before ++ bar ∷ []) i
has_more before bar i h = record { bar = h.bar; listed = Contains-append_left before (bar ∷ []) h.bar h.listed; of = h.of }

pub one_more_bar : (strips : List Placed) (left right : ℕ → ℤ) (m i : ℕ) (before after : List Bar) → IsStrip strips i → AreBarsTo strips left right m i before
    → IsBarAdded strips left right m i before after → AreBarsTo strips left right m (i + 1) after
one_more_bar strips left right m i before after strip known (inl (e, added)) =
    subst (AreBarsTo strips left right m (i + 1)) (sym added.appended) (record {
      each = All-push (IsColumnBar strips left right m) before added.bar known.each (column_bar_of strips left right m i added.bar strip e added.is);
      every = λ j h f. elim (below_or_at j i h) [
        | inl l ↦ has_more before added.bar j (known.every j l f)
        | inr s ↦ record { bar = added.bar; listed = Contains-push before added.bar; of = added.is.tag ∙ sym s }
      ];
    })
one_more_bar strips left right m i before after strip known (inr (ne, e)) =
    subst (AreBarsTo strips left right m (i + 1)) (sym e) (record {
      each = known.each;
      every = λ j h f. elim (below_or_at j i h) [
        | inl l ↦ known.every j l f
        | inr s ↦ absurd (ne (ap (mask_of strips) (sym s) ∙ f))
      ];
    })

pub all_bars : (strips : List Placed) (left right : ℕ → ℤ) (m end : ℕ) (bars : List Bar) → length strips ≤ end → AreBarsTo strips left right m end bars → AreColumnBars strips left right m bars
all_bars strips left right m end bars h known = record {
  each = known.each;
  every = λ i strip e. known.every i (omega (arith, strip.below_count)) e;
}

-- the names are added that bars show at columns below a height
pub record ShowsTo (strips : List Placed) (bars : List Bar) (start height : ℤ) (before after : List Name) : Type 0 where
  pub shown : (left right : ℕ → ℤ) (m : ℕ) → AreColumnBars strips left right m bars → AreAbove bars start → Adds (IsShownTo strips left right m height) before after

pub shows_none : (strips : List Placed) (bars : List Bar) (start : ℤ) (names : List Name) → ShowsTo strips bars start start names names
shows_none strips bars start names = record { shown = λ left right m all above. none_at_start strips left right m bars all start above names }

pub shows_slab : (strips : List Placed) (bars : List Bar) (start : ℤ) (now next : Passing) (bottom top : ℤ) → now.bars ≡ bars → PassesSlab now bottom top next
    → (before between after : List Name) → ShowsTo strips bars start now.height before between → AddsSlab strips next.active top between after
    → ShowsTo strips bars start next.height before after
shows_slab strips bars start now next bottom top same passes before between after known adds = record {
  shown = λ left right m all above. one_slab strips left right m bars all now next bottom top same passes before between after (known.shown left right m all above) adds;
}

pub shows_all : (strips : List Placed) (bars : List Bar) (start height : ℤ) (before after : List Name) → AreBelow bars height → ShowsTo strips bars start height before after
    → ShowsBars strips bars start before after
shows_all strips bars start height before after below known = record {
  shown = λ left right m all above. all_at_end strips left right m bars all height below before after (known.shown left right m all above);
}

-- the mask of a strip that the code reads
pub mask_read : (strips list : List Strip) (i : ℕ) (strip : Strip) → list ≡ strips → i < length strips → strip ≡ get_or list i strip → mask_of (map placed strips) i ≡ strip.mask
mask_read strips list i strip e h is = ap (λ (p : Placed). p.mask) (strip_is strips i strip h (subst (λ (l : List Strip). strip ≡ get_or l i strip) e is))

-- the bars of a slab are of strips
pub slab_bars : (strips : List Placed) (bars all : List Bar) (bottom top : ℤ) (active : List Bar) → bars ≡ all → All (IsBarOf strips) all → IsSlab bars bottom top active → AreBarsOf strips active
slab_bars strips bars all bottom top active e each slab = record {
  each = All-weaker (IsActive bars bottom top) (IsBarOf strips)
      (λ bar a. All-contains (IsBarOf strips) bars bar (subst (λ (bs : List Bar). All (IsBarOf strips) bs) (sym e) each) a.listed) active slab.are_active;
  in_order = slab.in_order;
}

-- the same bars in another order
pub bars_in_order : (strips : List Placed) (left right : ℕ → ℤ) (m : ℕ) (bars others : List Bar) → IsPermutation bars others → AreColumnBars strips left right m bars
    → AreColumnBars strips left right m others
bars_in_order strips left right m bars others same all = record {
  each = All-permutation (IsColumnBar strips left right m) bars others same all.each;
  every = λ i strip e. let b = all.every i strip e in record { bar = b.bar; listed = Contains-permutation bars others b.bar same b.listed; of = b.of };
}

pub bars_of_strips : (strips : List Placed) (left right : ℕ → ℤ) (m : ℕ) (bars : List Bar) → AreColumnBars strips left right m bars → All (IsBarOf strips) bars
bars_of_strips strips left right m bars all = All-weaker (IsColumnBar strips left right m) (IsBarOf strips) (λ bar c. c.of_strip) bars all.each

-- those that go on are of strips too
pub passing_bars : (strips : List Placed) (active : List Bar) (column : ℤ) (through : List Bar) → AreBarsOf strips active → ArePassing active column through → AreBarsOf strips through
passing_bars strips active column through bars passing = record {
  each = All-weaker (λ (bar : Bar). Contains active bar × (column <ℤ bar.at.y2)) (IsBarOf strips) (λ bar h. All-contains (IsBarOf strips) active bar bars.each h.0) through passing.each;
  in_order = passing.in_order;
}
