-- A sweep passes a slab: which bars cross it, and what is kept behind it.
use Rattle.std.proofs.Common.{◌≡◌, ℕ, ◌+◌, ◌-◌, ◌<◌, ◌≤◌, ℤ, ◌≤ℤ◌, ◌<ℤ◌, ◌⊎◌, List, [], ◌∷◌, length, get_or, take, drop, refl, sym, subst, ap, ◌∙◌, arith, inl, inr, length-drop}
use Rattle.std.specs.List.{All, Contains}
use Rattle.std.proofs.lemmas.Int.{ints, by_lt_z}
use Rattle.std.proofs.lemmas.Bool.{cases_lt}
use Rattle.std.proofs.lemmas.List.{get_or-take, get_or-drop, length-take}
use Rattle.std.proofs.lemmas.List.Elements.{All-contains, Contains-get_or}
use Rattle.std.specs.List.Sorted.{IsPermutation}
use Rattle.std.proofs.lemmas.List.Sorted.{All-permutation, IsPermutation-sym}
use Rattle.rt_cells.proofs.Numbers.{below_or_at}
use Rattle.rt_base.specs.Plane.{area}
use Rattle.rt_sweep.specs.declared.bar.Bar.{Bar}
use Rattle.rt_sweep.specs.Slabs.{Crosses, Misses, IsSlab, AreRowsFree, AreBelow, IsAtStart, PassesSlab}
use Rattle.rt_sweep.specs.Rows.{AreUpwards, AreAcross, HasBegun, IsSwept, AreFirstRows, IsLeastTop, IsNextBottom, NoneIsLeft, IsMerged}
use Rattle.rt_sweep.specs.Steps.{IsStep}

-- a bar of a list that has a place
pub some_bar : (bars : List Bar) (i : ℕ) → i < length bars → Bar
some_bar [] i h = absurd (omega arith)
some_bar (b ∷ bs) i h = b

-- bars further on begin no lower
bottoms_rise : (bars : List Bar) → AreUpwards bars → (i k : ℕ) (d : Bar) → i ≤ k → k < length bars → (get_or bars i d).at.y1 ≤ℤ (get_or bars k d).at.y1
bottoms_rise bars up i k d h l = elim (below_or_at i k (omega arith)) [
  | inl lt ↦ (up i k d lt l).bottoms
  | inr e ↦ subst (λ n. (get_or bars i d).at.y1 ≤ℤ (get_or bars n d).at.y1) e (omega (arith, ints))
]

part_length : (bars : List Bar) (from end : ℕ) → end ≤ length bars → length (take (end - from) (drop from bars)) ≡ end - from
part_length bars from end h = simp (length-take, length-drop) (omega arith)

part_at : (bars : List Bar) (from end k : ℕ) (d : Bar) → k < end - from → get_or (take (end - from) (drop from bars)) k d ≡ get_or bars (from + k) d
part_at bars from end k d h = get_or-take (end - from) (drop from bars) k d h ∙ get_or-drop from bars k d

-- the bars on which the sweep goes on
module _ (bars : List Bar) (next : ℕ) (height highest : ℤ) (active : List Bar) (swept : IsSwept bars next height highest active)
    (bottom : ℤ) (start : IsNextBottom bars next active height bottom) (end : ℕ) (row : AreFirstRows bars next bottom end) where
  -- the bars that begin in the slab's lowest row
  abbrev begins : List Bar
  begins = take (end - next) (drop next bars)

  onward : height ≤ℤ bottom
  onward = elim start.either [
    | inl (goes, e) ↦ omega (arith, ints)
    | inr (ended, l, e) ↦ let d = some_bar bars next l in let is = e d in let above = swept.to_come next d (omega arith) l in omega (arith, ints)
  ]

  -- a bar that hasn't begun before begins at the bottom or above it
  from_bottom : (k : ℕ) (d : Bar) → next ≤ k → k < length bars → bottom ≤ℤ (get_or bars k d).at.y1
  from_bottom k d h l = elim start.either [
    | inl (goes, e) ↦ let above = swept.to_come k d h l in omega (arith, ints)
    | inr (ended, there, e) ↦ let is = e d in let rise = bottoms_rise bars swept.upwards next k d h l in omega (arith, ints)
  ]

  -- a bar before the end begins at the bottom or below it
  to_bottom : (k : ℕ) (d : Bar) → k < end → (get_or bars k d).at.y1 ≤ℤ bottom
  to_bottom k d h = elim (cases_lt k next) [
    | inl l ↦ let begun = swept.begun k d l in let more = onward in omega (arith, ints)
    | inr l ↦ row.first k d l h
  ]

  -- the bars that begin stand in order of their left ends
  pub begins_across : AreAcross begins
  begins_across i j d h l =
      let long : length begins ≡ end - next = part_length bars next end row.inside in
      let first : get_or begins i d ≡ get_or bars (next + i) d = part_at bars next end i d (omega arith) in
      let second : get_or begins j d ≡ get_or bars (next + j) d = part_at bars next end j d (omega arith) in
      let up = swept.upwards (next + i) (next + j) d (omega arith) (omega (arith, row.inside)) in
      let high = row.first (next + j) d (omega arith) (omega arith) in
      let low = from_bottom (next + i) d (omega arith) (omega (arith, row.inside)) in
      let left : (get_or bars (next + i) d).at.x1 ≤ℤ (get_or bars (next + j) d).at.x1 = up.lefts (omega (arith, ints)) in
      subst (λ (b : Bar). b.at.x1 ≤ℤ (get_or begins j d).at.x1) (sym first) (subst (λ (b : Bar). (get_or bars (next + i) d).at.x1 ≤ℤ b.at.x1) (sym second) left)

  module _ (merged : List Bar) (into : IsMerged active begins bottom merged) where
    -- a bar before the end that goes on above the bottom is among the merged ones
    goes_in : (bar : Bar) (k : ℕ) → k < end → get_or bars k bar ≡ bar → bottom <ℤ bar.at.y2 → Contains merged bar
    goes_in bar k h e high = elim (cases_lt k next) [
      | inl l ↦
          let more = onward in
          let low : bar.at.y1 <ℤ height = subst (λ (b : Bar). b.at.y1 <ℤ height) e (swept.begun k bar l) in
          into.going_kept bar (swept.each bar (record { listed = (k, omega (arith, row.inside), e); below = low }) (omega (arith, ints))) high
      | inr l ↦
          let long : length begins ≡ end - next = part_length bars next end row.inside in
          let is : get_or begins (k - next) bar ≡ bar = part_at bars next end (k - next) bar (omega arith) ∙ ap (λ n. get_or bars n bar) (omega arith) ∙ e in
          into.beginning_kept bar (k - next, omega arith, is) high
    ]

    -- the merged bars are bars that begin at the bottom or below it
    comes_from : (bar : Bar) → Contains merged bar → Contains bars bar × (bar.at.y1 ≤ℤ bottom)
    comes_from bar c =
        elim (All-contains (λ (b : Bar). (Contains active b ⊎ Contains begins b) × (bottom <ℤ b.at.y2)) merged bar into.each c).0 [
          | inl a ↦
              let began : HasBegun bars height bar = All-contains (HasBegun bars height) active bar swept.active_began a in
              let more = onward in
              (began.listed, omega (arith, ints, began.below))
          | inr (k, l, e) ↦
              let long : length begins ≡ end - next = part_length bars next end row.inside in
              let is : get_or bars (next + k) bar ≡ bar = sym (part_at bars next end k bar (omega arith)) ∙ e in
              ((next + k, omega (arith, row.inside), is), subst (λ (b : Bar). b.at.y1 ≤ℤ bottom) is (to_bottom (next + k) bar (omega arith)))
        ]

    module _ (limit : ℤ) (there : end < length bars → (d : Bar) → limit ≡ (get_or bars end d).at.y1) (none : length bars ≤ end → limit ≡ highest)
        (top : ℤ) (least : IsLeastTop merged limit top) where
      ends_below : (bar : Bar) → Contains bars bar → bar.at.y2 ≤ℤ highest
      ends_below bar c = All-contains (λ (b : Bar). b.at.y2 ≤ℤ highest) bars bar swept.ends c

      -- some bar ends above the bottom
      below_highest : bottom <ℤ highest
      below_highest = elim start.either [
        | inl ((bar, a, high), e) ↦
            let began : HasBegun bars height bar = All-contains (HasBegun bars height) active bar swept.active_began a in
            let ends = ends_below bar began.listed in
            omega (arith, ints)
        | inr (ended, l, e) ↦
            let d = some_bar bars next l in
            let is = e d in
            let up = (get_or bars next d).at.upwards in
            let ends = swept.ends next d l in
            omega (arith, ints)
      ]

      below_limit : bottom <ℤ limit
      below_limit = elim (cases_lt end (length bars)) [
        | inl l ↦ let d = some_bar bars end l in let is = there l d in let above = row.above d l in omega (arith, ints)
        | inr l ↦ let e = none l in let b = below_highest in omega (arith, ints)
      ]

      within_highest : limit ≤ℤ highest
      within_highest = elim (cases_lt end (length bars)) [
        | inl l ↦
            let d = some_bar bars end l in
            let is = there l d in
            let up = (get_or bars end d).at.upwards in
            let ends = swept.ends end d l in
            omega (arith, ints)
        | inr l ↦ let e = none l in omega (arith, ints)
      ]

      some_rows : bottom <ℤ top
      some_rows = least.greatest bottom below_limit (λ k d l. (into.each k d l).1)

      -- a bar from the end on begins at the top or above it
      from_top : (k : ℕ) (d : Bar) → end ≤ k → k < length bars → top ≤ℤ (get_or bars k d).at.y1
      from_top k d h l =
          let is = there (omega arith) d in
          let rise = bottoms_rise bars swept.upwards end k d h l in
          let most = least.at_most in
          omega (arith, ints)

      crossing : (bar : Bar) → Contains merged bar → Crosses bottom top (area bar.at)
      crossing bar c = record {
        from = (comes_from bar c).1;
        to = All-contains (λ (b : Bar). top ≤ℤ b.at.y2) merged bar least.tops c;
      }

      each_bar : (bar : Bar) → Contains bars bar → (Contains merged bar × Crosses bottom top (area bar.at)) ⊎ Misses bottom top (area bar.at)
      each_bar bar (k, l, e) = elim (cases_lt k end) [
        | inl lt ↦
            by_lt_z bottom bar.at.y2
            (λ h. let c = goes_in bar k lt e h in inl (c, crossing bar c))
            (λ h. inr (inl h))
        | inr ge ↦ inr (inr (subst (λ (b : Bar). top ≤ℤ b.at.y1) e (from_top k bar ge l)))
      ]

      slab : IsSlab bars bottom top merged
      slab = record {
        some_rows = some_rows;
        each = each_bar;
        are_active = λ k d l. let c = Contains-get_or merged k d l in record { listed = (comes_from _ c).0; crosses = crossing _ c };
        in_order = into.across;
      }

      free : AreRowsFree bars height bottom
      free = record {
        free = λ bar c y between rows. elim start.either [
          | inl (goes, e) ↦ omega (arith, ints, between.from, between.to)
          | inr (ended, l, e) ↦ elim (cases_lt c.0 next) [
            | inl lt ↦
                let began : HasBegun bars height bar = record { listed = c; below = subst (λ (b : Bar). b.at.y1 <ℤ height) c.2 (swept.begun c.0 bar lt) } in
                let ends : bar.at.y2 ≤ℤ height =
                by_lt_z height bar.at.y2 (λ h. All-contains (λ (b : Bar). b.at.y2 ≤ℤ height) active bar ended (swept.each bar began h)) (λ h. h) in
                omega (arith, ints, between.from, rows.to)
            | inr ge ↦
                let above : bottom ≤ℤ bar.at.y1 = subst (λ (b : Bar). bottom ≤ℤ b.at.y1) c.2 (from_bottom c.0 bar ge c.1) in
                omega (arith, ints, between.to, rows.from)
          ]
        ];
      }

      pub swept_after : IsSwept bars end top highest merged
      swept_after = record {
        upwards = swept.upwards;
        inside = row.inside;
        begun = λ k d h. let low = to_bottom k d h in let rows = some_rows in omega (arith, ints);
        to_come = from_top;
        ends = swept.ends;
        active_began = λ k d l.
            let c = comes_from _ (Contains-get_or merged k d l) in
            let rows = some_rows in
            record { listed = c.0; below = omega (arith, ints, c.1) };
        each = λ bar began h. elim (cases_lt began.listed.0 end) [
          | inl lt ↦ let rows = some_rows in goes_in bar began.listed.0 lt began.listed.2 (omega (arith, ints))
          | inr ge ↦
              let above : top ≤ℤ bar.at.y1 = subst (λ (b : Bar). top ≤ℤ b.at.y1) began.listed.2 (from_top began.listed.0 bar ge began.listed.1) in
              absurd (omega (arith, ints, began.below))
        ];
        across = into.across;
      }

      pub passes : PassesSlab (record { bars = bars; height = height; highest = highest; active = active }) bottom top
          (record { bars = bars; height = top; highest = highest; active = merged })
      passes = record {
        same_bars = refl;
        same_highest = refl;
        onward = onward;
        free = free;
        slab = slab;
        at_top = refl;
        within = let h = within_highest in let most = least.at_most in omega (arith, ints);
      }

-- a sweep at its start
pub swept_from : (bars : List Bar) (height highest : ℤ) (active : List Bar) → AreUpwards bars → ((d : Bar) → 0 < length bars → height ≡ (get_or bars 0 d).at.y1)
    → All (λ bar. bar.at.y2 ≤ℤ highest) bars → active ≡ [] → IsSwept bars 0 height highest active
swept_from bars height highest active up first ends e = record {
  upwards = up;
  inside = omega arith;
  begun = λ k d h. absurd (omega arith);
  to_come = λ k d h l. let is = first d (omega arith) in let rise = bottoms_rise bars up 0 k d h l in omega (arith, ints);
  ends = ends;
  active_began = subst (All (HasBegun bars height)) (sym e) (λ k d h. absurd (omega arith));
  each = λ bar began h. let is = first bar (omega (arith, began.listed.1)) in
      let rise = bottoms_rise bars up 0 began.listed.0 bar (omega arith) began.listed.1 in
      let low : (get_or bars began.listed.0 bar).at.y1 <ℤ height = subst (λ (b : Bar). b.at.y1 <ℤ height) (sym began.listed.2) began.below in
      absurd (omega (arith, ints));
  across = subst AreAcross (sym e) (λ i j d h k. absurd (omega arith));
}

-- one step
pub stepped : (bars : List Bar) (next : ℕ) (height highest : ℤ) (active : List Bar) → IsSwept bars next height highest active
    → (bottom : ℤ) → IsNextBottom bars next active height bottom → (end : ℕ) → AreFirstRows bars next bottom end
    → (merged : List Bar) → IsMerged active (take (end - next) (drop next bars)) bottom merged
    → (limit : ℤ) → (end < length bars → (d : Bar) → limit ≡ (get_or bars end d).at.y1) → (length bars ≤ end → limit ≡ highest)
    → (top : ℤ) → IsLeastTop merged limit top → IsStep bars height highest active bottom top end merged
stepped bars next height highest active swept bottom start end row merged into limit there none top least = record {
  passes = passes bars next height highest active swept bottom start end row merged into limit there none top least;
  swept = swept_after bars next height highest active swept bottom start end row merged into limit there none top least;
}

pub at_start : (given bars : List Bar) (height highest : ℤ) (active : List Bar) → IsPermutation given bars → IsSwept bars 0 height highest active
    → IsAtStart given (record { bars = bars; height = height; highest = highest; active = active })
at_start given bars height highest active same swept = record {
  same_bars = same;
  above = All-permutation (λ (bar : Bar). height ≤ℤ bar.at.y1) bars given (IsPermutation-sym given bars same) (λ k d l. swept.to_come k d (omega arith) l);
  below = All-permutation (λ (bar : Bar). bar.at.y2 ≤ℤ highest) bars given (IsPermutation-sym given bars same) swept.ends;
}
