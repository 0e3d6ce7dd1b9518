-- Which strips over a column are seen from which.
use Rattle.std.proofs.Common.{◌≡◌, ℕ, ◌+◌, ◌<◌, ◌≤◌, ◌≤ℤ◌, ◌<ℤ◌, List, [], ◌∷◌, ◌++◌, length, get_or, sym, ap₂, subst, ◌∙◌, arith, inl, inr}
use Rattle.std.proofs.lemmas.Int.{ints}
use Rattle.std.proofs.lemmas.Bool.{cases_lt}
use Rattle.rt_cells.proofs.Numbers.{below_or_at}
use Rattle.rt_sweep.specs.declared.bar.Bar.{Bar}
use Rattle.rt_rows.specs.declared.name.Name.{Name}
use Rattle.rt_rows.specs.declared.name.Name.TheVariants.{Gap}
use Rattle.rt_strips.specs.Placed.{Placed}
use Rattle.rt_columns.specs.Adding.{Adds}
use Rattle.rt_columns.specs.Bars.{AreBarsOf, line_at, IsOn, IsSeen, IsFirstAbove, IsGapName, IsGapFrom, IsGapBelow, IsLowerTop}
use Rattle.rt_columns.proofs.Adding.{adds_none, adds_one, adds_both, adds_as}
use Rattle.rt_columns.proofs.Places.{line_of, rises, tag_is}

-- one strip more that doesn't lie above
pub first_more : (over : List Bar) (p first : ℕ) → (line_at over first).bottom <ℤ (line_at over p).top
    → ((r : ℕ) → p < r → r < first → (line_at over r).bottom <ℤ (line_at over p).top)
    → (r : ℕ) → p < r → r < first + 1 → (line_at over r).bottom <ℤ (line_at over p).top
first_more over p first low before r l m = elim (below_or_at r first m) [
  | inl k ↦ before r l k
  | inr e ↦ subst (λ n. (line_at over n).bottom <ℤ (line_at over p).top) (sym e) low
]

module _ (strips : List Placed) (over : List Bar) where
  -- the gaps of the strips before a place
  pub none_below : (names : List Name) → Adds (IsGapBelow strips over 0) names names
  none_below names = adds_none _ names (λ name h. omega (arith, h.below))

  pub one_more : (p : ℕ) (before between after : List Name) → Adds (IsGapBelow strips over p) before between → Adds (IsGapFrom strips over p) between after
      → Adds (IsGapBelow strips over (p + 1)) before after
  one_more p before between after first second = adds_both _ _ _ before between after first second
      (λ name h. record { p = h.p; below = omega (arith, h.below); gap = h.gap })
      (λ name h. record { p = p; below = omega arith; gap = h })
      (λ name h. elim (below_or_at h.p p h.below) [
        | inl l ↦ inl (record { p = h.p; below = l; gap = h.gap })
        | inr e ↦ inr (subst (λ n. IsGapFrom strips over n name) e h.gap)
      ])

  -- the name of a gap
  pub gap_named : (p q : ℕ) (a b : Bar) → p < length over → q < length over → (before after : List Name)
      → after ≡ before ++ Gap (get_or over p a).tag (get_or over q b).tag ∷ [] → ¬ IsOn strips over p q → Adds (IsGapName strips over p q) before after
  gap_named p q a b h g before after e apart = adds_one _ before after _ e
      (record { apart = apart; named = sym (ap₂ Gap (tag_is over p a h) (tag_is over q b g)) })
      (λ name w. w.named ∙ ap₂ Gap (tag_is over p a h) (tag_is over q b g))

  -- the gaps between the strip at place p and those at the places from one on up to another
  pub record IsGapTo (p first end : ℕ) (name : Name) : Type 0 where
    pub q : ℕ
    pub from : first ≤ q
    pub to : q < end
    pub gap : IsGapName strips over p q name

  pub none_to : (p first : ℕ) (names : List Name) → Adds (IsGapTo p first first) names names
  none_to p first names = adds_none _ names (λ name h. omega (arith, h.from, h.to))

  -- what is known when the places from the first one above p on up to another are done: each is seen from p, and which of them ends lowest; that is the
  -- first one, where none is done
  pub record AreSeenTo (p first end least : ℕ) (before after : List Name) : Type 0 where
    pub onward : first ≤ end
    pub inside : end ≤ length over
    pub seen : (q : ℕ) → first ≤ q → q < end → IsSeen strips over p q
    pub tops : (q : ℕ) → first ≤ q → q < end → (line_at over least).top ≤ℤ (line_at over q).top
    pub least_from : first ≤ least
    pub least_there : least < length over
    pub adds : Adds (IsGapTo p first end) before after

  pub none_seen : (p first : ℕ) (names : List Name) → first < length over → AreSeenTo p first first first names names
  none_seen p first names h = record {
    onward = omega arith;
    inside = omega arith;
    seen = λ q a b. absurd (omega arith);
    tops = λ q a b. absurd (omega arith);
    least_from = omega arith;
    least_there = h;
    adds = none_to p first names;
  }

  module _ (bars : AreBarsOf strips over) (p first : ℕ) (here : p < length over) (above : IsFirstAbove over p first) where
    -- none before the first one lies above p
    not_above : (r : ℕ) → r < first → (line_at over p).top ≤ℤ (line_at over r).bottom → ⊥
    not_above r h up = elim (cases_lt p r) [
      | inl l ↦ let low = above.before r l h in omega (arith, ints)
      | inr l ↦ let low = rises strips over bars r p l here in let some = (line_of strips over bars p here).some_rows in omega (arith, ints)
    ]

    above_from_first : (q : ℕ) → first ≤ q → q < length over → (line_at over p).top ≤ℤ (line_at over q).bottom
    above_from_first q h l = let low = above.above (omega arith) in let up = rises strips over bars first q h l in omega (arith, ints)

    next_seen : (end least : ℕ) (before after : List Name) → AreSeenTo p first end least before after → end < length over
        → (line_at over end).bottom <ℤ (line_at over least).top → IsSeen strips over p end
    next_seen end least before after known h low = record {
      there = h;
      above = above_from_first end known.onward h;
      none_between = λ r there up down.
          elim (cases_lt r first) [
            | inl l ↦ not_above r l up
            | inr l ↦ elim (cases_lt r end) [
              | inl k ↦ let top = known.tops r l k in omega (arith, ints)
              | inr k ↦ let rise = rises strips over bars end r k there in let some = (line_of strips over bars r there).some_rows in omega (arith, ints)
            ]
          ];
    }

    pub one_more_seen : (end least less : ℕ) (before between after : List Name) → AreSeenTo p first end least before between → end < length over
        → (line_at over end).bottom <ℤ (line_at over least).top → IsLowerTop over least end less
        → Adds (IsGapName strips over p end) between after → AreSeenTo p first (end + 1) less before after
    one_more_seen end least less before between after known h low lower adds =
        let seen = next_seen end least before between known h low in
        let a = lower.first in
        record {
          onward = omega (arith, known.onward);
          inside = omega arith;
          seen = λ q f t. elim (below_or_at q end t) [ inl l ↦ known.seen q f l | inr e ↦ subst (IsSeen strips over p) (sym e) seen ];
          tops = λ q f t. elim (below_or_at q end t) [
            | inl l ↦ let top = known.tops q f l in omega (arith, ints)
            | inr e ↦ subst (λ n. (line_at over less).top ≤ℤ (line_at over n).top) (sym e) lower.second
          ];
          least_from = elim lower.either [ inl e ↦ omega (arith, e, known.least_from) | inr e ↦ omega (arith, e, known.onward) ];
          least_there = elim lower.either [ inl e ↦ omega (arith, e, known.least_there) | inr e ↦ omega (arith, e, h) ];
          adds = adds_both _ _ _ before between after known.adds adds
              (λ name g. record { q = g.q; from = g.from; to = omega (arith, g.to); gap = g.gap })
              (λ name g. record { q = end; from = known.onward; to = omega arith; gap = g })
              (λ name g. elim (below_or_at g.q end g.to) [
                | inl l ↦ inl (record { q = g.q; from = g.from; to = l; gap = g.gap })
                | inr e ↦ inr (subst (λ n. IsGapName strips over p n name) e g.gap)
              ]);
        }

    -- beyond the last one none is seen
    pub all_seen : (end least : ℕ) (before after : List Name) → AreSeenTo p first end least before after
        → (end < length over → (line_at over least).top ≤ℤ (line_at over end).bottom) → Adds (IsGapFrom strips over p) before after
    all_seen end least before after known stop = adds_as _ _ before after known.adds
        (λ name g. record { q = g.q; seen = known.seen g.q g.from g.to; gap = g.gap })
        (λ name g. elim (cases_lt g.q first) [
          | inl l ↦ absurd (not_above g.q l g.seen.above)
          | inr l ↦ elim (cases_lt g.q end) [
            | inl k ↦ record { q = g.q; from = l; to = k; gap = g.gap }
            | inr k ↦ absurd (
                let there = g.seen.there in
                let low = stop (omega arith) in
                let rise = rises strips over bars end g.q k there in
                g.seen.none_between least known.least_there (above_from_first least known.least_from known.least_there) (omega (arith, ints)))
          ]
        ])

  -- where there is none above, none is seen
  pub none_above : (bars : AreBarsOf strips over) (p first : ℕ) (here : p < length over) (above : IsFirstAbove over p first) → length over ≤ first
      → (names : List Name) → Adds (IsGapFrom strips over p) names names
  none_above bars p first here above h names = adds_none _ names (λ name g. not_above bars p first here above g.q (omega (arith, g.seen.there)) g.seen.above)
