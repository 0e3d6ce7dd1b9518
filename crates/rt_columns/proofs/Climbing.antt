-- Which strips over a column are reached from which.
use Rattle.std.proofs.Common.{◌≡◌, ℕ, ◌+◌, ◌<◌, ◌≤◌, ◌<ℤ◌, ◌⊎◌, List, [], ◌∷◌, ◌++◌, length, get_or, refl, sym, ap₂, subst, ◌∙◌, arith, inl, inr}
use Rattle.std.specs.List.{All, Contains}
use Rattle.std.proofs.lemmas.Int.{ints}
use Rattle.std.proofs.lemmas.Bool.{cases_lt}
use Rattle.std.proofs.lemmas.List.{get_or_default}
use Rattle.std.proofs.lemmas.List.Elements.{All-push, All-nil, All-contains, All-weaker, Contains-append_left, Contains-push}
use Rattle.rt_cells.proofs.Numbers.{below_or_at}
use Rattle.rt_sweep.specs.declared.bar.Bar.{Bar}
use Rattle.rt_sweep.specs.Rows.{AreAcross}
use Rattle.rt_rows.specs.declared.name.Name.{Name}
use Rattle.rt_rows.specs.declared.name.Name.TheVariants.{Run}
use Rattle.rt_strips.specs.Placed.{Placed}
use Rattle.rt_columns.specs.Adding.{Adds}
use Rattle.rt_columns.specs.Bars.IsReached.{here, onward}
use Rattle.rt_columns.specs.Bars.{AreBarsOf, line_at, IsOn, IsReached, IsHighest, IsLowest, IsStoodOn, IsStanding, ArePassed, GoesUpTo, IsReachedThere, AreReached, IsTaken, IsRunTo, IsRunFrom, IsRunAt, IsRunBelow}
use Rattle.rt_columns.proofs.Adding.{adds_none, adds_one, adds_both, adds_as}
use Rattle.rt_columns.proofs.Places.{rises, rises_across, adjoins, on_behind, tag_is}

-- none is passed at first
pub none_passed : (over : List Bar) (k : ℕ) → ArePassed over 0 k
none_passed over k = record { up_to = omega arith; passed = λ r s h. absurd (omega arith) }

-- those that are passed stay so
pub still_passed : (over : List Bar) (from k : ℕ) → ArePassed over from k → ArePassed over from (k + 1)
still_passed over from k known = record { up_to = omega (arith, known.up_to); passed = λ r s h g. known.passed r s h (omega (arith, g)) }

pub one_passed : (over : List Bar) → AreAcross over → (from k : ℕ) → ArePassed over from k → from < k → k < length over → (line_at over from).top <ℤ (line_at over k).bottom
    → ArePassed over (from + 1) k
one_passed over across from k known h l low = record {
  up_to = omega arith;
  passed = λ r s m g t. elim (below_or_at r from m) [
    | inl n ↦ known.passed r s n g t
    | inr e ↦ subst (λ n. (line_at over n).top <ℤ (line_at over s).bottom) (sym e) (let up = rises_across over across k s g t in omega (arith, ints))
  ];
}

module _ (strips : List Placed) (over : List Bar) where
  -- the runs from the strips before a place
  pub no_runs_below : (names : List Name) → Adds (IsRunBelow strips over 0) names names
  no_runs_below names = adds_none _ names (λ name h. omega (arith, h.below))

  pub one_more_start : (p : ℕ) (before between after : List Name) → Adds (IsRunBelow strips over p) before between → Adds (IsRunAt strips over p) between after
      → Adds (IsRunBelow strips over (p + 1)) before after
  one_more_start p before between after first second = adds_both _ _ _ before between after first second
      (λ name h. record { p = h.p; below = omega (arith, h.below); run = h.run })
      (λ name h. record { p = p; below = omega arith; run = h })
      (λ name h. elim (below_or_at h.p p h.below) [
        | inl l ↦ inl (record { p = h.p; below = l; run = h.run })
        | inr e ↦ inr (subst (λ n. IsRunAt strips over n name) e h.run)
      ])

  -- a strip that stands on another begins no run
  pub no_run_at : (p : ℕ) (names : List Name) → IsStanding strips over p → Adds (IsRunAt strips over p) names names
  no_run_at p names standing = adds_none _ names (λ name h. h.lowest standing.r standing.there standing.on)

  pub run_at : (p : ℕ) (before after : List Name) → IsLowest strips over p → Adds (IsRunFrom strips over p) before after → Adds (IsRunAt strips over p) before after
  run_at p before after low adds = adds_as _ _ before after adds (λ name h. record { lowest = low; run = h }) (λ name h. h.run)

  module _ (bars : AreBarsOf strips over) where
    -- a strip that stands on none of those from there up to it stands on nothing
    pub stands_on_none : (from k : ℕ) → ArePassed over from k → k < length over → ((r : ℕ) → from ≤ r → r < k → ¬ IsOn strips over r k) → IsLowest strips over k
    stands_on_none from k known l none = λ r there on.
        let e = adjoins strips over bars r k there l on in
        elim (cases_lt r from) [
          | inl m ↦ let low = known.passed r k m (omega arith) l in omega (arith, ints)
          | inr m ↦ none r m (on_behind strips over bars r k there l on) on
        ]

    -- nothing stands on a strip, if nothing does of those that begin where it ends or below, and those behind begin above
    pub none_stands_on : (k end : ℕ) → k < length over → ((r : ℕ) → k < r → r < end → ¬ IsOn strips over k r)
        → (end < length over → (line_at over k).top <ℤ (line_at over end).bottom) → IsHighest strips over k
    none_stands_on k end l none stop = λ r there on.
        let e = adjoins strips over bars k r l there on in
        elim (cases_lt r end) [
          | inl m ↦ none r (on_behind strips over bars k r l there on) m on
          | inr m ↦ let low = stop (omega arith) in let up = rises strips over bars end r m there in omega (arith, ints)
        ]

  -- a place below another that is reached
  pub record IsReachedTo (p next q : ℕ) : Type 0 where
    pub below : q < next
    pub reached : IsReached strips over p q

  -- what is known when the places behind p up to another are done
  pub record AreReachedTo (p next : ℕ) (places : List ℕ) : Type 0 where
    pub behind : p < next
    pub inside : next ≤ length over
    pub sound : All (IsReachedTo p next) places
    pub complete : (q : ℕ) → q < next → IsReached strips over p q → Contains places q

  reached_there : (p q : ℕ) → p < length over → IsReached strips over p q → q < length over
  reached_there p _ h here = h
  reached_there p _ h (onward q r reached l on) = l

  module _ (bars : AreBarsOf strips over) (p : ℕ) (h : p < length over) where
    not_before : (q : ℕ) → IsReached strips over p q → p ≤ q
    not_before _ here = omega arith
    not_before _ (onward q r reached l on) =
        let first = not_before q reached in
        let behind = on_behind strips over bars q r (reached_there p q h reached) l on in
        omega arith

    pub reached_itself : (places : List ℕ) → places ≡ [] ++ p ∷ [] → AreReachedTo p (p + 1) places
    reached_itself places e = record {
      behind = omega arith;
      inside = omega arith;
      sound = subst (All (IsReachedTo p (p + 1))) (sym e) (All-push (IsReachedTo p (p + 1)) [] p (All-nil (IsReachedTo p (p + 1))) (record { below = omega arith; reached = here }));
      complete = λ q l r. elim (below_or_at q p l) [
        | inl k ↦ let low = not_before q r in absurd (omega arith)
        | inr s ↦ subst (Contains places) (sym s) (subst (λ ns. Contains ns p) (sym e) (Contains-push [] p))
      ];
    }

    -- a place that is reached is p, or stands on one that is reached and comes before
    abbrev IsFromReached : ℕ → Type 0
    IsFromReached r = (r ≡ p) ⊎ ((q : ℕ) × IsReached strips over p q × (q < r) × IsOn strips over q r)

    from_reached : (r : ℕ) → IsReached strips over p r → IsFromReached r
    from_reached _ here = inl refl
    from_reached _ (onward q r reached l on) = inr (q, reached, on_behind strips over bars q r (reached_there p q h reached) l on, on)

    pub all_places : (next : ℕ) (places : List ℕ) → AreReachedTo p next places → All (λ q. q < length over) places
    all_places next places known = All-weaker (IsReachedTo p next) (λ q. q < length over) (λ q r. omega (arith, r.below, known.inside)) places known.sound

    pub one_more_place : (next : ℕ) (before after : List ℕ) → AreReachedTo p next before → next < length over → IsTaken strips over next before after → AreReachedTo p (next + 1) after
    one_more_place next before after known l (inl (one, e)) =
        let reached : IsReached strips over p next = onward one.r next (All-contains (IsReachedTo p next) before one.r known.sound one.listed).reached l one.on in
        record {
          behind = omega (arith, known.behind);
          inside = omega arith;
          sound = subst (All (IsReachedTo p (next + 1))) (sym e) (All-push (IsReachedTo p (next + 1)) before next
              (All-weaker (IsReachedTo p next) (IsReachedTo p (next + 1)) (λ q r. record { below = omega (arith, r.below); reached = r.reached }) before known.sound)
              (record { below = omega arith; reached = reached }));
          complete = λ q m r. subst (λ ns. Contains ns q) (sym e) (elim (below_or_at q next m) [
            | inl k ↦ Contains-append_left before (next ∷ []) q (known.complete q k r)
            | inr s ↦ subst (Contains (before ++ next ∷ [])) (sym s) (Contains-push before next)
          ]);
        }
    one_more_place next before after known l (inr (none, e)) = record {
      behind = omega (arith, known.behind);
      inside = omega arith;
      sound = subst (All (IsReachedTo p (next + 1))) (sym e)
          (All-weaker (IsReachedTo p next) (IsReachedTo p (next + 1)) (λ q r. record { below = omega (arith, r.below); reached = r.reached }) before known.sound);
      complete = λ q m r. subst (λ ns. Contains ns q) (sym e) (elim (below_or_at q next m) [
        | inl k ↦ known.complete q k r
        | inr s ↦ absurd (elim (from_reached q r) [
          | inl same ↦ omega (arith, known.behind)
          | inr f ↦ none (record { r = f.0; listed = known.complete f.0 (omega (arith, f.2)) f.1; on = subst (IsOn strips over f.0) s f.3 })
        ])
      ]);
    }

    -- where none of those that are reached goes up to the next place, none behind is reached
    none_behind : (next : ℕ) (places : List ℕ) → AreReachedTo p next places → (next < length over → ¬ GoesUpTo over places next)
        → (q : ℕ) → IsReached strips over p q → q < next
    none_behind next places known stop _ here = known.behind
    none_behind next places known stop _ (onward q r reached l on) =
        let low = none_behind next places known stop q reached in
        let e = adjoins strips over bars q r (omega (arith, known.inside)) l on in
        elim (cases_lt r next) [
          | inl m ↦ m
          | inr m ↦
              let up = rises strips over bars next r m l in
              absurd (stop (omega arith) (record { r = q; listed = known.complete q low reached; up_to = omega (arith, ints) }))
        ]

    pub all_reached : (next : ℕ) (places : List ℕ) → AreReachedTo p next places → (next < length over → ¬ GoesUpTo over places next) → AreReached strips over p places
    all_reached next places known stop = record {
      sound = All-weaker (IsReachedTo p next) (IsReachedThere strips over p) (λ q r. record { there = omega (arith, r.below, known.inside); reached = r.reached }) places known.sound;
      complete = λ q r. known.complete q (none_behind next places known stop q r) r;
    }

  -- the name of a run
  pub run_named : (p q : ℕ) (a b : Bar) → p < length over → q < length over → (before after : List Name)
      → after ≡ before ++ Run (get_or over p a).tag (get_or over q b).tag ∷ [] → IsHighest strips over q → Adds (IsRunTo strips over p q) before after
  run_named p q a b h g before after e highest = adds_one _ before after _ e
      (record { highest = highest; named = sym (ap₂ Run (tag_is over p a h) (tag_is over q b g)) })
      (λ name w. w.named ∙ ap₂ Run (tag_is over p a h) (tag_is over q b g))

  pub no_run_to : (p q : ℕ) (names : List Name) → IsStoodOn strips over q → Adds (IsRunTo strips over p q) names names
  no_run_to p q names stood = adds_none _ names (λ name h. h.highest stood.r stood.there stood.on)

  -- the runs from the strip at place p to those at the first of some places
  pub record IsRunToOne (p : ℕ) (places : List ℕ) (end : ℕ) (name : Name) : Type 0 where
    pub k : ℕ
    pub below : k < end
    pub run : IsRunTo strips over p (get_or places k 0) name

  pub no_runs_to : (p : ℕ) (places : List ℕ) (names : List Name) → Adds (IsRunToOne p places 0) names names
  no_runs_to p places names = adds_none _ names (λ name h. omega (arith, h.below))

  pub one_more_end : (p : ℕ) (places : List ℕ) (k : ℕ) (before between after : List Name) → Adds (IsRunToOne p places k) before between
      → Adds (IsRunTo strips over p (get_or places k 0)) between after → Adds (IsRunToOne p places (k + 1)) before after
  one_more_end p places k before between after first second = adds_both _ _ _ before between after first second
      (λ name h. record { k = h.k; below = omega (arith, h.below); run = h.run })
      (λ name h. record { k = k; below = omega arith; run = h })
      (λ name h. elim (below_or_at h.k k h.below) [
        | inl l ↦ inl (record { k = h.k; below = l; run = h.run })
        | inr e ↦ inr (subst (λ n. IsRunTo strips over p (get_or places n 0) name) e h.run)
      ])

  pub all_ends : (p : ℕ) (places : List ℕ) (end : ℕ) (before after : List Name) → AreReached strips over p places → length places ≤ end → end ≤ length places
      → Adds (IsRunToOne p places end) before after → Adds (IsRunFrom strips over p) before after
  all_ends p places end before after known h g adds = adds_as _ _ before after adds
      (λ name r.
      let there = known.sound r.k 0 (omega (arith, r.below)) in
      record { q = get_or places r.k 0; there = there.there; reached = there.reached; run = r.run })
      (λ name r.
      let c = known.complete r.q r.reached in
      let is : get_or places c.0 0 ≡ r.q = get_or_default places c.0 0 r.q c.1 ∙ c.2 in
      record { k = c.0; below = omega (arith, c.1); run = subst (λ n. IsRunTo strips over p n name) (sym is) r.run })
