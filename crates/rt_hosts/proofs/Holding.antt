-- The bar of a strip that is held while the bars of a slab are looked at.
use Rattle.std.proofs.Common.{◌≡◌, ℕ, ◌+◌, ◌<◌, ◌≤◌, ℤ, ◌≤ℤ◌, ◌<ℤ◌, List, length, get_or, Contains, ap, subst, sym, ◌∙◌, arith, inl, inr}
use Rattle.std.specs.Prelude.{Option, None, Some}
use Rattle.std.proofs.lemmas.Int.{ints}
use Rattle.rt_cells.proofs.Numbers.{last_or_before}
use Rattle.rt_sweep.specs.declared.bar.Bar.{Bar}
use Rattle.rt_sweep.specs.Rows.{AreAcross}
use Rattle.rt_hosts.specs.Across.{AreOver, IsFarthest, IsNearest}
use Rattle.rt_hosts.proofs.Reading.{same_value, not_none, some_and}
use Rattle.rt_hosts.proofs.Looking.{IsHeldOf, HoldsOver}

-- of the bars of strips before a place one is held that ends no sooner than any; it begins no later than the bars from there on
pub record IsFarthestTo (bars : List Bar) (count i : ℕ) (held : Option Bar) : Type 0 where
  pub of : IsHeldOf bars count held
  pub begins : (strip : Bar) → held ≡ Some strip → (j : ℕ) (d : Bar) → i ≤ j → j < length bars → strip.at.x1 ≤ℤ (get_or bars j d).at.x1
  pub ends : (j : ℕ) (d : Bar) → j < i → count ≤ (get_or bars j d).tag → (strip : Bar) × (held ≡ Some strip) × ((get_or bars j d).at.x2 ≤ℤ strip.at.x2)

-- of the bars of strips from a place on one is held that begins no later than any; the bars before the place begin no later than it
pub record IsNearestFrom (bars : List Bar) (count i : ℕ) (held : Option Bar) : Type 0 where
  pub of : IsHeldOf bars count held
  pub behind : (strip : Bar) → held ≡ Some strip → (j : ℕ) (d : Bar) → j < i → (get_or bars j d).at.x1 ≤ℤ strip.at.x1
  pub begins : (j : ℕ) (d : Bar) → i ≤ j → j < length bars → count ≤ (get_or bars j d).tag
      → (strip : Bar) × (held ≡ Some strip) × (strip.at.x1 ≤ℤ (get_or bars j d).at.x1)

farther : (a b c : ℤ) → a ≤ℤ b → b ≤ℤ c → a ≤ℤ c
farther a b c h k = omega (arith, ints, h, k)

self : (a : ℤ) → a ≤ℤ a
self a = omega (arith, ints)

none_held : (bars : List Bar) (count : ℕ) → IsHeldOf bars count None
none_held bars count = record {
  listed = λ s e. absurd (not_none s (sym e));
  tagged = λ s e. absurd (not_none s (sym e));
}

-- before the first bar
pub farthest_none : (bars : List Bar) (count : ℕ) → IsFarthestTo bars count 0 None
farthest_none bars count = record {
  of = none_held bars count;
  begins = λ s e j d h l. absurd (not_none s (sym e));
  ends = λ j d h t. absurd (omega arith);
}

-- behind the last bar
pub nearest_none : (bars : List Bar) (count : ℕ) → IsNearestFrom bars count (length bars) None
nearest_none bars count = record {
  of = none_held bars count;
  behind = λ s e j d h. absurd (not_none s (sym e));
  begins = λ j d h l t. absurd (omega (arith, h, l));
}

module _ (bars : List Bar) (count : ℕ) (across : AreAcross bars) (i : ℕ) (there : i < length bars) (bar : Bar) (at : (d : Bar) → get_or bars i d ≡ bar) where
  held_now : (held' : Option Bar) → held' ≡ Some bar → (strip : Bar) → held' ≡ Some strip → bar ≡ strip
  held_now held' is strip e = same_value bar strip (sym is ∙ e)

  of_bar : (held' : Option Bar) → held' ≡ Some bar → count ≤ bar.tag → IsHeldOf bars count held'
  of_bar held' is tagged = record {
    listed = λ s e. subst (Contains bars) (held_now held' is s e) (i, there, at bar);
    tagged = λ s e. subst (λ (b : Bar). count ≤ b.tag) (held_now held' is s e) tagged;
  }

  module _ (held : Option Bar) (so_far : IsFarthestTo bars count i held) where
    -- what is held has a common column with a bar behind it that one of the strips before has
    pub over_farthest : (j : ℕ) (d : Bar) → j < i → count ≤ (get_or bars j d).tag → AreOver (get_or bars j d) bar → HoldsOver held bar
    over_farthest j d h t o =
        let e = so_far.ends j d h t in
        let left : e.0.at.x1 ≤ℤ bar.at.x1 = subst (λ (b : Bar). e.0.at.x1 ≤ℤ b.at.x1) (at d) (so_far.begins e.0 e.1 i d (omega arith) there) in
        let right : (get_or bars j d).at.x2 ≤ℤ e.0.at.x2 = e.2 in
        let reaches : bar.at.x1 <ℤ (get_or bars j d).at.x2 = o.second in
        (e.0, e.1, record { first = omega (arith, ints, left, bar.at.across); second = omega (arith, ints, right, reaches) })

    farthest_taken : (held' : Option Bar) → count ≤ bar.tag → held' ≡ Some bar → ((strip : Bar) → held ≡ Some strip → strip.at.x2 ≤ℤ bar.at.x2)
        → IsFarthestTo bars count (i + 1) held'
    farthest_taken held' tagged is beyond = record {
      of = of_bar held' is tagged;
      begins = λ s e j d h l.
          subst (λ (b : Bar). b.at.x1 ≤ℤ (get_or bars j d).at.x1) (held_now held' is s e)
          (subst (λ (b : Bar). b.at.x1 ≤ℤ (get_or bars j d).at.x1) (at d) (across i j d (omega arith) l));
      ends = λ j d h t. elim (last_or_before i j h) [
        | inl same ↦ (bar, is, subst (λ (b : Bar). b.at.x2 ≤ℤ bar.at.x2) (sym (ap (λ n. get_or bars n d) same ∙ at d)) (self bar.at.x2))
        | inr less ↦ let e = so_far.ends j d less t in (bar, is, farther _ _ _ e.2 (beyond e.0 e.1))
      ];
    }

    farthest_kept : (count ≤ bar.tag → (strip : Bar) × (held ≡ Some strip) × (bar.at.x2 ≤ℤ strip.at.x2)) → IsFarthestTo bars count (i + 1) held
    farthest_kept short = record {
      of = so_far.of;
      begins = λ s e j d h l. so_far.begins s e j d (omega arith) l;
      ends = λ j d h t. elim (last_or_before i j h) [
        | inl same ↦
            let is : get_or bars j d ≡ bar = ap (λ n. get_or bars n d) same ∙ at d in
            let e = short (subst (λ (b : Bar). count ≤ b.tag) is t) in
            (e.0, e.1, subst (λ (b : Bar). b.at.x2 ≤ℤ e.0.at.x2) (sym is) e.2)
        | inr less ↦ so_far.ends j d less t
      ];
    }

    -- one bar more
    pub farthest_more : (held' : Option Bar) → IsFarthest bar held count held' → IsFarthestTo bars count (i + 1) held'
    farthest_more held' is = elim is.either [
      | inl t ↦ farthest_taken held' t.0 t.1 t.2
      | inr k ↦ subst (IsFarthestTo bars count (i + 1)) (sym k.1) (farthest_kept (λ t. some_and held (λ (s : Bar). bar.at.x2 ≤ℤ s.at.x2) (k.0 t)))
    ]

  module _ (held : Option Bar) (so_far : IsNearestFrom bars count (i + 1) held) where
    -- what is held has a common column with a bar before it that one of the strips behind has
    pub over_nearest : (j : ℕ) (d : Bar) → i < j → j < length bars → count ≤ (get_or bars j d).tag → AreOver (get_or bars j d) bar → HoldsOver held bar
    over_nearest j d h l t o =
        let e = so_far.begins j d (omega arith) l t in
        let left : bar.at.x1 ≤ℤ e.0.at.x1 = subst (λ (b : Bar). b.at.x1 ≤ℤ e.0.at.x1) (at d) (so_far.behind e.0 e.1 i d (omega arith)) in
        let first : e.0.at.x1 ≤ℤ (get_or bars j d).at.x1 = e.2 in
        let begins : (get_or bars j d).at.x1 <ℤ bar.at.x2 = o.first in
        (e.0, e.1, record { first = omega (arith, ints, first, begins); second = omega (arith, ints, left, e.0.at.across) })

    nearest_taken : (held' : Option Bar) → count ≤ bar.tag → held' ≡ Some bar → IsNearestFrom bars count i held'
    nearest_taken held' tagged is = record {
      of = of_bar held' is tagged;
      behind = λ s e j d h.
          subst (λ (b : Bar). (get_or bars j d).at.x1 ≤ℤ b.at.x1) (at d ∙ held_now held' is s e) (across j i d h there);
      begins = λ j d h l t.
          by_first j d h
          (λ same. (bar, is, subst (λ (b : Bar). bar.at.x1 ≤ℤ b.at.x1) (sym (ap (λ n. get_or bars n d) same ∙ at d)) (self bar.at.x1)))
          (λ m. (bar, is, subst (λ (b : Bar). b.at.x1 ≤ℤ (get_or bars j d).at.x1) (at d) (across i j d m l)));
    }
      where
        by_first : {P : Type 0} (j : ℕ) (d : Bar) → i ≤ j → (j ≡ i → P) → (i < j → P) → P
        by_first j d h f g = elim (last_or_before j i (omega (arith, h))) [ inl e ↦ f (sym e) | inr l ↦ g l ]

    nearest_kept : bar.tag < count → IsNearestFrom bars count i held
    nearest_kept low = record {
      of = so_far.of;
      behind = λ s e j d h. so_far.behind s e j d (omega arith);
      begins = λ j d h l t. elim (last_or_before j i (omega (arith, h))) [
        | inl same ↦
            let tag : count ≤ bar.tag = subst (λ (b : Bar). count ≤ b.tag) (ap (λ n. get_or bars n d) (sym same) ∙ at d) t in
            absurd (omega (arith, tag, low))
        | inr less ↦ so_far.begins j d (omega arith) l t
      ];
    }

    -- one bar more
    pub nearest_more : (held' : Option Bar) → IsNearest bar held count held' → IsNearestFrom bars count i held'
    nearest_more held' is = elim is [
      | inl t ↦ nearest_taken held' t.0 t.1
      | inr k ↦ subst (IsNearestFrom bars count i) (sym k.1) (nearest_kept k.0)
    ]
