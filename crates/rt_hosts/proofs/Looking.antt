-- The bars of a slab, looked at one after another.
use Rattle.std.proofs.Common.{◌≡◌, ℕ, ◌+◌, ◌<◌, ◌≤◌, List, length, get_or, Contains, ap, subst, sym, ◌∙◌, refl, arith, inl, inr, ◌⊎◌}
use Rattle.std.specs.Prelude.{Option, None, Some}
use Rattle.std.proofs.lemmas.List.{length-set, get_or-set_same, get_or-set_other}
use Rattle.std.proofs.lemmas.Bool.{cases_order}
use Rattle.rt_sweep.specs.declared.bar.Bar.{Bar}
use Rattle.rt_hosts.specs.Hosts.{host_at}
use Rattle.rt_hosts.specs.Across.{AreOver, NotesHost, NotesNone, IsNoted, AreOverAt, AreLookedAt, IsEarlier, IsLater, AreAnyTwo}
use Rattle.rt_hosts.proofs.Reading.{by_same, same_value, not_none}

-- what is held is one of the bars, and that of a strip
pub record IsHeldOf (bars : List Bar) (count : ℕ) (held : Option Bar) : Type 0 where
  pub listed : (strip : Bar) → held ≡ Some strip → Contains bars strip
  pub tagged : (strip : Bar) → held ≡ Some strip → count ≤ strip.tag

-- a bar is held that has a common column with the other
abbrev pub HoldsOver : Option Bar → Bar → Type 0
HoldsOver held bar = (strip : Bar) × (held ≡ Some strip) × AreOver strip bar

-- nothing is noted before the first bar
pub looked_none : (bars : List Bar) (count : ℕ) (pairs : ℕ → ℕ → Type 0) (hosts : List (Option ℕ)) → length hosts ≡ count
    → ((k j : ℕ) → pairs k j → k < length bars → j < length bars → ⊥) → AreLookedAt bars count pairs hosts hosts
looked_none bars count pairs hosts counted none = record {
  counted = counted;
  noted = λ t h e. inl e;
  kept = λ t e. e;
  apart = λ k j d p both e o. none k j p both.first both.second;
}

-- fewer pairs
pub looked_less : (bars : List Bar) (count : ℕ) (pairs fewer : ℕ → ℕ → Type 0) (before after : List (Option ℕ))
    → ((k j : ℕ) → fewer k j → k < length bars → j < length bars → pairs k j) → AreLookedAt bars count pairs before after → AreLookedAt bars count fewer before after
looked_less bars count pairs fewer before after less looked = record {
  counted = looked.counted;
  noted = looked.noted;
  kept = looked.kept;
  apart = λ k j d p both e. looked.apart k j d (less k j p both.first both.second) both e;
}

-- back first, and then ahead
pub looked_both : (bars : List Bar) (count : ℕ) (before mid after : List (Option ℕ)) → AreLookedAt bars count IsEarlier before mid
    → AreLookedAt bars count IsLater mid after → AreLookedAt bars count AreAnyTwo before after
looked_both bars count before mid after first second = record {
  counted = second.counted;
  noted = λ t h e. elim (second.noted t h e) [ inl old ↦ first.noted t h old | inr new ↦ inr new ];
  kept = λ t e. first.kept t (second.kept t e);
  apart = λ k j d p both e o. elim (cases_order k j) [
    | inl same ↦
        let tag : count ≤ (get_or bars k d).tag = subst (λ n. count ≤ (get_or bars n d).tag) (sym same) both.of_strip in
        let low : (get_or bars k d).tag < count = both.of_rectangle in
        absurd (omega (arith, tag, low))
    | inr (inl l) ↦ second.apart k j d l both e o
    | inr (inr l) ↦ first.apart k j d l both (second.kept (get_or bars k d).tag e) o
  ];
}

module _ (bars : List Bar) (count : ℕ) (pairs more : ℕ → ℕ → Type 0) (i : ℕ) (there : i < length bars) (bar : Bar) (at : (d : Bar) → get_or bars i d ≡ bar)
    (held : Option Bar) (of : IsHeldOf bars count held) (fresh : (k j : ℕ) → more k j → pairs k j ⊎ (k ≡ i))
    (seen : (j : ℕ) (d : Bar) → more i j → j < length bars → count ≤ (get_or bars j d).tag → AreOver (get_or bars j d) bar → HoldsOver held bar)
    (before mid after : List (Option ℕ)) (so_far : AreLookedAt bars count pairs before mid) where
  host_noted : NotesHost bar held mid after → AreLookedAt bars count more before after
  host_noted n =
      let here : host_at after bar.tag ≡ Some n.number = ap (λ l. get_or l bar.tag None) n.after_is ∙ get_or-set_same mid bar.tag (Some n.number) None n.there in
      let there_too : (t : ℕ) → (t ≡ bar.tag → ⊥) → host_at after t ≡ host_at mid t = λ t other.
      ap (λ l. get_or l t None) n.after_is ∙ get_or-set_other mid bar.tag t (Some n.number) None other in
      let back : (t : ℕ) → host_at after t ≡ None → host_at mid t ≡ None = λ t e.
      by_same t bar.tag (λ same. absurd (not_none n.number (sym here ∙ (ap (host_at after) (sym same) ∙ e)))) (λ other. sym (there_too t other) ∙ e) in
      let over : AreOverAt bars count bar.tag n.number = record {
        bar = bar;
        strip = n.strip;
        bar_listed = (i, there, at bar);
        strip_listed = of.listed n.strip n.is;
        bar_numbered = refl;
        strip_numbered = subst (λ c. n.strip.tag ≡ c + n.number) so_far.counted n.numbered;
        over = n.over;
      } in
      record {
        counted = ap length n.after_is ∙ (length-set mid bar.tag (Some n.number) ∙ so_far.counted);
        noted = λ t h e.
            by_same t bar.tag
            (λ same. inr (subst (λ k. AreOverAt bars count k h) (sym same)
            (subst (AreOverAt bars count bar.tag) (same_value n.number h (sym here ∙ (ap (host_at after) (sym same) ∙ e))) over)))
            (λ other. so_far.noted t h (sym (there_too t other) ∙ e));
        kept = λ t e. so_far.kept t (back t e);
        apart = λ k j d p both e o. elim (fresh k j p) [
          | inl old ↦ so_far.apart k j d old both (back (get_or bars k d).tag e) o
          | inr same ↦
              let tag_is : (get_or bars k d).tag ≡ bar.tag = ap (λ (b : Bar). b.tag) (ap (λ n. get_or bars n d) same ∙ at d) in
              not_none n.number (sym here ∙ (ap (host_at after) (sym tag_is) ∙ e))
        ];
      }

  none_noted : NotesNone bar held mid after → AreLookedAt bars count more before after
  none_noted n = subst (AreLookedAt bars count more before) (sym n.same) (record {
    counted = so_far.counted;
    noted = so_far.noted;
    kept = so_far.kept;
    apart = λ k j d p both e o. elim (fresh k j p) [
      | inl old ↦ so_far.apart k j d old both e o
      | inr same ↦
          let is : get_or bars k d ≡ bar = ap (λ n. get_or bars n d) same ∙ at d in
          let holds = seen j d (subst (λ n. more n j) same p) both.second both.of_strip (subst (AreOver (get_or bars j d)) is o) in
          n.apart holds.0 holds.1
          (subst (λ c. bar.tag < c) (sym so_far.counted) (subst (λ (b : Bar). b.tag < count) is both.of_rectangle)) holds.2
    ];
  })

  -- one bar more
  pub looked_more : IsNoted bar held mid after → AreLookedAt bars count more before after
  looked_more noted = elim noted [ inl n ↦ host_noted n | inr n ↦ none_noted n ]
