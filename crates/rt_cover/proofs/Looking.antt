-- The bars of a slab, looked at one after another.
use Rattle.std.proofs.Common.{◌≡◌, ℕ, ◌+◌, ◌-◌, ◌^◌, ◌<◌, ◌≤◌, ℤ, negsuc, ◌≤ℤ◌, ◌<ℤ◌, List, length, get_or, ap, subst, sym, ◌∙◌, refl, arith, inl, inr}
use Rattle.std.specs.Prelude.{Option, None, Some}
use Rattle.std.specs.Int.{int_max}
use Rattle.std.proofs.lemmas.Int.{ints, clamps, by_lt_z}
use Rattle.std.proofs.lemmas.List.{length-set, get_or-set_same, get_or-set_other}
use Rattle.std.proofs.lemmas.List.Elements.{Contains-get_or}
use Rattle.rt_cells.specs.Line.{Within}
use Rattle.rt_cells.proofs.Numbers.{last_or_before, by_lt_n}
use Rattle.rt_base.specs.declared.plane.Cell.{Cell}
use Rattle.rt_sweep.specs.declared.bar.Bar.{Bar}
use Rattle.rt_sweep.specs.Rows.{AreAcross}
use Rattle.rt_cover.specs.Covering.{found_at}
use Rattle.rt_cover.specs.Across.{IsColumnOf, EndRuns, IsReachAt, NotesCell, NotesNone, IsNoted, IsBare, HasColumns, AreLookedAt}
use Rattle.rt_cover.proofs.Reading.{first_or_after, by_same_n, same_cell, not_none}

low_first : (a b c : ℤ) → a <ℤ b → b ≤ℤ c → a <ℤ c
low_first a b c h k = omega (arith, ints)

-- no bar begins as far to the left as where a reach begins that has no bar
no_bar : (left right : ℤ) → negsuc (2 ^ 62 - 2) ≤ℤ left → left ≤ℤ right → right ≡ negsuc (2 ^ 63 - 1) → ⊥
no_bar left right h k e = absurd (omega (arith, ints, e))

max_left : (a b : ℤ) → a <ℤ b → int_max a b ≡ b
max_left a b h = omega (arith, ints, clamps)

max_right : (a b : ℤ) → b ≤ℤ a → int_max a b ≡ a
max_right a b h = omega (arith, ints, clamps)

max_within : (a b c : ℤ) → b <ℤ c → a <ℤ c → Within b c (int_max a b)
max_within a b c h k = record { from = omega (arith, ints, clamps); to = omega (arith, ints, clamps) }

within_reach : (left left' high right x : ℤ) → left' ≤ℤ left → high ≤ℤ right → Within left high x → Within left' right x
within_reach left left' high right x h k w = record { from = omega (arith, ints, w.from, h); to = omega (arith, ints, w.to, k) }

-- nothing is noted before the first bar
pub looked_none : (bars : List Bar) (count : ℕ) (row : ℤ) (found : List (Option Cell)) → AreLookedAt bars count row 0 found found
looked_none bars count row found = record {
  counted = refl;
  noted = λ t p h e. inl e;
  kept = λ t e. e;
  whole = λ k d h. absurd (omega arith);
}

module _ (bars : List Bar) (count : ℕ) (across : AreAcross bars) (runs : EndRuns bars count) (i : ℕ) (there : i < length bars) (bar : Bar)
    (at : (d : Bar) → get_or bars i d ≡ bar) (next : ℕ) (right : ℤ) (reach : IsReachAt bars count bar.at.x1 next right) where
  comes : (k : ℕ) (d : Bar) → next ≤ k → k < length bars → bar.at.x1 <ℤ (get_or bars k d).at.x1
  comes k d h l = elim (first_or_after next k h) [
    | inl e ↦ subst (λ n. bar.at.x1 <ℤ (get_or bars n d).at.x1) e (reach.to_come d (subst (λ n. n < length bars) (sym e) l))
    | inr m ↦ low_first _ _ _ (reach.to_come d (omega arith)) (across next k d m l)
  ]

  -- a column that is not to the left of the reach nor to the right of the bar's left end is bare
  bare_between : (x : ℤ) → right ≤ℤ x → x ≤ℤ bar.at.x1 → IsColumnOf bars count x → ⊥
  bare_between x h l c =
      by_lt_n c.listed.0 next
      (λ m.
      let ends : c.bar.at.x2 ≤ℤ right = subst (λ (b : Bar). b.at.x2 ≤ℤ right) c.listed.2
      (reach.up_to.most c.listed.0 c.bar m (subst (λ (b : Bar). count ≤ b.tag) (sym c.listed.2) c.tagged)) in
      absurd (omega (arith, ints, ends, h, c.within.to)))
      (λ m.
      let begins : bar.at.x1 <ℤ c.bar.at.x1 = subst (λ (b : Bar). bar.at.x1 <ℤ b.at.x1) c.listed.2 (comes c.listed.0 c.bar m c.listed.1) in
      absurd (omega (arith, ints, begins, l, c.within.from)))

  -- at the end of the reach no strip goes on
  bare_end : bar.at.x1 ≤ℤ right → IsColumnOf bars count right → ⊥
  bare_end l c = elim reach.up_to.of_one [
    | inl e ↦
        runs.ends (get_or bars e.place bar) (Contains-get_or bars e.place bar (omega (arith, e.before, reach.up_to.inside))) (e.tagged bar)
        (subst (IsColumnOf bars count) (sym (e.at bar)) c)
    | inr e ↦ no_bar bar.at.x1 right bar.at.from_left l e
  ]

  bare_there : IsColumnOf bars count (int_max right bar.at.x1) → ⊥
  bare_there c =
      by_lt_z right bar.at.x1
      (λ l. bare_between bar.at.x1 (omega (arith, ints)) (omega (arith, ints)) (subst (IsColumnOf bars count) (max_left right bar.at.x1 l) c))
      (λ l. bare_end l (subst (IsColumnOf bars count) (max_right right bar.at.x1 l) c))

  cell_bare : (row : ℤ) (p : Cell) → right <ℤ bar.at.x2 → p.x ≡ int_max right bar.at.x1 → p.y ≡ row → IsBare bars count bar.tag row p
  cell_bare row p short e f = record {
    bar = bar;
    listed = (i, there, at bar);
    numbered = refl;
    column = subst (Within bar.at.x1 bar.at.x2) (sym e) (max_within right bar.at.x1 bar.at.x2 bar.at.across short);
    in_row = f;
    bare = λ c. bare_there (subst (IsColumnOf bars count) e c);
  }

  -- where the reach ends no sooner than the bar, one strip has all its columns
  covered : bar.at.x2 ≤ℤ right → HasColumns bars count bar
  covered l = record {
    columns = λ x h. elim reach.up_to.of_one [
      | inl e ↦ record {
        bar = get_or bars e.place bar;
        listed = Contains-get_or bars e.place bar (omega (arith, e.before, reach.up_to.inside));
        tagged = e.tagged bar;
        within = within_reach bar.at.x1 (get_or bars e.place bar).at.x1 bar.at.x2 (get_or bars e.place bar).at.x2 x (reach.up_to.begun e.place bar e.before)
            (subst (λ z. bar.at.x2 ≤ℤ z) (sym (e.at bar)) l) h;
      }
      | inr e ↦ absurd (no_bar bar.at.x1 right bar.at.from_left (omega (arith, ints, bar.at.across, l)) e)
    ];
  }

  module _ (row : ℤ) (before mid after : List (Option Cell)) (so_far : AreLookedAt bars count row i before mid) where
    cell_noted : NotesCell bar right row mid after → AreLookedAt bars count row (i + 1) before after
    cell_noted n =
        let here : found_at after bar.tag ≡ Some n.cell = ap (λ l. get_or l bar.tag None) n.after_is ∙ get_or-set_same mid bar.tag (Some n.cell) None n.there in
        let there : (t : ℕ) → (t ≡ bar.tag → ⊥) → found_at after t ≡ found_at mid t = λ t other.
        ap (λ l. get_or l t None) n.after_is ∙ get_or-set_other mid bar.tag t (Some n.cell) None other in
        let back : (t : ℕ) → found_at after t ≡ None → found_at mid t ≡ None = λ t e.
        by_same_n t bar.tag (λ same. absurd (not_none n.cell (sym here ∙ (ap (found_at after) (sym same) ∙ e)))) (λ other. sym (there t other) ∙ e) in
        record {
          counted = ap length n.after_is ∙ (length-set mid bar.tag (Some n.cell) ∙ so_far.counted);
          noted = λ t p h e.
              by_same_n t bar.tag
              (λ same. inr (subst (λ k. IsBare bars count k row p) (sym same)
              (subst (IsBare bars count bar.tag row) (same_cell n.cell p (sym here ∙ (ap (found_at after) (sym same) ∙ e))) (cell_bare row n.cell n.short n.in_column n.in_row))))
              (λ other. so_far.noted t p h (sym (there t other) ∙ e));
          kept = λ t e. so_far.kept t (back t e);
          whole = λ k d h l e. elim (last_or_before i k h) [
            | inl same ↦
                let tag_is : (get_or bars k d).tag ≡ bar.tag = ap (λ (b : Bar). b.tag) (ap (λ j. get_or bars j d) same ∙ at d) in
                absurd (not_none n.cell (sym here ∙ (ap (found_at after) (sym tag_is) ∙ e)))
            | inr less ↦ so_far.whole k d less l (back (get_or bars k d).tag e)
          ];
        }

    none_noted : NotesNone bar right mid after → AreLookedAt bars count row (i + 1) before after
    none_noted n = subst (AreLookedAt bars count row (i + 1) before) (sym n.same) (record {
      counted = so_far.counted;
      noted = so_far.noted;
      kept = so_far.kept;
      whole = λ k d h l e. elim (last_or_before i k h) [
        | inl same ↦
            let is : get_or bars k d ≡ bar = ap (λ j. get_or bars j d) same ∙ at d in
            subst (HasColumns bars count) (sym is)
            (covered (n.reached (subst (λ c. bar.tag < c) (sym so_far.counted) (subst (λ (b : Bar). b.tag < length before) is l))))
        | inr less ↦ so_far.whole k d less l e
      ];
    })

    -- one bar more
    pub looked_more : IsNoted bar right row mid after → AreLookedAt bars count row (i + 1) before after
    looked_more noted = elim noted [ inl n ↦ cell_noted n | inr n ↦ none_noted n ]
