-- Whole chains are found beside the strips.
use Rattle.std.proofs.Common.{◌≡◌, ℕ, zero, suc, ◌<◌, ◌⊎◌, inl, inr, ℤ, pos, negsuc, ◌+ℤ◌, ◌-ℤ◌, ◌≤ℤ◌, ◌<ℤ◌, Bool, true, false, length, refl, sym, ap, subst, subst₂, ◌∙◌, arith}
use Rattle.std.proofs.lemmas.Int.{ints}
use Rattle.std.specs.Bool.{MatchBool}
use Rattle.std.proofs.lemmas.Bool.{cases_eq}
use Rattle.rt_cells.specs.Line.{Within}
use Rattle.rt_rows.specs.declared.row.Var.{Var}
use Rattle.rt_rows.specs.declared.row.Var.TheVariants.{L, R}
use Rattle.rt_strips.specs.Placed.{mask_of}
use Rattle.rt_strips.proofs.Placed.{strip_below}
use Rattle.rt_view.specs.declared.job.Job.{Job}
use Rattle.rt_view.specs.Job.{strips_of}
use Rattle.rt_template.specs.Vertical.{CoversBoth, IsChain, IsWholeChain}
use Rattle.rt_vtemplate.specs.declared.chains.Span.{Span}
use Rattle.rt_vtemplate.specs.Whole.{IsSpan, IsWholeAt, IsWholeBeside}
use Rattle.rt_vtemplate.proofs.Blocked.{cases_before}
use Rattle.rt_vtemplate.proofs.Chained.{first_covers}

equal_places : (x y : ℤ) → x ≤ℤ y → y ≤ℤ x → x ≡ y
equal_places x y h g = omega (arith, ints)

not_before_itself : (x y : ℤ) → x ≡ y → y <ℤ x → ⊥
not_before_itself x y e h = omega (arith, ints)

not_behind_itself : (x y : ℤ) → x ≡ y → x <ℤ y → ⊥
not_behind_itself x y e h = omega (arith, ints)

-- two places are one, or aren't
same_place : (x y : ℤ) → (x ≡ y) ⊎ (x ≡ y → ⊥)
same_place x y = elim (cases_before x y) [
  | inl h ↦ inr (λ e. not_before_itself x y e h)
  | inr h ↦ elim (cases_before y x) [ inl g ↦ inr (λ e. not_behind_itself x y e g) | inr g ↦ inl (equal_places x y h g) ]
]

OneOrTwo : ℤ → ℤ → Type 0
OneOrTwo x u = (u ≡ x) ⊎ (u ≡ x +ℤ pos 1)

-- an interval that has both columns has those before, if it doesn't begin at the first
moved_left : (l r x u : ℤ) → OneOrTwo x u → (x ≡ l → ⊥) → Within l r x → Within l r u → Within l r (x -ℤ pos 1) × Within l r (u -ℤ pos 1)
unfolding OneOrTwo
moved_left l r x u o free f s = elim (cases_before x l) [
  | inl h ↦ both l r x u o h f s
  | inr h ↦ absurd (free (equal_places x l h f.from))
]
  where
    both : (l r x u : ℤ) → (u ≡ x) ⊎ (u ≡ x +ℤ pos 1) → l <ℤ x → Within l r x → Within l r u → Within l r (x -ℤ pos 1) × Within l r (u -ℤ pos 1)
    both l r x u (inl e) h f s = (record { from = omega (arith, ints); to = omega (arith, ints) }, record { from = omega (arith, ints); to = omega (arith, ints) })
    both l r x u (inr e) h f s = (record { from = omega (arith, ints); to = omega (arith, ints) }, record { from = omega (arith, ints); to = omega (arith, ints) })

-- and the other way round, if it doesn't end before the last
moved_right : (l r x u : ℤ) → OneOrTwo x u → (u ≡ r → ⊥) → Within l r (x -ℤ pos 1) → Within l r (u -ℤ pos 1) → Within l r x × Within l r u
unfolding OneOrTwo
moved_right l r x u o free f s = elim (cases_before r u) [
  | inl h ↦ both l r x u o h f s
  | inr h ↦ absurd (free (sym (equal_places r u h (close u r s.to))))
]
  where
    close : (u r : ℤ) → (u -ℤ pos 1) <ℤ r → u ≤ℤ r
    close u r h = omega (arith, ints)

    both : (l r x u : ℤ) → (u ≡ x) ⊎ (u ≡ x +ℤ pos 1) → u <ℤ r → Within l r (x -ℤ pos 1) → Within l r (u -ℤ pos 1) → Within l r x × Within l r u
    both l r x u (inl e) h f s = (record { from = omega (arith, ints); to = omega (arith, ints) }, record { from = omega (arith, ints); to = omega (arith, ints) })
    both l r x u (inr e) h f s = (record { from = omega (arith, ints); to = omega (arith, ints) }, record { from = omega (arith, ints); to = omega (arith, ints) })

module _ (job : Job) (columns : Var → ℤ) where
  -- the columns begin where strip k does, or the last is the one behind it
  IsBeside : ℤ → ℤ → ℕ → Type 0
  IsBeside x u k = (x ≡ columns (L k)) ⊎ (u ≡ columns (R k))

  beside_or_not : (x u : ℤ) (k : ℕ) → IsBeside x u k ⊎ (IsBeside x u k → ⊥)
  unfolding IsBeside
  beside_or_not x u k = elim (same_place x (columns (L k))) [
    | inl e ↦ inl (inl e)
    | inr f ↦ elim (same_place u (columns (R k))) [
      | inl e ↦ inl (inr e)
      | inr g ↦ inr (λ (b : (x ≡ columns (L k)) ⊎ (u ≡ columns (R k))). elim b [ inl e ↦ f e | inr e ↦ g e ])
    ]
  ]

  none_at_all : (P : ℕ → Type 0) (k : ℕ) → k < 0 → ¬ P k
  none_at_all P k h = absurd (nothing k h)
    where
      nothing : (k : ℕ) → k < 0 → ⊥
      nothing k h = omega arith

  -- one of the first strips is beside the columns, or none is
  find_beside : (x u : ℤ) (n : ℕ) → ((k : ℕ) × (k < n) × IsBeside x u k) ⊎ ((k : ℕ) → k < n → ¬ IsBeside x u k)
  find_beside x u zero = inr (none_at_all (IsBeside x u))
  find_beside x u (suc n) = elim (beside_or_not x u n) [
    | inl b ↦ inl (n, omega arith, b)
    | inr none ↦ elim (find_beside x u n) [
      | inl f ↦ inl (f.0, later f.0 f.1, f.2)
      | inr others ↦ inr (λ k h. elim (last_or_below k n h) [ inl e ↦ λ b. none (subst (IsBeside x u) e b) | inr l ↦ others k l ])
    ]
  ]
    where
      later : (k : ℕ) → k < n → k < suc n
      later k h = omega arith

      last_or_below : (k n : ℕ) → k < suc n → (k ≡ n) ⊎ (k < n)
      last_or_below k n h = elim (cases_eq k n) [ inl e ↦ inl e | inr other ↦ inr (omega arith) ]

  -- a chain along strips that cover other columns too
  chain_over : (x u x' u' : ℤ) (i j : ℕ) → ((k : ℕ) → CoversBoth job columns x u k → CoversBoth job columns x' u' k)
      → IsChain job columns x u i j → IsChain job columns x' u' i j
  chain_over x u x' u' i j over (IsChain.one c) = IsChain.one (over i c)
  chain_over x u x' u' i j over (IsChain.onward k _ chain s c) = IsChain.onward k j (chain_over x u x' u' i k over chain) s (over j c)

  -- where no strip is beside the columns, the same strips cover those before, so the same chains are whole there
  whole_before : (x u : ℤ) (i j : ℕ) → OneOrTwo x u → ((k : ℕ) → k < length job.view.strips.list → ¬ IsBeside x u k)
      → IsWholeAt job columns x u i j → IsWholeAt job columns (x -ℤ pos 1) (u -ℤ pos 1) i j
  unfolding IsBeside
  whole_before x u i j o free w = record {
    chain = chain_over x u (x -ℤ pos 1) (u -ℤ pos 1) i j forth w.chain;
    lowest = record { none = λ k c s. w.lowest.none k (back k c) s };
    highest = record { none = λ k c s. w.highest.none k (back k c) s };
  }
    where
      forth : (k : ℕ) → CoversBoth job columns x u k → CoversBoth job columns (x -ℤ pos 1) (u -ℤ pos 1) k
      forth k c =
          let m = moved_left (columns (L k)) (columns (R k)) x u o (λ e. free k (strip_below job.view.strips.list k c.strip) (inl e)) c.first c.second in
          record { strip = c.strip; first = m.0; second = m.1 }

      back : (k : ℕ) → CoversBoth job columns (x -ℤ pos 1) (u -ℤ pos 1) k → CoversBoth job columns x u k
      back k c =
          let m = moved_right (columns (L k)) (columns (R k)) x u o (λ e. free k (strip_below job.view.strips.list k c.strip) (inr e)) c.first c.second in
          record { strip = c.strip; first = m.0; second = m.1 }

  at_first : (x l : ℤ) → x ≡ l +ℤ pos 0 → x ≡ l
  at_first x l e = omega (arith, ints)

  one_less : (x l : ℤ) (d : ℕ) → x ≡ l +ℤ pos (suc d) → (x -ℤ pos 1) ≡ l +ℤ pos d
  one_less x l d e = omega (arith, ints)

  two_less : (x u : ℤ) → OneOrTwo x u → OneOrTwo (x -ℤ pos 1) (u -ℤ pos 1)
  unfolding OneOrTwo
  two_less x u (inl e) = inl (omega (arith, ints))
  two_less x u (inr e) = inr (omega (arith, ints))

  so_far : (l x : ℤ) → l ≤ℤ x → (d : ℕ) × (x ≡ l +ℤ pos d)
  so_far l x h = by_difference (x -ℤ l) refl
    where
      by_difference : (z : ℤ) → z ≡ x -ℤ l → (d : ℕ) × (x ≡ l +ℤ pos d)
      by_difference (pos d) e = (d, omega (arith, ints))
      by_difference (negsuc n) e = absurd (omega (arith, ints))

  module _ (i j : ℕ) (none : (k : ℕ) → k < length job.view.strips.list → ¬ IsWholeBeside job columns k i j) where
    none_from : (d : ℕ) (x u : ℤ) → x ≡ columns (L i) +ℤ pos d → OneOrTwo x u → IsWholeAt job columns x u i j → ⊥
    unfolding OneOrTwo IsBeside
    none_from zero x u e o w =
        none i (strip_below job.view.strips.list i (first_covers job columns x u i j w.chain).strip)
        (record { x = x; u = u; one_or_two = o; beside = inl (at_first x (columns (L i)) e); whole = w })
    none_from (suc d) x u e o w = elim (find_beside x u (length job.view.strips.list)) [
      | inl f ↦ none f.0 f.1 (record { x = x; u = u; one_or_two = o; beside = f.2; whole = w })
      | inr free ↦ none_from d (x -ℤ pos 1) (u -ℤ pos 1) (one_less x (columns (L i)) d e) (two_less x u o) (whole_before x u i j o free w)
    ]

    -- so where none is whole beside a strip, none is anywhere
    pub none_whole : ¬ IsWholeChain job columns i j
    unfolding OneOrTwo
    none_whole c =
        let first = first_covers job columns c.x c.u i j c.chain in
        let far = so_far (columns (L i)) c.x first.first.from in
        none_from far.0 c.x c.u far.1 c.one_or_two
        (record { chain = c.chain; lowest = record { none = c.lowest }; highest = record { none = c.highest } })

  -- one beside a strip is a whole chain
  pub one_whole : (k i j : ℕ) → mask_of (strips_of job) i < job.view.strips.masks → IsWholeBeside job columns k i j → IsWholeChain job columns i j
  one_whole k i j is_drawn w = record {
    x = w.x;
    u = w.u;
    one_or_two = w.one_or_two;
    is_drawn = is_drawn;
    chain = w.whole.chain;
    lowest = w.whole.lowest.none;
    highest = w.whole.highest.none;
  }

  module _ (k i j : ℕ) where
    whole_at : (x u : ℤ) (span : Span) → IsSpan x u span → IsWholeAt job columns span.x span.u i j → IsWholeAt job columns x u i j
    whole_at x u span is w = subst₂ (λ (y v : ℤ). IsWholeAt job columns y v i j) is.first is.last w

    not_at : (x u y v : ℤ) (span : Span) → IsSpan x u span → y ≡ x → v ≡ u → (¬ IsWholeAt job columns span.x span.u i j) → ¬ IsWholeAt job columns y v i j
    not_at x u y v span is e f none w = none (subst₂ (λ (y v : ℤ). IsWholeAt job columns y v i j) (e ∙ sym is.first) (f ∙ sym is.last) w)

    pub at_left : (span : Span) → IsSpan (columns (L k)) (columns (L k)) span → IsWholeAt job columns span.x span.u i j → IsWholeBeside job columns k i j
    at_left span is w = record { x = columns (L k); u = columns (L k); one_or_two = inl refl; beside = inl refl; whole = whole_at (columns (L k)) (columns (L k)) span is w }

    pub at_two : (span : Span) → IsSpan (columns (L k)) (columns (L k) +ℤ pos 1) span → IsWholeAt job columns span.x span.u i j → IsWholeBeside job columns k i j
    at_two span is w = record {
      x = columns (L k);
      u = columns (L k) +ℤ pos 1;
      one_or_two = inr refl;
      beside = inl refl;
      whole = whole_at (columns (L k)) (columns (L k) +ℤ pos 1) span is w;
    }

    pub at_right : (span : Span) → IsSpan (columns (R k)) (columns (R k)) span → IsWholeAt job columns span.x span.u i j → IsWholeBeside job columns k i j
    at_right span is w = record { x = columns (R k); u = columns (R k); one_or_two = inl refl; beside = inr refl; whole = whole_at (columns (R k)) (columns (R k)) span is w }

    before_and_there : (r : ℤ) → r ≡ (r -ℤ pos 1) +ℤ pos 1
    before_and_there r = omega (arith, ints)

    one_before : (x u r : ℤ) → u ≡ x +ℤ pos 1 → u ≡ r → x ≡ r -ℤ pos 1
    one_before x u r e f = omega (arith, ints)

    -- the four that there may be are all that are beside a strip
    pub at_last : (a b c d : Span) → IsSpan (columns (L k)) (columns (L k)) a → IsSpan (columns (L k)) (columns (L k) +ℤ pos 1) b
        → IsSpan (columns (R k)) (columns (R k)) c → IsSpan (columns (R k) -ℤ pos 1) (columns (R k)) d
        → (¬ IsWholeAt job columns a.x a.u i j) → (¬ IsWholeAt job columns b.x b.u i j) → (¬ IsWholeAt job columns c.x c.u i j)
        → (v : Bool) → MatchBool v (IsWholeAt job columns d.x d.u i j) (¬ IsWholeAt job columns d.x d.u i j)
        → MatchBool v (IsWholeBeside job columns k i j) (¬ IsWholeBeside job columns k i j)
    at_last a b c d ia ib ic id na nb nc true w = record {
      x = columns (R k) -ℤ pos 1;
      u = columns (R k);
      one_or_two = inr (before_and_there (columns (R k)));
      beside = inr refl;
      whole = whole_at (columns (R k) -ℤ pos 1) (columns (R k)) d id w;
    }
    at_last a b c d ia ib ic id na nb nc false nd = λ (w : IsWholeBeside job columns k i j). elim w.beside [
      | inl e ↦ elim w.one_or_two [
        | inl f ↦ not_at (columns (L k)) (columns (L k)) w.x w.u a ia e (f ∙ e) na w.whole
        | inr f ↦ not_at (columns (L k)) (columns (L k) +ℤ pos 1) w.x w.u b ib e (f ∙ ap (λ (z : ℤ). z +ℤ pos 1) e) nb w.whole
      ]
      | inr e ↦ elim w.one_or_two [
        | inl f ↦ not_at (columns (R k)) (columns (R k)) w.x w.u c ic (sym f ∙ e) e nc w.whole
        | inr f ↦ not_at (columns (R k) -ℤ pos 1) (columns (R k)) w.x w.u d id (one_before w.x w.u (columns (R k)) f e) e nd w.whole
      ]
    ]
