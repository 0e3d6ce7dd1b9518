-- A carried mask on a finer grid: drawn in database units it is carried with the numbers in database units.
use Rattle.std.proofs.Common.{◌≡◌, ℕ, zero, suc, ℤ, pos, ◌+ℤ◌, ◌-ℤ◌, ◌*ℤ◌, ◌≤ℤ◌, ◌<ℤ◌, ◌⊎◌, refl, sym, subst, ap, ◌∙◌, arith, inl, inr}
use Rattle.std.proofs.lemmas.Int.{ints, by_lt_z}
use Rattle.std.proofs.lemmas.List.Elements.{All-weaker, All-contains}
use Rattle.std.specs.Int.{int_max, int_min}
use Rattle.rt_cells.specs.Line.{Within}
use Rattle.rt_cells.specs.Rectangles.{Rectangle, scaled}
use Rattle.rt_cells.proofs.Lines.{at_most, distance}
use Rattle.rt_cells.proofs.Times.{not_negative, times_sum, times_sub, times_positive, times_le, times_lt, times_cancel_lt, times_int_max, times_int_min, times_beyond, times_gap}
use Rattle.rt_family.specs.Carried.{AreFar, IsDrawnOver, IsCarried, IsCarriedInColumns}
use Rattle.rt_family.proofs.Places.{by_width}
use Rattle.rt_family.proofs.Chains.{head_of}

-- the place x of the fine grid lies in the place q of the coarse one
record IsPlaceOf (grid x q : ℤ) : Type 0 where
  from : (grid *ℤ q) ≤ℤ x
  to : x <ℤ (grid *ℤ q +ℤ grid)

times_next : (g q : ℤ) → g *ℤ (q +ℤ pos 1) ≡ g *ℤ q +ℤ g
times_next g q = times_sum g q (pos 1) ∙ ap (λ z. g *ℤ q +ℤ z) (times_one g)
  where
    times_one : (g : ℤ) → g *ℤ pos 1 ≡ g
    times_one g = omega (arith, ints)

module _ (grid : ℤ) (some_grid : pos 1 ≤ℤ grid) where
  whole : pos 0 ≤ℤ grid
  whole = not_negative grid some_grid

  -- the places of a scaled interval are those in the places of the interval
  place_in : (x q low high : ℤ) → IsPlaceOf grid x q → Within (grid *ℤ low) (grid *ℤ high) x → Within low high q
  place_in x q low high p h = record {
    from = omega (arith, ints, times_cancel_lt grid low (q +ℤ pos 1) some_grid (subst (λ z. (grid *ℤ low) <ℤ z) (sym (times_next grid q)) (omega (arith, ints, h.from, p.to))));
    to = times_cancel_lt grid q high some_grid (omega (arith, ints, p.from, h.to));
  }

  place_out : (x q low high : ℤ) → IsPlaceOf grid x q → Within low high q → Within (grid *ℤ low) (grid *ℤ high) x
  place_out x q low high p h = record {
    from = omega (arith, ints, times_le grid low q whole h.from, p.from);
    to = omega (arith, ints, p.to, (subst (λ z. z ≤ℤ (grid *ℤ high)) (times_next grid q) (times_le grid (q +ℤ pos 1) high whole (omega (arith, ints, h.to)))));
  }

  find_from : (n : ℕ) (low high x : ℤ) → high ≡ low +ℤ pos n → Within (grid *ℤ low) (grid *ℤ high) x → (q : ℤ) × IsPlaceOf grid x q
  find_from zero low high x e h = absurd (none (grid *ℤ low) (grid *ℤ high) x h (ap (λ z. grid *ℤ z) (same low high e)))
    where
      same : (low high : ℤ) → high ≡ low +ℤ pos zero → high ≡ low
      same low high e = omega (arith, ints)

      none : (a b x : ℤ) → Within a b x → b ≡ a → ⊥
      none a b x h e = omega (arith, ints)
  find_from (suc n) low high x e h =
      by_lt_z x (grid *ℤ low +ℤ grid)
      (λ l. (low, record { from = h.from; to = l }))
      (λ l. find_from n (low +ℤ pos 1) high x (omega (arith, ints)) (record { from = subst (λ z. z ≤ℤ x) (sym (times_next grid low)) l; to = h.to }))

  -- the place of the coarse grid that a place of a scaled interval lies in
  place_of : (low high x : ℤ) → low <ℤ high → Within (grid *ℤ low) (grid *ℤ high) x → (q : ℤ) × IsPlaceOf grid x q
  place_of low high x l h = let d = distance low high (at_most low high l) in find_from d.0 low high x d.1 h

  -- a place that is next to another one lies in the same place or in the next one
  place_next : (x u q : ℤ) → IsPlaceOf grid x q → (u ≡ x) ⊎ (u ≡ x +ℤ pos 1) → (t : ℤ) × ((t ≡ q) ⊎ (t ≡ q +ℤ pos 1)) × IsPlaceOf grid u t
  place_next x u q p (inl e) = (q, inl refl, record { from = subst (λ z. (grid *ℤ q) ≤ℤ z) (sym e) p.from; to = subst (λ z. z <ℤ (grid *ℤ q +ℤ grid)) (sym e) p.to })
  place_next x u q p (inr e) =
      by_lt_z u (grid *ℤ q +ℤ grid)
      (λ l. (q, inl refl, record { from = goes_on (grid *ℤ q) x u p.from e; to = l }))
      (λ l. (
        q +ℤ pos 1,
        inr refl,
        record {
          from = subst (λ z. z ≤ℤ u) (sym (times_next grid q)) l;
          to = subst (λ z. u <ℤ (z +ℤ grid)) (sym (times_next grid q)) (ends (grid *ℤ q) grid x u some_grid p.to e);
        },
      ))
    where
      goes_on : (a x u : ℤ) → a ≤ℤ x → u ≡ x +ℤ pos 1 → a ≤ℤ u
      goes_on a x u h e = omega (arith, ints)

      ends : (a g x u : ℤ) → pos 1 ≤ℤ g → x <ℤ (a +ℤ g) → u ≡ x +ℤ pos 1 → u <ℤ ((a +ℤ g) +ℤ g)
      ends a g x u p h e = omega (arith, ints)

  times_shared : (w a b p q : ℤ) → w ≤ℤ (int_min b q -ℤ int_max a p) → (grid *ℤ w) ≤ℤ (int_min (grid *ℤ b) (grid *ℤ q) -ℤ int_max (grid *ℤ a) (grid *ℤ p))
  times_shared w a b p q h =
      subst (λ z. (grid *ℤ w) ≤ℤ z)
      (times_sub grid (int_min b q) (int_max a p) ∙ (λ i. times_int_min grid b q whole i -ℤ times_int_max grid a p whole i))
      (times_le grid w (int_min b q -ℤ int_max a p) whole h)

  times_far : (n : ℤ) (a b : Rectangle) → AreFar n a b → AreFar (grid *ℤ n) (scaled grid a) (scaled grid b)
  times_far n a b (inl g) = inl (times_gap grid n a.left a.right b.left b.right whole g)
  times_far n a b (inr g) = inr (times_gap grid n a.bottom a.top b.bottom b.top whole g)

  module _ (member : ℕ → Type 0) (source drawn : ℕ → Rectangle) (w : ℤ) (s : ℕ → ℕ → ℤ) (carried : IsCarried member source drawn w s) where
    scaled_across : (i : ℕ) → member i → (drawn i).left <ℤ (drawn i).right
    scaled_across i m = by_width _ _ w carried.numbers.some_width (carried.wide i m)

    -- a carried mask is carried on a finer grid
    pub scaled_carried : IsCarried member source (λ i. scaled grid (drawn i)) (grid *ℤ w) (λ i j. grid *ℤ s i j)
    scaled_carried = record {
      numbers = record {
        some_width = times_positive grid w some_grid carried.numbers.some_width;
        some_space = λ i j m n. times_positive grid (s i j) some_grid (carried.numbers.some_space i j m n);
        even_space = λ i j m n. ap (λ z. grid *ℤ z) (carried.numbers.even_space i j m n);
      };
      family = carried.family;
      wide = λ i m. times_beyond grid (drawn i).left w (drawn i).right whole (carried.wide i m);
      tall = λ i m. times_lt grid (drawn i).bottom (drawn i).top some_grid (carried.tall i m);
      adjoin = λ i j stands. ap (λ z. grid *ℤ z) (carried.adjoin i j stands);
      share = λ i j stands. times_shared w (drawn i).left (drawn i).right (drawn j).left (drawn j).right (carried.share i j stands);
      across = λ i j m n row l. times_beyond grid (drawn i).right (s i j) (drawn j).left whole (carried.across i j m n row l);
      apart = λ i j m n l. elim (carried.apart i j m n l) [ inl c ↦ inl c | inr f ↦ inr (times_far (s i j) (drawn i) (drawn j) f) ];
      seen = λ i j x m n l h k.
          let q = place_of (drawn i).left (drawn i).right x (scaled_across i m) h in
          elim (carried.seen i j q.0 m n l (place_in x q.0 _ _ q.1 h) (place_in x q.0 _ _ q.1 k)) [
            | inl stands ↦ inl stands
            | inr (inl far) ↦ inr (inl (times_beyond grid (drawn i).top (s i j) (drawn j).bottom whole far))
            | inr (inr (t, b)) ↦ inr (inr (t, record { strip = b.strip; column = place_out x q.0 _ _ q.1 b.column; above = b.above; below = b.below }))
          ];
    }

    -- whole chains are carried on a finer grid
    pub scaled_columns : IsCarriedInColumns member source drawn w → IsCarriedInColumns member source (λ i. scaled grid (drawn i)) (grid *ℤ w)
    scaled_columns columns = record {
      runs = λ first last chain.
          let fine = λ (k : ℕ). scaled grid (drawn k) in
          let h = All-contains (IsDrawnOver member source fine chain.x chain.u) chain.chain first chain.over (head_of member source first chain.chain last chain.stacked) in
          let q = place_of (drawn first).left (drawn first).right chain.x (scaled_across first h.strip) h.first in
          let t = place_next chain.x chain.u q.0 q.1 chain.one_or_two in
          let back : (k : ℕ) → IsDrawnOver member source drawn q.0 t.0 k → IsDrawnOver member source fine chain.x chain.u k =
          λ k o. record { strip = o.strip; first = place_out chain.x q.0 _ _ q.1 o.first; second = place_out chain.u t.0 _ _ t.2 o.second } in
          times_beyond grid (drawn first).bottom w (drawn last).top whole (columns.runs first last (record {
            x = q.0;
            u = t.0;
            one_or_two = t.1;
            chain = chain.chain;
            stacked = chain.stacked;
            over = All-weaker (IsDrawnOver member source fine chain.x chain.u) (IsDrawnOver member source drawn q.0 t.0)
                (λ k o. record { strip = o.strip; first = place_in chain.x q.0 _ _ q.1 o.first; second = place_in chain.u t.0 _ _ t.2 o.second }) chain.chain chain.over;
            lowest = λ k o. chain.lowest k (back k o);
            highest = λ k o. chain.highest k (back k o);
          }));
    }
