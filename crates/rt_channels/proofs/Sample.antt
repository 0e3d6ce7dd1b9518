-- A strip that crosses another: what is asked of carried channels can be met.
use Rattle.std.proofs.Common.{◌≡◌, ℕ, ℤ, pos, ◌+ℤ◌, ◌≤ℤ◌, ◌<ℤ◌, ◌⊎◌, zero, suc, ◌<◌, false, true, refl, sym, subst, ◌∙◌, arith}
use Rattle.std.proofs.lemmas.Bool.{true≢false}
use Rattle.std.proofs.lemmas.Int.{ints}
use mathlib.Core.Logic.{inl, inr}
use Rattle.rt_cells.specs.Line.{Within}
use Rattle.rt_cells.specs.Rectangles.{Rectangle, IsNonempty, Holds}
use Rattle.rt_family.specs.Strips.{SpansColumns, CoveredBy, StandsOn}
use Rattle.rt_family.specs.Carried.{IsCarried}
use Rattle.rt_family.specs.Laws.{IsOfMask}
use Rattle.rt_channels.specs.Channels.{widened, HasNoStack, IsChannel, IsCarriedChannel, AreCarriedTogether}
use Rattle.rt_channels.specs.Laws.{IsChannelThat}
use Rattle.rt_channels.specs.Sample.{boxes, channel_area, OneCrossingIsCarried}

-- the strips of the mask of the number: the strip of that number alone
abbrev IsNumber : ℕ → ℕ → Type 0
IsNumber n i = IsOfMask 2 (λ i. i) n i

at_numbers : (n m : ℕ) (P : ℕ → ℕ → Type 0) → P n m → (i j : ℕ) → IsNumber n i → IsNumber m j → P i j
at_numbers n m P p i j h k = subst (λ t. P t j) (sym h.of_mask) (subst (P n) (sym k.of_mask) p)

not_above_self : (a : Rectangle) → IsNonempty a → ¬ (a.top ≡ a.bottom)
not_above_self a h e = omega (arith, ints, h.upwards)

not_over_self : (a : Rectangle) → IsNonempty a → ¬ (a.top ≤ℤ a.bottom)
not_over_self a h e = omega (arith, ints, h.upwards)

not_right_self : (a : Rectangle) → IsNonempty a → ¬ (a.right ≤ℤ a.left)
not_right_self a h e = omega (arith, ints, h.across)

one_wide : (a : Rectangle) → IsNonempty a → (a.left +ℤ pos 1) ≤ℤ a.right
one_wide a h = omega (arith, ints, h.across)

module _ (n : ℕ) (box : ℕ → Rectangle) (h : IsNonempty (box n)) (few : n < 2) where
  no_stand : (i j : ℕ) → ¬ StandsOn (IsNumber n) box i j
  no_stand i j s = at_numbers n n (λ i j. ¬ ((box i).top ≡ (box j).bottom)) (not_above_self (box n) h) i j s.lower s.upper s.adjoin

  -- a strip alone is its own drawing
  alone_carried : IsCarried (IsNumber n) box box (pos 1) (λ i j. pos 1)
  alone_carried = record {
    numbers = record { some_width = omega (arith, ints); some_space = λ i j m k. omega (arith, ints); even_space = λ i j m k. refl };
    family = record {
      nonempty = λ i m. at_numbers n n (λ i j. IsNonempty (box i)) h i i m m;
      parted = λ i j m k row. inl (m.of_mask ∙ sym k.of_mask);
    };
    wide = λ i m. at_numbers n n (λ i j. ((box i).left +ℤ pos 1) ≤ℤ (box i).right) (one_wide (box n) h) i i m m;
    tall = λ i m. at_numbers n n (λ i j. (box i).bottom <ℤ (box i).top) h.upwards i i m m;
    adjoin = λ i j s. absurd (no_stand i j s);
    share = λ i j s. absurd (no_stand i j s);
    across = λ i j m k row l. absurd (at_numbers n n (λ i j. ¬ ((box i).right ≤ℤ (box j).left)) (not_right_self (box n) h) i j m k l);
    apart = λ i j m k l. absurd (at_numbers n n (λ i j. ¬ ((box i).top ≤ℤ (box j).bottom)) (not_over_self (box n) h) i j m k l);
    seen = λ i j x m k l p q. absurd (at_numbers n n (λ i j. ¬ ((box i).top ≤ℤ (box j).bottom)) (not_over_self (box n) h) i j m k l);
  }

  alone_unstacked : HasNoStack (IsNumber n) box
  alone_unstacked = record { differ = λ i j s. absurd (no_stand i j s) }

  covered_alone : (x y : ℤ) → Holds (box n) x y → CoveredBy (IsNumber n) box x y
  covered_alone x y cell = record { number = n; holds = record { strip = record { below = few; of_mask = refl }; cell = cell } }

  only_holds : (x y : ℤ) → CoveredBy (IsNumber n) box x y → Holds (box n) x y
  only_holds x y c = at_numbers n n (λ i j. Holds (box i) x y → Holds (box n) x y) (λ k. k) c.number c.number c.holds.strip c.holds.strip c.holds.cell

first_nonempty : IsNonempty (boxes zero)
first_nonempty = record { across = omega (arith, ints); upwards = omega (arith, ints) }

second_nonempty : IsNonempty (boxes (suc zero))
second_nonempty = record { across = omega (arith, ints); upwards = omega (arith, ints) }

sample_together : AreCarriedTogether (IsNumber zero) (IsNumber (suc zero)) boxes boxes
sample_together = record {
  single_width = pos 1;
  single_space = λ i j. pos 1;
  many_width = pos 1;
  many_space = λ i j. pos 1;
  near = pos 1;
  clear = pos 1;
  some_near = omega (arith, ints);
  some_clear = omega (arith, ints);
  single_carried = alone_carried zero boxes first_nonempty (omega (arith));
  many_carried = alone_carried (suc zero) boxes second_nonempty (omega (arith));
  kept = record {
    right = λ i j m k l few. absurd (at_numbers zero (suc zero) (λ i j. ¬ ((boxes i).right ≤ℤ (boxes j).left)) (λ l. omega (arith, ints, l)) i j m k l);
    left = λ i j m k l few. absurd (at_numbers zero (suc zero) (λ i j. ¬ ((boxes j).right ≤ℤ (boxes i).left)) (λ l. omega (arith, ints, l)) i j m k l);
    above = λ i j m k l few. absurd (at_numbers zero (suc zero) (λ i j. ¬ ((boxes i).top ≤ℤ (boxes j).bottom)) (λ l. omega (arith, ints, l)) i j m k l);
    below = λ i j m k l few. absurd (at_numbers zero (suc zero) (λ i j. ¬ ((boxes j).top ≤ℤ (boxes i).bottom)) (λ l. omega (arith, ints, l)) i j m k l);
  };
  single_unstacked = alone_unstacked zero boxes first_nonempty (omega (arith));
  many_unstacked = alone_unstacked (suc zero) boxes second_nonempty (omega (arith));
}

of_upright : (x y : ℤ) → Within (pos 4) (pos 6) x → Within (pos 0) (pos 10) y → CoveredBy (IsNumber zero) boxes x y
of_upright x y h k = covered_alone zero boxes first_nonempty (omega (arith)) x y (record { column = h; row = k })

of_lying : (x y : ℤ) → Within (pos 0) (pos 10) x → Within (pos 4) (pos 6) y → CoveredBy (IsNumber (suc zero)) boxes x y
of_lying x y h k = covered_alone (suc zero) boxes second_nonempty (omega (arith)) x y (record { column = h; row = k })

wide_place : (x : ℤ) → Within (pos 4) (pos 6) x → Within (pos 0) (pos 10) x
wide_place x h = record { from = omega (arith, ints); to = omega (arith, ints) }

reach_place : (x : ℤ) → Within (pos 3) (pos 7) x → Within (pos 0) (pos 10) x
reach_place x h = record { from = omega (arith, ints); to = omega (arith, ints) }

not_in : (p low high x : ℤ) → x ≡ p → (p <ℤ low) ⊎ (high ≤ℤ p) → ¬ Within low high x
not_in p low high x e (inl l) h = omega (arith, ints)
not_in p low high x e (inr l) h = omega (arith, ints)

sample_channel : IsChannel (CoveredBy (IsNumber zero) boxes) (CoveredBy (IsNumber (suc zero)) boxes) channel_area
sample_channel = record {
  nonempty = record { across = omega (arith, ints); upwards = omega (arith, ints) };
  of_single = record { covered = λ x y h. of_upright x y h.column (wide_place y h.row) };
  of_many = record { covered = λ x y h. of_lying x y (wide_place x h.column) h.row };
  left_many = λ y h. of_lying (pos 3) y (record { from = omega (arith, ints); to = omega (arith, ints) }) h;
  right_many = λ y h. of_lying (pos 6) y (record { from = omega (arith, ints); to = omega (arith, ints) }) h;
  left_single = λ y h c. not_in (pos 3) (pos 4) (pos 6) (pos 3) refl (inl (omega (arith, ints))) (only_holds zero boxes first_nonempty (omega (arith)) _ y c).column;
  right_single = λ y h c. not_in (pos 6) (pos 4) (pos 6) (pos 6) refl (inr (omega (arith, ints))) (only_holds zero boxes first_nonempty (omega (arith)) _ y c).column;
  below_single = λ x h. of_upright x (pos 3) h (record { from = omega (arith, ints); to = omega (arith, ints) });
  above_single = λ x h. of_upright x (pos 6) h (record { from = omega (arith, ints); to = omega (arith, ints) });
  below_many = λ x h c. not_in (pos 3) (pos 4) (pos 6) (pos 3) refl (inl (omega (arith, ints))) (only_holds (suc zero) boxes second_nonempty (omega (arith)) x _ c).row;
  above_many = λ x h c. not_in (pos 6) (pos 4) (pos 6) (pos 6) refl (inr (omega (arith, ints))) (only_holds (suc zero) boxes second_nonempty (omega (arith)) x _ c).row;
}

sample_carried : IsCarriedChannel (IsNumber zero) (IsNumber (suc zero)) boxes boxes channel_area channel_area (pos 1) (pos 1) (pos 1) (pos 1)
sample_carried = record {
  channel = sample_channel;
  single_reaches = record { covered = λ x y h. of_upright x y h.column (reach_place y (record { from = h.row.from; to = h.row.to })) };
  many_reaches = record { covered = λ x y h. of_lying x y (reach_place x (record { from = h.column.from; to = h.column.to })) h.row };
  some_near_single = omega (arith, ints);
  some_near_many = omega (arith, ints);
  some_reach_single = omega (arith, ints);
  some_reach_many = omega (arith, ints);
  nonempty = sample_channel.nonempty;
  single_across = λ i h. at_numbers zero zero (λ i j. SpansColumns (boxes i) channel_area) (record { left = omega (arith, ints); right = omega (arith, ints) }) i i h.strip h.strip;
  single_equal = λ i h. at_numbers zero zero (λ i j. SpansColumns channel_area (boxes i)) (record { left = omega (arith, ints); right = omega (arith, ints) }) i i h.strip h.strip;
  single_below = λ i h. at_numbers zero zero (λ i j. ((boxes i).bottom +ℤ pos 1) ≤ℤ pos 4) (omega (arith, ints)) i i h.host.strip h.host.strip;
  single_above = λ i h. at_numbers zero zero (λ i j. (pos 6 +ℤ pos 1) ≤ℤ (boxes i).top) (omega (arith, ints)) i i h.host.strip h.host.strip;
  many_across = λ i h. at_numbers (suc zero) (suc zero) (λ i j. SpansColumns (boxes i) (widened (pos 1) channel_area)) (record { left = omega (arith, ints); right = omega (arith, ints) }) i i h.strip h.strip;
  many_below = λ i h. at_numbers (suc zero) (suc zero) (λ i j. (boxes i).bottom ≡ pos 4) refl i i h.host.strip h.host.strip;
  many_above = λ i h. at_numbers (suc zero) (suc zero) (λ i j. (boxes i).top ≡ pos 6) refl i i h.host.strip h.host.strip;
}

-- all that is asked of the channels of a crossing
pub one_crossing_is_carried : OneCrossingIsCarried
one_crossing_is_carried = record {
  carried = record {
    near_first = pos 1;
    near_second = pos 1;
    reach_first = pos 1;
    reach_second = pos 1;
    together = sample_together;
    upright_carried = λ c u. sample_carried;
    lying_carried = λ c l. absurd (stands c l);
    every = λ x y b. (
      zero,
      inl (record { below = omega (arith); lies_so = refl }),
      record {
        column = (only_holds zero boxes first_nonempty (omega (arith)) x y b.of_first).column;
        row = (only_holds (suc zero) boxes second_nonempty (omega (arith)) x y b.of_second).row;
      },
    );
    once = λ c d x y is_c is_d h k. one_channel c d (below_one c is_c) (below_one d is_d);
  };
}
  where
    stands : (c : ℕ) → IsChannelThat 1 (λ c. false) true c → ⊥
    stands c h = true≢false (sym h.lies_so)

    below_one : (c : ℕ) → IsChannelThat 1 (λ c. false) false c ⊎ IsChannelThat 1 (λ c. false) true c → c < 1
    below_one c (inl h) = h.below
    below_one c (inr h) = h.below

    one_channel : (c d : ℕ) → c < 1 → d < 1 → c ≡ d
    one_channel c d h k = omega (arith)
