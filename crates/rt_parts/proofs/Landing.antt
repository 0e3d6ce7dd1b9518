-- The part that the seat of a part lies in is linked to it, and the seat isn't gate.
use Rattle.std.proofs.Common.{◌≡◌, ℕ, zero, suc, ◌<◌, ◌≤◌, Bool, true, false, ℤ, pos, ◌+ℤ◌, ◌-ℤ◌, ◌≤ℤ◌, ◌<ℤ◌, refl, sym, subst, arith}
use Rattle.std.proofs.lemmas.Int.{ints, by_lt_z}
use mathlib.Core.Logic.{inl, inr}
use Rattle.rt_cells.specs.Rectangles.{Rectangle, IsNonempty}
use Rattle.rt_cells.proofs.Lines.{first_place, last_place, antisymmetric}
use Rattle.rt_family.specs.Strips.{HoldsCell}
use Rattle.rt_family.proofs.Strips.{stands_above}
use Rattle.rt_links.specs.Links.{AreLinked}
use Rattle.rt_parts.specs.Parts.{Part, Cuts, Adjoin, CutsLying, IsBare, IsInPart, IsCutting}
use Rattle.rt_parts.proofs.Inside.{part, part_bare, one_part}
use Rattle.rt_parts.proofs.Touching.{IsAtColumn, at_column, lying_last, lying_first, adjoin_at}
use Rattle.rt_parts.proofs.Spans.{left_end, not_both, follow_as}
use Rattle.rt_parts.proofs.Seats.{row_end, seat_x, seat_y, seat_upright, seat_after, seat_first, on_channel}

highest_next : (a b y : ℤ) → a ≡ b → b ≤ℤ (y +ℤ pos 1) → a ≤ℤ (y +ℤ pos 1)
highest_next a b y e h = omega (arith, ints)

before_next : (b d : ℤ) → d ≡ b → b ≤ℤ ((d -ℤ pos 1) +ℤ pos 1)
before_next b d e = omega (arith, ints)

next_is : (b d : ℤ) → d ≡ b → b ≡ (d -ℤ pos 1) +ℤ pos 1
next_is b d e = omega (arith, ints)

outside_low : (b d : ℤ) → d ≡ b → b ≤ℤ (d -ℤ pos 1) → ⊥
outside_low b d e h = omega (arith, ints)

same_at_most : (t b d : ℤ) → t ≡ b → d ≡ t → d ≤ℤ b
same_at_most t b d e f = omega (arith, ints)

at_the_top : (t d : ℤ) → d ≡ t → d ≡ (t -ℤ pos 1) +ℤ pos 1
at_the_top t d e = omega (arith, ints)

outside_high : (t d : ℤ) → d ≡ t → d <ℤ t → ⊥
outside_high t d e h = omega (arith, ints)

over_the_top : (strip low high : Rectangle) → low.top ≡ strip.top → low.top <ℤ high.bottom → IsNonempty high → CutsLying strip high → ⊥
over_the_top strip low high e h n c = omega (arith, ints, n, c)

last_one : (k n : ℕ) → suc k ≤ n → ¬ (suc k < n) → suc k ≡ n
last_one k n h m = omega arith

few_after : (k n : ℕ) → suc k ≤ n → k < n
few_after k n h = omega arith

module _ (member : ℕ → Type 0) (box channel : ℕ → Rectangle) (gate : ℤ → ℤ → Type 0) (stands : ℕ → ℕ → Type 0) (cuts : Cuts)
    (cutting : IsCutting member box channel gate stands cuts) where
  abbrev InPart : Part → ℤ → ℤ → Type 0
  InPart = IsInPart member box channel gate stands cuts

  same_linked : (u v : Part) → u ≡ v → AreLinked (Adjoin stands cuts) u v
  same_linked u v e = subst (AreLinked (Adjoin stands cuts) u) e AreLinked.here

  corner_column : (a k : ℕ) → member a → k ≤ cuts.count a → cuts.lies a ≡ true → IsAtColumn member box channel gate stands cuts cutting (part a k) (box a).left
  corner_column a k m few e = record {
    column = first_place _ _ (cutting.family.nonempty a m).across;
    few = few;
    slot = λ f. absurd (not_both (cuts.lies a) e f);
  }

  lands_first : (a : ℕ) → member a → cuts.lies a ≡ true → (w : Part) → InPart w (box a).left ((channel (cuts.number a 0)).bottom -ℤ pos 1)
      → (channel (cuts.number a 0)).bottom ≡ (box a).bottom → AreLinked (Adjoin stands cuts) w (part a 0)
  lands_first a m e w h at =
      let y = (channel (cuts.number a 0)).bottom -ℤ pos 1 in
      let low : HoldsCell member box a (box a).left (y +ℤ pos 1) =
      subst (HoldsCell member box a (box a).left) (next_is (box a).bottom (channel (cuts.number a 0)).bottom at)
      (record { strip = m; cell = record { column = first_place _ _ (cutting.family.nonempty a m).across; row = first_place _ _ (cutting.family.nonempty a m).upwards } }) in
      elim (stands_above member box cutting.family w.strip a (box a).left y h.holds low) [
        | inl f ↦ absurd (outside_low _ _ at (subst (λ t. HoldsCell member box t (box a).left y) f h.holds).cell.row.from)
        | inr s ↦ AreLinked.onward w (part a 0) AreLinked.here (inl (adjoin_at member box channel gate stands cuts cutting w (part a 0) (box a).left
            h.holds.strip m (cutting.stands_here w.strip a s) (at_column member box channel gate stands cuts cutting w (box a).left y h)
            (corner_column a 0 m (omega arith) e)
            (lying_last member box channel gate stands cuts cutting w (box a).left y h (highest_next _ _ y s.adjoin (before_next _ _ at)))
            (λ _. refl)))
      ]

  lands_after : (a k : ℕ) → member a → suc k ≤ cuts.count a → cuts.lies a ≡ true → (w : Part) → InPart w (box a).left (channel (cuts.number a k)).top
      → (channel (cuts.number a k)).top ≡ (box a).top → AreLinked (Adjoin stands cuts) w (part a (suc k))
  lands_after a k m few e w h at =
      let y = (box a).top -ℤ pos 1 in
      let low : HoldsCell member box a (box a).left y =
      record { strip = m; cell = record { column = first_place _ _ (cutting.family.nonempty a m).across; row = last_place _ _ (cutting.family.nonempty a m).upwards } } in
      elim (stands_above member box cutting.family a w.strip (box a).left y low (subst (HoldsCell member box w.strip (box a).left) (at_the_top _ _ at) h.holds)) [
        | inl f ↦ absurd (outside_high _ _ at (subst (λ t. HoldsCell member box t (box a).left (channel (cuts.number a k)).top) (sym f) h.holds).cell.row.to)
        | inr s ↦ AreLinked.onward w (part a (suc k)) AreLinked.here (inr (adjoin_at member box channel gate stands cuts cutting (part a (suc k)) w (box a).left
            m h.holds.strip (cutting.stands_here a w.strip s) (corner_column a (suc k) m few e) (at_column member box channel gate stands cuts cutting w (box a).left _ h)
            (λ _. last_one k (cuts.count a) few (λ l. over_the_top (box a) (channel (cuts.number a k)) (channel (cuts.number a (suc k))) at
            (order_lying k (suc k) (omega arith) l) (cutting.nonempty a (suc k) m l) (cutting.lying a (suc k) m e l)))
            (lying_first member box channel gate stands cuts cutting w (box a).left _ h (same_at_most _ _ _ s.adjoin at))))
      ]
    where
      order_lying : (i j : ℕ) → i < j → j < cuts.count a → (channel (cuts.number a i)).top <ℤ (channel (cuts.number a j)).bottom
      order_lying i j l n = (follow_as member box channel gate stands cuts cutting a m true e).order i j l n

  lands_as : (b : Bool) (a k : ℕ) → member a → k ≤ cuts.count a → cuts.lies a ≡ b → (w : Part)
      → InPart w (left_end box channel cuts b a k) (row_end box channel cuts b a k) → AreLinked (Adjoin stands cuts) w (part a k)
  unfolding left_end row_end
  lands_as false a k m few e w h =
      same_linked w (part a k) (one_part member box channel gate stands cuts cutting w (part a k) _ _ h (seat_upright member box channel gate stands cuts cutting a k m few e))
  lands_as true a zero m few e w h =
      by_lt_z (box a).bottom (channel (cuts.number a 0)).bottom
      (λ l. same_linked w (part a 0) (one_part member box channel gate stands cuts cutting w (part a 0) _ _ h (seat_first member box channel gate stands cuts cutting a m e l)))
      (λ l. lands_first a m e w h (antisymmetric _ _ l (cutting.lying a 0 m e (cutting.some a m e)).bottom))
  lands_as true a (suc k) m few e w h =
      by_lt_z (channel (cuts.number a k)).top (box a).top
      (λ l. same_linked w (part a (suc k)) (one_part member box channel gate stands cuts cutting w (part a (suc k)) _ _ h
      (seat_after member box channel gate stands cuts cutting a k m (few_after k (cuts.count a) few) e l)))
      (λ l. lands_after a k m few e w h (antisymmetric _ _ (cutting.lying a k m e (few_after k (cuts.count a) few)).top l))

  -- the part that the seat of a part lies in is linked to it
  pub seat_lands : (u : Part) → member u.strip → u.place ≤ cuts.count u.strip → (w : Part) → InPart w (seat_x box channel cuts u) (seat_y box channel cuts u)
      → AreLinked (Adjoin stands cuts) w u
  seat_lands u m few w h = lands_as (cuts.lies u.strip) u.strip u.place m few refl w h

  bare_as : (b : Bool) (a k : ℕ) → member a → k ≤ cuts.count a → cuts.lies a ≡ b
      → IsBare member box channel gate stands cuts (left_end box channel cuts b a k) (row_end box channel cuts b a k)
  unfolding left_end row_end
  bare_as false a k m few e =
      part_bare member box channel gate stands cuts cutting (part a k) _ _ (seat_upright member box channel gate stands cuts cutting a k m few e)
  bare_as true a zero m few e =
      cutting.below a 0 (box a).left m e (cutting.some a m e)
      (on_channel (box a) (channel (cuts.number a 0)) (box a).left (cutting.lying a 0 m e (cutting.some a m e)) (first_place _ _ (cutting.family.nonempty a m).across))
  bare_as true a (suc k) m few e =
      let l = few_after k (cuts.count a) few in
      cutting.above a k (box a).left m e l
      (on_channel (box a) (channel (cuts.number a k)) (box a).left (cutting.lying a k m e l) (first_place _ _ (cutting.family.nonempty a m).across))

  -- the seat of a part isn't gate
  pub seat_bare : (u : Part) → member u.strip → u.place ≤ cuts.count u.strip → IsBare member box channel gate stands cuts (seat_x box channel cuts u) (seat_y box channel cuts u)
  seat_bare u m few = bare_as (cuts.lies u.strip) u.strip u.place m few refl
