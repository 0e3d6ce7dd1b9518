-- Every channel of the drawing is one that was drawn, and is covered by each mask as far as the mask reaches.
use Rattle.std.proofs.Common.{◌≡◌, ℕ, ℤ, pos, ◌-ℤ◌, ◌≤ℤ◌, ◌<ℤ◌, ◌⊎◌, subst, arith}
use Rattle.std.proofs.lemmas.Int.{ints, by_lt_z}
use mathlib.Core.Logic.{inl, inr}
use Rattle.rt_cells.specs.Line.{Within}
use Rattle.rt_cells.specs.Rectangles.{Rectangle, IsNonempty, Holds}
use Rattle.rt_cells.proofs.Lines.{first_place, last_place}
use Rattle.rt_cells.proofs.Rectangles.{joined_inside}
use Rattle.rt_family.specs.Strips.{SpansColumns, CoveredBy}
use Rattle.rt_channels.specs.Channels.{widened, stretched, SpansRows, IsChannel}
use Rattle.rt_channels.specs.Crossings.{IsOfBoth, KeepsReach, AreCarriedChannels}
use Rattle.rt_channels.proofs.Drawn.{many_filled, single_filled}
use Rattle.rt_channels.proofs.Crossings.{turned_together, drawn_channels}

-- a rectangle that lies within another
record LiesWithin (inner outer : Rectangle) : Type 0 where
  columns : SpansColumns outer inner
  rows : SpansRows outer inner

lies_within : (a b : Rectangle) → IsNonempty a → ((x y : ℤ) → Holds a x y → Holds b x y) → LiesWithin a b
lies_within a b h all =
    let low = all a.left a.bottom (record { column = first_place _ _ h.across; row = first_place _ _ h.upwards }) in
    let high = all (a.right -ℤ pos 1) (a.top -ℤ pos 1) (record { column = last_place _ _ h.across; row = last_place _ _ h.upwards }) in
    record {
      columns = record { left = low.column.from; right = past _ _ _ high.column };
      rows = record { bottom = low.row.from; top = past _ _ _ high.row };
    }
  where
    past : (low high a : ℤ) → Within low high (a -ℤ pos 1) → a ≤ℤ high
    past low high a h = omega (arith, ints)

-- a channel doesn't lie within one that lies the other way
no_turn : (first second : ℤ → ℤ → Type 0) (r t : Rectangle) → IsChannel first second r → IsChannel second first t → ¬ LiesWithin r t
no_turn first second r t a b inside =
    let own = first_place _ _ a.nonempty.upwards in
    let row = outer _ _ _ _ _ inside.rows.bottom inside.rows.top own in
    by_lt_z t.left r.left
    (λ l. a.left_single r.bottom own (b.of_many.covered _ _ (record { column = before _ _ _ _ l a.nonempty.across inside.columns.right; row = row })))
    (λ l. b.left_single r.bottom row (subst (λ z. second (z -ℤ pos 1) r.bottom) (same _ _ inside.columns.left l) (a.left_many r.bottom own)))
  where
    outer : (low high low' high' y : ℤ) → low ≤ℤ low' → high' ≤ℤ high → Within low' high' y → Within low high y
    outer low high low' high' y h k w = record { from = omega (arith, ints); to = omega (arith, ints) }

    before : (t u r q : ℤ) → t <ℤ r → r <ℤ q → q ≤ℤ u → Within t u (r -ℤ pos 1)
    before t u r q h k l = record { from = omega (arith, ints); to = omega (arith, ints) }

    same : (a b : ℤ) → a ≤ℤ b → b ≤ℤ a → b ≡ a
    same a b h k = omega (arith, ints)

widened_within : (n : ℤ) (r t : Rectangle) → LiesWithin r t → (x y : ℤ) → Holds (widened n r) x y → Holds (widened n t) x y
widened_within n r t h x y k = record {
  column = record { from = omega (arith, ints, h.columns, k.column); to = omega (arith, ints, h.columns, k.column) };
  row = record { from = omega (arith, ints, h.rows, k.row); to = omega (arith, ints, h.rows, k.row) };
}

stretched_within : (n : ℤ) (r t : Rectangle) → LiesWithin r t → (x y : ℤ) → Holds (stretched n r) x y → Holds (stretched n t) x y
stretched_within n r t h x y k = record {
  column = record { from = omega (arith, ints, h.columns, k.column); to = omega (arith, ints, h.columns, k.column) };
  row = record { from = omega (arith, ints, h.rows, k.row); to = omega (arith, ints, h.rows, k.row) };
}

pub turned_sum : {A B : Type 0} → A ⊎ B → B ⊎ A
turned_sum (inl a) = inr a
turned_sum (inr b) = inl b

module _ (first second : ℕ → Type 0) (source drawn : ℕ → Rectangle) (upright lying : ℕ → Type 0) (area target : ℕ → Rectangle)
    (all : AreCarriedChannels first second source drawn upright lying area target) where
  -- a channel of the drawing that stands is one of those that were drawn for the ones that stood
  is_drawn : (r : Rectangle) → IsChannel (CoveredBy first drawn) (CoveredBy second drawn) r → (c : ℕ) × upright c × LiesWithin r (target c)
  is_drawn r channel =
      let d = drawn_channels first second source drawn upright lying area target all in
      let cells = IsOfBoth (CoveredBy first drawn) (CoveredBy second drawn) in
      let both : (x y : ℤ) → Holds r x y → IsOfBoth (CoveredBy first drawn) (CoveredBy second drawn) x y =
      λ x y h. record { of_first = channel.of_single.covered x y h; of_second = channel.of_many.covered x y h } in
      let corner : Holds r r.left r.bottom = record { column = first_place _ _ channel.nonempty.across; row = first_place _ _ channel.nonempty.upwards } in
      let e = d.every r.left r.bottom (both _ _ corner) in
      let inside : LiesWithin r (target e.0) =
      lies_within r (target e.0) channel.nonempty (λ x y h. d.whole e.0 r.left r.bottom x y e.1 e.2 (joined_inside (IsOfBoth (CoveredBy first drawn) (CoveredBy second drawn)) r both _ _ x y corner h)) in
      elim e.1 [
        | inl u ↦ (e.0, u, inside)
        | inr l ↦ absurd (no_turn (CoveredBy first drawn) (CoveredBy second drawn) r (target e.0) channel (d.lying_drawn e.0 l) inside)
      ]

  -- the drawing keeps the reach of both masks at the channels that stand
  pub keeps_reach : KeepsReach all.reach_first all.reach_second (CoveredBy first drawn) (CoveredBy second drawn)
  keeps_reach = record {
    of_single = λ r channel. let d = is_drawn r channel in record {
      covered = λ x y h. (single_filled first second source drawn all.together (area d.0) (target d.0) _ _ _ _ (all.upright_carried d.0 d.1)).covered x y (stretched_within all.reach_first r (target d.0) d.2 x y h);
    };
    of_many = λ r channel. let d = is_drawn r channel in record {
      covered = λ x y h. (many_filled first second source drawn all.together (area d.0) (target d.0) _ _ _ _ (all.upright_carried d.0 d.1)).covered x y (widened_within all.reach_second r (target d.0) d.2 x y h);
    };
  }

-- the channels with the masks exchanged: those that stood lie
abbrev pub turned_channels : (first second : ℕ → Type 0) (source drawn : ℕ → Rectangle) (upright lying : ℕ → Type 0) (area target : ℕ → Rectangle)
    → AreCarriedChannels first second source drawn upright lying area target → AreCarriedChannels second first source drawn lying upright area target
turned_channels first second source drawn upright lying area target all = record {
  near_first = all.near_second;
  near_second = all.near_first;
  reach_first = all.reach_second;
  reach_second = all.reach_first;
  together = turned_together first second source drawn all.together;
  upright_carried = all.lying_carried;
  lying_carried = all.upright_carried;
  every = λ x y b. let e = all.every x y (record { of_first = b.of_second; of_second = b.of_first }) in (e.0, turned_sum e.1, e.2);
  once = λ c d x y h k. all.once c d x y (turned_sum h) (turned_sum k);
}
