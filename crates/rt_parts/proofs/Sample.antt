-- A lying channel that fills its strip to the top, and an upright one beside it in the strip above: what is asked of cut strips can be met.
use Rattle.std.proofs.Common.{◌≡◌, ℕ, zero, suc, ◌<◌, true, false, ℤ, pos, ◌-ℤ◌, ◌<ℤ◌, ◌⊎◌, refl, sym, ap, arith}
use Rattle.std.proofs.lemmas.Int.{ints}
use mathlib.Core.Logic.{inl, inr}
use Rattle.rt_cells.specs.Line.{Within}
use Rattle.rt_cells.specs.Rectangles.{IsNonempty, Holds}
use Rattle.rt_family.specs.Strips.{ShareRow, HoldsCell, CoveredBy, StandsOn}
use Rattle.rt_family.specs.Laws.{IsOfMask}
use Rattle.rt_parts.specs.Sample.{mask_of, strip_of, channel_of, lies_of, cuts_of, TwoStripsAreCut}
use Rattle.rt_parts.specs.Parts.{CutsUpright, CutsLying, IsBeside, IsAlone, IsBare}

-- the strips that are cut
abbrev Cut : ℕ → Type 0
Cut i = IsOfMask 4 mask_of 0 i

-- the strips that cut them
abbrev Gate : ℤ → ℤ → Type 0
Gate x y = CoveredBy (IsOfMask 4 mask_of 1) strip_of x y

zero_not_suc : (i : ℕ) → zero ≡ suc i → ⊥
zero_not_suc i e = omega (arith, e)

not_two : (i : ℕ) → Cut (suc (suc i)) → ⊥
not_two i h = zero_not_suc 0 (sym h.of_mask)

one_channel : (j : ℕ) → suc j < 1 → ⊥
one_channel j l = omega (arith, l)

true_not_false : true ≡ false → ⊥
true_not_false e = cc

strip_nonempty : (i : ℕ) → IsNonempty (strip_of i)
strip_nonempty zero = record { across = omega (arith, ints); upwards = omega (arith, ints) }
strip_nonempty (suc zero) = record { across = omega (arith, ints); upwards = omega (arith, ints) }
strip_nonempty (suc (suc zero)) = record { across = omega (arith, ints); upwards = omega (arith, ints) }
strip_nonempty (suc (suc (suc i))) = record { across = omega (arith, ints); upwards = omega (arith, ints) }

channel_nonempty : (i : ℕ) → IsNonempty (channel_of i)
channel_nonempty zero = record { across = omega (arith, ints); upwards = omega (arith, ints) }
channel_nonempty (suc i) = record { across = omega (arith, ints); upwards = omega (arith, ints) }

parted : (i j : ℕ) → Cut i → Cut j → ShareRow (strip_of i) (strip_of j)
    → (i ≡ j) ⊎ (((strip_of i).right <ℤ (strip_of j).left) ⊎ ((strip_of j).right <ℤ (strip_of i).left))
parted zero zero m n r = inl refl
parted zero (suc zero) m n r = absurd (omega (arith, ints, r.first, r.second))
parted (suc zero) zero m n r = absurd (omega (arith, ints, r.first, r.second))
parted (suc zero) (suc zero) m n r = inl refl
parted i (suc (suc j)) m n r = absurd (not_two j n)
parted (suc (suc i)) j m n r = absurd (not_two i m)

-- a cell of the mask that cuts is of one of its two strips
of_gate : (x y : ℤ) → Gate x y → Holds (strip_of 2) x y ⊎ Holds (strip_of 3) x y
of_gate x y g = of_number g.number g.holds.strip g.holds.cell
  where
    of_number : (i : ℕ) → IsOfMask 4 mask_of 1 i → Holds (strip_of i) x y → Holds (strip_of 2) x y ⊎ Holds (strip_of 3) x y
    of_number zero m h = absurd (zero_not_suc 0 m.of_mask)
    of_number (suc zero) m h = absurd (zero_not_suc 0 m.of_mask)
    of_number (suc (suc zero)) m h = inl h
    of_number (suc (suc (suc i))) m h = inr h

lying_is_gate : (x y : ℤ) → Holds (strip_of 2) x y → Gate x y
lying_is_gate x y h = record { number = 2; holds = record { strip = record { below = omega arith; of_mask = refl }; cell = h } }

upright_is_gate : (x y : ℤ) → Holds (strip_of 3) x y → Gate x y
upright_is_gate x y h = record { number = 3; holds = record { strip = record { below = omega arith; of_mask = refl }; cell = h } }

crossed : (a : ℕ) (x y : ℤ) → HoldsCell Cut strip_of a x y → Gate x y → Holds (channel_of a) x y
crossed a x y h g = in_channel a h.strip h.cell (of_gate x y g)
  where
    in_channel : (a : ℕ) → Cut a → Holds (strip_of a) x y → Holds (strip_of 2) x y ⊎ Holds (strip_of 3) x y → Holds (channel_of a) x y
    in_channel zero m h (inl g) = record { column = h.column; row = g.row }
    in_channel zero m h (inr g) = absurd (omega (arith, ints, h.row.to, g.row.from))
    in_channel (suc zero) m h (inl g) = absurd (omega (arith, ints, h.row.from, g.row.to))
    in_channel (suc zero) m h (inr g) = record { column = g.column; row = h.row }
    in_channel (suc (suc a)) m h g = absurd (not_two a m)

crossing : (a : ℕ) (x y : ℤ) → Holds (channel_of a) x y → Gate x y
crossing zero x y h = lying_is_gate x y (record { column = record { from = omega (arith, ints, h.column); to = omega (arith, ints, h.column) }; row = h.row })
crossing (suc a) x y h = upright_is_gate x y (record { column = h.column; row = record { from = h.row.from; to = omega (arith, ints, h.row) } })

upright : (a : ℕ) → Cut a → lies_of a ≡ false → CutsUpright (strip_of a) (channel_of a)
upright zero m e = absurd (true_not_false e)
upright (suc zero) m e = record { left = omega (arith, ints); right = omega (arith, ints); bottom = omega (arith, ints); top = omega (arith, ints) }
upright (suc (suc a)) m e = absurd (not_two a m)

lying : (a : ℕ) → lies_of a ≡ true → CutsLying (strip_of a) (channel_of a)
lying zero e = record { left = omega (arith, ints); right = omega (arith, ints); bottom = omega (arith, ints); top = omega (arith, ints) }
lying (suc a) e = absurd (true_not_false (sym e))

no_two : (i j n : ℕ) → i < j → j < 1 → ⊥
no_two i j n h l = omega (arith, h, l)

beside : (a z i : ℕ) → StandsOn Cut strip_of a z ⊎ StandsOn Cut strip_of z a → lies_of a ≡ false → IsAlone cuts_of a z
    → IsBeside true (channel_of a) (strip_of z)
beside zero z i s e alone = absurd (true_not_false e)
beside (suc a) zero i s e alone = record { first = λ _. omega (arith, ints); second = λ f. absurd (true_not_false f) }
beside (suc zero) (suc zero) i s e alone = absurd (alone 0 (omega arith) refl)
beside (suc (suc a)) (suc z) i (inl s) e alone = absurd (not_two a s.lower)
beside (suc (suc a)) (suc z) i (inr s) e alone = absurd (not_two a s.upper)
beside (suc zero) (suc (suc z)) i (inl s) e alone = absurd (not_two z s.upper)
beside (suc zero) (suc (suc z)) i (inr s) e alone = absurd (not_two z s.lower)

above : (a : ℕ) (x : ℤ) → lies_of a ≡ true → Within (channel_of a).left (channel_of a).right x
    → IsBare Cut strip_of channel_of Gate (StandsOn Cut strip_of) cuts_of x (channel_of a).top
above (suc a) x e w = absurd (true_not_false (sym e))
above zero x e w = record {
  covered = record {
    number = 1;
    holds = record { strip = record { below = omega arith; of_mask = refl }; cell = record { column = record { from = omega (arith, ints, w); to = w.to }; row = record { from = omega (arith, ints); to = omega (arith, ints) } } };
  };
  no_gate = λ g. elim (of_gate _ _ g) [ inl h ↦ omega (arith, ints, h.row) | inr h ↦ omega (arith, ints, h.column, w) ];
}

below : (a : ℕ) (x : ℤ) → lies_of a ≡ true → Within (channel_of a).left (channel_of a).right x
    → IsBare Cut strip_of channel_of Gate (StandsOn Cut strip_of) cuts_of x ((channel_of a).bottom -ℤ pos 1)
below (suc a) x e w = absurd (true_not_false (sym e))
below zero x e w = record {
  covered = record {
    number = 0;
    holds = record { strip = record { below = omega arith; of_mask = refl }; cell = record { column = w; row = record { from = omega (arith, ints); to = omega (arith, ints) } } };
  };
  no_gate = λ g. elim (of_gate _ _ g) [ inl h ↦ omega (arith, ints, h.row) | inr h ↦ omega (arith, ints, h.row) ];
}

pub two_strips_are_cut : TwoStripsAreCut
two_strips_are_cut = record {
  family = record { nonempty = λ i m. strip_nonempty i; parted = parted };
  stands_there = λ a z s. s;
  stands_here = λ a z s. s;
  nonempty = λ a j m l. channel_nonempty a;
  crossed = λ a x y h g. (0, omega arith, crossed a x y h g);
  crossing = λ a j x y h l k. crossing a x y k;
  upright = λ a j m e l. upright a m e;
  lying = λ a j m e l. lying a e;
  some = λ a m e. omega arith;
  one_way = λ a z i j m n k l e. ap lies_of e;
  order = λ a i j m h l. absurd (no_two i j 0 h l);
  beside = λ a z i s e l alone. beside a z i s e alone;
  above = λ a j x m e l w. above a x e w;
  below = λ a j x m e l w. below a x e w;
}
