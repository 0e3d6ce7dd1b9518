-- Two metals with a cut between them are carried.
use Rattle.std.proofs.Common.{◌≡◌, ℕ, zero, suc, ◌<◌, ℤ, pos, ◌+ℤ◌, ◌≤ℤ◌, IsTrue, refl, sym, ap, ◌∙◌, subst, arith, inl}
use Rattle.std.proofs.lemmas.Bool.Decides.{nat_tests}
use Rattle.std.proofs.lemmas.Int.{ints}
use Rattle.rt_cells.specs.Rectangles.{Rectangle, IsNonempty, Holds}
use Rattle.rt_cells.proofs.Lines.{past_one}
use Rattle.rt_family.specs.Strips.{StandsOn}
use Rattle.rt_family.specs.Carried.{IsCarried}
use Rattle.rt_cuts.specs.Cuts.{grown}
use Rattle.rt_links.specs.Wires.{OfMask, IsKeptWithin, IsKeptCut}
use Rattle.rt_links.specs.Sample.{two_metals, source_of, drawn_of, TwoMetalsAreCarried}

full : (i : ℕ) → IsNonempty (source_of i)
full zero = record { across = omega (arith, ints); upwards = omega (arith, ints) }
full (suc zero) = record { across = omega (arith, ints); upwards = omega (arith, ints) }
full (suc (suc i)) = record { across = omega (arith, ints); upwards = omega (arith, ints) }

drawn_full : (i : ℕ) → (((drawn_of i).left +ℤ pos 1) ≤ℤ (drawn_of i).right) × (((drawn_of i).bottom +ℤ pos 1) ≤ℤ (drawn_of i).top)
drawn_full zero = (omega (arith, ints), omega (arith, ints))
drawn_full (suc zero) = (omega (arith, ints), omega (arith, ints))
drawn_full (suc (suc i)) = (omega (arith, ints), omega (arith, ints))

-- each mask has one strip
module _ (m : ℕ) where
  one_strip : (i j : ℕ) → OfMask two_metals m i → OfMask two_metals m j → j ≡ i
  one_strip i j h k = k.of_mask ∙ sym h.of_mask

  none_above : (i j : ℕ) → OfMask two_metals m i → OfMask two_metals m j → (source_of i).top ≤ℤ (source_of j).bottom → ⊥
  none_above i j h k above = turned (source_of i) (full i) (subst (λ t. (source_of i).top ≤ℤ (source_of t).bottom) (one_strip i j h k) above)
    where
      turned : (r : Rectangle) → IsNonempty r → r.top ≤ℤ r.bottom → ⊥
      turned r n l = omega (arith, ints, n.upwards)

  none_right : (i j : ℕ) → OfMask two_metals m i → OfMask two_metals m j → (source_of i).right ≤ℤ (source_of j).left → ⊥
  none_right i j h k right = turned (source_of i) (full i) (subst (λ t. (source_of i).right ≤ℤ (source_of t).left) (one_strip i j h k) right)
    where
      turned : (r : Rectangle) → IsNonempty r → r.right ≤ℤ r.left → ⊥
      turned r n l = omega (arith, ints, n.across)

  none_stands : (i j : ℕ) → StandsOn (OfMask two_metals m) source_of i j → ⊥
  none_stands i j s = none_above i j s.lower s.upper (omega (arith, ints, s.adjoin))

  mask_carried : IsCarried (OfMask two_metals m) source_of drawn_of (pos 1) (λ i j. pos 1)
  mask_carried = record {
    numbers = record { some_width = omega (arith, ints); some_space = λ i j h k. omega (arith, ints); even_space = λ i j h k. refl };
    family = record { nonempty = λ i h. full i; parted = λ i j h k row. inl (one_strip j i k h) };
    wide = λ i h. (drawn_full i).0;
    tall = λ i h. past_one _ _ (drawn_full i).1;
    adjoin = λ i j s. absurd (none_stands i j s);
    share = λ i j s. absurd (none_stands i j s);
    across = λ i j h k row right. absurd (none_right i j h k right);
    apart = λ i j h k above. absurd (none_above i j h k above);
    seen = λ i j x h k above p q. absurd (none_above i j h k above);
  }

from_left : (a b : Rectangle) → a ≡ drawn_of 0 → b ≡ drawn_of 2 → (a.left +ℤ pos 2) ≤ℤ b.left
from_left a b e f = subst (λ r. (r.left +ℤ pos 2) ≤ℤ b.left) (sym e) (subst (λ r. (pos 0 +ℤ pos 2) ≤ℤ r.left) (sym f) (omega (arith, ints)))

to_right : (a b : Rectangle) → a ≡ drawn_of 0 → b ≡ drawn_of 2 → (b.right +ℤ pos 2) ≤ℤ a.right
to_right a b e f = subst (λ r. (b.right +ℤ pos 2) ≤ℤ r.right) (sym e) (subst (λ r. (r.right +ℤ pos 2) ≤ℤ pos 7) (sym f) (omega (arith, ints)))

from_bottom : (a b : Rectangle) → a ≡ drawn_of 0 → b ≡ drawn_of 2 → (a.bottom +ℤ pos 2) ≤ℤ b.bottom
from_bottom a b e f = subst (λ r. (r.bottom +ℤ pos 2) ≤ℤ b.bottom) (sym e) (subst (λ r. (pos 0 +ℤ pos 2) ≤ℤ r.bottom) (sym f) (omega (arith, ints)))

to_top : (a b : Rectangle) → a ≡ drawn_of 0 → b ≡ drawn_of 2 → (b.top +ℤ pos 2) ≤ℤ a.top
to_top a b e f = subst (λ r. (b.top +ℤ pos 2) ≤ℤ r.top) (sym e) (subst (λ r. (r.top +ℤ pos 2) ≤ℤ pos 7) (sym f) (omega (arith, ints)))

in_square : (x y : ℤ) → Holds (grown (pos 1) (source_of 2)) x y → Holds (source_of 0) x y
in_square x y h = record {
  column = record { from = omega (arith, ints, h.column); to = omega (arith, ints, h.column) };
  row = record { from = omega (arith, ints, h.row); to = omega (arith, ints, h.row) };
}

-- the cut is kept within a metal that is as the lower one
kept_within : (m : ℕ) → m < 3 → IsTrue (two_metals.conducting m) → source_of m ≡ source_of 0 → drawn_of m ≡ drawn_of 0 → IsKeptWithin two_metals source_of drawn_of 2 m
kept_within m below conducts e f = record {
  conducts = conducts;
  near = pos 1;
  number = pos 2;
  some_near = omega (arith, ints);
  some_number = omega (arith, ints);
  covered = λ x y h. record { number = m; holds = record { strip = record { below = below; of_mask = refl }; cell = subst (λ r. Holds r x y) (sym e) (in_square x y h) } };
  inside = record {
    left = λ i h c host. from_left (drawn_of h) (drawn_of i) (ap drawn_of host.strip.of_mask ∙ f) (ap drawn_of c);
    right = λ i h c host. to_right (drawn_of h) (drawn_of i) (ap drawn_of host.strip.of_mask ∙ f) (ap drawn_of c);
    bottom = λ i h c host _. from_bottom (drawn_of h) (drawn_of i) (ap drawn_of host.strip.of_mask ∙ f) (ap drawn_of c);
    top = λ i h c host _. to_top (drawn_of h) (drawn_of i) (ap drawn_of host.strip.of_mask ∙ f) (ap drawn_of c);
  };
}

cut_kept : IsKeptCut two_metals source_of drawn_of 2
cut_kept = record {
  source_cell = full 2;
  drawn_cell = record { across = omega (arith, ints); upwards = omega (arith, ints) };
  in_upper = kept_within 1 (omega arith) refl refl refl;
  in_lower = kept_within 0 (omega arith) refl refl refl;
}

two_is : (c : ℕ) → IsTrue (two_metals.cuts c) → 2 ≡ c
two_is c k = grind (arith, nat_tests, k)

-- two metals are carried
pub two_metals_are_carried : TwoMetalsAreCarried
two_metals_are_carried = record {
  width = λ m. pos 1;
  space = λ m i j. pos 1;
  carried = λ m live. mask_carried m;
  cuts = λ c k. subst (IsKeptCut two_metals source_of drawn_of) (two_is c k) cut_kept;
}
