-- Two cuts, one on a lower mask and one elsewhere, are kept.
use Rattle.std.proofs.Common.{◌≡◌, ℕ, zero, suc, ◌<◌, ℤ, pos, ◌+ℤ◌, ◌≤ℤ◌, ◌<ℤ◌, ◌⊎◌, refl, arith, inl, inr}
use Rattle.std.proofs.lemmas.Int.{ints, clamps}
use Rattle.rt_cells.specs.Line.{between}
use Rattle.rt_cells.specs.Cells.Joined.{here}
use Rattle.rt_cells.specs.Rectangles.{IsNonempty, Holds}
use Rattle.rt_rules.specs.Cuts.{IsWithin}
use Rattle.rt_family.specs.Strips.{CoveredBy, IsFamily, StandsOn}
use Rattle.rt_family.specs.Carried.{IsCarried}
use Rattle.rt_family.specs.Laws.{IsOfMask}
use Rattle.rt_cuts.specs.Cuts.{StripLiesIn, KeepsLowerMask}
use Rattle.rt_cuts.specs.Laws.{LiesElsewhere}
use Rattle.rt_cuts.specs.Sample.{mask_of, lower_of, source_of, drawn_of, TwoCutsAreKept}
use Rattle.rt_cuts.proofs.Pieces.{strip_is_piece}

abbrev Cut : ℕ → Type 0
Cut = IsOfMask 3 mask_of 0

abbrev Lower : ℕ → Type 0
Lower = IsOfMask 3 mask_of 1

abbrev Other : ℕ → Type 0
Other = LiesElsewhere 3 mask_of 0 1 lower_of

-- which numbers these are
data IsCutNumber : ℕ → Type 0 where
  first : IsCutNumber zero
  second : IsCutNumber (suc zero)

one_is_none : suc zero ≡ zero → ⊥
one_is_none e = omega (arith, e)

none_is_one : zero ≡ suc zero → ⊥
none_is_one e = omega (arith, e)

past : (i : ℕ) → suc (suc (suc i)) < 3 → ⊥
past i h = omega (arith, h)

cut_number : (i : ℕ) → Cut i → IsCutNumber i
cut_number zero s = first
cut_number (suc zero) s = second
cut_number (suc (suc i)) s = absurd (one_is_none s.of_mask)

only_third : (P : ℕ → Type 0) → P (suc (suc zero)) → (i : ℕ) → Lower i → P i
only_third P p zero s = absurd (none_is_one s.of_mask)
only_third P p (suc zero) s = absurd (none_is_one s.of_mask)
only_third P p (suc (suc zero)) s = p
only_third P p (suc (suc (suc i))) s = absurd (past i s.below)

only_second : (P : ℕ → Type 0) → P (suc zero) → (i : ℕ) → Other i → P i
only_second P p zero s = absurd (s.elsewhere refl)
only_second P p (suc zero) s = p
only_second P p (suc (suc i)) s = absurd (one_is_none s.strip.of_mask)

first_cut : Cut zero
first_cut = record { below = omega arith; of_mask = refl }

second_cut : Cut (suc zero)
second_cut = record { below = omega arith; of_mask = refl }

the_other : Other (suc zero)
the_other = record { strip = second_cut; elsewhere = λ e. two_is_one e }
  where
    two_is_one : suc (suc zero) ≡ suc zero → ⊥
    two_is_one e = omega (arith, e)

the_lower : Lower (suc (suc zero))
the_lower = record { below = omega arith; of_mask = refl }

lower_cell : (x y : ℤ) → pos 0 ≤ℤ x → x <ℤ pos 4 → pos 0 ≤ℤ y → y <ℤ pos 4 → CoveredBy Lower source_of x y
lower_cell x y a b c d = record { number = suc (suc zero); holds = record { strip = the_lower; cell = record { column = record { from = a; to = b }; row = record { from = c; to = d } } } }

lower_right : (x y : ℤ) → CoveredBy Lower source_of x y → x <ℤ pos 4
lower_right x y c = only_third (λ i. Holds (source_of i) x y → x <ℤ pos 4) (λ h. h.column.to) c.number c.holds.strip c.holds.cell

other_left : (i : ℕ) (x y : ℤ) → Other i → Holds (source_of i) x y → pos 11 ≤ℤ x
other_left i x y o h = only_second (λ i. Holds (source_of i) x y → pos 11 ≤ℤ x) (λ k. k.column.from) i o h

-- only the first cut lies in the lower mask
only_first : (P : ℕ → Type 0) → P zero → (i : ℕ) → StripLiesIn Cut source_of (CoveredBy Lower source_of) i → P i
only_first P p i m = by_cut i (cut_number i m.strip) m.lies
  where
    by_cut : (i : ℕ) → IsCutNumber i → ((x y : ℤ) → Holds (source_of i) x y → CoveredBy Lower source_of x y) → P i
    by_cut _ first lies = p
    by_cut _ second lies = absurd (omega (
      arith,
      ints,
      lower_right (pos 11) (pos 1) (lies (pos 11) (pos 1)
          (record { column = record { from = omega (arith, ints); to = omega (arith, ints) }; row = record { from = omega (arith, ints); to = omega (arith, ints) } })),
    ))

first_lies : StripLiesIn Cut source_of (CoveredBy Lower source_of) zero
first_lies = record {
  strip = first_cut;
  lies = λ x y h. lower_cell x y (omega (arith, ints, h.column.from)) (omega (arith, ints, h.column.to)) (omega (arith, ints, h.row.from)) (omega (arith, ints, h.row.to));
}

choose : (i : ℕ) → IsCutNumber i → StripLiesIn Cut source_of (CoveredBy Lower source_of) i ⊎ Other i
choose _ first = inl first_lies
choose _ second = inr the_other

encloses_by : (i : ℕ) → IsCutNumber i → (x y u v : ℤ) → Holds (source_of i) x y → CoveredBy Lower source_of x y → IsWithin (pos 1) x y u v → CoveredBy Lower source_of u v
encloses_by _ first x y u v h c near =
    lower_cell u v (omega (arith, ints, h.column.from, near.columns.from)) (omega (arith, ints, h.column.to, near.columns.to)) (omega (arith, ints, h.row.from, near.rows.from)) (omega (arith, ints, h.row.to, near.rows.to))
encloses_by _ second x y u v h c near = absurd (omega (arith, ints, h.column.from, lower_right x y c))

far_apart : (x u : ℤ) → pos 11 ≤ℤ x → u <ℤ pos 4 → pos 1 ≤ℤ between x u
far_apart x u h k = omega (arith, ints, clamps)

lower_kept : KeepsLowerMask Cut Lower Other source_of drawn_of (pos 1) (pos 2) (pos 1) (pos 1)
lower_kept = record {
  some_near = omega (arith, ints);
  some_number = omega (arith, ints);
  some_reach = omega (arith, ints);
  some_clear = omega (arith, ints);
  one_or_other = λ i m. choose i (cut_number i m);
  others = λ i o. o.strip;
  encloses = λ x y u v on near. encloses_by on.cell.number (cut_number on.cell.number on.cell.holds.strip) x y u v on.cell.holds.cell (on.lies x y (here on.cell)) near;
  apart = λ x y u v c d. inl (far_apart x u (other_left c.number x y c.holds.strip c.holds.cell) (lower_right u v d));
  inside = record {
    left = λ i h m host. only_first (λ i. ((drawn_of h).left +ℤ pos 2) ≤ℤ (drawn_of i).left) (only_third (λ h. ((drawn_of h).left +ℤ pos 2) ≤ℤ pos 2) (omega (arith, ints)) h host.strip) i m;
    right = λ i h m host. only_first (λ i. ((drawn_of i).right +ℤ pos 2) ≤ℤ (drawn_of h).right) (only_third (λ h. (pos 5 +ℤ pos 2) ≤ℤ (drawn_of h).right) (omega (arith, ints)) h host.strip) i m;
    bottom = λ i h m host _. only_first (λ i. ((drawn_of h).bottom +ℤ pos 2) ≤ℤ (drawn_of i).bottom) (only_third (λ h. ((drawn_of h).bottom +ℤ pos 2) ≤ℤ pos 2) (omega (arith, ints)) h host.strip) i m;
    top = λ i h m host _. only_first (λ i. ((drawn_of i).top +ℤ pos 2) ≤ℤ (drawn_of h).top) (only_third (λ h. (pos 5 +ℤ pos 2) ≤ℤ (drawn_of h).top) (omega (arith, ints)) h host.strip) i m;
  };
  kept_clear = record {
    right = λ i j m n h _. only_second (λ i. (source_of i).right ≤ℤ (source_of j).left → ((drawn_of i).right +ℤ pos 1) ≤ℤ (drawn_of j).left)
        (only_third (λ j. pos 13 ≤ℤ (source_of j).left → (pos 23 +ℤ pos 1) ≤ℤ (drawn_of j).left) (λ l. absurd (omega (arith, ints, l))) j n) i m h;
    left = λ i j m n _ _. only_second (λ i. ((drawn_of j).right +ℤ pos 1) ≤ℤ (drawn_of i).left) (only_third (λ j. ((drawn_of j).right +ℤ pos 1) ≤ℤ pos 20) (omega (arith, ints)) j n) i m;
    above = λ i j m n h _. only_second (λ i. (source_of i).top ≤ℤ (source_of j).bottom → ((drawn_of i).top +ℤ pos 1) ≤ℤ (drawn_of j).bottom)
        (only_third (λ j. pos 3 ≤ℤ (source_of j).bottom → (pos 5 +ℤ pos 1) ≤ℤ (drawn_of j).bottom) (λ l. absurd (omega (arith, ints, l))) j n) i m h;
    below = λ i j m n h _. only_second (λ i. (source_of j).top ≤ℤ (source_of i).bottom → ((drawn_of j).top +ℤ pos 1) ≤ℤ (drawn_of i).bottom)
        (only_third (λ j. (source_of j).top ≤ℤ pos 1 → ((drawn_of j).top +ℤ pos 1) ≤ℤ pos 2) (λ l. absurd (omega (arith, ints, l))) j n) i m h;
  };
}

full : (i : ℕ) → IsNonempty (source_of i)
full zero = record { across = omega (arith, ints); upwards = omega (arith, ints) }
full (suc zero) = record { across = omega (arith, ints); upwards = omega (arith, ints) }
full (suc (suc i)) = record { across = omega (arith, ints); upwards = omega (arith, ints) }

drawn_full : (i : ℕ) → (((drawn_of i).left +ℤ pos 1) ≤ℤ (drawn_of i).right) × ((drawn_of i).bottom <ℤ (drawn_of i).top)
drawn_full zero = (omega (arith, ints), omega (arith, ints))
drawn_full (suc zero) = (omega (arith, ints), omega (arith, ints))
drawn_full (suc (suc i)) = (omega (arith, ints), omega (arith, ints))

-- the two cuts stand in the same rows
cuts_beside : (i j : ℕ) → IsCutNumber i → IsCutNumber j → (source_of i).top ≤ℤ (source_of j).bottom → ⊥
cuts_beside _ _ first first h = omega (arith, ints, h)
cuts_beside _ _ first second h = omega (arith, ints, h)
cuts_beside _ _ second first h = omega (arith, ints, h)
cuts_beside _ _ second second h = omega (arith, ints, h)

cuts_parted : (i j : ℕ) → IsCutNumber i → IsCutNumber j → (i ≡ j) ⊎ (((source_of i).right <ℤ (source_of j).left) ⊎ ((source_of j).right <ℤ (source_of i).left))
cuts_parted _ _ first first = inl refl
cuts_parted _ _ first second = inr (inl (omega (arith, ints)))
cuts_parted _ _ second first = inr (inr (omega (arith, ints)))
cuts_parted _ _ second second = inl refl

cuts_across : (i j : ℕ) → IsCutNumber i → IsCutNumber j → (source_of i).right ≤ℤ (source_of j).left → ((drawn_of i).right +ℤ pos 1) ≤ℤ (drawn_of j).left
cuts_across _ _ first first h = absurd (omega (arith, ints, h))
cuts_across _ _ first second h = omega (arith, ints)
cuts_across _ _ second first h = absurd (omega (arith, ints, h))
cuts_across _ _ second second h = absurd (omega (arith, ints, h))

cut_above : (i j : ℕ) → Cut i → Cut j → (source_of i).top ≤ℤ (source_of j).bottom → ⊥
cut_above i j m n = cuts_beside i j (cut_number i m) (cut_number j n)

cut_stands : (i j : ℕ) → StandsOn Cut source_of i j → ⊥
cut_stands i j s = cut_above i j s.lower s.upper (omega (arith, ints, s.adjoin))

cut_family : IsFamily Cut source_of
cut_family = record { nonempty = λ i m. full i; parted = λ i j m n row. cuts_parted i j (cut_number i m) (cut_number j n) }

cut_carried : IsCarried Cut source_of drawn_of (pos 1) (λ i j. pos 1)
cut_carried = record {
  numbers = record { some_width = omega (arith, ints); some_space = λ i j m n. omega (arith, ints); even_space = λ i j m n. refl };
  family = cut_family;
  wide = λ i m. (drawn_full i).0;
  tall = λ i m. (drawn_full i).1;
  adjoin = λ i j s. absurd (cut_stands i j s);
  share = λ i j s. absurd (cut_stands i j s);
  across = λ i j m n row right. cuts_across i j (cut_number i m) (cut_number j n) right;
  apart = λ i j m n above. absurd (cut_above i j m n above);
  seen = λ i j x m n above p q. absurd (cut_above i j m n above);
}

-- the lower mask has one strip
lower_above : (i j : ℕ) → Lower i → Lower j → (source_of i).top ≤ℤ (source_of j).bottom → ⊥
lower_above i j m n =
    only_third (λ i. (source_of i).top ≤ℤ (source_of j).bottom → ⊥) (only_third (λ j. pos 4 ≤ℤ (source_of j).bottom → ⊥) (λ h. omega (arith, ints, h)) j n) i m

lower_right_of : (i j : ℕ) → Lower i → Lower j → (source_of i).right ≤ℤ (source_of j).left → ⊥
lower_right_of i j m n =
    only_third (λ i. (source_of i).right ≤ℤ (source_of j).left → ⊥) (only_third (λ j. pos 4 ≤ℤ (source_of j).left → ⊥) (λ h. omega (arith, ints, h)) j n) i m

lower_stands : (i j : ℕ) → StandsOn Lower source_of i j → ⊥
lower_stands i j s = lower_above i j s.lower s.upper (omega (arith, ints, s.adjoin))

lower_carried : IsCarried Lower source_of drawn_of (pos 1) (λ i j. pos 1)
lower_carried = record {
  numbers = record { some_width = omega (arith, ints); some_space = λ i j m n. omega (arith, ints); even_space = λ i j m n. refl };
  family = record {
    nonempty = λ i m. full i;
    parted = λ i j m n row. inl (only_third (λ i. i ≡ j) (only_third (λ j. suc (suc zero) ≡ j) refl j n) i m);
  };
  wide = λ i m. (drawn_full i).0;
  tall = λ i m. (drawn_full i).1;
  adjoin = λ i j s. absurd (lower_stands i j s);
  share = λ i j s. absurd (lower_stands i j s);
  across = λ i j m n row right. absurd (lower_right_of i j m n right);
  apart = λ i j m n above. absurd (lower_above i j m n above);
  seen = λ i j x m n above p q. absurd (lower_above i j m n above);
}

-- the cut is kept
pub two_cuts_are_kept : TwoCutsAreKept
two_cuts_are_kept = record {
  width = pos 1;
  space = λ i j. pos 1;
  cut = record {
    carried = cut_carried;
    rectangles = λ x y c. (source_of c.number, record { piece = strip_is_piece Cut source_of cut_family cut_stands c.number c.holds.strip; holds = c.holds.cell });
    unstacked = λ i j s e f. cut_stands i j s;
  };
  lower_width = pos 1;
  lower_space = λ i j. pos 1;
  lower_mask = lower_carried;
  kept = lower_kept;
}
