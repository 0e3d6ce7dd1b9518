-- What narrow strips and seams show of a mask's cells, and that a mask without them keeps the width rule along rows.
use Rattle.std.proofs.Common.{◌≡◌, ℕ, ◌<◌, ℤ, pos, ◌+ℤ◌, ◌-ℤ◌, ◌≤ℤ◌, ◌<ℤ◌, List, length, map, get_or, refl, sym, ap, subst, ◌∙◌, Option, Some, None, w64, to_z, of_z, arith, inl, inr}
use Rattle.std.proofs.lemmas.Int.{ints, clamps}
use Rattle.std.specs.Int.{int_max, int_min}
use Rattle.std.specs.Int.RustNames.{FitsSigned}
use Rattle.std.specs.List.{AllWithin}
use Rattle.std.specs.Option.{MatchOption}
use Rattle.std.proofs.lemmas.List.{get_or_default}
use Rattle.rt_base.specs.declared.plane.Cell.{Cell}
use Rattle.rt_base.specs.declared.plane.Rect.{Rect}
use Rattle.rt_base.specs.Plane.{area}
use Rattle.rt_cells.specs.Line.{Within, IsRun}
use Rattle.rt_cells.specs.Cells.{row_of, transposed}
use Rattle.rt_cells.proofs.Lines.{first_place, last_place, one_before, common_first, common_second}
use Rattle.rt_family.specs.Strips.{CoveredBy, HoldsCell}
use Rattle.rt_family.proofs.Strips.{run_is_row, stands_above}
use Rattle.rt_rules.specs.Width.{KeepsWidthAlongRows, WidthBreachAlongRows}
use Rattle.rt_rules.proofs.Alike.{AreAlike, alike_back, rows_alike, rows_breach_alike}
use Rattle.rt_strips.specs.declared.contact.Seam.{Seam}
use Rattle.rt_strips.specs.declared.listing.Strip.{Strip}
use Rattle.rt_strips.specs.Placed.{Placed, placed, strip_at, mask_of, left_of, right_of, bottom_of, top_of, covered_by}
use Rattle.rt_strips.specs.Standing.{IsStrip}
use Rattle.rt_strips.specs.StripsOf.{AreStripsOf}
use Rattle.rt_strips.specs.Seams.{IsSeam, AreSeamsOf}
use Rattle.rt_strips.proofs.Placed.{strip_there, strip_below, placed_at, strip_is}
use Rattle.rt_strips.proofs.Family.{IsOfMask, box_of, covered_by_family, is_family, stands_from_family}
use Rattle.rt_drc.specs.declared.rows.Witness.{Witness}
use Rattle.rt_drc.specs.Rows.{ShowsWidthAlongRows, ShowsWidth}
use Rattle.rt_drc.specs.Wide.{IsShownAt, common_left, common_right, IsWideOn, IsNarrowOn, ShareEnoughOn, ShareTooLittleOn, AreWideOn, AreSharedOn}

-- a number as the code holds it
abbrev held : ℤ → ℤ
held z = to_z w64 (of_z w64 z)

-- the difference of the ends of what two rectangles share fits
pub shared_fits : (a b : Rect) (low high : ℤ) → low ≡ int_max (held a.x1) (held b.x1) → high ≡ int_min (held a.x2) (held b.x2)
    → FitsSigned w64 (held high -ℤ held low)
shared_fits a b low high e f = omega (arith, ints, clamps)

-- and the code's witness has these ends
pub shared_shown : (a b : Rect) (low high : ℤ) → low ≡ int_max (held a.x1) (held b.x1) → high ≡ int_min (held a.x2) (held b.x2)
    → IsShownAt (common_left (area a) (area b)) (a.y2 -ℤ pos 1) (common_right (area a) (area b) -ℤ pos 1) (a.y2 -ℤ pos 1)
    (common_right (area a) (area b) -ℤ common_left (area a) (area b))
    (record {
      p = record { x = held low; y = held (held a.y2 -ℤ pos 1) };
      q = record { x = held (held high -ℤ pos 1); y = held (held a.y2 -ℤ pos 1) };
      found = held (held high -ℤ held low);
    })
shared_shown a b low high e f = record {
  p_column = omega (arith, ints, clamps);
  p_row = omega (arith, ints);
  q_column = omega (arith, ints, clamps);
  q_row = omega (arith, ints);
  number_found = omega (arith, ints, clamps);
}

-- what holds of the cells and the number that a witness has holds of the witness
pub shown : (B : ℤ → ℤ → ℤ → ℤ → ℤ → Type 0) (x y u v number : ℤ) (witness : Witness) → IsShownAt x y u v number witness → B x y u v number
    → B witness.p.x witness.p.y witness.q.x witness.q.y witness.found
shown B x y u v number witness e b =
    subst (λ z. B witness.p.x witness.p.y witness.q.x witness.q.y z) (sym e.number_found)
    (subst (λ z. B witness.p.x witness.p.y witness.q.x z number) (sym e.q_row)
    (subst (λ z. B witness.p.x witness.p.y z v number) (sym e.q_column)
    (subst (λ z. B witness.p.x z u v number) (sym e.p_row)
    (subst (λ z. B z y u v number) (sym e.p_column) b))))

found_between : (a b : ℤ) → (b -ℤ a) ≡ (((b -ℤ pos 1) +ℤ pos 1) -ℤ a)
found_between a b = omega (arith, ints)

after_last : (z : ℤ) → ((z -ℤ pos 1) +ℤ pos 1) ≡ z
after_last z = omega (arith, ints)

next_row : (t b : ℤ) → t ≡ b → b ≡ (t -ℤ pos 1) +ℤ pos 1
next_row t b e = omega (arith, ints)

wide_run : (w low high a b : ℤ) → low ≡ a → high ≡ b → w ≤ℤ (high -ℤ low) → w ≤ℤ (b -ℤ a)
wide_run w low high a b e f h = omega (arith, ints)

wide_twice : (w low high a b a' b' : ℤ) → low ≡ a → high ≡ b → low ≡ a' → high ≡ b' → w ≤ℤ (high -ℤ low) → w ≤ℤ (int_min b b' -ℤ int_max a a')
wide_twice w low high a b a' b' e f e' f' h = omega (arith, ints, clamps)

same_part : (w low high low' high' a b a' b' : ℤ) → low ≡ a → high ≡ b → low' ≡ a' → high' ≡ b' → w ≤ℤ (int_min high high' -ℤ int_max low low')
    → w ≤ℤ (int_min b b' -ℤ int_max a a')
same_part w low high low' high' a b a' b' e f e' f' h = omega (arith, ints, clamps)

touch_part : (low high low' high' a b a' b' : ℤ) → low ≡ a → high ≡ b → low' ≡ a' → high' ≡ b' → int_max a a' <ℤ int_min b b' → int_max low low' <ℤ int_min high high'
touch_part low high low' high' a b a' b' e f e' f' h = omega (arith, ints, clamps)

same_ends : (low high a b z : ℤ) → low ≡ a → high ≡ b → Within a b z → Within low high z
same_ends low high a b z e f h = record { from = omega (arith, ints); to = omega (arith, ints) }

module _ (cells : ℕ → ℤ → ℤ → Type 0) (masks : ℕ) (strips : List Placed) (are : AreStripsOf cells masks strips) where
  -- the row of a strip of the mask is a run of its cells
  run_of : (m i : ℕ) (y : ℤ) → IsStrip strips i → mask_of strips i ≡ m → Within (bottom_of strips i) (top_of strips i) y
      → IsRun (row_of (covered_by m strips) y) (left_of strips i) (right_of strips i)
  run_of m i y h e w = subst (λ k. IsRun (row_of (covered_by k strips) y) (left_of strips i) (right_of strips i)) e (are.whole_runs i h y w)

  -- a strip that is too narrow shows that the width rule is broken
  pub narrow_shows : (m : ℕ) (w : ℤ) (i : ℕ) (witness : Witness) → IsStrip strips i → IsNarrowOn m w (strip_at strips i) witness
      → ShowsWidthAlongRows w (covered_by m strips) witness
  narrow_shows m w i witness h narrow =
      shown (WidthBreachAlongRows w (covered_by m strips)) _ _ _ _ _ witness narrow.shown
      (inl (record {
        one_row = refl;
        run = subst (λ z. IsRun (row_of (covered_by m strips) (bottom_of strips i)) (left_of strips i) z) (one_before (right_of strips i))
            (run_of m i (bottom_of strips i) h narrow.on_mask (first_place _ _ (are.nonempty i h).upwards));
        cells_found = found_between (left_of strips i) (right_of strips i);
        short = narrow.short;
      }))

  -- a seam at which two share too little shows that it is broken
  pub contact_shows : (m : ℕ) (w : ℤ) (i j : ℕ) (witness : Witness) → IsSeam strips i j → ShareTooLittleOn m w (strip_at strips i) (strip_at strips j) witness
      → ShowsWidthAlongRows w (covered_by m strips) witness
  contact_shows m w i j witness seam little =
      let one = seam.one_mask in
      let row = top_of strips i -ℤ pos 1 in
      shown (WidthBreachAlongRows w (covered_by m strips)) _ _ _ _ _ witness little.shown
      (inr (record {
        row = row;
        low = left_of strips i;
        high = right_of strips i;
        low' = left_of strips j;
        high' = right_of strips j;
        run = run_of m i row one.first little.on_mask (last_place _ _ (are.nonempty i one.first).upwards);
        next_run = subst (λ z. IsRun (row_of (covered_by m strips) z) (left_of strips j) (right_of strips j)) (next_row (top_of strips i) (bottom_of strips j) seam.adjoin)
            (run_of m j (bottom_of strips j) one.second (sym one.one_mask ∙ little.on_mask) (first_place _ _ (are.nonempty j one.second).upwards));
        touch = little.common;
        first_end = refl;
        last_end = after_last (common_right (strip_at strips i).area (strip_at strips j).area);
        on_either_row = inl refl;
        one_row = refl;
        columns_found = found_between (common_left (strip_at strips i).area (strip_at strips j).area) (common_right (strip_at strips i).area (strip_at strips j).area);
        short = little.short;
      }))

  -- a mask whose strips are wide, and share enough with those that stand on them, keeps the width rule along rows
  pub wide_keeps : (m : ℕ) (w : ℤ) → AreWideOn m w strips → AreSharedOn m w strips → KeepsWidthAlongRows w (covered_by m strips)
  wide_keeps m w wide shared =
      let member = IsOfMask strips m in
      let box = box_of strips in
      let family = is_family cells masks strips are m in
      rows_alike (CoveredBy member box) (covered_by m strips)
      (record { to = λ x y. (covered_by_family strips m x y).1; from = λ x y. (covered_by_family strips m x y).0 }) w
      (record {
        runs = λ y a b run.
            let r = run_is_row member box family y a b run in
            wide_run w (box r.0).left (box r.0).right a b r.3 r.4 ((wide.wide r.0 (record { below_count = r.1.below })).wide r.1.of_mask);
        shared = λ y a b a' b' run run' touch.
            let r = run_is_row member box family y a b run in
            let q = run_is_row member box family (y +ℤ pos 1) a' b' run' in
            let x = int_max a a' in
            let h : HoldsCell member box r.0 x y = record { strip = r.1; cell = record { column = same_ends _ _ a b x r.3 r.4 (common_first a b a' b' touch); row = r.2 } } in
            let k : HoldsCell member box q.0 x (y +ℤ pos 1) = record { strip = q.1; cell = record { column = same_ends _ _ a' b' x q.3 q.4 (common_second a b a' b' touch); row = q.2 } } in
            elim (stands_above member box family r.0 q.0 x y h k) [
              | inl e ↦ wide_twice w (box r.0).left (box r.0).right a b a' b' r.3 r.4 (subst (λ i. (box i).left ≡ a') (sym e) q.3) (subst (λ i. (box i).right ≡ b') (sym e) q.4)
                  ((wide.wide r.0 (record { below_count = r.1.below })).wide r.1.of_mask)
              | inr stands ↦ same_part w (box r.0).left (box r.0).right (box q.0).left (box q.0).right a b a' b' r.3 r.4 q.3 q.4
                  ((shared.shared r.0 q.0 (stands_from_family cells masks strips are m r.0 q.0 stands)).enough r.1.of_mask
                  (touch_part (box r.0).left (box r.0).right (box q.0).left (box q.0).right a b a' b' r.3 r.4 q.3 q.4 touch))
            ];
      })

-- a narrow strip of the code
pub narrow_strip_shows : (cells : ℕ → ℤ → ℤ → Type 0) (masks : ℕ) (strips : List Strip) → AreStripsOf cells masks (map placed strips)
    → (m : ℕ) (w : ℤ) (i : ℕ) (strip : Strip) (witness : Witness) → i < length strips → strip ≡ get_or strips i strip → IsNarrowOn m w (placed strip) witness
    → ShowsWidthAlongRows w (covered_by m (map placed strips)) witness
narrow_strip_shows cells masks strips are m w i strip witness h is narrow =
    narrow_shows cells masks (map placed strips) are m w i witness (strip_there strips i h)
    (subst (λ (p : Placed). IsNarrowOn m w p witness) (sym (strip_is strips i strip h is)) narrow)

-- a wide strip of the code, by its number
pub wide_strip_is : (m : ℕ) (w : ℤ) (strips : List Strip) (i : ℕ) (strip : Strip) → i < length strips → strip ≡ get_or strips i strip → IsWideOn m w (placed strip)
    → IsWideOn m w (strip_at (map placed strips) i)
wide_strip_is m w strips i strip h is wide = subst (λ (p : Placed). IsWideOn m w p) (sym (strip_is strips i strip h is)) wide

-- strips that were all seen to be wide
pub wide_strips : (m : ℕ) (w : ℤ) (strips : List Strip) → ((i : ℕ) → i < length strips → IsWideOn m w (strip_at (map placed strips) i)) → AreWideOn m w (map placed strips)
wide_strips m w strips all = record { wide = λ i h. all i (strip_below strips i h) }

-- a seam of the code at which two share too little
pub narrow_seam_shows : (cells : ℕ → ℤ → ℤ → Type 0) (masks : ℕ) (strips : List Strip) → AreStripsOf cells masks (map placed strips)
    → (m : ℕ) (w : ℤ) (seam : Seam) (d e : Strip) (witness : Witness) → IsSeam (map placed strips) seam.below seam.above
    → ShareTooLittleOn m w (placed (get_or strips seam.below d)) (placed (get_or strips seam.above e)) witness
    → ShowsWidthAlongRows w (covered_by m (map placed strips)) witness
narrow_seam_shows cells masks strips are m w seam d e witness is_seam little =
    contact_shows cells masks (map placed strips) are m w seam.below seam.above witness is_seam
    (subst (λ (p : Placed). ShareTooLittleOn m w p (strip_at (map placed strips) seam.above) witness)
    (sym (placed_at strips seam.below d (strip_below strips seam.below is_seam.one_mask.first)))
    (subst (λ (p : Placed). ShareTooLittleOn m w (placed (get_or strips seam.below d)) p witness)
    (sym (placed_at strips seam.above e (strip_below strips seam.above is_seam.one_mask.second))) little))

-- the two strips of the seam share enough
pub record IsEnoughAt (m : ℕ) (w : ℤ) (strips : List Placed) (seam : Seam) : Type 0 where
  pub enough : ShareEnoughOn m w (strip_at strips seam.below) (strip_at strips seam.above)

-- a seam of the code at which two share enough, by their numbers
pub enough_seam_is : (m : ℕ) (w : ℤ) (strips : List Strip) (seam : Seam) (d e : Strip) → IsSeam (map placed strips) seam.below seam.above
    → ShareEnoughOn m w (placed (get_or strips seam.below d)) (placed (get_or strips seam.above e)) → IsEnoughAt m w (map placed strips) seam
enough_seam_is m w strips seam d e is_seam enough = record {
  enough = subst (λ (p : Placed). ShareEnoughOn m w p (strip_at (map placed strips) seam.above))
      (sym (placed_at strips seam.below d (strip_below strips seam.below is_seam.one_mask.first)))
      (subst (λ (p : Placed). ShareEnoughOn m w (placed (get_or strips seam.below d)) p)
      (sym (placed_at strips seam.above e (strip_below strips seam.above is_seam.one_mask.second))) enough);
}

-- the seam that the code reads at a number
abbrev pub seam_at : List Seam → ℕ → Seam
seam_at seams i = get_or seams i (record { below = 0; above = 0 })

-- is that of the number
pub seam_is : (seams : List Seam) (i : ℕ) → i < length seams → seam_at seams i ≡ get_or seams i (seam_at seams i)
seam_is seams i h = get_or_default seams i (record { below = 0; above = 0 }) (seam_at seams i) h

-- and is a seam
pub seam_there : (strips : List Placed) (seams : List Seam) → AreSeamsOf strips seams → (i : ℕ) → i < length seams
    → IsSeam strips (seam_at seams i).below (seam_at seams i).above
seam_there strips seams are i h = are.each (seam_at seams i) (i, h, sym (seam_is seams i h))

reach : (l r l' r' : ℤ) → int_max l l' <ℤ int_min r r' → (l ≤ℤ r') × (l' ≤ℤ r)
reach l r l' r' h = (omega (arith, ints, clamps), omega (arith, ints, clamps))

-- seams that were all seen to share enough
pub shared_seams : (m : ℕ) (w : ℤ) (strips : List Placed) (seams : List Seam) → AreSeamsOf strips seams → AllWithin (IsEnoughAt m w strips) seams 0 (length seams)
    → AreSharedOn m w strips
shared_seams m w strips seams are all = record {
  shared = λ i j stands.
      let over = reach (left_of strips i) (right_of strips i) (left_of strips j) (right_of strips j) stands.over.common in
      let seam : Seam = record { below = i; above = j } in
      let c = are.every i j (record { one_mask = stands.strips_of_one_mask; adjoin = stands.adjoin; first = over.0; second = over.1 }) in
      (subst (IsEnoughAt m w strips) c.2 (all c.0 seam (omega arith) c.1)).enough;
}

-- a search that finds nothing says what follows from that
pub none_gives : {P Q : Type 0} (S : Witness → Type 0) (found : Option Witness) → (P → Q) → MatchOption found P S → MatchOption found Q S
none_gives S (Some witness) f h = h
none_gives S None f h = f h

-- the strips with columns and rows exchanged have the exchanged cells
columns_alike : (cells : ℕ → ℤ → ℤ → Type 0) (masks : ℕ) (strips : List Placed) → AreStripsOf cells masks strips → (m : ℕ) → m < masks
    → AreAlike (covered_by m strips) (cells m)
columns_alike cells masks strips are m h = record { to = λ x y. (are.same_cells m x y h).1; from = λ x y. (are.same_cells m x y h).0 }

-- what is kept along rows by strips is kept by what they are strips of
pub kept_of_strips : (cells : ℕ → ℤ → ℤ → Type 0) (masks : ℕ) (strips : List Placed) → AreStripsOf cells masks strips → (m : ℕ) (w : ℤ) → m < masks
    → KeepsWidthAlongRows w (covered_by m strips) → KeepsWidthAlongRows w (cells m)
kept_of_strips cells masks strips are m w h keeps = rows_alike (covered_by m strips) (cells m) (columns_alike cells masks strips are m h) w keeps

-- what strips with columns and rows exchanged show, the exchanged witness shows
pub exchanged_shows : (cells : ℕ → ℤ → ℤ → Type 0) (masks : ℕ) (columns : List Placed) → AreStripsOf (λ m. transposed (cells m)) masks columns
    → (m : ℕ) (w : ℤ) → m < masks → (witness turned : Witness) → turned.p ≡ record { x = witness.p.y; y = witness.p.x } → turned.q ≡ record { x = witness.q.y; y = witness.q.x }
    → turned.found ≡ witness.found → ShowsWidthAlongRows w (covered_by m columns) witness → ShowsWidth w (cells m) turned
exchanged_shows cells masks columns are m w h witness turned p q n shows =
    let b = rows_breach_alike (transposed (cells m)) (covered_by m columns)
    (alike_back (covered_by m columns) (transposed (cells m)) (columns_alike (λ k. transposed (cells k)) masks columns are m h))
    w witness.p.x witness.p.y witness.q.x witness.q.y witness.found shows in
    inr (shown (λ x y u v number. WidthBreachAlongRows w (transposed (cells m)) y x v u number) witness.p.y witness.p.x witness.q.y witness.q.x witness.found turned
    (record {
      p_column = ap (λ (c : Cell). c.x) p;
      p_row = ap (λ (c : Cell). c.y) p;
      q_column = ap (λ (c : Cell). c.x) q;
      q_row = ap (λ (c : Cell). c.y) q;
      number_found = n;
    }) b)
