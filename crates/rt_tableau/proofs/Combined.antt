-- The numbers of a combined line.
use Rattle.std.proofs.Common.{◌≡◌, ℕ, suc, ◌+◌, ◌<◌, ◌≤◌, ℤ, pos, negsuc, neg_ℤ, ◌+ℤ◌, ◌-ℤ◌, ◌*ℤ◌, List, [], ◌∷◌, ◌++◌, length, max, sym, ap, subst, ◌∙◌, inl, inr, FitsSigned, to_z, of_z, length-append, arith}
use Rattle.std.proofs.Math.ListN.{get_or-eq_default}
use Rattle.std.proofs.Math.Seq.{get_or-append_seam}
use Rattle.std.proofs.lemmas.Bool.{cases_lt}
use Rattle.std.proofs.lemmas.Int.{ints, to_z-of_z, fits_signed_from_abs}
use Rattle.std.proofs.lemmas.List.{get_or_append_left}
use mir.Syntax.{w64, w128}
use Rattle.rt_rows.specs.Known.{IsSmall, IsProduct}
use Rattle.rt_rows.proofs.Products.{small_product, product_fits, small_fits_64}
use Rattle.rt_solved.proofs.Totals.{sign_out}
use Rattle.rt_tableau.specs.Numbers.{number_of, AreSmall, IsWide, combined_at, AreCombined}
use Rattle.rt_tableau.proofs.Quotients.{wide_stored}

abbrev pub stored : ℤ → ℤ
stored z = to_z w128 (of_z w128 z)

pub small_fits : (z : ℤ) → IsSmall z → FitsSigned w128 z
small_fits (pos n) h = record { sfits = omega (arith, ints, h.high) }
small_fits (negsuc n) h = record { sfits = omega (arith, ints, h.low) }

-- a number that code widens
pub wide_read : (z r : ℤ) → IsSmall z → r ≡ to_z w64 (of_z w64 z) → stored r ≡ z
wide_read z r h e = ap stored (e ∙ to_z-of_z w64 z (small_fits_64 z h)) ∙ to_z-of_z w128 z (small_fits z h)

difference_wide : (u v : ℤ) → IsProduct u → IsProduct v → IsWide (u -ℤ v)
difference_wide u v h g = record { within = omega (arith, ints, h.low, h.high, g.low, g.high) }

module _ (a b x y ra rb rx ry : ℤ) (ha : IsSmall a) (hb : IsSmall b) (hx : IsSmall x) (hy : IsSmall y) (ea : ra ≡ to_z w64 (of_z w64 a)) (eb : rb ≡ to_z w64 (of_z w64 b))
    (ex : rx ≡ to_z w64 (of_z w64 x)) (ey : ry ≡ to_z w64 (of_z w64 y)) where
  first_is : stored (stored rb *ℤ stored ry) ≡ b *ℤ y
  first_is = (λ i. stored (wide_read b rb hb eb i *ℤ wide_read y ry hy ey i)) ∙ to_z-of_z w128 (b *ℤ y) (product_fits (b *ℤ y) (small_product b y hb hy))

  second_is : stored (stored ra *ℤ stored rx) ≡ a *ℤ x
  second_is = (λ i. stored (wide_read a ra ha ea i *ℤ wide_read x rx hx ex i)) ∙ to_z-of_z w128 (a *ℤ x) (product_fits (a *ℤ x) (small_product a x ha hx))

  wide : IsWide (b *ℤ y -ℤ a *ℤ x)
  wide = difference_wide (b *ℤ y) (a *ℤ x) (small_product b y hb hy) (small_product a x ha hx)

  fits : FitsSigned w128 (b *ℤ y -ℤ a *ℤ x)
  fits = fits_signed_from_abs w128 (b *ℤ y -ℤ a *ℤ x) (omega (arith, wide.within))

  pub crossed_fits : FitsSigned w128 (stored (stored rb *ℤ stored ry) -ℤ stored (stored ra *ℤ stored rx))
  crossed_fits = subst (FitsSigned w128) (λ i. sym first_is i -ℤ sym second_is i) fits

  crossed_difference : stored (stored (stored rb *ℤ stored ry) -ℤ stored (stored ra *ℤ stored rx)) ≡ b *ℤ y -ℤ a *ℤ x
  crossed_difference = (λ i. stored (first_is i -ℤ second_is i)) ∙ to_z-of_z w128 (b *ℤ y -ℤ a *ℤ x) fits

  pub crossed_is : stored (stored (stored rb *ℤ stored ry) -ℤ stored (stored ra *ℤ stored rx)) ≡ neg_ℤ a *ℤ x +ℤ b *ℤ y
  crossed_is = crossed_difference ∙ omega (arith, ints, sign_out a x)

  pub crossed_wide : IsWide (stored (stored (stored rb *ℤ stored ry) -ℤ stored (stored ra *ℤ stored rx)))
  crossed_wide = subst IsWide (sym crossed_difference) wide

-- what the loop keeps: the numbers so far
pub record AreCombinedSoFar (line pivot : List ℤ) (q : ℕ) (values : List ℤ) (i : ℕ) : Type 0 where
  pub one_each : length values ≡ i
  pub each : (s : ℕ) → s < i → number_of values s ≡ combined_at line pivot q s
  pub wide : (s : ℕ) → s < i → IsWide (number_of values s)

pub combined_further : (line pivot : List ℤ) (q : ℕ) (values : List ℤ) (i : ℕ) (next : ℤ) → AreCombinedSoFar line pivot q values i → next ≡ combined_at line pivot q i → IsWide next
    → AreCombinedSoFar line pivot q (values ++ next ∷ []) (i + 1)
combined_further line pivot q values i next so e w = record {
  one_each = length-append values (next ∷ []) ∙ ap (λ n. n + 1) so.one_each;
  each = λ s h. reached s h (λ t z. z ≡ combined_at line pivot q t) so.each e;
  wide = λ s h. reached s h (λ t z. IsWide z) so.wide w;
}
  where
    reached : (s : ℕ) → s < i + 1 → (P : ℕ → ℤ → Type 0) → ((t : ℕ) → t < i → P t (number_of values t)) → P i next → P s (number_of (values ++ next ∷ []) s)
    reached s h P before last =
        elim (cases_lt s i) [
          | inl l ↦ subst (P s) (sym (get_or_append_left values (next ∷ []) (pos 0) s (omega (arith, l, so.one_each)))) (before s l)
          | inr g ↦ at_last (omega (arith, g, h))
        ]
      where
        at_last : s ≡ i → P s (number_of (values ++ next ∷ []) s)
        at_last f =
            subst (λ t. P t (number_of (values ++ next ∷ []) t)) (sym f)
            (subst (P i) (sym (ap (number_of (values ++ next ∷ [])) (sym so.one_each) ∙ get_or-append_seam values next [] (pos 0))) last)

pub small_read : (z r : ℤ) → IsSmall z → r ≡ z → to_z w64 (of_z w64 r) ≡ z
small_read z r h e = ap (λ t. to_z w64 (of_z w64 t)) e ∙ to_z-of_z w64 z (small_fits_64 z h)

-- a turn of the loop, as code makes it
pub combined_turn : (line pivot : List ℤ) (q : ℕ) (values new : List ℤ) (i : ℕ) (a b x y next : ℤ) → AreSmall line → AreSmall pivot → AreCombinedSoFar line pivot q values i
    → a ≡ number_of pivot (q + 1) → b ≡ number_of line (q + 1) → x ≡ number_of line i → y ≡ number_of pivot i
    → next ≡ neg_ℤ (to_z w64 (of_z w64 a)) *ℤ to_z w64 (of_z w64 x) +ℤ to_z w64 (of_z w64 b) *ℤ to_z w64 (of_z w64 y) → IsWide next → new ≡ values ++ stored next ∷ []
    → AreCombinedSoFar line pivot q new (i + 1)
combined_turn line pivot q values new i a b x y next hl hp so ea eb ex ey en w ev =
    let q' : q + 1 ≡ suc q = omega arith in
    let a' = small_read (number_of pivot (suc q)) a (hp.each (suc q)) (ea ∙ ap (number_of pivot) q') in
    let b' = small_read (number_of line (suc q)) b (hl.each (suc q)) (eb ∙ ap (number_of line) q') in
    let x' = small_read (number_of line i) x (hl.each i) ex in
    let y' = small_read (number_of pivot i) y (hp.each i) ey in
    let is : next ≡ combined_at line pivot q i = en ∙ (λ j. neg_ℤ (a' j) *ℤ x' j +ℤ b' j *ℤ y' j) in
    subst (λ xs. AreCombinedSoFar line pivot q xs (i + 1)) (sym ev)
    (combined_further line pivot q values i (stored next) so (wide_stored next w ∙ is) (subst IsWide (sym (wide_stored next w)) w))

nothing_combined : (a b x y : ℤ) → x ≡ pos 0 → y ≡ pos 0 → pos 0 ≡ a *ℤ x +ℤ b *ℤ y
nothing_combined a b x y e f = omega (arith, ints, ap (λ z. a *ℤ z) e, ap (λ z. b *ℤ z) f)

nothing_wide : IsWide (pos 0)
nothing_wide = record { within = omega arith }

pub combined_at_last : (line pivot : List ℤ) (q : ℕ) (values : List ℤ) (i : ℕ) → AreCombinedSoFar line pivot q values i → i ≤ max (length line) (length pivot)
    → max (length line) (length pivot) ≤ i → AreCombined line pivot q values
combined_at_last line pivot q values i so h g = record {
  each = λ s. reached s (λ t z. z ≡ combined_at line pivot q t) so.each (λ k. nothing_combined _ _ _ _ (get_or-eq_default line (pos 0) (omega (arith, g, k))) (get_or-eq_default pivot (pos 0) (omega (arith, g, k))));
  wide = record { each = λ s. reached s (λ t z. IsWide z) so.wide (λ k. nothing_wide) };
}
  where
    reached : (s : ℕ) (P : ℕ → ℤ → Type 0) → ((t : ℕ) → t < i → P t (number_of values t)) → (i ≤ s → P s (pos 0)) → P s (number_of values s)
    reached s P before beyond =
        elim (cases_lt s i) [
          | inl l ↦ before s l
          | inr k ↦ subst (P s) (sym (get_or-eq_default values (pos 0) (omega (arith, so.one_each, k)))) (beyond k)
        ]
