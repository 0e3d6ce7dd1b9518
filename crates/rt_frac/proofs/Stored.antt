-- What code makes of two numbers that fit.
use Rattle.std.proofs.Common.{◌≡◌, ℕ, zero, suc, ◌-◌, ◌/◌, ◌^◌, ◌<◌, ℤ, pos, negsuc, ◌+ℤ◌, ◌*ℤ◌, ◌≤ℤ◌, ◌<ℤ◌, Bool, false, Option, Some, None, sym, ap, subst, subst₂, ◌∙◌, FitsSigned, to_z, of_z, arith}
use Rattle.std.proofs.lemmas.Int.{ints, to_z-of_z}
use Rattle.std.specs.Int.{IsGcd}
use Rattle.std.specs.Int.RustNames.{unsigned_abs}
use Rattle.std.specs.Option.{MatchOption}
use mir.Syntax.{w128}
use Rattle.rt_frac.specs.declared.frac.Frac.{Frac}
use Rattle.rt_frac.specs.Fracs.{IsFracOf, HasFittingParts, HasNoFrac, signed_of, have_signs_differing}
use Rattle.rt_frac.specs.Fracs.HasNoFrac.{over_zero, too_wide}
use Rattle.rt_frac.proofs.Euclid.{some_size}
use Rattle.rt_frac.proofs.Lowest.{over, some_divisor, frac_over}

abbrev pub stored : ℤ → ℤ
stored z = to_z w128 (of_z w128 z)

module _ (num den : ℤ) (fn : FitsSigned w128 num) (fd : FitsSigned w128 den) (above below g : ℕ) (ea : above ≡ unsigned_abs (stored num)) (eb : below ≡ unsigned_abs (stored den))
    (is : IsGcd above below g) (some : of_z w128 den ≡ 0 → ⊥) where
  above_is : above ≡ unsigned_abs num
  above_is = ea ∙ ap unsigned_abs (to_z-of_z w128 num fn)

  below_is : below ≡ unsigned_abs den
  below_is = eb ∙ ap unsigned_abs (to_z-of_z w128 den fd)

  some_below : 0 < unsigned_abs den
  some_below = some_size den fd some

  pub divisor_some : 0 < g
  divisor_some = some_divisor below g is.1 (subst (λ n. 0 < n) (sym below_is) some_below)

  frac_there : IsFracOf num den (over num den g)
  frac_there = frac_over num den g (subst₂ (λ a b. IsGcd a b g) above_is below_is is) some_below

  top_is : (s : Bool) → s ≡ have_signs_differing (stored num) (stored den) → signed_of (above / g) s ≡ (over num den g).num
  top_is s e =
      let same : s ≡ have_signs_differing num den = e ∙ (λ i. have_signs_differing (to_z-of_z w128 num fn i) (to_z-of_z w128 den fd i)) in
      λ i. signed_of (above_is i / g) (same i)

  bottom_is : signed_of (below / g) false ≡ (over num den g).den
  bottom_is = λ i. signed_of (below_is i / g) false

  pub none_above : (s : Bool) → s ≡ have_signs_differing (stored num) (stored den) → (¬ FitsSigned w128 (signed_of (above / g) s)) → HasNoFrac num den
  none_above s e n = too_wide (over num den g) frac_there (λ fit. n (subst (FitsSigned w128) (sym (top_is s e)) fit.num))

  pub none_below : (¬ FitsSigned w128 (signed_of (below / g) false)) → HasNoFrac num den
  none_below n = too_wide (over num den g) frac_there (λ fit. n (subst (FitsSigned w128) (sym bottom_is) fit.den))

  pub found : (s : Bool) → s ≡ have_signs_differing (stored num) (stored den) → (top bottom : ℤ) → FitsSigned w128 (signed_of (above / g) s) × (top ≡ signed_of (above / g) s)
      → FitsSigned w128 (signed_of (below / g) false) × (bottom ≡ signed_of (below / g) false) → IsFracOf num den (record { num = stored top; den = stored bottom })
  found s e top bottom h k =
      let ft : FitsSigned w128 top = subst (FitsSigned w128) (sym h.1) h.0 in
      let fb : FitsSigned w128 bottom = subst (FitsSigned w128) (sym k.1) k.0 in
      let et : stored top ≡ (over num den g).num = to_z-of_z w128 top ft ∙ h.1 ∙ top_is s e in
      let eb' : stored bottom ≡ (over num den g).den = to_z-of_z w128 bottom fb ∙ k.1 ∙ bottom_is in
      subst₂ (λ n d. IsFracOf num den (record { num = n; den = d })) (sym et) (sym eb') frac_there

-- a product and a sum that code makes
pub product_is : (a b p : ℤ) → FitsSigned w128 a → FitsSigned w128 b → FitsSigned w128 (stored a *ℤ stored b) × (p ≡ stored a *ℤ stored b) → FitsSigned w128 p × (p ≡ a *ℤ b)
product_is a b p f g h = (subst (FitsSigned w128) (sym h.1) h.0, h.1 ∙ (λ i. to_z-of_z w128 a f i *ℤ to_z-of_z w128 b g i))

sum_chain : (p q x y : ℤ) → FitsSigned w128 p → FitsSigned w128 q → p ≡ x → q ≡ y → stored p +ℤ stored q ≡ x +ℤ y
sum_chain p q x y f g e d = λ i. (to_z-of_z w128 p f ∙ e) i +ℤ (to_z-of_z w128 q g ∙ d) i

pub no_sum : (p q x y : ℤ) → FitsSigned w128 p → FitsSigned w128 q → p ≡ x → q ≡ y → (¬ FitsSigned w128 (stored p +ℤ stored q)) → ¬ FitsSigned w128 (x +ℤ y)
no_sum p q x y f g e d n = λ h. n (subst (FitsSigned w128) (sym (sum_chain p q x y f g e d)) h)

pub sum_is : (p q x y s : ℤ) → FitsSigned w128 p → FitsSigned w128 q → p ≡ x → q ≡ y → FitsSigned w128 (stored p +ℤ stored q) × (s ≡ stored p +ℤ stored q) → FitsSigned w128 s × (s ≡ x +ℤ y)
sum_is p q x y s f g e d h = (subst (FitsSigned w128) (sym h.1) h.0, h.1 ∙ sum_chain p q x y f g e d)

lowest_of : (n : ℤ) → FitsSigned w128 n → negsuc (2 ^ 127 - 1) ≤ℤ n
lowest_of (pos m) f = omega (arith, ints)
lowest_of (negsuc m) f = omega (arith, ints, f.sfits)

highest_of : (n : ℤ) → FitsSigned w128 n → n ≤ℤ pos (2 ^ 127 - 1)
highest_of (pos m) f = omega (arith, ints, f.sfits)
highest_of (negsuc m) f = omega (arith, ints)

-- a number of which a multiple fits does so itself
shrinks : (k : ℕ) (z n : ℤ) → n ≡ pos (suc k) *ℤ z → FitsSigned w128 n → FitsSigned w128 z
shrinks k (pos x) n e f = let h = highest_of n f in record { sfits = omega (arith, ints, h, e) }
shrinks k (negsuc x) n e f = let l = lowest_of n f in record { sfits = omega (arith, ints, l, e) }

not_negative : (k : ℕ) (z n : ℤ) → pos 0 <ℤ n → pos 0 <ℤ z → n ≡ negsuc k *ℤ z → ⊥
not_negative k (pos m) n h g e = omega (arith, ints, h, e)
not_negative k (negsuc m) n h g e = omega (arith, ints, g)

both_fit : (factor : ℤ) (num den : ℤ) (f : Frac) → FitsSigned w128 num → FitsSigned w128 den → pos 0 <ℤ den → pos 0 <ℤ f.den → num ≡ factor *ℤ f.num → den ≡ factor *ℤ f.den → HasFittingParts f
both_fit (pos (suc k)) num den f fn fd h g e d = record { num = shrinks k f.num num e fn; den = shrinks k f.den den d fd }
both_fit (pos zero) num den f fn fd h g e d = absurd (omega (arith, ints, h, d))
both_fit (negsuc k) num den f fn fd h g e d = absurd (not_negative k f.den den h g d)

-- two numbers that fit, of which the second is above 0, have a fraction
pub always : (num den : ℤ) → FitsSigned w128 num → FitsSigned w128 den → pos 0 <ℤ den → HasNoFrac num den → ⊥
always num den fn fd h (over_zero e) = omega (arith, ints, h, e)
always num den fn fd h (too_wide f of n) = n (both_fit of.factor num den f fn fd h of.frac.positive of.num_is of.den_is)

pub made : (n d x y : ℤ) (found : Option Frac) (P : Type 0) → FitsSigned w128 n → FitsSigned w128 d → n ≡ x → d ≡ y → pos 0 <ℤ y
    → MatchOption found (HasNoFrac (stored n) (stored d)) (IsFracOf (stored n) (stored d)) → MatchOption found P (IsFracOf x y)
made n d x y None P fn fd e f h none =
    absurd (always n d fn fd (subst (λ z. pos 0 <ℤ z) (sym f) h) (subst₂ HasNoFrac (to_z-of_z w128 n fn) (to_z-of_z w128 d fd) none))
made n d x y (Some r) P fn fd e f h is = subst₂ (λ a b. IsFracOf a b r) (to_z-of_z w128 n fn ∙ e) (to_z-of_z w128 d fd ∙ f) is
