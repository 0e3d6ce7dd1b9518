-- Two numbers have one fraction in lowest terms.
use Rattle.std.proofs.Common.{◌≡◌, ℕ, zero, suc, ◌*◌, ◌/◌, ◌%◌, ◌<◌, ◌≤◌, ℤ, pos, negsuc, ◌*ℤ◌, ◌≤ℤ◌, ◌<ℤ◌, refl, sym, ap, subst, ◌∙◌, arith}
use Rattle.std.proofs.Math.Nat.{div-mul_cancel, mul-div_cancel, dvd-mul_right, dvd-mul_left}
use Rattle.std.proofs.lemmas.Int.{ints, unsigned_abs-mul}
use Rattle.std.proofs.lemmas.Nat.Gcd.{IsGcd-from_zero, IsGcd-from_mod, le_of_dvd}
use Rattle.std.specs.Int.{IsGcd, ◌∣◌}
use Rattle.std.specs.Int.RustNames.{unsigned_abs}
use Rattle.rt_cells.proofs.Lines.{antisymmetric}
use Rattle.rt_cells.proofs.Times.{times_cancel_le}
use Rattle.rt_frac.specs.Fracs.{OneFraction}

-- two numbers have a greatest common divisor
has_divisor : (n a b : ℕ) → b ≤ n → (g : ℕ) × IsGcd a b g
has_divisor zero a b h = (a, IsGcd-from_zero a b (omega (arith, h)))
has_divisor (suc n) a zero h = (a, IsGcd-from_zero a zero refl)
has_divisor (suc n) a (suc b) h = let r = has_divisor n (suc b) (a % suc b) (omega (arith, h)) in (r.0, IsGcd-from_mod a (suc b) r.0 r.1)

cancelled : (x y k : ℕ) → 0 < k → x * k ≡ y * k → x ≡ y
cancelled x y k h e = sym (mul-div_cancel x h) ∙ ap (λ m. m / k) e ∙ mul-div_cancel y h

regrouped : (q m k : ℕ) → q * m * k ≡ q * (m * k)
regrouped q m k = omega arith

exchanged : (k n : ℕ) → k * n ≡ n * k
exchanged k n = omega arith

divides_part : (k n m g a : ℕ) → 0 < k → m * k ≡ g → a ≡ k * n → g ∣ a → m ∣ n
divides_part k n m g a h e f d =
    subst (λ t. m ∣ t) (cancelled (a / g * m) n k h (regrouped (a / g) m k ∙ ap (λ t. a / g * t) e ∙ div-mul_cancel g d ∙ f ∙ exchanged k n)) (dvd-mul_left m (a / g))

none_divides : (m q : ℕ) → m ≡ 0 → q * m ≡ 1 → ⊥
none_divides m q e f = let z : q * m ≡ q * 0 = ap (λ t. q * t) e in let n : q * 0 ≡ 0 = omega arith in omega (arith, z, n, f)

one_or_none : (m : ℕ) → m ≤ 1 → (m ≡ 0 → ⊥) → m ≡ 1
one_or_none m h n = omega (arith, h, n)

one_time : (k : ℕ) → 1 * k ≡ k
one_time k = omega arith

-- the factor is the greatest common divisor
factor_is : (k n d a b g : ℕ) → 0 < k → IsGcd n d 1 → a ≡ k * n → b ≡ k * d → IsGcd a b g → k ≡ g
factor_is k n d a b g h one ea eb is =
    let there = is.2 k (subst (λ t. k ∣ t) (sym ea) (dvd-mul_right k n)) (subst (λ t. k ∣ t) (sym eb) (dvd-mul_right k d)) in
    let m = g / k in
    let e : m * k ≡ g = div-mul_cancel k there in
    let unit : m ∣ 1 = one.2 m (divides_part k n m g a h e ea is.0) (divides_part k d m g b h e eb is.1) in
    let single : m ≡ 1 = one_or_none m (le_of_dvd (omega arith) unit) (λ z. none_divides m (1 / m) z (div-mul_cancel m unit)) in
    sym (one_time k) ∙ ap (λ t. t * k) (sym single) ∙ e

some_factor : (k z n : ℤ) → n ≡ k *ℤ z → (n ≡ pos 0 → ⊥) → 0 < unsigned_abs k
some_factor (pos zero) z n e h = absurd (h (omega (arith, ints, e)))
some_factor (pos (suc k)) z n e h = omega arith
some_factor (negsuc k) z n e h = omega arith

not_both : (a b : ℕ) (y z n : ℤ) → 0 < a → pos 0 <ℤ y → pos 0 <ℤ z → n ≡ pos a *ℤ y → n ≡ negsuc b *ℤ z → ⊥
not_both a b (pos y) (pos z) n h g k e f = omega (arith, ints, h, g, k, e, f)
not_both a b (negsuc y) z n h g k e f = omega (arith, ints, g)
not_both a b (pos y) (negsuc z) n h g k e f = omega (arith, ints, k)

-- factors of one size are one
one_factor : (k l y z n : ℤ) → unsigned_abs k ≡ unsigned_abs l → 0 < unsigned_abs k → pos 0 <ℤ y → pos 0 <ℤ z → n ≡ k *ℤ y → n ≡ l *ℤ z → k ≡ l
one_factor (pos a) (pos b) y z n e h g k d f = ap pos e
one_factor (negsuc a) (negsuc b) y z n e h g k d f = ap negsuc (omega (arith, e))
one_factor (pos a) (negsuc b) y z n e h g k d f = absurd (not_both a b y z n h g k d f)
one_factor (negsuc a) (pos b) y z n e h g k d f = absurd (not_both b a z y n (omega (arith, e)) k g f d)

opposite : (a : ℕ) (x y : ℤ) → negsuc a *ℤ x ≡ negsuc a *ℤ y → pos (suc a) *ℤ x ≡ pos (suc a) *ℤ y
opposite a (pos x) (pos y) e = omega (arith, ints, e)
opposite a (pos x) (negsuc y) e = omega (arith, ints, e)
opposite a (negsuc x) (pos y) e = omega (arith, ints, e)
opposite a (negsuc x) (negsuc y) e = omega (arith, ints, e)

no_less : (p q : ℤ) → p ≡ q → p ≤ℤ q
no_less p q e = omega (arith, ints, e)

by_positive : (a : ℕ) (x y : ℤ) → pos (suc a) *ℤ x ≡ pos (suc a) *ℤ y → x ≡ y
by_positive a x y e =
    antisymmetric x y (times_cancel_le (pos (suc a)) x y (omega (arith, ints)) (no_less _ _ e)) (times_cancel_le (pos (suc a)) y x (omega (arith, ints)) (no_less _ _ (sym e)))

by_factor : (k x y : ℤ) → 0 < unsigned_abs k → k *ℤ x ≡ k *ℤ y → x ≡ y
by_factor (pos zero) x y h e = absurd (omega (arith, h))
by_factor (pos (suc a)) x y h e = by_positive a x y e
by_factor (negsuc a) x y h e = by_positive a x y (opposite a x y e)

pub one_fraction_each : OneFraction
one_fraction_each num den f g some of of' =
    let d = has_divisor (unsigned_abs den) (unsigned_abs num) (unsigned_abs den) (omega arith) in
    let first = some_factor of.factor f.den den of.den_is some in
    let second = some_factor of'.factor g.den den of'.den_is some in
    let e = factor_is (unsigned_abs of.factor) (unsigned_abs f.num) (unsigned_abs f.den) (unsigned_abs num) (unsigned_abs den) d.0 first of.frac.lowest
    (ap unsigned_abs of.num_is ∙ unsigned_abs-mul of.factor f.num) (ap unsigned_abs of.den_is ∙ unsigned_abs-mul of.factor f.den) d.1 in
    let e' = factor_is (unsigned_abs of'.factor) (unsigned_abs g.num) (unsigned_abs g.den) (unsigned_abs num) (unsigned_abs den) d.0 second of'.frac.lowest
    (ap unsigned_abs of'.num_is ∙ unsigned_abs-mul of'.factor g.num) (ap unsigned_abs of'.den_is ∙ unsigned_abs-mul of'.factor g.den) d.1 in
    let same = one_factor of.factor of'.factor f.den g.den den (e ∙ sym e') first of.frac.positive of'.frac.positive of.den_is of'.den_is in
    let nums = by_factor of.factor f.num g.num first (sym of.num_is ∙ of'.num_is ∙ ap (λ k. k *ℤ g.num) (sym same)) in
    let dens = by_factor of.factor f.den g.den first (sym of.den_is ∙ of'.den_is ∙ ap (λ k. k *ℤ g.den) (sym same)) in
    λ i. record { num = nums i; den = dens i }
