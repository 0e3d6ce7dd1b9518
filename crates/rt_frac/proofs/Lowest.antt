-- Two numbers over their greatest common divisor are the parts of their fraction in lowest terms.
use Rattle.std.proofs.Common.{◌≡◌, ℕ, zero, suc, ◌*◌, ◌/◌, ◌<◌, ◌≤◌, ℤ, pos, negsuc, neg_ℤ, ◌*ℤ◌, Bool, true, false, refl, sym, ap, subst, ◌∙◌, inl, inr, arith}
use Rattle.std.proofs.Math.Nat.{div-mul_cancel, dvd-mul_right, dvd-mul_left, mul-le-mul}
use Rattle.std.proofs.lemmas.Bool.{cases_lt}
use Rattle.std.proofs.lemmas.Int.{ints}
use Rattle.std.proofs.lemmas.Nat.Gcd.{le_of_dvd, dvd_refl}
use Rattle.std.specs.Int.{IsGcd, ◌∣◌}
use Rattle.std.specs.Int.RustNames.{unsigned_abs}
use Rattle.rt_frac.specs.declared.frac.Frac.{Frac}
use Rattle.rt_frac.specs.Fracs.{IsFrac, IsFracOf, signed_of, have_signs_differing}

one_divides : (n : ℕ) → 1 ∣ n
one_divides n = subst (λ m. 1 ∣ m) (omega arith) (dvd-mul_right 1 n)

regroup : (q d g : ℕ) → q * (d * g) ≡ q * d * g
regroup q d g = omega arith

two_are_more : (g m : ℕ) → 0 < g → 2 * g ≤ m → m ≤ g → ⊥
two_are_more g m h k l = omega (arith, h, k, l)

nothing : (g : ℕ) → 0 * g ≡ 0
nothing g = omega arith

nothing_behind : (q : ℕ) → q * 0 ≡ 0
nothing_behind q = omega arith

none_times : (q n g : ℕ) → 0 < g → n ≡ 0 → q * n ≡ g → ⊥
none_times q n g h e f = let k : q * n ≡ 0 = ap (λ m. q * m) e ∙ nothing_behind q in omega (arith, h, k, f)

exactly_one : (d : ℕ) → d ≤ 1 → (d ≡ 0 → ⊥) → d ≡ 1
exactly_one d h n = omega (arith, h, n)

no_product : (q g b : ℕ) → g ≡ 0 → 0 < b → q * g ≡ b → ⊥
no_product q g b e h f = none_times q g b h e f

no_quotient : (q g b : ℕ) → q ≡ 0 → 0 < b → q * g ≡ b → ⊥
no_quotient q g b e h f = let k : q * g ≡ 0 = ap (λ m. m * g) e ∙ nothing g in omega (arith, h, k, f)

-- a divisor of the quotient, times the divisor, divides
still_divides : (a g d : ℕ) → g ∣ a → d ∣ a / g → d * g ∣ a
still_divides a g d h k =
    subst (λ m. d * g ∣ m) (regroup (a / g / d) d g ∙ ap (λ m. m * g) (div-mul_cancel d k) ∙ div-mul_cancel g h) (dvd-mul_left (d * g) (a / g / d))

at_most_one : (d g : ℕ) → 0 < g → d * g ≤ g → d ≤ 1
at_most_one d g h k =
    elim (cases_lt 1 d) [
      | inl l ↦ absurd (two_are_more g (d * g) h (mul-le-mul {n₁ = 2} {m₁ = g} l (omega arith)) k)
      | inr m ↦ m
    ]

not_none : (d g : ℕ) → 0 < g → d ≡ 0 → d * g ∣ g → ⊥
not_none d g h e k = let f = div-mul_cancel (d * g) k in let n : d * g ≡ 0 = ap (λ m. m * g) e ∙ nothing g in none_times (g / (d * g)) (d * g) g h n f

-- over their greatest common divisor two numbers have none above 1
pub lowest : (a b g : ℕ) → IsGcd a b g → 0 < g → IsGcd (a / g) (b / g) 1
lowest a b g is h = (
  one_divides (a / g),
  one_divides (b / g),
  λ d k l.
      let m = is.2 (d * g) (still_divides a g d is.0 k) (still_divides b g d is.1 l) in
      let one : d ≡ 1 = exactly_one d (at_most_one d g h (le_of_dvd h m)) (λ e. not_none d g h e m) in
      subst (λ e. d ∣ e) one (dvd_refl d),
)

-- where one of them isn't 0 it's above 0
pub some_divisor : (b g : ℕ) → g ∣ b → 0 < b → 0 < g
some_divisor b g k h =
    elim (cases_lt 0 g) [
      | inl l ↦ l
      | inr m ↦ absurd (no_product (b / g) g b (omega (arith, m)) h (div-mul_cancel g k))
    ]

pub some_quotient : (b g : ℕ) → g ∣ b → 0 < b → 0 < b / g
some_quotient b g k h =
    elim (cases_lt 0 (b / g)) [
      | inl l ↦ l
      | inr m ↦ absurd (no_quotient (b / g) g b (omega (arith, m)) h (div-mul_cancel g k))
    ]

size_of : (n : ℕ) (negative : Bool) → unsigned_abs (signed_of n negative) ≡ n
size_of n false = refl
size_of zero true = refl
size_of (suc n) true = refl

negative_times : (g x a : ℕ) → x * g ≡ suc a → negsuc a ≡ pos g *ℤ neg_ℤ (pos x)
negative_times g zero a e = absurd (omega (arith, e))
negative_times g (suc x) a e = omega (arith, ints, e)

positive_times : (g x a : ℕ) → x * g ≡ a → pos a ≡ pos g *ℤ pos x
positive_times g x a e = omega (arith, ints, e)

both_negative : (g x a : ℕ) → x * g ≡ a → pos a ≡ neg_ℤ (pos g) *ℤ neg_ℤ (pos x)
both_negative zero x a e = omega (arith, ints, e)
both_negative (suc g) zero a e = omega (arith, ints, e)
both_negative (suc g) (suc x) a e = omega (arith, ints, e)

factor_negative : (g x a : ℕ) → x * g ≡ suc a → negsuc a ≡ neg_ℤ (pos g) *ℤ pos x
factor_negative zero x a e = absurd (omega (arith, e))
factor_negative (suc g) x a e = omega (arith, ints, e)

-- their parts
abbrev pub over : ℤ → ℤ → ℕ → Frac
over num den g = record { num = signed_of (unsigned_abs num / g) (have_signs_differing num den); den = pos (unsigned_abs den / g) }

is_frac : (num den : ℤ) (g : ℕ) → IsGcd (unsigned_abs num) (unsigned_abs den) g → 0 < unsigned_abs den → IsFrac (over num den g)
is_frac num den g is h = record {
  positive = let q = some_quotient (unsigned_abs den) g is.1 h in omega (arith, ints, q);
  lowest = subst (λ n. IsGcd n (unsigned_abs den / g) 1) (sym (size_of (unsigned_abs num / g) (have_signs_differing num den)))
      (lowest (unsigned_abs num) (unsigned_abs den) g is (some_divisor (unsigned_abs den) g is.1 h));
}

-- the fraction of two numbers, by their greatest common divisor
pub frac_over : (num den : ℤ) (g : ℕ) → IsGcd (unsigned_abs num) (unsigned_abs den) g → 0 < unsigned_abs den → IsFracOf num den (over num den g)
frac_over (pos a) (pos b) g is h = record {
  frac = is_frac (pos a) (pos b) g is h;
  factor = pos g;
  num_is = positive_times g (a / g) a (div-mul_cancel g is.0);
  den_is = positive_times g (b / g) b (div-mul_cancel g is.1);
}
frac_over (negsuc a) (pos b) g is h = record {
  frac = is_frac (negsuc a) (pos b) g is h;
  factor = pos g;
  num_is = negative_times g (suc a / g) a (div-mul_cancel g is.0);
  den_is = positive_times g (b / g) b (div-mul_cancel g is.1);
}
frac_over (pos a) (negsuc b) g is h = record {
  frac = is_frac (pos a) (negsuc b) g is h;
  factor = neg_ℤ (pos g);
  num_is = both_negative g (a / g) a (div-mul_cancel g is.0);
  den_is = factor_negative g (suc b / g) b (div-mul_cancel g is.1);
}
frac_over (negsuc a) (negsuc b) g is h = record {
  frac = is_frac (negsuc a) (negsuc b) g is h;
  factor = neg_ℤ (pos g);
  num_is = factor_negative g (suc a / g) a (div-mul_cancel g is.0);
  den_is = factor_negative g (suc b / g) b (div-mul_cancel g is.1);
}
