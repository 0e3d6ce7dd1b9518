-- The numbers that exponents and fractions say.
use Rattle.std.proofs.Common.{◌≡◌, ℕ, zero, suc, ◌+◌, ◌*◌, ◌^◌, ◌<◌, Bool, true, false, MatchBool, ℤ, pos, ◌≤ℤ◌, unsigned_abs, List, length, refl, sym, ap, ◌∙◌, subst, arith, lit<}
use Rattle.std.proofs.Math.Nat.{mul_assoc, one-le-pow, eq_of_mul-eq-mul_right}
use Rattle.std.proofs.lemmas.Nat.{pow-add}
use Rattle.std.proofs.lemmas.Int.{ints}
use Rattle.gds_records.specs.Reals.{is_negative, exponent, fraction, signed, IsMagnitude, IsReal}

pub power_positive : (k : ℕ) → 0 < 16 ^ k
power_positive k = one-le-pow k 16 (lit< tt)

-- below the exponent of whole numbers the fraction loses places
places_lost : (a e d f n : ℕ) → e + d ≡ a → f * 16 ^ e ≡ n * 16 ^ a → f ≡ n * 16 ^ d
places_lost a e d f n same equal =
    eq_of_mul-eq-mul_right (16 ^ e) (power_positive e) f (n * 16 ^ d)
    (equal ∙ ap (λ (k : ℕ). n * 16 ^ k) (omega arith) ∙ ap (λ (p : ℕ). n * p) (pow-add 16 d e) ∙ sym (mul_assoc n (16 ^ d) (16 ^ e)))

places_lost_back : (a e d f n : ℕ) → e + d ≡ a → f ≡ n * 16 ^ d → f * 16 ^ e ≡ n * 16 ^ a
places_lost_back a e d f n same equal =
    ap (λ (x : ℕ). x * 16 ^ e) equal ∙ mul_assoc n (16 ^ d) (16 ^ e) ∙ ap (λ (p : ℕ). n * p) (sym (pow-add 16 d e)) ∙ ap (λ (k : ℕ). n * 16 ^ k) (omega arith)

-- above it the fraction gets places
places_won : (a e d f n : ℕ) → e ≡ d + a → f * 16 ^ e ≡ n * 16 ^ a → n ≡ f * 16 ^ d
places_won a e d f n same equal =
    eq_of_mul-eq-mul_right (16 ^ a) (power_positive a) n (f * 16 ^ d)
    (sym equal ∙ ap (λ (k : ℕ). f * 16 ^ k) same ∙ ap (λ (p : ℕ). f * p) (pow-add 16 d a) ∙ sym (mul_assoc f (16 ^ d) (16 ^ a)))

places_won_back : (a e d f n : ℕ) → e ≡ d + a → n ≡ f * 16 ^ d → f * 16 ^ e ≡ n * 16 ^ a
places_won_back a e d f n same equal =
    ap (λ (k : ℕ). f * 16 ^ k) same ∙ ap (λ (p : ℕ). f * p) (pow-add 16 d a) ∙ sym (mul_assoc f (16 ^ d) (16 ^ a)) ∙ ap (λ (x : ℕ). x * 16 ^ a) (sym equal)

pub low : (e d f n : ℕ) → e + d ≡ 78 → IsMagnitude e f n → f ≡ n * 16 ^ d
low e d f n same is = places_lost 78 e d f n same is.equal

pub low_back : (e d f n : ℕ) → e + d ≡ 78 → f ≡ n * 16 ^ d → IsMagnitude e f n
low_back e d f n same is = record { equal = places_lost_back 78 e d f n same is }

pub high : (e d f n : ℕ) → e ≡ d + 78 → IsMagnitude e f n → n ≡ f * 16 ^ d
high e d f n same is = places_won 78 e d f n same is.equal

pub high_back : (e d f n : ℕ) → e ≡ d + 78 → n ≡ f * 16 ^ d → IsMagnitude e f n
high_back e d f n same is = record { equal = places_won_back 78 e d f n same is }

-- ---- one value

pub one_number : (e f m n : ℕ) → IsMagnitude e f m → IsMagnitude e f n → m ≡ n
one_number e f m n a b = eq_of_mul-eq-mul_right (2 ^ 56 * 16 ^ 64) (lit< tt) m n (sym a.equal ∙ b.equal)

one_sign : (negative : Bool) (v w : ℤ) → unsigned_abs v ≡ unsigned_abs w → MatchBool negative (v ≤ℤ pos 0) (pos 0 ≤ℤ v) → MatchBool negative (w ≤ℤ pos 0) (pos 0 ≤ℤ w) → v ≡ w
one_sign true v w e a b = omega (arith, ints)
one_sign false v w e a b = omega (arith, ints)

pub one_value : (bytes : List ℕ) (v w : ℤ) → IsReal bytes v → IsReal bytes w → v ≡ w
one_value bytes v w a b =
    one_sign (is_negative bytes) v w (one_number (exponent bytes) (fraction bytes) (unsigned_abs v) (unsigned_abs w) a.magnitude b.magnitude) a.sign b.sign

-- the number with the sign is the value
signed_size : (negative : Bool) (n : ℕ) → unsigned_abs (signed negative n) ≡ n
signed_size true zero = refl
signed_size true (suc n) = refl
signed_size false n = refl

signed_sign : (negative : Bool) (n : ℕ) → MatchBool negative (signed negative n ≤ℤ pos 0) (pos 0 ≤ℤ signed negative n)
signed_sign true n = omega (arith, ints)
signed_sign false n = omega (arith, ints)

pub value_signed : (bytes : List ℕ) (n : ℕ) → length bytes ≡ 8 → IsMagnitude (exponent bytes) (fraction bytes) n → IsReal bytes (signed (is_negative bytes) n)
value_signed bytes n eight is = record {
  eight = eight;
  magnitude = subst (IsMagnitude (exponent bytes) (fraction bytes)) (sym (signed_size (is_negative bytes) n)) is;
  sign = signed_sign (is_negative bytes) n;
}
