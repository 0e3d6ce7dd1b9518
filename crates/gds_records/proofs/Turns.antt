-- Numbers of quarter turns, and what is answered of a number of places.
use Rattle.std.proofs.Common.{◌≡◌, ◌≢◌, ℕ, zero, suc, ◌-◌, ◌*◌, ◌/◌, ◌%◌, ◌^◌, ◌<◌, ◌≤◌, Bool, true, false, cond, Option, Some, None, MatchOption, ℤ, pos, ◌*ℤ◌, unsigned_abs, List, length, refl, sym, ap, ◌∙◌, subst, subst₂, arith}
use Rattle.std.specs.Int.{int_rem_euclid}
use Rattle.std.proofs.Math.Nat.{pow-suc, mul_assoc}
use Rattle.std.proofs.lemmas.Int.{ints, unsigned_abs-mul}
use Rattle.gds_records.specs.Reals.{is_negative, exponent, fraction, signed, IsMagnitude, IsReal, IsQuarterTurns}
use Rattle.gds_records.proofs.Magnitudes.{low, low_back, high, high_back, one_number, value_signed}

-- ---- a number of places

pub grown_magnitude : (e f : ℕ) (o : Option ℕ) → 78 < e → MatchOption o (2 ^ 31 < f * 16 ^ (e - 78)) (λ n. (n ≡ f * 16 ^ (e - 78)) × (n ≤ 2 ^ 31))
    → MatchOption o ((n : ℕ) → IsMagnitude e f n → n ≤ 2 ^ 31 → ⊥) (λ n. IsMagnitude e f n × (n ≤ 2 ^ 31))
grown_magnitude e f None above far = λ n is within. absurd (omega (arith, high e (e - 78) f n (omega arith) is))
grown_magnitude e f (Some n) above near = (high_back e (e - 78) f n (omega arith) near.0, near.1)

pub shrunk_none : (e f : ℕ) → e ≤ 78 → ((n : ℕ) → f ≢ n * 16 ^ (78 - e)) → (n : ℕ) → IsMagnitude e f n → ⊥
shrunk_none e f within none n is = none n (low e (78 - e) f n (omega arith) is)

pub shrunk_some : (e f n : ℕ) → e ≤ 78 → f ≡ n * 16 ^ (78 - e) → IsMagnitude e f n
shrunk_some e f n within same = low_back e (78 - e) f n (omega arith) same

-- ---- quarters of a number

-- 16 and 45 have no factor in common
drops_one : (x k : ℕ) → x * 16 ≡ 45 * k → x ≡ 45 * (x / 45)
drops_one x k same = omega arith

drops : (d f k : ℕ) → f * 16 ^ d ≡ 45 * k → f % 45 ≡ 0
drops zero f k same = omega arith
drops (suc d) f k same =
    drops d f (f * 16 ^ d / 45) (drops_one (f * 16 ^ d) k (mul_assoc f (16 ^ d) 16 ∙ ap (λ p. f * p) (sym (pow-suc 16 d)) ∙ same))

pub quarters_large : (e f : ℕ) → 78 < e → f % 45 ≡ 0 → (q : ℕ) × IsMagnitude e f (90 * q) × (0 ≡ q % 4)
quarters_large e f above whole =
    let d : ℕ = e - 79 in
    let g : ℕ = f / 45 in
    let p : ℕ = 16 ^ d in
    let product : 90 * (8 * (g * p)) ≡ (g * 45) * (p * 16) = omega arith in
    let parts : g * 45 ≡ f = omega arith in (
      8 * (g * p),
      high_back e (suc d) f (90 * (8 * (g * p))) (omega arith) (product ∙ ap (λ x. x * (p * 16)) parts ∙ ap (λ x. f * x) (sym (pow-suc 16 d))),
      omega arith,
    )

pub quarters_large_none : (e f : ℕ) → 78 < e → f % 45 ≢ 0 → (q : ℕ) → IsMagnitude e f (90 * q) → ⊥
quarters_large_none e f above rest q is = rest (drops (e - 78) f (2 * q) (omega (arith, high e (e - 78) f (90 * q) (omega arith) is)))

pub quarters_some : (e f n : ℕ) → IsMagnitude e f n → n % 90 ≡ 0 → (q : ℕ) × IsMagnitude e f (90 * q) × (n / 90 % 4 ≡ q % 4)
quarters_some e f n is whole = let same : n ≡ 90 * (n / 90) = omega arith in (n / 90, subst (IsMagnitude e f) same is, refl)

pub quarters_none : (e f n : ℕ) → IsMagnitude e f n → n % 90 ≢ 0 → (q : ℕ) → IsMagnitude e f (90 * q) → ⊥
quarters_none e f n is rest q other = rest (omega (arith, one_number e f n (90 * q) is other))

-- ---- with the sign

quarters_signed : (negative : Bool) (q : ℕ) → pos 90 *ℤ signed negative q ≡ signed negative (90 * q)
quarters_signed true zero = refl
quarters_signed true (suc q) = omega (arith, ints)
quarters_signed false q = refl

-- what is left beside whole turns
abbrev pub turned : Bool → ℕ → ℕ
turned negative t = cond negative ((4 - t) % 4) t

beside_signed : (negative : Bool) (q : ℕ) → pos (turned negative (q % 4)) ≡ int_rem_euclid (signed negative q) (pos 4)
beside_signed true zero = refl
beside_signed true (suc q) = let same : (4 - suc q % 4) % 4 ≡ 4 - 1 - q % 4 = omega arith in ap pos same
beside_signed false q = refl

pub quarter_turns_signed : (bytes : List ℕ) (e f t : ℕ) → length bytes ≡ 8 → e ≡ exponent bytes → f ≡ fraction bytes → (q : ℕ) × IsMagnitude e f (90 * q) × (t ≡ q % 4) → IsQuarterTurns bytes (turned (is_negative bytes) t)
quarter_turns_signed bytes e f t eight same_e same_f some =
    let negative : Bool = is_negative bytes in
    let is : IsMagnitude (exponent bytes) (fraction bytes) (90 * some.0) = subst₂ (λ x y. IsMagnitude x y (90 * some.0)) same_e same_f some.1 in
    record {
      quarters = signed negative some.0;
      degrees = subst (IsReal bytes) (sym (quarters_signed negative some.0)) (value_signed bytes (90 * some.0) eight is);
      beside = ap (λ n. pos (turned negative n)) some.2 ∙ beside_signed negative some.0;
    }

pub no_quarter_turns : (bytes : List ℕ) (e f : ℕ) → e ≡ exponent bytes → f ≡ fraction bytes → ((q : ℕ) → IsMagnitude e f (90 * q) → ⊥) → (q : ℤ) → IsReal bytes (pos 90 *ℤ q) → ⊥
no_quarter_turns bytes e f same_e same_f none q real =
    none (unsigned_abs q) (subst₂ (λ x y. IsMagnitude x y (90 * unsigned_abs q)) (sym same_e) (sym same_f) (subst (IsMagnitude (exponent bytes) (fraction bytes)) (unsigned_abs-mul (pos 90) q) real.magnitude))

pub no_whole : (bytes : List ℕ) (e f : ℕ) → e ≡ exponent bytes → f ≡ fraction bytes → ((n : ℕ) → IsMagnitude e f n → n ≤ 2 ^ 31 → ⊥) → (v : ℤ) → IsReal bytes v → unsigned_abs v ≤ 2 ^ 31 → ⊥
no_whole bytes e f same_e same_f none v real = none (unsigned_abs v) (subst₂ (λ x y. IsMagnitude x y (unsigned_abs v)) (sym same_e) (sym same_f) real.magnitude)
