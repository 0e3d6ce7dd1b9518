-- A fraction with more places or fewer.
use Rattle.std.proofs.Common.{◌≢◌, ℕ, zero, suc, ◌*◌, ◌%◌, ◌^◌, ◌<◌, ◌≤◌, ap, ◌∙◌, arith, lit<}
use Rattle.std.proofs.Math.Nat.{mul-mod_left, pow-le-pow_right, mul-le-mul_right, le-mul_of_pos_right}
use Rattle.std.proofs.lemmas.Nat.{mul-le}
use Rattle.gds_records.proofs.Magnitudes.{power_positive}

power_le : (i j : ℕ) → i ≤ j → 16 ^ i ≤ 16 ^ j
power_le i j le = pow-le-pow_right {n = 16} (lit< tt) le

pub power_short : (d : ℕ) → d < 14 → 16 ^ d < 2 ^ 64
power_short d few = omega (arith, power_le d 13 (omega arith))

-- eight places more make any fraction too large
pub won_many : (f d : ℕ) → 0 < f → 8 ≤ d → 2 ^ 31 < f * 16 ^ d
won_many f d some many = omega (arith, power_le 8 d many, mul-le-mul_right {m = 1} {n = f} (16 ^ d) (omega arith))

-- a fraction that is too large stays so
pub won_large : (f d : ℕ) → 2 ^ 31 < f → 2 ^ 31 < f * 16 ^ d
won_large f d large = omega (arith, le-mul_of_pos_right f (power_positive d))

pub won_fits : (f d : ℕ) → f ≤ 2 ^ 31 → d < 8 → f * 16 ^ d < 2 ^ 64
won_fits f d within few = omega (arith, mul-le f (16 ^ d) (2 ^ 31) (16 ^ 7) within (power_le d 7 (omega arith)))

-- no fraction but 0 loses fourteen places
pub lost_many : (f d n : ℕ) → f < 2 ^ 56 → 0 < f → 14 ≤ d → f ≢ n * 16 ^ d
lost_many f d zero small some many same = omega (arith, ap (λ (x : ℕ). x) same)
lost_many f d (suc n) small some many same = omega (arith, power_le 14 d many, mul-le-mul_right {m = 1} {n = suc n} (16 ^ d) (omega arith))

pub lost_none : (f u n : ℕ) → f % u ≢ 0 → f ≢ n * u
lost_none f u n rest same = rest (ap (λ (x : ℕ). x % u) same ∙ mul-mod_left n u)
