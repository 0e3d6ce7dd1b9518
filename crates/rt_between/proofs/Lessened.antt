-- A width below 0 fits its type.
use Rattle.std.proofs.Common.{◌≡◌, w64, ℤ, pos, neg_ℤ, ◌-ℤ◌, FitsSigned, to_z, of_z, ◌∙◌, arith}
use Rattle.std.proofs.lemmas.Int.{ints, to_z-of_z}
use Rattle.rt_tech.specs.Tech.{IsLength}

pub less_fits : (read width : ℤ) → read ≡ width → IsLength width → FitsSigned w64 (pos 0 -ℤ read)
less_fits read width e is = omega (arith, ints, e, is.low, is.high)

less : (read width : ℤ) → read ≡ width → (pos 0 -ℤ read) ≡ neg_ℤ width
less read width e = omega (arith, ints, e)

pub less_is : (read width : ℤ) → read ≡ width → IsLength width → to_z w64 (of_z w64 (pos 0 -ℤ read)) ≡ neg_ℤ width
less_is read width e is = to_z-of_z w64 _ (less_fits read width e is) ∙ less read width e
