-- Reals of eight bytes: a sign bit, an exponent of seven bits in excess 64, and a fraction of 56 bits, to the base 16. (GDSII Release 6.)
use Rattle.std.specs.Prelude.{◌≡◌, ℕ, ◌*◌, ◌/◌, ◌%◌, ◌^◌, Bool, MatchBool, ◌==◌, if◌then◌else◌, ℤ, pos, neg_ℤ, ◌*ℤ◌, ◌≤ℤ◌, unsigned_abs, List, length}
use Rattle.std.specs.Int.{w64, from_be_bytes, int_rem_euclid}

-- the first bit says that the value isn't above zero
unfoldable pub is_negative : List ℕ → Bool
is_negative bytes = from_be_bytes w64 bytes / 2 ^ 63 == 1

-- the seven bits behind it
unfoldable pub exponent : List ℕ → ℕ
exponent bytes = from_be_bytes w64 bytes / 2 ^ 56 % 128

-- the other 56 bits
unfoldable pub fraction : List ℕ → ℕ
fraction bytes = from_be_bytes w64 bytes % 2 ^ 56

-- fraction / 2 ^ 56 * 16 ^ (exponent - 64) is the whole number
pub record IsMagnitude (exponent fraction number : ℕ) : Type 0 where
  pub equal : fraction * 16 ^ exponent ≡ number * (2 ^ 56 * 16 ^ 64)

-- the bytes are a real, and its value is the whole number
pub record IsReal (bytes : List ℕ) (value : ℤ) : Type 0 where
  pub eight : length bytes ≡ 8
  pub magnitude : IsMagnitude (exponent bytes) (fraction bytes) (unsigned_abs value)
  pub sign : MatchBool (is_negative bytes) (value ≤ℤ pos 0) (pos 0 ≤ℤ value)

-- the number, or where it is negative its opposite
abbrev pub signed : Bool → ℕ → ℤ
signed negative number = if negative then neg_ℤ (pos number) else pos number

-- the real is so many quarter turns in degrees, and so many that are left of them beside whole turns
pub record IsQuarterTurns (bytes : List ℕ) (left : ℕ) : Type 0 where
  pub quarters : ℤ
  pub degrees : IsReal bytes (pos 90 *ℤ quarters)
  pub beside : pos left ≡ int_rem_euclid quarters (pos 4)
