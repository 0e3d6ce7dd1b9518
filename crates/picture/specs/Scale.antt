-- The lengths that a scale bar may have.
use Rattle.std.specs.Prelude.{◌≡◌, ℕ, ◌*◌, ◌^◌, ◌⊎◌}

-- a power of ten
abbrev pub IsPowerOfTen : ℕ → Type 0
IsPowerOfTen n = (k : ℕ) × (n ≡ 10 ^ k)

-- 1, 2 or 5 times a power of ten
pub record IsRound (n : ℕ) : Type 0 where
  pub unit : ℕ
  pub power : IsPowerOfTen unit
  pub times : (n ≡ unit) ⊎ (n ≡ unit * 2) ⊎ (n ≡ unit * 5)
