-- Lines: equations in whole numbers over columns. Number 0 of a line is its right side, and number j + 1 is how many times it takes column j.
-- Points have their numbers in the same places: number 0 is how many times right sides are taken, 1 at a solution, and number j + 1 is the value of column j.
use Rattle.std.specs.Prelude.{◌≡◌, ℕ, zero, suc, ◌≤◌, ℤ, pos, ◌+ℤ◌, ◌-ℤ◌, ◌*ℤ◌}

-- the sum of the first numbers
abbrev pub total : ℕ → (ℕ → ℤ) → ℤ
total zero f = pos 0
total (suc n) f = total n f +ℤ f n

-- what a line is worth at a point, less its right side
abbrev pub worth : ℕ → (ℕ → ℤ) → (ℕ → ℤ) → ℤ
worth columns line point = total columns (λ j. line (suc j) *ℤ point (suc j)) -ℤ line 0 *ℤ point 0

-- the point lies on the line
pub record LiesOn (columns : ℕ) (line point : ℕ → ℤ) : Type 0 where
  pub equal : total columns (λ j. line (suc j) *ℤ point (suc j)) ≡ line 0 *ℤ point 0

-- the second number is a multiple of the first
abbrev pub Divides : ℤ → ℤ → Type 0
Divides d n = (times : ℤ) × (n ≡ d *ℤ times)

-- the line's numbers have no factor in common: what divides one multiple of each of them divides the multiplier
pub record IsReduced (columns : ℕ) (line : ℕ → ℤ) : Type 0 where
  pub no_factor : (d k : ℤ) → ((s : ℕ) → s ≤ columns → Divides d (k *ℤ line s)) → Divides d k
