-- Lines with their signs turned.
use Rattle.std.specs.Prelude.{◌≡◌, ℕ, neg_ℤ, ℤ, List, length}
use Rattle.rt_tableau.specs.Numbers.{number_of}

-- each number with its sign turned
pub record IsTurned (line new : List ℤ) : Type 0 where
  pub one_each : length new ≡ length line
  pub each : (s : ℕ) → number_of new s ≡ neg_ℤ (number_of line s)
