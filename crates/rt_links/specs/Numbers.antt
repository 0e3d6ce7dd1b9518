-- Nets are numbered by their terminals in order: 0, 1, 2, .. as each net appears first.
use Rattle.std.specs.Prelude.{◌≡◌, ℕ, suc, ◌<◌, ◌⊎◌}

-- terminal a is of a net that an earlier terminal is of: so many nets have appeared before it as after it
pub record IsOfOldNet (Same : ℕ → ℕ → Type 0) (fresh : ℕ → ℕ) (a : ℕ) : Type 0 where
  pub earlier : ℕ
  pub before : earlier < a
  pub one_net : Same earlier a
  pub none_appears : fresh (suc a) ≡ fresh a

-- terminal a is the first of its net, which has the next number
pub record IsOfNewNet (Same : ℕ → ℕ → Type 0) (fresh net : ℕ → ℕ) (a : ℕ) : Type 0 where
  pub none_before : (b : ℕ) → b < a → ¬ Same b a
  pub numbered : net a ≡ fresh a
  pub one_appears : fresh (suc a) ≡ suc (fresh a)

-- so many terminals are numbered by their nets: `Same` tells which are of one net, `net a` is the number of the net of terminal a, and
-- `fresh a` counts the nets of the terminals before it
pub record AreNumbered (count : ℕ) (Same : ℕ → ℕ → Type 0) (fresh net : ℕ → ℕ) : Type 0 where
  pub start : fresh 0 ≡ 0
  pub one_number : (a b : ℕ) → a < count → b < a → Same b a → net b ≡ net a
  pub old_or_new : (a : ℕ) → a < count → IsOfOldNet Same fresh a ⊎ IsOfNewNet Same fresh net a
