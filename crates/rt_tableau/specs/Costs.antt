-- What a tableau's costs are, by the line in which the goal is basic.
use Rattle.std.specs.Prelude.{◌≡◌, ℕ, suc, ◌<◌, ℤ, pos, neg_ℤ, List, length, ◌==◌, if◌then◌else◌}
use Rattle.rt_solved.specs.Tables.{basic_of}
use Rattle.rt_tableau.specs.Numbers.{number_of}

-- the column is basic in no row
abbrev pub IsFree : List ℕ → ℕ → Type 0
IsFree basis column = (i : ℕ) → i < length basis → basic_of basis i ≡ column → ⊥

-- the column is basic in that row
pub record IsBasicIn (basis : List ℕ) (column i : ℕ) : Type 0 where
  pub there : i < length basis
  pub is : basic_of basis i ≡ column

-- of the line in which the goal is basic: its right side, and its entries with the signs turned, but 0 at the goal
abbrev pub cost_of : List ℤ → ℕ → ℕ → ℕ → ℤ
cost_of line goal columns j = if j == goal then pos 0 else (if j == columns then number_of line 0 else neg_ℤ (number_of line (suc j)))

-- of a goal that is basic nowhere: itself
abbrev pub free_cost : ℕ → ℕ → ℤ
free_cost goal j = if j == goal then pos 1 else pos 0
