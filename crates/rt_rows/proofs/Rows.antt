-- What it is to meet a row of one variable or two.
use Rattle.std.proofs.Common.{ℤ, ◌+ℤ◌, ◌≤ℤ◌, arith}
use Rattle.std.proofs.lemmas.Int.{ints}
use Rattle.rt_rows.specs.declared.row.Var.{Var}
use Rattle.rt_rows.specs.Rows.{MeetsRow, at_least, at_most, beyond}

-- a variable is at least a number where it meets that row, and the other way round
pub at_least_meets : (at : Var → ℤ) (var : Var) (least : ℤ) → least ≤ℤ at var → MeetsRow at (at_least var least)
at_least_meets at var least h = record { holds = omega (arith, ints) }

pub at_least_met : (at : Var → ℤ) (var : Var) (least : ℤ) → MeetsRow at (at_least var least) → least ≤ℤ at var
at_least_met at var least row = omega (arith, ints)

-- a variable is at most a number where it meets that row, and the other way round
pub at_most_meets : (at : Var → ℤ) (var : Var) (most : ℤ) → at var ≤ℤ most → MeetsRow at (at_most var most)
at_most_meets at var most h = record { holds = omega (arith, ints) }

pub at_most_met : (at : Var → ℤ) (var : Var) (most : ℤ) → MeetsRow at (at_most var most) → at var ≤ℤ most
at_most_met at var most row = omega (arith, ints)

-- the second variable is beyond the first by a number where they meet that row, and the other way round
pub beyond_meets : (at : Var → ℤ) (first second : Var) (by : ℤ) → (at first +ℤ by) ≤ℤ at second → MeetsRow at (beyond first second by)
beyond_meets at first second by h = record { holds = omega (arith, ints) }

pub beyond_met : (at : Var → ℤ) (first second : Var) (by : ℤ) → MeetsRow at (beyond first second by) → (at first +ℤ by) ≤ℤ at second
beyond_met at first second by row = omega (arith, ints)
