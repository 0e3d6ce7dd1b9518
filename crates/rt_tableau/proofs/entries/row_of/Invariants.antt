use Rattle.std.proofs.Common.{◌≡◌, ℕ, ◌<◌}
use Rattle.rt_solved.specs.Tables.{basic_of}
use Rattle.rt_tableau.proofs.entries.row_of.Given as goal

abbrev pub invariant-loop-i : goal.invariant-loop-i
invariant-loop-i l = (k : ℕ) → k < l.i → basic_of l.basis k ≡ l.column → ⊥
