use Rattle.std.proofs.Common.{ℕ, ◌<◌, ◌<ℤ◌, get_or}
use Rattle.rt_columns.specs.Bars.{line_at}
use Rattle.rt_columns.proofs.chains.goes_up_to.Given as goal

abbrev pub invariant-loop-place : goal.invariant-loop-place
invariant-loop-place l = (k : ℕ) → k < l.place-index → (line_at l.over (get_or l.places k 0)).top <ℤ (line_at l.over l.next).bottom
