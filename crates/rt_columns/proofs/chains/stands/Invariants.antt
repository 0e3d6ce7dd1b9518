use Rattle.std.proofs.Common.{ℕ, ◌<◌, ◌≤◌, map}
use Rattle.rt_strips.specs.Placed.{placed}
use Rattle.rt_columns.specs.Bars.{IsOn}
use Rattle.rt_columns.proofs.chains.stands.Given as goal

abbrev pub invariant-loop-below : goal.invariant-loop-below
invariant-loop-below l = (r : ℕ) → l.from ≤ r → r < l.below → ¬ IsOn (map placed l.strips.list) l.over r l.place
