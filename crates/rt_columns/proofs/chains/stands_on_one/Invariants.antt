use Rattle.std.proofs.Common.{ℕ, ◌<◌, get_or, map}
use Rattle.rt_strips.specs.Placed.{placed}
use Rattle.rt_columns.specs.Bars.{IsOn}
use Rattle.rt_columns.proofs.chains.stands_on_one.Given as goal

abbrev pub invariant-loop-place : goal.invariant-loop-place
invariant-loop-place l = (k : ℕ) → k < l.place-index → ¬ IsOn (map placed l.strips.list) l.over (get_or l.places k 0) l.next
