use Rattle.std.proofs.Common.{ℕ, ◌<◌, map}
use Rattle.rt_strips.specs.Placed.{placed, strip_at}
use Rattle.rt_drc.specs.Squares.{IsSquareOn}
use Rattle.rt_drc.proofs.sizes.size_breach.Given as goal

abbrev pub invariant-loop-strip : goal.invariant-loop-strip
invariant-loop-strip l = (k : ℕ) → k < l.strip-index → IsSquareOn l.m l.size (strip_at (map placed l.strips) k)
