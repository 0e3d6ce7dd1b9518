use Rattle.std.proofs.Common.{ℕ, ◌<◌, map}
use Rattle.rt_strips.specs.Placed.{placed, strip_at}
use Rattle.rt_drc.specs.Wide.{IsWideOn}
use Rattle.rt_drc.proofs.width.narrow_run.Given as goal

abbrev pub invariant-loop-strip : goal.invariant-loop-strip
invariant-loop-strip l = (k : ℕ) → k < l.strip-index → IsWideOn l.m l.width (strip_at (map placed l.rows.strips.now) k)
