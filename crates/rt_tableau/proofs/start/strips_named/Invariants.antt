use Rattle.std.proofs.Common.{◌≡◌, max, drop}
use Rattle.rt_tableau.specs.Starts.{strips_of}
use Rattle.rt_tableau.proofs.start.strips_named.Given as goal

abbrev pub invariant-loop-row : goal.invariant-loop-row
invariant-loop-row l = max l.strips (strips_of (drop l.row-index l.rows)) ≡ strips_of l.rows
