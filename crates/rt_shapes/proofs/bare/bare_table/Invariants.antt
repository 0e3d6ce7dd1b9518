use Rattle.std.proofs.Common.{map}
use Rattle.rt_strips.specs.Placed.{placed}
use Rattle.rt_shapes.specs.Cutting.{AreBareCells}
use Rattle.rt_shapes.proofs.bare.bare_table.Given as goal

abbrev pub invariant-loop-m : goal.invariant-loop-m
invariant-loop-m l = AreBareCells (map placed l.strips) l.m l.table
