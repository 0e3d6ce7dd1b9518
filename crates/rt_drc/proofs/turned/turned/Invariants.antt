use Rattle.std.proofs.Common.{map}
use Rattle.rt_strips.specs.Placed.{placed}
use Rattle.rt_strips.specs.StripsOf.{AreStripsOf}
use Rattle.rt_drc.specs.Rows.{turned_cells_of}
use Rattle.rt_drc.proofs.turned.turned.Given as goal

abbrev pub invariant-loop-m : goal.invariant-loop-m
invariant-loop-m l = AreStripsOf (turned_cells_of l.strips) l.m (map placed l.turned.items)
