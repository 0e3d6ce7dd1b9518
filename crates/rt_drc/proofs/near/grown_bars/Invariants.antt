use Rattle.std.proofs.Common.{map}
use Rattle.rt_strips.specs.Placed.{placed}
use Rattle.rt_pieces.specs.Members.{IsOf}
use Rattle.rt_drc.specs.Nearness.{AreBarsBefore}
use Rattle.rt_drc.proofs.near.grown_bars.Given as goal

abbrev pub invariant-loop-i : goal.invariant-loop-i
invariant-loop-i l = AreBarsBefore (IsOf l.m (map placed l.strips)) l.reach (map placed l.strips) l.i l.bars.items
