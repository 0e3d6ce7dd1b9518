use Rattle.std.proofs.Common.{map}
use Rattle.rt_strips.specs.Placed.{placed}
use Rattle.rt_vtemplate.specs.Added.{AreAdded, IsOfFirst}
use Rattle.rt_vtemplate.specs.Steps.{IsOfSeam}
use Rattle.rt_vtemplate.proofs.found.add_of_seams.Given as goal

abbrev pub invariant-loop-seam : goal.invariant-loop-seam
invariant-loop-seam l = AreAdded (IsOfFirst (IsOfSeam (map placed l.strips.list) l.seams) l.seam-index) l.initial.names l.names
