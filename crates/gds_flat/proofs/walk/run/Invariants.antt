use Rattle.std.proofs.Common.{[]}
use Rattle.gds_flat.specs.Walking.{IsWalk, work_left}
use Rattle.gds_flat.proofs.walk.run.Given as goal

abbrev pub invariant-loop-frame : goal.invariant-loop-frame
invariant-loop-frame l = IsWalk l.names.structures.now l.names.top.now [] l.walk.frames.items l.walk

abbrev pub decreases-loop-frame : goal.decreases-loop-frame
decreases-loop-frame l = work_left l.names.structures.now l.walk.frames.items l.walk.marks.items
