use Rattle.std.proofs.Common.{length, reverse}
use Rattle.rt_branch.proofs.Undone.{IsGoingBack}
use Rattle.rt_branch.proofs.back.go_back.Given as goal

abbrev pub invariant-loop-alloc : goal.invariant-loop-alloc
invariant-loop-alloc l = IsGoingBack l.length (reverse l.fn.changes.items) l.fn.table (reverse l.changes.items) l.table

abbrev pub decreases-loop-alloc : goal.decreases-loop-alloc
decreases-loop-alloc l = length l.changes.items
