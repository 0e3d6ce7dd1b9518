use Rattle.std.proofs.Common.{◌+◌, ◌-◌}
use Rattle.std.specs.Prelude.{IsPermutation}
use borrow.Author.Differences.{up, down}
use Rattle.rt_drc.proofs.Walking.{AreGroupedBelow}
use Rattle.rt_drc.proofs.clash.first_clash.Given as goal

abbrev pub invariant-loop-sweep : goal.invariant-loop-sweep
invariant-loop-sweep l = record { same_bars : IsPermutation l.fn.bars.items l.sweep.bars; below : AreGroupedBelow l.groups l.fn.bars.items l.sweep.height }

abbrev pub decreases-loop-sweep : goal.decreases-loop-sweep
decreases-loop-sweep l = (up l.sweep.highest + down l.sweep.height) - (up l.sweep.height + down l.sweep.highest)
