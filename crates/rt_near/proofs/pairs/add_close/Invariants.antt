use Rattle.std.proofs.Common.{◌<◌, ◌≤◌, ◌-◌, length}
use Rattle.rt_near.specs.Pairs.{AreAdded}
use Rattle.rt_near.proofs.pairs.add_close.Given as goal

abbrev pub invariant-loop-next : goal.invariant-loop-next
invariant-loop-next l = record {
  later : l.place < l.next;
  within : l.next ≤ length l.entries;
  added : AreAdded l.entries l.place l.next l.fn.pairs l.pairs;
}

abbrev pub decreases-loop-next : goal.decreases-loop-next
decreases-loop-next l = length l.entries - l.next
