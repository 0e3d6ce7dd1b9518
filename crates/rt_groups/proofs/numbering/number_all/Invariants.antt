use Rattle.std.proofs.Common.{◌≡◌, length}
use Rattle.rt_groups.proofs.Appearing.{AreNumberedBefore}
use Rattle.rt_groups.proofs.numbering.number_all.Given as goal

abbrev pub invariant-loop-entry : goal.invariant-loop-entry
invariant-loop-entry l = record {
  counted : length l.known ≡ length l.initial.known;
  numbered : AreNumberedBefore l.groups l.entry-index l.numbers.items l.known l.next;
}
