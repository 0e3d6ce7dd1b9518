use Rattle.std.proofs.Common.{length}
use Rattle.rt_path.specs.Raises.{IsUnderWay}
use Rattle.rt_path.proofs.raises.raise_all.Given as goal

abbrev pub invariant-loop-number : goal.invariant-loop-number
invariant-loop-number l = IsUnderWay (length l.initial.now) l.round l.number l.steps l.log.items l.now l.last
