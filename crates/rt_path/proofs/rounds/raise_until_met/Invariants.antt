use Rattle.std.proofs.Common.{length, ◌-◌}
use Rattle.rt_path.specs.WaysBack.{IsBeforeRound}
use Rattle.rt_path.proofs.rounds.raise_until_met.Given as goal

abbrev pub invariant-loop-last : goal.invariant-loop-last
invariant-loop-last l = IsBeforeRound (length l.initial.now) l.round l.steps l.log.items l.now

abbrev pub decreases-loop-last : goal.decreases-loop-last
decreases-loop-last l = length l.initial.now - l.round
