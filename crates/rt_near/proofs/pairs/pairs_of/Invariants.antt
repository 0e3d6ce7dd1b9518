use Rattle.rt_near.specs.Pairs.{AreClosePairsBefore}
use Rattle.rt_near.proofs.pairs.pairs_of.Given as goal

abbrev pub invariant-loop-place : goal.invariant-loop-place
invariant-loop-place l = AreClosePairsBefore l.entries l.place l.pairs
