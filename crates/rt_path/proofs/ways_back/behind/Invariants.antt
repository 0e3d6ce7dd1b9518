use Rattle.std.proofs.Common.{◌≡◌, take, drop}
use Rattle.rt_path.proofs.ways_back.behind.Given as goal

abbrev pub invariant-loop-share : goal.invariant-loop-share
invariant-loop-share l = l.rest ≡ take l.share-index (drop l.from l.shares)
