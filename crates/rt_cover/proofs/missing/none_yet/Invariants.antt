use Rattle.rt_cover.specs.Covering.{AreNone}
use Rattle.rt_cover.proofs.missing.none_yet.Given as goal

abbrev pub invariant-loop-area : goal.invariant-loop-area
invariant-loop-area l = AreNone l._area-index l.found.items
