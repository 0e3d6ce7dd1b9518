use Rattle.std.specs.Int.{int_gap}
use Rattle.rt_rows.specs.Places.{places}
use Rattle.rt_vtemplate.specs.Open.{AreHiddenBefore}
use Rattle.rt_vtemplate.proofs.sight.is_seen.Given as goal

abbrev pub invariant-loop-x : goal.invariant-loop-x
invariant-loop-x l = AreHiddenBefore l.job (places l.columns) l.i l.j l.x

abbrev pub decreases-loop-x : goal.decreases-loop-x
decreases-loop-x l = int_gap l.x l.end
