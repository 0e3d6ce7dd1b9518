use Rattle.rt_rows.specs.Places.{places}
use Rattle.rt_vtemplate.specs.Between.{AreThoseAdded}
use Rattle.rt_vtemplate.proofs.between.add_those_there.Given as goal

abbrev pub invariant-loop-name : goal.invariant-loop-name
invariant-loop-name l = AreThoseAdded l.job (places l.columns) l.offered l.name-index l.fn.names l.names
