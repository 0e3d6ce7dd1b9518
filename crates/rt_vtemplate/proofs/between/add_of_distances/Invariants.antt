use Rattle.rt_rows.specs.Places.{places}
use Rattle.rt_between.specs.Offers.{AreOfferedFor}
use Rattle.rt_vtemplate.specs.Between.{IsOfDistance}
use Rattle.rt_vtemplate.proofs.between.add_of_distances.Given as goal

abbrev pub invariant-loop-q : goal.invariant-loop-q
invariant-loop-q l = AreOfferedFor (IsOfDistance l.job (places l.columns)) l.q l.fn.names l.names
