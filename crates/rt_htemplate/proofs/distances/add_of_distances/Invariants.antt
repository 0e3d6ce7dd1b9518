use Rattle.rt_htemplate.specs.Wanted.{IsOfDistance}
use Rattle.rt_between.specs.Offers.{AreOfferedFor}
use Rattle.rt_htemplate.proofs.distances.add_of_distances.Given as goal

abbrev pub invariant-loop-q : goal.invariant-loop-q
invariant-loop-q l = AreOfferedFor (IsOfDistance l.job) l.q l.fn.names l.names
