use Rattle.rt_htemplate.specs.Wanted.{IsOfEnclosure}
use Rattle.rt_between.specs.Offers.{AreOfferedFor}
use Rattle.rt_htemplate.proofs.enclosures.add_of_enclosures.Given as goal

abbrev pub invariant-loop-q : goal.invariant-loop-q
invariant-loop-q l = AreOfferedFor (IsOfEnclosure l.job) l.q l.fn.names l.names
