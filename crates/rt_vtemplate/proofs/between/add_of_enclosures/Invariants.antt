use Rattle.rt_between.specs.Offers.{AreOfferedFor}
use Rattle.rt_vtemplate.specs.Between.{IsOfEnclosure}
use Rattle.rt_vtemplate.proofs.between.add_of_enclosures.Given as goal

abbrev pub invariant-loop-q : goal.invariant-loop-q
invariant-loop-q l = AreOfferedFor (IsOfEnclosure l.job) l.q l.fn.names l.names
