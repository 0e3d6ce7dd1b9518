use Rattle.rt_between.specs.Offers.{AreOffered}
use Rattle.rt_vtemplate.specs.Between.{names_of_cut}
use Rattle.rt_vtemplate.proofs.between.add_of_cuts.Given as goal

abbrev pub invariant-loop-i : goal.invariant-loop-i
invariant-loop-i l = AreOffered names_of_cut l.i l.fn.names l.names
