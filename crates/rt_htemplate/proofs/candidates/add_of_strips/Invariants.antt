use Rattle.rt_between.specs.Offers.{AreOffered}
use Rattle.rt_htemplate.specs.Candidates.{names_of_strip}
use Rattle.rt_htemplate.proofs.candidates.add_of_strips.Given as goal

abbrev pub invariant-loop-i : goal.invariant-loop-i
invariant-loop-i l = AreOffered names_of_strip l.i l.fn.names l.names
