use Rattle.rt_between.specs.Offers.{AreOffered}
use Rattle.rt_htemplate.specs.Candidates.{names_in_at}
use Rattle.rt_htemplate.proofs.enclosures.add_in.Given as goal

abbrev pub invariant-loop-pair : goal.invariant-loop-pair
invariant-loop-pair l = AreOffered (names_in_at l.q l.pairs) l.pair-index l.fn.names l.names
