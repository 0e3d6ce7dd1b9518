use Rattle.rt_between.specs.Offers.{AreOffered}
use Rattle.rt_htemplate.specs.Candidates.{names_at_pair}
use Rattle.rt_htemplate.proofs.candidates.add_at_pairs.Given as goal

abbrev pub invariant-loop-pair : goal.invariant-loop-pair
invariant-loop-pair l = AreOffered (names_at_pair l.pairs) l.pair-index l.fn.names l.names
