use Rattle.rt_between.specs.Offers.{AreOffered}
use Rattle.rt_htemplate.specs.Candidates.{names_at_seam}
use Rattle.rt_htemplate.proofs.candidates.add_at_seams.Given as goal

abbrev pub invariant-loop-seam : goal.invariant-loop-seam
invariant-loop-seam l = AreOffered (names_at_seam l.seams) l.seam-index l.fn.names l.names
