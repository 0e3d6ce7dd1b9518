use Rattle.rt_between.specs.Offers.{AreOffered}
use Rattle.rt_vtemplate.specs.Between.{names_off_at}
use Rattle.rt_vtemplate.proofs.between.add_off.Given as goal

abbrev pub invariant-loop-pair : goal.invariant-loop-pair
invariant-loop-pair l = AreOffered (names_off_at l.q l.pairs) l.pair-index l.fn.names l.names
