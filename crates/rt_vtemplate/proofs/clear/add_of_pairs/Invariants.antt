use Rattle.rt_view.specs.Job.{strips_of}
use Rattle.rt_vtemplate.specs.Added.{AreAdded, IsOfFirst}
use Rattle.rt_vtemplate.specs.Steps.{IsOfPairAt}
use Rattle.rt_vtemplate.proofs.clear.add_of_pairs.Given as goal

abbrev pub invariant-loop-pair : goal.invariant-loop-pair
invariant-loop-pair l = AreAdded (IsOfFirst (IsOfPairAt (strips_of l.job) l.pairs) l.pair-index) l.initial.names l.names
