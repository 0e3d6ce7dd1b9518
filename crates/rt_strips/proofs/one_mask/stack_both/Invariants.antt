use Rattle.std.proofs.Common.{◌≡◌}
use Rattle.std.specs.Int.{int_gap}
use Rattle.rt_strips.specs.Heights.{IsBothBarCell, IsBuiltTo, pile_of}
use Rattle.rt_strips.proofs.one_mask.stack_both.Given as goal

abbrev pub invariant-loop-both : goal.invariant-loop-both
invariant-loop-both l = record {
  bars : l.sweep.bars ≡ l.initial.sweep.bars;
  most : l.stack.most ≡ l.initial.stack.most;
  built : IsBuiltTo (IsBothBarCell l.sweep.bars) l.stack.most l.sweep.height (pile_of l.stack);
}

abbrev pub decreases-loop-both : goal.decreases-loop-both
decreases-loop-both l = int_gap l.sweep.height l.sweep.highest
