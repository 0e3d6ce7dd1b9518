use Rattle.std.proofs.Common.{◌≡◌}
use Rattle.std.specs.Int.{int_gap}
use Rattle.rt_strips.specs.Heights.{IsBarCell, IsBuiltTo, pile_of}
use Rattle.rt_strips.proofs.one_mask.stack_up.Given as goal

abbrev pub invariant-loop-pieces : goal.invariant-loop-pieces
invariant-loop-pieces l = record {
  bars : l.sweep.bars ≡ l.initial.sweep.bars;
  most : l.stack.most ≡ l.initial.stack.most;
  built : IsBuiltTo (IsBarCell l.sweep.bars 0) l.stack.most l.sweep.height (pile_of l.stack);
}

abbrev pub decreases-loop-pieces : goal.decreases-loop-pieces
decreases-loop-pieces l = int_gap l.sweep.height l.sweep.highest
