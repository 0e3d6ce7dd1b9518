use Rattle.std.proofs.Common.{get_or}
use Rattle.rt_sweep.specs.declared.bar.Bar.{Bar}
use Rattle.rt_drc.proofs.Walking.{AreWalked, IsFarthest}
use Rattle.rt_drc.proofs.clash.clash_across.Given as goal

abbrev pub invariant-loop-i : goal.invariant-loop-i
invariant-loop-i l = record { farthest : IsFarthest l.i l.farthest; walked : (d : Bar) → AreWalked l.groups (λ k. get_or l.bars k d) l.i l.farthest }
