use Rattle.std.proofs.Common.{◌≡◌, replicate}
use Rattle.rt_nets.proofs.view.zeros.Given as goal

abbrev pub invariant-loop-number : goal.invariant-loop-number
invariant-loop-number l = l.list ≡ replicate l._number 0
