use Rattle.std.proofs.Common.{◌≡◌, take}
use Rattle.rt_tableau.proofs.exchange.copied_lines.Given as goal

abbrev pub invariant-loop-i : goal.invariant-loop-i
invariant-loop-i l = l.new.items ≡ take l.i l.lines
