use Rattle.std.proofs.Common.{map}
use Rattle.rt_strips.specs.Placed.{placed}
use Rattle.rt_strips.specs.Untouched.{AddsUntouched}
use Rattle.rt_strips.proofs.channels.add_untouched.Given as goal

abbrev pub invariant-loop-i : goal.invariant-loop-i
invariant-loop-i l = AddsUntouched (map placed l.strips) l.i l.most l.initial.tally l.tally
