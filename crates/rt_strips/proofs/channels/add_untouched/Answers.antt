use Rattle.std.proofs.Common.{map, sym, subst}
use Rattle.rt_strips.specs.Placed.{Placed, placed}
use Rattle.rt_strips.specs.Tallies.{AddsOne}
use Rattle.rt_strips.proofs.Placed.{strip_is, strip_there}
use Rattle.rt_strips.proofs.Marks.{untouched_added, not_marked_is_untouched}
use Rattle.rt_strips.proofs.channels.add_untouched.Goals as goal

pub loop-i-preserved : goal.loop-i-preserved
loop-i-preserved c =
    let strips = c.args.strips.now in
    let i = c.loop-i.i in
    let t = c.if-touched-i.false in
    untouched_added (map placed strips) i c.args.most c.args.tally.now c.loop-i.tally c.add.new.self
    (not_marked_is_untouched (map placed strips) c.args.touched.now i c.requires (strip_there strips i c.loop-i-test.true).below_count t)
    c.loop-i.invariant
    (subst (λ (p : Placed). AddsOne p c.args.most c.loop-i.tally c.add.new.self) (sym (strip_is strips i c.index-strips-i.result c.loop-i-test.true c.index-strips-i.is)) c.in_ok-add.ensures)
