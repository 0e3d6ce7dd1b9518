use Rattle.std.proofs.Common.{rules}
use Rattle.rt_columns.proofs.Orders.{no_sides, two_sides}
use Rattle.rt_columns.proofs.ranks.all_sides.Goals as goal

pub loop-number-init : goal.loop-number-init
loop-number-init c = no_sides c.args.lefts.now c.args.rights.now c.new-sides.result.items c.new-sides.ensures.items

pub loop-number-preserved : goal.loop-number-preserved
loop-number-preserved c =
    two_sides c.loop-number.number c.args.lefts.now c.args.rights.now c.loop-number.sides.items c.push.new.self.items c.push-in-loop-number.new.self.items _ _
    c.in_ok-push.ensures.items c.in_ok-push-2.ensures.items (search rules) (search rules) c.loop-number.invariant
