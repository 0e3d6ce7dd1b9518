use Rattle.std.proofs.Common.{reverse, refl}
use Rattle.rt_branch.proofs.Standings.{can_go_back, next_opens}
use Rattle.rt_branch.proofs.back.next_node.Goals as goal

pub go_back-requires-clause-back : goal.go_back-requires-clause-back
go_back-requires-clause-back g c = can_go_back g.standing c.args.path.now c.args.table.now c.requires c.pop.new.self.items c.in-Some.waiting c.in-Some.ensures.items

pub returns-clause-stands : goal.returns-clause-stands
returns-clause-stands g c =
    next_opens g.standing c.args.path.now c.args.table.now c.requires c.pop.new.self.items c.in-Some.waiting c.in-Some.ensures.items (reverse c.go_back.new.changes.items) c.go_back.new.table c.in_ok-go_back.ensures
    c.add.new.table _ c.in_ok-add.ensures.table c.in_ok-add.ensures.small c.in_ok-add.ensures.changes refl refl
