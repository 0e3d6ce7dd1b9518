use Rattle.std.proofs.Common.{◌≡◌, rules, length}
use Rattle.gds_flat.proofs.Coming.{come_open}
use Rattle.gds_flat.proofs.Working.{less_open}
use Rattle.gds_flat.proofs.walk.open.Goals as goal

pub returns-clause-ok : goal.returns-clause-ok
returns-clause-ok c =
    let deep : c.len.result ≡ length c.args.walk.now.frames.items = search rules in
    rw (c.in_ok-push.ensures.items, c.in_ok-push-2.ensures.items)
    (come_open c.args.names.now.structures.now c.args.names.now.top.now c.args.walk.now.frames.items c.args.walk.now.marks.items
    c.args.walk.now.order.items c.args.walk.now.finish.items c.args.walk.now.circle c.args.structure c.len.result
    c.requires.unseen.first c.requires.unseen.marked deep c.requires.walk)

pub returns-clause-less : goal.returns-clause-less
returns-clause-less c =
    rw (c.in_ok-push-2.ensures.items)
    (less_open c.args.names.now.structures.now c.args.walk.now.frames.items c.args.walk.now.marks.items c.args.structure c.len.result
    c.requires.unseen.marked c.requires.walk.marked.enough)
