use Rattle.std.proofs.Common.{◌≡◌, ◌<◌, rules, length}
use Rattle.std.proofs.lemmas.Option.{slice_get_within}
use Rattle.gds_flat.proofs.Coming.{come_close, last_open}
use Rattle.gds_flat.proofs.Working.{less_close}
use Rattle.gds_flat.proofs.walk.close.Goals as goal

pub index_mut-requires : goal.index_mut-requires
index_mut-requires c =
    let low : c.args.frame.now.structure < length c.args.walk.now.marks.items =
    slice_get_within c.args.walk.now.marks.items c.args.frame.now.structure _
    (last_open c.args.names.now.structures.now c.args.walk.now.frames.items c.args.frame.now c.args.walk.now.marks.items
    c.args.walk.now.order.items c.args.walk.now.finish.items c.requires.walk.marked) in
    search rules

pub returns-clause-ok : goal.returns-clause-ok
returns-clause-ok c =
    let deep : c.len.result ≡ length c.args.walk.now.finish.items = search rules in
    rw (c.in_ok-push.ensures.items)
    (come_close c.args.names.now.structures.now c.args.names.now.top.now c.args.walk.now.frames.items c.args.frame.now c.args.walk.now.marks.items
    c.args.walk.now.order.items c.args.walk.now.finish.items c.args.walk.now.circle c.len.result
    c.requires.over deep c.requires.walk)

pub returns-clause-less : goal.returns-clause-less
returns-clause-less c =
    less_close c.args.names.now.structures.now c.args.walk.now.frames.items c.args.frame.now c.args.walk.now.marks.items c.len.result _
    (last_open c.args.names.now.structures.now c.args.walk.now.frames.items c.args.frame.now c.args.walk.now.marks.items
    c.args.walk.now.order.items c.args.walk.now.finish.items c.requires.walk.marked)
