use Rattle.std.proofs.Common.{◌<◌, length, rules, arith}
use Rattle.gds_flat.specs.declared.walk.Mark.TheVariants.{Unseen, Open, Done}
use Rattle.gds_flat.proofs.Coming.{come_done, marked_as, first_within}
use Rattle.gds_flat.proofs.walk.visit.Goals as goal

pub index-requires : goal.index-requires
index-requires c =
    let low = first_within c.args.names.now.structures.now c.args.structure c.requires.first in
    let same = c.requires.walk.marked.enough in
    let below : c.args.structure < length c.args.walk.now.marks.items = omega arith in
    search rules

pub open-requires-clause-unseen : goal.open-requires-clause-unseen
open-requires-clause-unseen c =
    let low = first_within c.args.names.now.structures.now c.args.structure c.requires.first in
    let same = c.requires.walk.marked.enough in
    let below : c.args.structure < length c.args.walk.now.marks.items = omega arith in
    record { first = c.requires.first; marked = marked_as c.args.walk.now.marks.items c.args.structure c.index.result.now Unseen below c.index.ensures c.in-Unseen.is }

pub remember-requires-clause-open : goal.remember-requires-clause-open
remember-requires-clause-open c =
    let low = first_within c.args.names.now.structures.now c.args.structure c.requires.first in
    let same = c.requires.walk.marked.enough in
    let below : c.args.structure < length c.args.walk.now.marks.items = omega arith in
    record { first = c.requires.first; marked = marked_as c.args.walk.now.marks.items c.args.structure c.index.result.now (Open c.in-Open.place) below c.index.ensures c.in-Open.is }

pub returns-in-Done-clause-ok : goal.returns-in-Done-clause-ok
returns-in-Done-clause-ok c =
    let low = first_within c.args.names.now.structures.now c.args.structure c.requires.first in
    let same = c.requires.walk.marked.enough in
    let below : c.args.structure < length c.args.walk.now.marks.items = omega arith in
    come_done c.args.names.now.structures.now c.args.names.now.top.now c.args.walk.now.frames.items c.args.walk.now.marks.items
    c.args.walk.now.order.items c.args.walk.now.finish.items c.args.walk.now.circle c.args.structure c.in-Done.field-0
    (marked_as c.args.walk.now.marks.items c.args.structure c.index.result.now (Done c.in-Done.field-0) below c.index.ensures c.in-Done.is)
    c.requires.walk
