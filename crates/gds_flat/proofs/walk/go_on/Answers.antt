use Rattle.std.proofs.Common.{Some, None, sym}
use Rattle.std.proofs.lemmas.Option.{slice_get_within, get_or_from_slice_get}
use Rattle.gds_flat.specs.Walking.{elements_at}
use Rattle.gds_flat.proofs.Coming.{come_on, ok_less}
use Rattle.gds_flat.proofs.Working.{less_on}
use Rattle.gds_flat.proofs.walk.go_on.Goals as goal

pub take-requires : goal.take-requires
take-requires c =
    let elements = elements_at c.args.names.now.structures.now c.args.frame.now.structure in
    let below = slice_get_within elements c.args.frame.now.next c.args.element.now c.requires.next in
    let is = sym (get_or_from_slice_get elements c.args.frame.now.next c.args.element.now c.args.element.now c.requires.next) in
    rw (c.in_ok-push.ensures.items)
    (come_on c.args.names.now.structures.now c.args.names.now.top.now c.args.walk.now.frames.items c.args.frame.now c.args.walk.now.marks.items
    c.args.walk.now.order.items c.args.walk.now.finish.items c.args.walk.now.circle c.args.element.now (Some c.in-Some.name.now) below is
    c.in-Some.ensures c.requires.walk)

pub returns-in-Some-clause-less : goal.returns-in-Some-clause-less
returns-in-Some-clause-less c =
    let elements = elements_at c.args.names.now.structures.now c.args.frame.now.structure in
    let below = slice_get_within elements c.args.frame.now.next c.args.element.now c.requires.next in
    ok_less _ _ _ _ (rw (c.in_ok-push.ensures.items) at c.take.ensures.less)
    (less_on c.args.names.now.structures.now c.args.walk.now.frames.items c.args.frame.now c.args.walk.now.marks.items below)

pub returns-in-None-clause-ok : goal.returns-in-None-clause-ok
returns-in-None-clause-ok c =
    let elements = elements_at c.args.names.now.structures.now c.args.frame.now.structure in
    let below = slice_get_within elements c.args.frame.now.next c.args.element.now c.requires.next in
    let is = sym (get_or_from_slice_get elements c.args.frame.now.next c.args.element.now c.args.element.now c.requires.next) in
    rw (c.in_ok-push.ensures.items)
    (come_on c.args.names.now.structures.now c.args.names.now.top.now c.args.walk.now.frames.items c.args.frame.now c.args.walk.now.marks.items
    c.args.walk.now.order.items c.args.walk.now.finish.items c.args.walk.now.circle c.args.element.now None below is
    c.in-None.ensures c.requires.walk)

pub returns-in-None-clause-less : goal.returns-in-None-clause-less
returns-in-None-clause-less c =
    let elements = elements_at c.args.names.now.structures.now c.args.frame.now.structure in
    let below = slice_get_within elements c.args.frame.now.next c.args.element.now c.requires.next in
    rw (c.in_ok-push.ensures.items)
    (less_on c.args.names.now.structures.now c.args.walk.now.frames.items c.args.frame.now c.args.walk.now.marks.items below)
