use Rattle.std.proofs.Common.{◌<◌, length, rules, arith, sym}
use Rattle.std.proofs.lemmas.List.{length-map}
use Rattle.std.proofs.lemmas.Option.{slice_get_within}
use Rattle.gds_flat.specs.Walking.{opens}
use Rattle.gds_flat.proofs.Coming.{come_circle, come_again}
use Rattle.gds_flat.proofs.walk.remember.Goals as goal

pub circle-requires : goal.circle-requires
circle-requires c =
    let low = slice_get_within (opens c.args.walk.now.frames.items) c.args.place c.args.structure
    (c.requires.walk.marked.open_at c.args.structure c.args.place c.requires.open.marked) in
    let same = length-map c.args.walk.now.frames.items (λ f. f.structure) in
    let below : c.args.place < length c.args.walk.now.frames.items = omega arith in
    search rules

pub returns-then-is_some-clause-ok : goal.returns-then-is_some-clause-ok
returns-then-is_some-clause-ok c =
    come_again c.args.names.now.structures.now c.args.names.now.top.now c.args.walk.now.frames.items c.args.walk.now.marks.items
    c.args.walk.now.order.items c.args.walk.now.finish.items c.args.walk.now.circle c.args.structure c.args.place c.requires.open.marked
    (sym c.if-is_some.ensures) c.requires.walk

pub returns-clause-ok : goal.returns-clause-ok
returns-clause-ok c =
    come_circle c.args.names.now.structures.now c.args.names.now.top.now c.args.walk.now.frames.items c.args.walk.now.marks.items
    c.args.walk.now.order.items c.args.walk.now.finish.items c.args.walk.now.circle c.args.structure c.args.place c.in_ok-circle.circle
    c.requires.open.marked (rw (c.deref.ensures.value) at c.in_ok-circle.ensures) c.requires.walk
