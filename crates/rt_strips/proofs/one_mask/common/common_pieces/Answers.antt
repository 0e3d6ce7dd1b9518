use Rattle.std.proofs.Common.{◌∙◌, map, sym, ap, arith, inl, inr}
use Rattle.std.proofs.lemmas.Int.{ints}
use Rattle.std.proofs.lemmas.List.{length-map, get_or-map}
use Rattle.rt_base.specs.Plane.{area}
use Rattle.rt_strips.specs.Stacks.{no_area}
use Rattle.rt_strips.proofs.Commons.{common_first, common_second, common_ends}
use Rattle.rt_strips.proofs.one_mask.common.common_pieces.Goals as goal

pub loop-i-preserved-then-a-b : goal.loop-i-preserved-then-a-b
loop-i-preserved-then-a-b c =
    let first = map area c.args.first.now in
    let second = map area c.args.second.now in
    let a = c.index-first-i.result in
    let b = c.index-second-j.result in
    common_first first second c.loop-i.i c.loop-i.j (map area c.loop-i.into.items) (map area c.add_common.new.into.items) c.loop-i.invariant
    (omega (arith, length-map c.args.first.now area)) (omega (arith, length-map c.args.second.now area)) (area a) (area b)
    (get_or-map area c.args.first.now c.loop-i.i a no_area c.loop-i-test.true ∙ ap area (sym c.index-first-i.is))
    (get_or-map area c.args.second.now c.loop-i.j b no_area c.if-j-second.true ∙ ap area (sym c.index-second-j.is))
    c.in_ok-add_common.ensures (omega (arith, ints))

pub loop-i-preserved : goal.loop-i-preserved
loop-i-preserved c =
    let first = map area c.args.first.now in
    let second = map area c.args.second.now in
    let a = c.index-first-i.result in
    let b = c.index-second-j.result in
    common_second first second c.loop-i.i c.loop-i.j (map area c.loop-i.into.items) (map area c.add_common.new.into.items) c.loop-i.invariant
    (omega (arith, length-map c.args.first.now area)) (omega (arith, length-map c.args.second.now area)) (area a) (area b)
    (get_or-map area c.args.first.now c.loop-i.i a no_area c.loop-i-test.true ∙ ap area (sym c.index-first-i.is))
    (get_or-map area c.args.second.now c.loop-i.j b no_area c.if-j-second.true ∙ ap area (sym c.index-second-j.is))
    c.in_ok-add_common.ensures (omega (arith, ints))

pub returns-else-j-second : goal.returns-else-j-second
returns-else-j-second c =
    common_ends (map area c.args.first.now) (map area c.args.second.now) c.loop-i.i c.loop-i.j (map area c.loop-i.into.items) c.loop-i.invariant
    (inr (omega (arith, length-map c.args.second.now area)))

pub returns-after-loop-i : goal.returns-after-loop-i
returns-after-loop-i c =
    common_ends (map area c.args.first.now) (map area c.args.second.now) c.loop-i.i c.loop-i.j (map area c.loop-i.into.items) c.loop-i.invariant
    (inl (omega (arith, length-map c.args.first.now area)))
