use Rattle.std.proofs.Common.{◌≡◌, ◌∙◌, ◌++◌, List, subst, ap, map}
use Rattle.rt_base.specs.Plane.{area}
use Rattle.rt_cells.specs.Rectangles.{Covers}
use Rattle.rt_sweep.specs.declared.bar.Bar.{Bar}
use Rattle.rt_strips.specs.OneMask.{AreFirstStrips}
use Rattle.rt_strips.specs.Goings.{opened}
use Rattle.rt_strips.specs.Heights.{IsBarCell, tagged_bar, pile_of}
use Rattle.rt_strips.proofs.Built.{built_from, first_strips_of_same}
use Rattle.rt_strips.proofs.Crossed.{start_above, cells_of_sweep}
use Rattle.rt_strips.proofs.one_mask.swept.Goals as goal

pub stack_up-requires : goal.stack_up-requires
stack_up-requires c =
    let sweep = c.in_ok-sweep.sweep in
    built_from (IsBarCell sweep.bars 0) c.empty_stack-stack.result.most sweep.height (pile_of c.empty_stack-stack.result)
    (ap (map area) c.empty_stack-stack.ensures.strips) c.empty_stack-stack.ensures.count (ap (map opened) c.empty_stack-stack.ensures.going)
    (start_above c.add_bars.new.bars.items sweep c.in_ok-sweep.ensures 0)

pub returns : goal.returns
returns c =
    let sweep = c.in_ok-sweep.sweep in
    let given : c.add_bars.new.bars.items ≡ map (tagged_bar 0) c.args.rects.now =
    c.in_ok-add_bars.ensures ∙ ap (λ (bars : List Bar). bars ++ map (tagged_bar 0) c.args.rects.now) c.new-bars.ensures.items in
    let kept = map area c.stack_up.new.stack.found.strips.items in
    let count = c.stack_up.new.stack.found.count in
    subst (λ most. AreFirstStrips (Covers (map area c.args.rects.now)) most kept count) c.empty_stack-stack.ensures.most
    (first_strips_of_same (IsBarCell sweep.bars 0) (Covers (map area c.args.rects.now)) (cells_of_sweep c.args.rects.now c.add_bars.new.bars.items sweep given c.in_ok-sweep.ensures)
    c.empty_stack-stack.result.most kept count c.in_ok-stack_up.ensures)
