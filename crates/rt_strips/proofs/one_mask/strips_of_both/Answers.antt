use Rattle.std.proofs.Common.{◌≡◌, ◌∙◌, ◌++◌, ◌<◌, ◌-◌, ◌^◌, length, List, subst, ap, map, arith}
use Rattle.std.proofs.lemmas.List.{length-map}
use Rattle.rt_base.specs.Plane.{area}
use Rattle.rt_sweep.specs.declared.bar.Bar.{Bar}
use Rattle.rt_strips.specs.OneMask.{BothCover, AreFirstStrips}
use Rattle.rt_strips.specs.Goings.{opened}
use Rattle.rt_strips.specs.Heights.{IsBothBarCell, tagged_bar, pile_of}
use Rattle.rt_strips.proofs.Built.{built_from, first_strips_of_same, all_kept}
use Rattle.rt_strips.proofs.Crossed.{start_above, cells_of_both}
use Rattle.rt_strips.proofs.one_mask.strips_of_both.Goals as goal

pub stack_both-requires : goal.stack_both-requires
stack_both-requires c =
    let sweep = c.in_ok-sweep.sweep in
    built_from (IsBothBarCell sweep.bars) c.empty_stack-stack.result.most sweep.height (pile_of c.empty_stack-stack.result)
    (ap (map area) c.empty_stack-stack.ensures.strips) c.empty_stack-stack.ensures.count (ap (map opened) c.empty_stack-stack.ensures.going)
    (λ x y h. start_above c.add_bars-2.new.bars.items sweep c.in_ok-sweep.ensures 0 x y h.0)

pub returns : goal.returns
returns c =
    let sweep = c.in_ok-sweep.sweep in
    let first = c.args.first.now in
    let second = c.args.second.now in
    let cells = BothCover (map area first) (map area second) in
    let given : c.add_bars-2.new.bars.items ≡ map (tagged_bar 0) first ++ map (tagged_bar 1) second =
    c.in_ok-add_bars-2.ensures ∙ ap (λ (bars : List Bar). bars ++ map (tagged_bar 1) second)
    (c.in_ok-add_bars.ensures ∙ ap (λ (bars : List Bar). bars ++ map (tagged_bar 0) first) c.new-bars.ensures.items) in
    let found = c.stack_both.new.stack.found in
    let few : length (map area found.strips.items) < 2 ^ 64 - 1 = omega (arith, length-map found.strips.items area, found.strips.ok.0, found.strips.ok.1, found.strips.small) in
    all_kept cells (2 ^ 64 - 1) (map area found.strips.items) found.count few
    (subst (λ most. AreFirstStrips cells most (map area found.strips.items) found.count) c.empty_stack-stack.ensures.most
    (first_strips_of_same (IsBothBarCell sweep.bars) cells (cells_of_both first second c.add_bars-2.new.bars.items sweep given c.in_ok-sweep.ensures)
    c.empty_stack-stack.result.most (map area found.strips.items) found.count c.in_ok-stack_both.ensures))
