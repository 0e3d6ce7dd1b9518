use Rattle.std.proofs.Common.{◌≡◌, ◌++◌, map, take}
use Rattle.rt_strips.specs.Heights.{tagged_bar}
use Rattle.rt_strips.proofs.one_mask.add_bars.Given as goal

abbrev pub invariant-loop-at : goal.invariant-loop-at
invariant-loop-at l = l.bars.items ≡ l.fn.bars.items ++ map (tagged_bar l.tag) (take l.at-index l.rects)
