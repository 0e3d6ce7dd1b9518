use Rattle.std.proofs.Common.{arith}
use Rattle.rt_sweep.proofs.Tops.{read_at}
use Rattle.rt_columns.proofs.Kept.{none_passing, one_more_passing, all_passing}
use Rattle.rt_columns.proofs.slab.pass.Goals as goal

pub loop-bar-init : goal.loop-bar-init
loop-bar-init c = none_passing c.args.active.now c.args.slab.now.top c.clear.new.self.items c.clear.ensures.items

pub loop-bar-preserved : goal.loop-bar-preserved
loop-bar-preserved c =
    one_more_passing c.args.active.now c.requires.bars c.loop-bar.bar-index c.args.slab.now.top c.loop-bar.into.items c.keep.new.into.items c.loop-bar.invariant
    c.loop-bar-test.true c.bar-item.result (read_at _ _ _ c.loop-bar-test.true c.bar-item.is) c.in_ok-keep.ensures

pub returns : goal.returns
returns c = all_passing c.args.active.now c.loop-bar.bar-index c.args.slab.now.top c.loop-bar.into.items c.loop-bar.invariant (omega arith)
