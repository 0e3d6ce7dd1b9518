use Rattle.std.proofs.Common.{◌+◌, arith, get_or, subst, sym}
use Rattle.std.proofs.lemmas.Int.{ints}
use Rattle.rt_sweep.specs.declared.bar.Bar.{Bar}
use Rattle.rt_drc.proofs.Walking.{AreWalked, IsFarthest, is_far_more, is_far_here, walk_same, walk_further, strange_clashes, walked_all}
use Rattle.rt_drc.proofs.clash.clash_across.Goals as goal
use Rattle.rt_drc.proofs.clash.clash_across.Goals.{then-first-second, else-first-second}

pub returns-then-is_strange : goal.returns-then-is_strange
returns-then-is_strange c =
    strange_clashes c.args.groups.now c.args.bars.now c.loop-i.i c.loop-i.farthest c.index-bars-farthest.result c.index-bars-i.result
    c.loop-i-test.true c.loop-i.invariant.farthest c.loop-i.invariant.walked c.requires.in_order c.index-bars-farthest.is c.index-bars-i.is c.if-is_strange.ensures

pub loop-i-preserved : goal.loop-i-preserved
loop-i-preserved c =
    elim c.if-first-second.branch [
      | then-first-second w ↦ record {
        farthest = subst (IsFarthest (c.loop-i.i + 1)) (sym w.farthest-is) (is_far_here c.loop-i.i);
        walked = subst (λ far. (d : Bar) → AreWalked c.args.groups.now (λ k. get_or c.args.bars.now k d) (c.loop-i.i + 1) far) (sym w.farthest-is)
            (walk_further c.args.groups.now c.args.bars.now c.loop-i.i c.loop-i.farthest c.index-bars-farthest.result c.index-bars-i.result
            c.loop-i-test.true c.loop-i.invariant.farthest c.loop-i.invariant.walked c.requires.in_order c.index-bars-farthest.is c.index-bars-i.is c.if-is_strange.ensures (omega (arith, ints)));
      }
      | else-first-second w ↦ record {
        farthest = subst (IsFarthest (c.loop-i.i + 1)) (sym w.farthest-is) (is_far_more c.loop-i.i c.loop-i.farthest c.loop-i.invariant.farthest);
        walked = subst (λ far. (d : Bar) → AreWalked c.args.groups.now (λ k. get_or c.args.bars.now k d) (c.loop-i.i + 1) far) (sym w.farthest-is)
            (walk_same c.args.groups.now c.args.bars.now c.loop-i.i c.loop-i.farthest c.index-bars-farthest.result c.index-bars-i.result
            c.loop-i-test.true c.loop-i.invariant.farthest c.loop-i.invariant.walked c.requires.in_order c.index-bars-farthest.is c.index-bars-i.is c.if-is_strange.ensures (omega (arith, ints)));
      }
    ]

pub returns : goal.returns
returns c =
    walked_all c.args.groups.now c.args.bars.now c.loop-i.farthest
    (λ d. subst (λ n. AreWalked c.args.groups.now (λ k. get_or c.args.bars.now k d) n c.loop-i.farthest) (omega (arith, c.loop-i-test.false)) (c.loop-i.invariant.walked d))
