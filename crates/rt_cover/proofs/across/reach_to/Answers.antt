use Rattle.std.proofs.Common.{◌≤ℤ◌, arith, get_or, subst}
use Rattle.std.proofs.lemmas.Int.{ints}
use Rattle.rt_sweep.proofs.Tops.{read_at}
use Rattle.rt_sweep.specs.declared.bar.Bar.{Bar}
use Rattle.rt_cover.proofs.Reaching.{taken}
use Rattle.rt_cover.proofs.across.reach_to.Goals as goal

pub loop-reach-preserved : goal.loop-reach-preserved
loop-reach-preserved c =
    let bars = c.args.active.now in
    let next = c.loop-reach.reach.next in
    let tested = c.index-active-reach.result in
    let bar = c.index-active-reach-in-loop-reach.result in
    let at = read_at bars next bar c.loop-reach-test.true c.index-active-reach-in-loop-reach.is in
    let low : (get_or bars next tested).at.x1 ≤ℤ c.args.bar.now.at.x1 = omega (arith, ints) in
    taken bars c.args.count c.args.bar.now.at.x1 next c.loop-reach.reach.right bar at c.loop-reach-test.true
    (subst (λ (b : Bar). b.at.x1 ≤ℤ c.args.bar.now.at.x1) (at tested) low)
    c.loop-reach.invariant c.take.new.reach.next c.take.new.reach.right c.take.ensures
