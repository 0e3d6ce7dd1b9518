use Rattle.std.proofs.Common.{◌≤ℤ◌, arith, get_or, subst, sym}
use Rattle.rt_sweep.proofs.Tops.{read_at}
use Rattle.rt_sweep.specs.declared.bar.Bar.{Bar}
use Rattle.rt_cover.specs.Across.{IsReachUpTo}
use Rattle.rt_cover.proofs.Reaching.{reach_onward, no_reach}
use Rattle.rt_cover.proofs.Looking.{looked_none, looked_more}
use Rattle.rt_cover.proofs.across.look_across.Goals as goal

pub loop-bar-init : goal.loop-bar-init
loop-bar-init c = record {
  reach = λ j d h l. no_reach c.args.active.now c.args.count (get_or c.args.active.now j d).at.x1;
  looked = looked_none c.args.active.now c.args.count c.args.slab.now.bottom c.args.found.now;
}

pub reach_to-requires : goal.reach_to-requires
reach_to-requires c =
    subst (λ (b : Bar). IsReachUpTo c.args.active.now c.args.count b.at.x1 c.loop-bar.reach.next c.loop-bar.reach.right) (sym c.bar-item.is)
    (c.loop-bar.invariant.reach c.loop-bar.bar-index c.bar-item.result (omega arith) c.loop-bar-test.true)

pub loop-bar-preserved : goal.loop-bar-preserved
loop-bar-preserved c =
    let bars = c.args.active.now in
    let i = c.loop-bar.bar-index in
    let bar = c.bar-item.result in
    let at = read_at bars i bar c.loop-bar-test.true c.bar-item.is in
    let next = c.reach_to.new.reach.next in
    let right = c.reach_to.new.reach.right in
    record {
      reach = λ j d h l.
          reach_onward bars c.args.count bar.at.x1 (get_or bars j d).at.x1 next right
          (subst (λ (b : Bar). b.at.x1 ≤ℤ (get_or bars j d).at.x1) (at d) (c.requires.across i j d (omega arith) l)) c.reach_to.ensures.up_to;
      looked = looked_more bars c.args.count c.requires.across c.requires.runs i c.loop-bar-test.true bar at next right c.reach_to.ensures
          c.args.slab.now.bottom c.args.found.now c.loop-bar.found c.note.new.found c.loop-bar.invariant.looked c.note.ensures;
    }
