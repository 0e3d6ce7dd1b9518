use Rattle.std.proofs.lemmas.Result.{IfOk-weaker}
use Rattle.gds_slabs.specs.Slabs.{IsSlabCount}
use Rattle.gds_slabs.proofs.Counts.{count_swept}
use Rattle.gds_slabs.proofs.OneSlab.{one_counted}
use Rattle.gds_slabs.proofs.sweep.slab_count.Goals as goal

pub returns : goal.returns
returns c =
    IfOk-weaker c.count_of.result _ (IsSlabCount c.args.points.now)
    (λ count e.
    count_swept c.args.points.now c.requires.closed c.requires.straight c.in_ok-toggles.toggles.items
    c.in_ok-toggles.ensures.permutation c.in_ok-toggles.ensures.ascending c.in_ok-toggles.ensures.small c.deref.result.now c.deref.ensures.value _ count e)
    c.count_of.ensures

pub returns-then-goes_around : goal.returns-then-goes_around
returns-then-goes_around c = one_counted c.args.points.now c.requires.closed c.requires.straight (c.goes_around.ensures.0 c.if-goes_around.true)
