use Rattle.rt_near.proofs.Listed.{more_pairs}
use Rattle.rt_near.proofs.pairs.pairs_of.Goals as goal

pub loop-place-preserved : goal.loop-place-preserved
loop-place-preserved c =
    more_pairs c.args.entries.now c.loop-place.place c.loop-place.pairs c.add_close.new.pairs c.loop-place.invariant c.in_ok-add_close.ensures
