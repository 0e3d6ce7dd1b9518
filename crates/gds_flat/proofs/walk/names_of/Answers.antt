use Rattle.gds_flat.proofs.Coming.{named_more}
use Rattle.gds_flat.proofs.walk.names_of.Goals as goal

pub loop-place-preserved : goal.loop-place-preserved
loop-place-preserved c =
    let i = c.loop-place.place-index in
    rw (c.in_ok-push.ensures.ok)
    (named_more c.args.structures.now c.args.places.now i c.index-structures-place.result c.loop-place.names c.in_ok-copy.field-0
    c.loop-place-test.true (c.requires i 0 c.loop-place-test.true) c.index-structures-place.is c.loop-place.invariant (rw (← c.index-structures-place.is) at c.in_ok-copy.ensures))
