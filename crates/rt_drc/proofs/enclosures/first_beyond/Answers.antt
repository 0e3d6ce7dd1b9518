use Rattle.rt_drc.proofs.Enclosed.{room_more, room_same, beyond_shows}
use Rattle.rt_drc.proofs.enclosures.first_beyond.Goals as goal
use Rattle.rt_drc.proofs.enclosures.first_beyond.Goals.{then-counts+in_default, else-counts}

pub returns-in-Some : goal.returns-in-Some
returns-in-Some c =
    beyond_shows c.args.counted.now c.args.strips.now c.args.number.now c.loop-i.i c.index-strips-i.result c.in-Some.witness c.loop-i-test.true c.if-counts.ensures c.in-Some.ensures

pub loop-i-preserved : goal.loop-i-preserved
loop-i-preserved c =
    elim c.if-counts.branch [
      | then-counts+in_default w ↦
          room_more c.args.counted.now c.args.strips.now c.args.number.now c.loop-i.i w.index-strips-i.result c.loop-i-test.true w.in_default.ensures c.loop-i.invariant
      | else-counts w ↦ room_same c.args.counted.now c.args.strips.now c.args.number.now c.loop-i.i w.if-counts.ensures c.loop-i.invariant
    ]
