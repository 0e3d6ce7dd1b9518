use Rattle.rt_tableau.proofs.Starting.{row_fits, strips_further, strips_at_last}
use Rattle.rt_tableau.proofs.start.strips_named.Goals as goal

pub strips_in-requires : goal.strips_in-requires
strips_in-requires c = row_fits c.args.rows.now c.loop-row.row-index _ c.loop-row-test.true c.requires

pub loop-row-preserved : goal.loop-row-preserved
loop-row-preserved c = strips_further c.args.rows.now c.loop-row.row-index _ c.loop-row.strips c.strips_in.result c.greater-strips.result c.loop-row-test.true c.loop-row.invariant c.strips_in.ensures c.greater-strips.ensures

pub returns : goal.returns
returns c = strips_at_last c.args.rows.now c.loop-row.row-index c.loop-row.strips c.loop-row-test.false c.loop-row.invariant
