use Rattle.gds_flat.specs.Drawn.{pieces_in}
use Rattle.gds_flat.proofs.BuildingSteps.{rows_more, rows_small}
use Rattle.gds_flat.proofs.placing.push_rows.Goals as goal

pub loop-row-preserved : goal.loop-row-preserved
loop-row-preserved c =
    let s = c.args.strides.now in
    record {
      small = rows_small s.orient s.origin s.across s.up c.args.counts.0 c.loop-row.row c.loop-row.invariant.small c.in_ok-push_row.ensures.small;
      items = rows_more s.orient s.origin s.across s.up c.args.counts.0 c.loop-row.row (pieces_in c.args.inner.now) (pieces_in c.args.items.now)
          (pieces_in c.loop-row.items) (pieces_in c.push_row.new.items) c.loop-row.invariant.items c.in_ok-push_row.ensures.items;
    }
