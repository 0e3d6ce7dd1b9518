use Rattle.gds_flat.specs.Drawn.{pieces_in}
use Rattle.gds_flat.proofs.BuildingSteps.{row_more, row_small}
use Rattle.gds_flat.proofs.placing.push_row.Goals as goal

pub loop-column-preserved : goal.loop-column-preserved
loop-column-preserved c =
    let s = c.args.strides.now in
    record {
      small = row_small s.orient s.origin s.across s.up c.loop-column.column c.args.row c.step_in-step.result c.step_in-step.ensures.value c.step_in-step.ensures.small
          c.loop-column.invariant.small;
      items = row_more s.orient s.origin s.across s.up c.loop-column.column c.args.row c.step_in-step.result (pieces_in c.args.inner.now) (pieces_in c.args.items.now)
          (pieces_in c.loop-column.items) (pieces_in c.push_moved.new.items) c.step_in-step.ensures.value c.loop-column.invariant.items c.in_ok-push_moved.ensures;
    }
