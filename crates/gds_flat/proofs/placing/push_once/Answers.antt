use Rattle.gds_flat.specs.Drawn.{pieces_in}
use Rattle.gds_flat.proofs.BuildingSteps.{once_moved}
use Rattle.gds_flat.proofs.placing.push_once.Goals as goal

pub returns : goal.returns
returns c =
    once_moved c.push_moved.result c.args.place.now c.orient_of.result c.args.at.now c.step_to-step.result (pieces_in c.args.inner.now) c.args.items.now c.push_moved.new.items
    c.orient_of.ensures c.step_to-step.ensures.value c.step_to-step.ensures.small c.push_moved.ensures
