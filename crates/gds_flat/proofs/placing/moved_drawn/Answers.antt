use Rattle.gds_flat.proofs.BoundsOfSteps.{area_fits, note_fits}
use Rattle.gds_flat.proofs.placing.moved_drawn.Goals as goal

pub moved_rect-requires : goal.moved_rect-requires
moved_rect-requires c = area_fits c.args.step.now c.args.drawn.now c.in-Area.rect c.in-Area.is c.requires.small c.requires.near

pub moved_point-requires-clause-to : goal.moved_point-requires-clause-to
moved_point-requires-clause-to c = note_fits c.args.step.now c.args.drawn.now c.in-Note.at c.in-Note.text c.in-Note.is c.requires.small c.requires.near
