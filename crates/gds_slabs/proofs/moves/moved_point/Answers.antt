use Rattle.std.proofs.Common.{sym, ◌∙◌, ap, subst}
use Rattle.rt_base.specs.Plane.{AreCoordinates}
use Rattle.gds_slabs.specs.Steps.{shifted}
use Rattle.gds_slabs.proofs.moves.moved_point.Goals as goal

pub shifted_point-requires : goal.shifted_point-requires
shifted_point-requires c = subst (λ p. AreCoordinates (shifted c.args.step.now p)) (sym c.turn-turned.ensures) c.requires.to

pub returns : goal.returns
returns c = c.shifted_point.ensures ∙ ap (shifted c.args.step.now) c.turn-turned.ensures
