use Rattle.std.proofs.Common.{◌^◌, pos, sym, ◌∙◌, ap, subst}
use Rattle.gds_slabs.specs.Steps.{rect_shifted, IsWithin}
use Rattle.gds_slabs.proofs.moves.moved_rect.Goals as goal

pub shifted_rect-requires : goal.shifted_rect-requires
shifted_rect-requires c = subst (λ r. IsWithin (pos (2 ^ 61)) (rect_shifted c.args.step.now r)) (sym c.turned_rect-turned.ensures) c.requires

pub returns : goal.returns
returns c = c.shifted_rect.ensures ∙ ap (rect_shifted c.args.step.now) c.turned_rect-turned.ensures
