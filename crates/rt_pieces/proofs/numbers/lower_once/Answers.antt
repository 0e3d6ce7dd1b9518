use Rattle.std.proofs.Common.{map, subst, sym, ◌∙◌}
use Rattle.std.specs.List.{AllWithin}
use Rattle.std.proofs.lemmas.List.{get_or_default}
use Rattle.std.proofs.lemmas.List.Elements.{AllWithin-more}
use Rattle.rt_strips.specs.declared.contact.Seam.{Seam}
use Rattle.rt_strips.specs.Placed.{placed}
use Rattle.rt_pieces.specs.Numbering.{IsJoined, Lowered}
use Rattle.rt_pieces.proofs.Reading.{seam_at}
use Rattle.rt_pieces.proofs.Linking.{seam_changed, true_or_false}
use Rattle.rt_pieces.proofs.numbers.lower_once.Goals as goal
use Rattle.rt_pieces.proofs.numbers.lower_once.Goals.{then-lower_seam, else-lower_seam}

abbrev none : Seam
none = record { below = 0; above = 0 }

pub lower_seam-requires-clause-seam : goal.lower_seam-requires-clause-seam
lower_seam-requires-clause-seam c =
    seam_at (map placed c.args.strips.now) c.args.seams.now c.requires.seams c.loop-seam.seam-index none c.loop-seam-test.true

pub loop-seam-preserved : goal.loop-seam-preserved
loop-seam-preserved c =
    let strips = map placed c.args.strips.now in
    let seams = c.args.seams.now in
    let links = c.loop-seam.links in
    let after = c.lower_seam.new.links in
    elim c.if-lower_seam.branch [
      | then-lower_seam w ↦ record {
        links = c.lower_seam.ensures.links;
        lowered = subst (λ p. Lowered p c.args.links.now after) (sym w.changed-is)
            (seam_changed c.loop-seam.changed c.args.m strips c.args.links.now links after c.loop-seam.invariant.lowered
            (subst (λ p. Lowered p links after) w.if-lower_seam.true c.lower_seam.ensures.lowered));
        joined = λ e. absurd (true_or_false (sym w.changed-is ∙ e));
      }
      | else-lower_seam w ↦
          let same = subst (λ p. Lowered p links after) w.if-lower_seam.false c.lower_seam.ensures.lowered in
          record {
            links = c.lower_seam.ensures.links;
            lowered = subst (λ p. Lowered p c.args.links.now after) (sym w.changed-is)
                (subst (λ t. Lowered c.loop-seam.changed c.args.links.now t) (sym same) c.loop-seam.invariant.lowered);
            joined = λ e. AllWithin-more (IsJoined c.args.m strips after) seams 0 c.loop-seam.seam-index
                (subst (λ t. AllWithin (IsJoined c.args.m strips t) seams 0 c.loop-seam.seam-index) (sym same) (c.loop-seam.invariant.joined (sym w.changed-is ∙ e)))
                (λ d. subst (IsJoined c.args.m strips after) (get_or_default seams c.loop-seam.seam-index none d c.loop-seam-test.true)
                (c.lower_seam.ensures.joined w.if-lower_seam.false));
          }
    ]
