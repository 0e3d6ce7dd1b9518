use Rattle.std.proofs.Common.{◌≡◌, refl, List, map, subst}
use Rattle.rt_layout.specs.declared.layout.Label.{Label}
use Rattle.rt_view.specs.Job.{strips_of}
use Rattle.rt_rows.specs.Places.{places}
use Rattle.rt_strips.specs.declared.listing.Strip.{Strip}
use Rattle.rt_strips.specs.Placed.{placed}
use Rattle.rt_template.specs.Drawing.{drawn}
use Rattle.rt_carry.specs.Shapes.{shape_of}
use Rattle.rt_carry.specs.Texts.{AreNotesOf}
use Rattle.rt_carry.proofs.drawing.draw.Goals as goal

pub returns : goal.returns
returns c =
    let job = c.args.job.now in
    let at = places c.args.at.now in
    let notes = c.in_ok-notes.field-0 in
    record {
      in_library = c.in_ok-copy.ensures;
      named = c.in_ok-copy-2.ensures;
      units = refl;
      shapes = subst (λ (strips : List Strip). c.in_ok-shapes.field-0 ≡ map (shape_of job.target) (drawn job.target.grid at (map placed strips))) c.as_slice.ensures
          c.in_ok-shapes.ensures;
      texts = subst (λ (labels : List Label). AreNotesOf job.target (strips_of job) at labels notes) c.as_slice-3.ensures
          (subst (λ (strips : List Strip). AreNotesOf job.target (map placed strips) at c.as_slice-3.result.now notes) c.as_slice-2.ensures c.in_ok-notes.ensures);
    }
