use Rattle.std.proofs.Common.{List, ◌+◌, sym, subst}
use Rattle.rt_rows.specs.declared.name.Name.{Name}
use Rattle.rt_between.specs.Offers.{AreOffered}
use Rattle.rt_htemplate.specs.Candidates.{names_at_seam}
use Rattle.rt_between.proofs.Growing.{more_offered}
use Rattle.rt_htemplate.proofs.candidates.add_at_seams.Goals as goal

pub loop-seam-preserved : goal.loop-seam-preserved
loop-seam-preserved c =
    subst (λ (names : List Name). AreOffered (names_at_seam c.args.seams.now) (c.loop-seam.seam-index + 1) c.args.names.now names) (sym c.in_ok-add_names.ensures)
    (more_offered (names_at_seam c.args.seams.now) c.loop-seam.seam-index c.args.names.now c.loop-seam.names c.loop-seam.invariant)
