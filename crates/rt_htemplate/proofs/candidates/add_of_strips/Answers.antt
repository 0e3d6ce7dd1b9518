use Rattle.std.proofs.Common.{List, ◌+◌, sym, subst}
use Rattle.rt_rows.specs.declared.name.Name.{Name}
use Rattle.rt_between.specs.Offers.{AreOffered}
use Rattle.rt_htemplate.specs.Candidates.{names_of_strip}
use Rattle.rt_between.proofs.Growing.{more_offered}
use Rattle.rt_htemplate.proofs.candidates.add_of_strips.Goals as goal

pub loop-i-preserved : goal.loop-i-preserved
loop-i-preserved c =
    subst (λ (names : List Name). AreOffered names_of_strip (c.loop-i.i + 1) c.args.names.now names) (sym c.in_ok-add_names.ensures)
    (more_offered names_of_strip c.loop-i.i c.args.names.now c.loop-i.names c.loop-i.invariant)
