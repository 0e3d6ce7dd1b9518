use Rattle.std.proofs.Common.{List, ◌+◌, sym, subst}
use Rattle.rt_rows.specs.declared.name.Name.{Name}
use Rattle.rt_between.specs.Offers.{AreOffered}
use Rattle.rt_between.proofs.Growing.{more_offered}
use Rattle.rt_vtemplate.specs.Between.{names_of_cut}
use Rattle.rt_vtemplate.proofs.between.add_of_cuts.Goals as goal

pub loop-i-preserved : goal.loop-i-preserved
loop-i-preserved c =
    subst (λ (names : List Name). AreOffered names_of_cut (c.loop-i.i + 1) c.args.names.now names) (sym c.in_ok-add_names.ensures)
    (more_offered names_of_cut c.loop-i.i c.args.names.now c.loop-i.names c.loop-i.invariant)
