use Rattle.std.proofs.Common.{List, ◌+◌, sym, subst}
use Rattle.rt_rows.specs.declared.name.Name.{Name}
use Rattle.rt_between.specs.Offers.{AreOffered}
use Rattle.rt_between.proofs.Growing.{more_offered}
use Rattle.rt_vtemplate.specs.Between.{names_off_at}
use Rattle.rt_vtemplate.proofs.between.add_off.Goals as goal

pub loop-pair-preserved : goal.loop-pair-preserved
loop-pair-preserved c =
    subst (λ (names : List Name). AreOffered (names_off_at c.args.q c.args.pairs.now) (c.loop-pair.pair-index + 1) c.args.names.now names) (sym c.in_ok-add_names.ensures)
    (more_offered (names_off_at c.args.q c.args.pairs.now) c.loop-pair.pair-index c.args.names.now c.loop-pair.names c.loop-pair.invariant)
