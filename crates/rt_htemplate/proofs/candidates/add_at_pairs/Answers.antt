use Rattle.std.proofs.Common.{List, ◌+◌, sym, subst}
use Rattle.rt_rows.specs.declared.name.Name.{Name}
use Rattle.rt_between.specs.Offers.{AreOffered}
use Rattle.rt_htemplate.specs.Candidates.{names_at_pair}
use Rattle.rt_between.proofs.Growing.{more_offered}
use Rattle.rt_htemplate.proofs.candidates.add_at_pairs.Goals as goal

pub loop-pair-preserved : goal.loop-pair-preserved
loop-pair-preserved c =
    subst (λ (names : List Name). AreOffered (names_at_pair c.args.pairs.now) (c.loop-pair.pair-index + 1) c.args.names.now names) (sym c.in_ok-add_names.ensures)
    (more_offered (names_at_pair c.args.pairs.now) c.loop-pair.pair-index c.args.names.now c.loop-pair.names c.loop-pair.invariant)
