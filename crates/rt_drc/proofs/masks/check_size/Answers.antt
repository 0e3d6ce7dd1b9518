use Rattle.rt_rules.specs.Cuts.{KeepsSize}
use Rattle.rt_tech.specs.declared.rules.RuleName.TheVariants.{Size}
use Rattle.rt_drc.specs.Rows.{cells_of}
use Rattle.rt_drc.specs.Squares.{ShowsSize}
use Rattle.rt_drc.proofs.InOrder.{answered_kept, answered_broken}
use Rattle.rt_drc.proofs.Paired.{size_decided}
use Rattle.rt_drc.proofs.masks.check_size.Goals as goal

pub returns-clause-kept : goal.returns-clause-kept
returns-clause-kept c =
    let cells = cells_of c.args.strips.now c.args.m in
    let size = c.args.mask.now.width in
    answered_kept c.answer.result (KeepsSize size cells) (ShowsSize size cells) c.size_breach-found.result
    (size_decided c.args.m c.args.strips.now size c.size_breach-found.result c.size_breach-found.ensures) c.answer.ensures.kept

pub returns-clause-broken : goal.returns-clause-broken
returns-clause-broken c =
    let cells = cells_of c.args.strips.now c.args.m in
    let size = c.args.mask.now.width in
    answered_broken c.answer.result (Size c.args.m) size (KeepsSize size cells) (ShowsSize size cells) c.size_breach-found.result
    (size_decided c.args.m c.args.strips.now size c.size_breach-found.result c.size_breach-found.ensures) c.answer.ensures.broken
