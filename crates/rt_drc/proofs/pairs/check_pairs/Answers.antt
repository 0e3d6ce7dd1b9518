use Rattle.std.proofs.lemmas.Result.{on_ok_weaker, IfErr-weaker}
use Rattle.rt_rules.specs.Rules.{numbered}
use Rattle.rt_tech.specs.declared.rules.RuleName.TheVariants.{Enclose, Apart}
use Rattle.rt_drc.specs.InOrder.{pair_rules, IsRefusal}
use Rattle.rt_drc.specs.Rows.{cells_of}
use Rattle.rt_drc.proofs.InOrder.{front_refused, behind_refused, both_lists}
use Rattle.rt_drc.proofs.pairs.check_pairs.Goals as goal

pub returns-in-Err-clause-broken : goal.returns-in-Err-clause-broken
returns-in-Err-clause-broken c =
    let tech = c.args.tech.now in
    front_refused tech (cells_of c.args.strips.now) (numbered Enclose 0 tech.encloses) (numbered Apart 0 tech.aparts) c.in-Err.error c.in-Err.ensures.broken

pub returns-clause-kept : goal.returns-clause-kept
returns-clause-kept c =
    let tech = c.args.tech.now in
    on_ok_weaker c.check_aparts.result
    (both_lists tech (cells_of c.args.strips.now) (numbered Enclose 0 tech.encloses) (numbered Apart 0 tech.aparts) c.in_default.ensures.kept) c.check_aparts.ensures.kept

pub returns-clause-broken : goal.returns-clause-broken
returns-clause-broken c =
    let tech = c.args.tech.now in
    let cells = cells_of c.args.strips.now in
    let aparts = numbered Apart 0 tech.aparts in
    IfErr-weaker c.check_aparts.result (IsRefusal tech cells aparts) (IsRefusal tech cells (pair_rules tech))
    (behind_refused tech cells (numbered Enclose 0 tech.encloses) aparts c.in_default.ensures.kept.kept) c.check_aparts.ensures.broken
