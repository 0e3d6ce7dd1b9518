use Rattle.std.proofs.Common.{pos, Some, refl}
use Rattle.rt_rules.specs.Rules.{KeepsEnclose}
use Rattle.rt_tech.specs.declared.rules.RuleName.TheVariants.{Enclose}
use Rattle.rt_drc.specs.InOrder.{ShowsEnclosed}
use Rattle.rt_drc.specs.Rows.{cells_of}
use Rattle.rt_drc.proofs.InOrder.{answered_kept, answered_broken}
use Rattle.rt_drc.proofs.Paired.{enclose_lies, enclose_decided}
use Rattle.rt_drc.proofs.pairs.check_enclose.Goals as goal

pub enclosure_breach-requires-clause-inside : goal.enclosure_breach-requires-clause-inside
enclosure_breach-requires-clause-inside c =
    enclose_lies c.args.tech.now c.args.strips.now c.args.lowers.now c.requires.cuts c.requires.pairs c.args.n
    (record { mask = c.args.enclose.now.cut; lower = c.lower_mask.result; lowers = c.args.lowers }) refl c.args.enclose.now c.requires.entry refl c.lower_mask.ensures

pub returns-clause-kept : goal.returns-clause-kept
returns-clause-kept c =
    answered_kept c.answer.result (KeepsEnclose (pos 1) c.args.tech.now (cells_of c.args.strips.now) (Some c.args.enclose.now))
    (ShowsEnclosed c.args.tech.now (cells_of c.args.strips.now) c.args.enclose.now) c.in-Ok.found
    (enclose_decided c.args.tech.now c.args.strips.now c.args.lowers.now c.requires.cuts c.requires.pairs c.args.n
    (record { mask = c.args.enclose.now.cut; lower = c.lower_mask.result; lowers = c.args.lowers }) refl c.args.enclose.now c.requires.entry refl c.lower_mask.ensures
    c.in-Ok.found c.in-Ok.ensures) c.answer.ensures.kept

pub returns-clause-broken : goal.returns-clause-broken
returns-clause-broken c =
    answered_broken c.answer.result (Enclose c.args.n) c.args.enclose.now.number (KeepsEnclose (pos 1) c.args.tech.now (cells_of c.args.strips.now) (Some c.args.enclose.now))
    (ShowsEnclosed c.args.tech.now (cells_of c.args.strips.now) c.args.enclose.now) c.in-Ok.found
    (enclose_decided c.args.tech.now c.args.strips.now c.args.lowers.now c.requires.cuts c.requires.pairs c.args.n
    (record { mask = c.args.enclose.now.cut; lower = c.lower_mask.result; lowers = c.args.lowers }) refl c.args.enclose.now c.requires.entry refl c.lower_mask.ensures
    c.in-Ok.found c.in-Ok.ensures) c.answer.ensures.broken
