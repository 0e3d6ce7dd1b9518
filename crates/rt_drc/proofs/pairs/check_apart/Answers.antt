use Rattle.std.proofs.Common.{pos, Some, refl, map}
use Rattle.rt_rules.specs.Rules.{KeepsDistance}
use Rattle.rt_shapes.proofs.Cutting.{family_of}
use Rattle.rt_strips.specs.Placed.{placed}
use Rattle.rt_tech.specs.declared.rules.RuleName.TheVariants.{Apart}
use Rattle.rt_drc.specs.InOrder.{ShowsDistant}
use Rattle.rt_drc.specs.Rows.{cells_of}
use Rattle.rt_drc.proofs.InOrder.{answered_kept, answered_broken}
use Rattle.rt_drc.proofs.Paired.{distance_is_decided}
use Rattle.rt_drc.proofs.pairs.check_apart.Goals as goal

pub distance_breach-requires-clause-first : goal.distance_breach-requires-clause-first
distance_breach-requires-clause-first c = family_of (map placed c.args.strips.now) c.requires.strips c.args.apart.now.a

pub distance_breach-requires-clause-second : goal.distance_breach-requires-clause-second
distance_breach-requires-clause-second c = family_of (map placed c.args.strips.now) c.requires.strips c.args.apart.now.b

pub returns-clause-kept : goal.returns-clause-kept
returns-clause-kept c =
    answered_kept c.answer.result (KeepsDistance (pos 1) c.args.tech.now (cells_of c.args.strips.now) (Some c.args.apart.now))
    (ShowsDistant c.args.tech.now (cells_of c.args.strips.now) c.args.apart.now) c.in-Ok.found
    (distance_is_decided c.args.tech.now c.args.strips.now c.args.lowers.now c.requires.cuts c.requires.pairs c.args.n
    (record { mask = c.args.apart.now.a; lower = c.args.apart.now.on; lowers = c.args.lowers }) refl c.args.apart.now c.requires.entry refl refl
    c.in-Ok.found c.in-Ok.ensures) c.answer.ensures.kept

pub returns-clause-broken : goal.returns-clause-broken
returns-clause-broken c =
    answered_broken c.answer.result (Apart c.args.n) c.args.apart.now.number (KeepsDistance (pos 1) c.args.tech.now (cells_of c.args.strips.now) (Some c.args.apart.now))
    (ShowsDistant c.args.tech.now (cells_of c.args.strips.now) c.args.apart.now) c.in-Ok.found
    (distance_is_decided c.args.tech.now c.args.strips.now c.args.lowers.now c.requires.cuts c.requires.pairs c.args.n
    (record { mask = c.args.apart.now.a; lower = c.args.apart.now.on; lowers = c.args.lowers }) refl c.args.apart.now c.requires.entry refl refl
    c.in-Ok.found c.in-Ok.ensures) c.answer.ensures.broken
