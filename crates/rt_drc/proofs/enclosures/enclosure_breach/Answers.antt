use Rattle.rt_drc.proofs.Enclosed.{beyond_bare, bare_shows, bare_decides}
use Rattle.rt_drc.proofs.enclosures.enclosure_breach.Goals as goal

pub returns-in-Some : goal.returns-in-Some
returns-in-Some c =
    bare_shows c.args.counted.now c.args.mask c.args.strips.now c.args.number.now c.in-Some.witness c.requires.number c.requires.inside
    (beyond_bare c.args.counted.now c.args.mask c.args.strips.now c.args.number.now c.in-Some.witness c.in-Some.ensures)

pub returns : goal.returns
returns c =
    bare_decides c.args.counted.now c.args.mask c.args.strips.now c.args.number.now c.first_bare.result c.requires.number c.requires.inside c.first_bare.ensures
