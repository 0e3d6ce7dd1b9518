use Rattle.std.proofs.Common.{rules, FitsSigned}
use mir.Syntax.{w128}
use Rattle.rt_frac.proofs.Euclid.{quotient_is, floor_is}
use Rattle.rt_frac.proofs.frac.Frac.floor.Goals as goal

pub returns : goal.returns
returns c =
    let f = c.args.self.now in
    let num : FitsSigned w128 f.num = search rules in
    let den : FitsSigned w128 f.den = search rules in
    floor_is f _ c.requires.positive (quotient_is f.num f.den c.div_euclid.result num den (record { sfits = c.div_euclid.type_inv }) c.div_euclid.ensures)
