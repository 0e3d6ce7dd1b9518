use Rattle.std.proofs.Common.{rules, FitsSigned, ◌*ℤ◌}
use Rattle.rt_cells.proofs.Times.{positive_times}
use mir.Syntax.{w128}
use Rattle.rt_frac.specs.Fracs.{ProductFits}
use Rattle.rt_frac.proofs.Stored.{product_is, made}
use Rattle.rt_frac.proofs.frac.Frac.mul.Goals as goal

pub returns : goal.returns
returns c =
    let a = c.args.self.now in
    let b = c.args.other.now in
    let an : FitsSigned w128 a.num = search rules in
    let ad : FitsSigned w128 a.den = search rules in
    let bn : FitsSigned w128 b.num = search rules in
    let bd : FitsSigned w128 b.den = search rules in
    let above = product_is a.num b.num c.in_ok-above.above an bn c.in_ok-above.ensures in
    let below = product_is a.den b.den c.in_ok-below.below ad bd c.in_ok-below.ensures in
    made c.in_ok-above.above c.in_ok-below.below (a.num *ℤ b.num) (a.den *ℤ b.den) c.new.result (¬ ProductFits a b) above.0 below.0 above.1 below.1
    (positive_times a.den b.den c.requires.first.positive c.requires.second.positive) c.new.ensures
