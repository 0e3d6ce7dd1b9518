use Rattle.std.proofs.Common.{rules, FitsSigned, ◌+ℤ◌, ◌*ℤ◌}
use Rattle.rt_cells.proofs.Times.{positive_times}
use mir.Syntax.{w128}
use Rattle.rt_frac.specs.Fracs.{SumFits}
use Rattle.rt_frac.proofs.Stored.{product_is, sum_is, no_sum, made}
use Rattle.rt_frac.proofs.frac.Frac.add.Goals as goal

pub returns-in_default : goal.returns-in_default
returns-in_default c = λ fits.
    let a = c.args.self.now in
    let b = c.args.other.now in
    let an : FitsSigned w128 a.num = search rules in
    let ad : FitsSigned w128 a.den = search rules in
    let bn : FitsSigned w128 b.num = search rules in
    let bd : FitsSigned w128 b.den = search rules in
    let first = product_is a.num b.den c.in_ok-first.first an bd c.in_ok-first.ensures in
    let second = product_is b.num a.den c.in_ok-second.second bn ad c.in_ok-second.ensures in
    no_sum c.in_ok-first.first c.in_ok-second.second (a.num *ℤ b.den) (b.num *ℤ a.den) first.0 second.0 first.1 second.1 c.in_default.ensures fits.sum

pub returns : goal.returns
returns c =
    let a = c.args.self.now in
    let b = c.args.other.now in
    let an : FitsSigned w128 a.num = search rules in
    let ad : FitsSigned w128 a.den = search rules in
    let bn : FitsSigned w128 b.num = search rules in
    let bd : FitsSigned w128 b.den = search rules in
    let first = product_is a.num b.den c.in_ok-first.first an bd c.in_ok-first.ensures in
    let second = product_is b.num a.den c.in_ok-second.second bn ad c.in_ok-second.ensures in
    let x = a.num *ℤ b.den in
    let y = b.num *ℤ a.den in
    let sum = sum_is c.in_ok-first.first c.in_ok-second.second x y c.in-Some.sum first.0 second.0 first.1 second.1 c.in-Some.ensures in
    let below = product_is a.den b.den c.in-Some-checked_mul.below ad bd c.in-Some-checked_mul.ensures in
    made c.in-Some.sum c.in-Some-checked_mul.below (x +ℤ y) (a.den *ℤ b.den) c.new.result (¬ SumFits a b) sum.0 below.0 sum.1 below.1
    (positive_times a.den b.den c.requires.first.positive c.requires.second.positive) c.new.ensures
