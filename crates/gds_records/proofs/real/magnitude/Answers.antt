use Rattle.std.proofs.Common.{arith}
use Rattle.gds_records.proofs.Magnitudes.{one_number}
use Rattle.gds_records.proofs.Turns.{grown_magnitude, shrunk_none, shrunk_some}
use Rattle.gds_records.proofs.real.magnitude.Goals as goal

pub returns-then-exponent-gt-WHOLE : goal.returns-then-exponent-gt-WHOLE
returns-then-exponent-gt-WHOLE c = grown_magnitude c.args.exponent c.args.fraction c.grown.result c.if-exponent-gt-WHOLE.true c.grown.ensures

pub returns-in_default : goal.returns-in_default
returns-in_default c = λ n is within. shrunk_none c.args.exponent c.args.fraction c.if-exponent-gt-WHOLE.false c.in_default.ensures n is

pub returns-then-number-le-LARGEST : goal.returns-then-number-le-LARGEST
returns-then-number-le-LARGEST c =
    (shrunk_some c.args.exponent c.args.fraction c.in-Some.number c.if-exponent-gt-WHOLE.false c.in-Some.ensures, c.if-number-le-LARGEST.true)

pub returns-else-number-le-LARGEST : goal.returns-else-number-le-LARGEST
returns-else-number-le-LARGEST c = λ n is within.
    let same = one_number c.args.exponent c.args.fraction n c.in-Some.number is (shrunk_some c.args.exponent c.args.fraction c.in-Some.number c.if-exponent-gt-WHOLE.false c.in-Some.ensures) in
    omega arith
