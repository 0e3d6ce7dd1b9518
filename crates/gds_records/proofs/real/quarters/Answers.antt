use Rattle.std.proofs.Common.{◌*◌}
use Rattle.gds_records.proofs.Turns.{shrunk_none, shrunk_some, quarters_large, quarters_large_none, quarters_some, quarters_none}
use Rattle.gds_records.proofs.real.quarters.Goals as goal

pub returns-then-fraction-eq0 : goal.returns-then-fraction-eq0
returns-then-fraction-eq0 c = quarters_large c.args.exponent c.args.fraction c.if-exponent-gt-WHOLE.true c.if-fraction-eq0.true

pub returns-else-fraction-eq0 : goal.returns-else-fraction-eq0
returns-else-fraction-eq0 c = quarters_large_none c.args.exponent c.args.fraction c.if-exponent-gt-WHOLE.true c.if-fraction-eq0.false

pub returns-in_default : goal.returns-in_default
returns-in_default c = λ q. shrunk_none c.args.exponent c.args.fraction c.if-exponent-gt-WHOLE.false c.in_default.ensures (90 * q)

pub returns-then-number-eq0 : goal.returns-then-number-eq0
returns-then-number-eq0 c =
    quarters_some c.args.exponent c.args.fraction c.in-Some.number
    (shrunk_some c.args.exponent c.args.fraction c.in-Some.number c.if-exponent-gt-WHOLE.false c.in-Some.ensures) c.if-number-eq0.true

pub returns-else-number-eq0 : goal.returns-else-number-eq0
returns-else-number-eq0 c =
    quarters_none c.args.exponent c.args.fraction c.in-Some.number
    (shrunk_some c.args.exponent c.args.fraction c.in-Some.number c.if-exponent-gt-WHOLE.false c.in-Some.ensures) c.if-number-eq0.false
