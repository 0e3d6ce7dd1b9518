use Rattle.std.proofs.Common.{◌*◌, sym, ap, ◌∙◌, arith}
use Rattle.gds_records.proofs.Magnitudes.{power_positive}
use Rattle.gds_records.proofs.Places.{power_short, lost_many, lost_none}
use Rattle.gds_records.proofs.real.shrunk.Goals as goal

pub returns-then-places-ge14 : goal.returns-then-places-ge14
returns-then-places-ge14 c = λ n. lost_many c.args.fraction c.args.places n (omega arith) (omega arith) (omega arith)

pub pow-unit-requires : goal.pow-unit-requires
pow-unit-requires c = power_short c.args.places (omega arith)

pub nonzero_rem-fraction : goal.nonzero_rem-fraction
nonzero_rem-fraction c = omega (arith, power_positive c.args.places)

pub returns-else-fraction-unit-eq0 : goal.returns-else-fraction-unit-eq0
returns-else-fraction-unit-eq0 c = λ n same. lost_none c.args.fraction c.pow-unit.result n c.if-fraction-unit-eq0.false (same ∙ ap (λ p. n * p) (sym c.pow-unit.ensures))
