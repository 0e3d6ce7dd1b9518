use Rattle.std.proofs.Common.{◌*◌, ap, arith}
use Rattle.gds_records.proofs.Places.{power_short, won_many, won_large, won_fits}
use Rattle.gds_records.proofs.real.grown.Goals as goal
use Rattle.gds_records.proofs.real.grown.Goals.{then-places-ge8-via-then-places-ge8, then-places-ge8-via-else-places-ge8+then-fraction-gt-LARGEST}

pub returns-then-places-ge8 : goal.returns-then-places-ge8
returns-then-places-ge8 c =
    let f = c.args.fraction in
    let d = c.args.places in
    elim c.then-places-ge8.branch [
      | then-places-ge8-via-then-places-ge8 w ↦ won_many f d (omega arith) (omega arith)
      | then-places-ge8-via-else-places-ge8+then-fraction-gt-LARGEST w ↦ won_large f d (omega arith)
    ]

pub pow-requires : goal.pow-requires
pow-requires c = power_short c.args.places (omega arith)

pub overflow_mul-number : goal.overflow_mul-number
overflow_mul-number c =
    record { fits = omega (arith, won_fits c.args.fraction c.args.places (omega arith) (omega arith), ap (λ p. c.args.fraction * p) c.pow.ensures) }
