use Rattle.std.proofs.Common.{arith, pos, ◌≤ℤ◌}
use Rattle.std.proofs.lemmas.Int.{ints}
use Rattle.gds_flat.proofs.Leading.{leads_both}
use Rattle.gds_flat.proofs.steps.has_steps.Goals as goal

pub returns : goal.returns
returns c =
    let some : pos 1 ≤ℤ c.args.count.now = omega (arith, ints) in
    leads_both c.divides-2.result c.args.count.now c.args.from.now c.args.to.now some (rw (c.if-not-divides.false) at c.divides.ensures) c.divides-2.ensures
