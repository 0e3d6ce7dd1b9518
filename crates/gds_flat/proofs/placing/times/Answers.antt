use Rattle.std.proofs.Common.{◌≡◌, pos, ◌*ℤ◌, to_z, of_z, w64, refl, arith}
use Rattle.std.proofs.lemmas.Int.{ints}
use Rattle.gds_flat.proofs.BoundsOfSteps.{product_near}
use Rattle.gds_flat.proofs.placing.times.Goals as goal

pub returns : goal.returns
returns c =
    let near = product_near c.args.count c.args.step.now c.ranges.count.fits c.requires.from_low c.requires.from_high in
    let low = near.0 in
    let high = near.1 in
    let count : to_z w64 (of_z w64 c.from.result) ≡ pos c.args.count = omega (arith, ints, c.from.ensures) in
    let step : to_z w64 (of_z w64 c.args.step.now) ≡ c.args.step.now = omega (arith, ints) in
    let is : to_z w64 (of_z w64 (pos c.args.count *ℤ c.args.step.now)) ≡ pos c.args.count *ℤ c.args.step.now = omega (arith, ints, low, high) in
    rw (count, step, is) (record { value = refl; low = low; high = high })
