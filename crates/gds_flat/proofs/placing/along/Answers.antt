use Rattle.std.proofs.Common.{◌≡◌, ◌^◌, pos, neg_ℤ, ◌≤ℤ◌, FitsSigned, w32, rules, arith}
use Rattle.std.proofs.lemmas.Int.{ints}
use Rattle.gds_flat.proofs.BoundsOfSteps.{along_there}
use Rattle.gds_flat.proofs.placing.along.Goals as goal

pub returns : goal.returns
returns c =
    let f : FitsSigned w32 c.args.from.now = search rules in
    let is : c.from.result ≡ c.args.from.now = search rules in
    let low : neg_ℤ (pos (2 ^ 31)) ≤ℤ c.args.from.now = omega (arith, ints) in
    let high : c.args.from.now ≤ℤ pos (2 ^ 31) = omega (arith, ints) in
    let a = along_there c.from.result c.args.from.now c.times.result c.times-2.result _ _ is low high c.times.ensures.low c.times.ensures.high c.times-2.ensures.low
    c.times-2.ensures.high c.times.ensures.value c.times-2.ensures.value in
    record { value = a.value; low = a.low; high = a.high }
