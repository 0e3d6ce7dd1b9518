use Rattle.std.proofs.Common.{◌≡◌, ◌*◌, ◌^◌, suc, ap, ◌∙◌, sym, arith}
use Rattle.std.proofs.Math.Nat.{pow-suc}
use Rattle.picture.proofs.scale.round_length.Goals as goal

pub loop-unit-smaller : goal.loop-unit-smaller
loop-unit-smaller c =
    let some = c.loop-unit.invariant.1 in
    let below = c.loop-unit-test.true in
    omega (arith, some, below)

pub loop-unit-preserved : goal.loop-unit-preserved
loop-unit-preserved c =
    let power = c.loop-unit.invariant.0 in
    let some = c.loop-unit.invariant.1 in
    let below = c.loop-unit-test.true in
    let next : c.loop-unit.unit * 10 ≡ 10 ^ suc power.0 = ap (λ n. n * 10) power.1 ∙ sym (pow-suc 10 power.0) in
    ((suc power.0, next), omega (arith, some), omega (arith, some, below))
