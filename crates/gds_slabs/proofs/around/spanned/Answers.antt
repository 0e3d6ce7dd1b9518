use Rattle.std.proofs.Common.{arith}
use Rattle.std.proofs.lemmas.Int.{ints}
use Rattle.gds_slabs.proofs.Paths.{min_below_max}
use Rattle.gds_slabs.proofs.around.spanned.Goals as goal

pub invariant_of-result : goal.invariant_of-result
invariant_of-result c =
    let columns = min_below_max c.args.p.now.x c.args.q.now.x c.requires.0 in
    let rows = min_below_max c.args.p.now.y c.args.q.now.y c.requires.1 in
    record {
      across = omega (arith, ints);
      upwards = omega (arith, ints);
      from_left = omega (arith, ints);
      to_right = omega (arith, ints);
      from_bottom = omega (arith, ints);
      to_top = omega (arith, ints);
    }
