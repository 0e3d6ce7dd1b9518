use Rattle.std.proofs.Common.{◌≡◌, ◌+ℤ◌, ◌-ℤ◌, ap, arith}
use Rattle.std.proofs.lemmas.Int.{ints}
use Rattle.rt_cells.specs.Rectangles.{Rectangle}
use Rattle.rt_cells.proofs.Rectangles.{same_sides}
use Rattle.rt_drc.proofs.enclosures.shrunk.Goals as goal

pub invariant_of-result : goal.invariant_of-result
invariant_of-result c =
    let core = c.requires.grown.core in
    let left : c.args.at.now.x1 ≡ (core.x1 -ℤ c.args.number.now) = ap (λ (r : Rectangle). r.left) c.requires.grown.core_grown in
    let right : c.args.at.now.x2 ≡ (core.x2 +ℤ c.args.number.now) = ap (λ (r : Rectangle). r.right) c.requires.grown.core_grown in
    let bottom : c.args.at.now.y1 ≡ (core.y1 -ℤ c.args.number.now) = ap (λ (r : Rectangle). r.bottom) c.requires.grown.core_grown in
    let top : c.args.at.now.y2 ≡ (core.y2 +ℤ c.args.number.now) = ap (λ (r : Rectangle). r.top) c.requires.grown.core_grown in
    record {
      across = omega (arith, ints, left, right, core.across);
      upwards = omega (arith, ints, bottom, top, core.upwards);
      from_left = omega (arith, ints, left, core.from_left);
      to_right = omega (arith, ints, right, core.to_right);
      from_bottom = omega (arith, ints, bottom, core.from_bottom);
      to_top = omega (arith, ints, top, core.to_top);
    }

pub returns : goal.returns
returns c = same_sides _ _ (omega (arith, ints)) (omega (arith, ints)) (omega (arith, ints)) (omega (arith, ints))
