use Rattle.std.proofs.Common.{rules, w32, FitsSigned}
use Rattle.rt_strips.proofs.Placed.{strip_there}
use Rattle.rt_carry.proofs.Sides.{side_is}
use Rattle.rt_carry.proofs.labels.corner.Goals as goal

pub returns : goal.returns
returns c =
    let left : FitsSigned w32 c.in_units-left.result = search rules in
    let bottom : FitsSigned w32 c.in_units-bottom.result = search rules in
    let grid = c.args.target.now.grid in
    let at = c.args.at.now in
    let i = c.args.i in
    let inside = c.requires.drawable.sides i (strip_there c.args.strips.now i c.requires.strip) in
    λ j. (
      side_is grid c.in_units-left.result c.as_slice.result.now at.l i c.as_slice.ensures inside.left left c.in_units-left.ensures j,
      side_is grid c.in_units-bottom.result c.as_slice-2.result.now at.b i c.as_slice-2.ensures inside.bottom bottom c.in_units-bottom.ensures j,
    )
