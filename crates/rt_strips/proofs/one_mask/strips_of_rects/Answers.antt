use Rattle.std.proofs.Common.{◌<◌, ◌-◌, ◌^◌, length, arith, map}
use Rattle.std.proofs.lemmas.List.{length-map}
use Rattle.rt_base.specs.Plane.{area}
use Rattle.rt_cells.specs.Rectangles.{Covers}
use Rattle.rt_strips.proofs.Built.{all_kept}
use Rattle.rt_strips.proofs.one_mask.strips_of_rects.Goals as goal

pub returns : goal.returns
returns c =
    let found = c.in_ok-found.found in
    let few : length (map area found.strips.items) < 2 ^ 64 - 1 = omega (arith, length-map found.strips.items area, found.strips.ok.0, found.strips.ok.1, found.strips.small) in
    all_kept (Covers (map area c.args.rects.now)) (2 ^ 64 - 1) (map area found.strips.items) found.count few c.in_ok-found.ensures
