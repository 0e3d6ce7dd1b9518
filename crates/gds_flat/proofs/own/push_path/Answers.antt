use Rattle.std.proofs.Common.{◌≡◌, ℤ, map, FitsSigned, w32, to_z, of_z, rules, subst, arith}
use Rattle.std.proofs.lemmas.Int.{ints}
use Rattle.rt_base.specs.Plane.{area}
use Rattle.gds_slabs.specs.Path.{half_of, path_areas}
use Rattle.gds_flat.proofs.PiecesShown.{path_appended}
use Rattle.gds_flat.proofs.own.push_path.Goals as goal

pub returns : goal.returns
returns c =
    let f : FitsSigned w32 c.args.width.now = search rules in
    let width : to_z w32 (of_z w32 c.args.width.now) ≡ c.args.width.now = omega (arith, ints) in
    let P : ℤ → Type 0 = λ w. map area c.in_ok-rects.rects ≡ path_areas (half_of w) c.taken_end.result c.args.points.now in
    path_appended c.push_areas.result c.args.offset c.args.mask c.args.pathtype.now c.args.width.now c.args.points.now c.taken_end.result c.in_ok-rects.rects c.as_slice.result.now
    c.args.items.now c.push_areas.new.items c.in_ok-rects.ensures.near c.taken_end.ensures (subst P width c.in_ok-rects.ensures.areas) c.as_slice.ensures c.push_areas.ensures
