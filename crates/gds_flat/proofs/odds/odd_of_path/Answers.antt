use Rattle.std.proofs.Common.{◌≡◌, FitsSigned, w32, to_z, of_z, refl, sym, subst, ◌∙◌, rules, arith}
use Rattle.std.proofs.lemmas.Int.{ints}
use Rattle.gds_slabs.specs.Path.{IsPathWidth}
use Rattle.gds_flat.proofs.Oddity.{path_first}
use Rattle.gds_flat.proofs.odds.odd_of_path.Goals as goal

pub returns : goal.returns
returns c =
    let f : FitsSigned w32 c.args.width.now = search rules in
    let width : to_z w32 (of_z w32 c.args.width.now) ≡ c.args.width.now = omega (arith, ints) in
    path_first c.args.pathtype.now c.args.width.now c.args.points.now c.odd_of_points.result (c.in-Some._end, sym c.end_of.ensures ∙ c.in-Some.is)
    (subst IsPathWidth width (c.if-not-is_path_width.ensures.0 refl)) c.odd_of_points.ensures
