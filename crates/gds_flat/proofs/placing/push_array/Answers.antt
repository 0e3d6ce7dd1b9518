use Rattle.std.proofs.Common.{◌≡◌, to_z, of_z, w16, unsigned_abs, FitsSigned, ap, ◌∙◌, rules, arith}
use Rattle.std.proofs.lemmas.Int.{ints}
use Rattle.gds_flat.specs.Drawn.{pieces_in}
use Rattle.gds_flat.proofs.BuildingSteps.{array_moved}
use Rattle.gds_flat.proofs.placing.push_array.Goals as goal

pub returns : goal.returns
returns c =
    let m : FitsSigned w16 c.args.columns.now = search rules in
    let n : FitsSigned w16 c.args.rows.now = search rules in
    let em : to_z w16 (of_z w16 c.args.columns.now) ≡ c.args.columns.now = omega (arith, ints) in
    let en : to_z w16 (of_z w16 c.args.rows.now) ≡ c.args.rows.now = omega (arith, ints) in
    let s = c.strides_of-strides.result in
    array_moved c.push_rows.result c.args.place.now c.args.columns.now c.args.rows.now c.args.points.now s.orient s.origin s.across s.up
    c.unsigned_abs.result c.unsigned_abs-2.result (pieces_in c.args.inner.now) c.args.items.now c.push_rows.new.items
    c.strides_of-strides.ensures (c.unsigned_abs.ensures.value ∙ ap unsigned_abs em) (c.unsigned_abs-2.ensures.value ∙ ap unsigned_abs en) c.push_rows.ensures.small c.push_rows.ensures.items
