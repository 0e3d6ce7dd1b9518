use Rattle.std.proofs.Common.{rules, w16, w32, FitsSigned}
use Rattle.std.proofs.lemmas.Int.{to_z-of_z}
use Rattle.rt_rows.specs.Places.{places}
use Rattle.rt_carry.proofs.Sides.{side_is}
use Rattle.rt_carry.proofs.Drawings.{mask_there, shape_is}
use Rattle.rt_carry.proofs.drawing.shape.Goals as goal

pub bounds-as_slice-strip : goal.bounds-as_slice-strip
bounds-as_slice-strip c =
    mask_there c.args.target.now c.args.strips.now (places c.args.at.now) c.args.i c.index-strips-i.result c.as_slice.result.now
    c.requires.drawable c.requires.strip c.index-strips-i.is c.as_slice.ensures

pub returns : goal.returns
returns c =
    let layer : FitsSigned w16 c.index-as_slice-strip.result.layer = search rules in
    let datatype : FitsSigned w16 c.index-as_slice-strip.result.datatype = search rules in
    let x1 : FitsSigned w32 c.in_units.result = search rules in
    let y1 : FitsSigned w32 c.in_units-2.result = search rules in
    let x2 : FitsSigned w32 c.in_units-3.result = search rules in
    let y2 : FitsSigned w32 c.in_units-4.result = search rules in
    let grid = c.args.target.now.grid in
    let at = c.args.at.now in
    let i = c.args.i in
    shape_is c.args.target.now (places at) c.args.strips.now i c.index-strips-i.result c.index-as_slice-strip.result c.as_slice.result.now
    _ _ _ _ _ _
    c.requires.drawable c.requires.strip c.index-strips-i.is c.as_slice.ensures c.index-as_slice-strip.is
    (to_z-of_z w16 c.index-as_slice-strip.result.layer layer)
    (to_z-of_z w16 c.index-as_slice-strip.result.datatype datatype)
    (side_is grid c.in_units.result c.as_slice-2.result.now at.l i c.as_slice-2.ensures c.requires.extent.left x1 c.in_units.ensures)
    (side_is grid c.in_units-2.result c.as_slice-3.result.now at.b i c.as_slice-3.ensures c.requires.extent.bottom y1 c.in_units-2.ensures)
    (side_is grid c.in_units-3.result c.as_slice-4.result.now at.r i c.as_slice-4.ensures c.requires.extent.right x2 c.in_units-3.ensures)
    (side_is grid c.in_units-4.result c.as_slice-5.result.now at.t i c.as_slice-5.ensures c.requires.extent.top y2 c.in_units-4.ensures)
