use Rattle.std.proofs.Common.{◌<◌, ◌^◌, ℤ, List, length, subst, ap, ◌∙◌, rules}
use Rattle.rt_base.specs.declared.plane.Point.{Point}
use Rattle.gds_slabs.specs.Path.{path_areas, half_of}
use Rattle.gds_slabs.specs.Slabs.{IsSlabCount}
use Rattle.gds_stream.specs.declared.library.Element.{Element}
use Rattle.gds_flat.specs.declared.error.Odd.TheVariants.{PathType}
use Rattle.gds_flat.specs.Elements.{LacksOdd}
use Rattle.gds_flat.proofs.Counting.{polygon_straight, polygon_counted, path_counted, label_counted, nothing_counted}
use Rattle.gds_flat.proofs.counts.count_on.Goals as goal

pub slab_count-requires-clause-straight : goal.slab_count-requires-clause-straight
slab_count-requires-clause-straight c =
    polygon_straight c.args.element.now c.in-Boundary.offset c.in-Boundary.layer c.in-Boundary.datatype c.in-Boundary.points c.as_slice.result.now
    c.in-Boundary.is c.as_slice.ensures c.requires.whole

pub returns-in_ok-count-in-Boundary : goal.returns-in_ok-count-in-Boundary
returns-in_ok-count-in-Boundary c =
    let P : List Point → Type 0 = λ x. IsSlabCount x c.in_ok-count-in-Boundary.count in
    let low : c.in_ok-count-in-Boundary.count < 2 ^ 64 = search rules in
    polygon_counted c.args.element.now c.in-Boundary.offset c.in-Boundary.layer c.in-Boundary.datatype c.in-Boundary.points c.in_ok-count-in-Boundary.count
    c.in-Boundary.is (subst P c.as_slice.ensures c.in_ok-count-in-Boundary.ensures) low

pub taken_end-end-requires : goal.taken_end-end-requires
taken_end-end-requires c = let P : Element → Type 0 = λ e. LacksOdd e PathType in subst P c.in-Path.is (c.requires.whole.plain PathType)

pub returns-in-Path : goal.returns-in-Path
returns-in-Path c =
    let half : ℤ = half_of c.in-Path.width in
    let low : c.path_count.result < 2 ^ 64 = search rules in
    path_counted c.args.element.now c.in-Path.offset c.in-Path.layer c.in-Path.datatype c.in-Path.pathtype c.in-Path.width c.in-Path.points c.path_count.result
    c.taken_end-end.result c.in-Path.is c.taken_end-end.ensures
    (c.path_count.ensures half ∙ ap (λ x. length (path_areas half c.taken_end-end.result x)) c.as_slice-in-Path.ensures) low

pub returns-in-Label : goal.returns-in-Label
returns-in-Label c =
    label_counted c.args.element.now c.in-Label.offset c.in-Label.layer c.in-Label.texttype c.in-Label.at c.in-Label.text c.in-Label.is

pub returns-in_default : goal.returns-in_default
returns-in_default c = nothing_counted c.args.element.now c.in_default.not-Boundary c.in_default.not-Path c.in_default.not-Label
