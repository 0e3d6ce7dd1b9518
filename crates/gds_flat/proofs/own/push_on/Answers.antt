use Rattle.std.proofs.Common.{subst}
use Rattle.gds_slabs.specs.Polygon.{IsSlanted}
use Rattle.gds_stream.specs.declared.library.Element.{Element}
use Rattle.gds_flat.specs.declared.error.Odd.TheVariants.{PathType, PathWidth, Slanted}
use Rattle.gds_flat.specs.Elements.{LacksOdd}
use Rattle.gds_flat.proofs.own.push_on.Goals as goal

pub push_polygon-requires-clause-straight : goal.push_polygon-requires-clause-straight
push_polygon-requires-clause-straight c =
    let P : Element → Type 0 = λ e. LacksOdd e Slanted in
    let lacks : IsSlanted c.in-Boundary.points → ⊥ = subst P c.in-Boundary.is (c.requires.plain Slanted) in
    rw c.as_slice.ensures lacks

pub push_path-requires-clause-width : goal.push_path-requires-clause-width
push_path-requires-clause-width c = let P : Element → Type 0 = λ e. LacksOdd e PathWidth in subst P c.in-Path.is (c.requires.plain PathWidth)

pub push_path-requires-clause-pathtype : goal.push_path-requires-clause-pathtype
push_path-requires-clause-pathtype c = let P : Element → Type 0 = λ e. LacksOdd e PathType in subst P c.in-Path.is (c.requires.plain PathType)
