-- The first odd of an element.
use Rattle.std.proofs.Common.{◌≡◌, ℤ, List, Option, Some, None}
use Rattle.rt_base.specs.declared.plane.Point.{Point}
use Rattle.gds_slabs.specs.declared.path.PathEnd.{PathEnd}
use Rattle.gds_slabs.specs.Path.{IsPathWidth}
use Rattle.gds_flat.specs.declared.error.Odd.{Odd}
use Rattle.gds_flat.specs.declared.error.Odd.TheVariants.{PathType, PathWidth, BoxElement, Magnification, Angle, Absolute, Slanted}
use Rattle.gds_flat.specs.Elements.{end_of, PointsHave, PointsLack, PathHas, PathLacks, IsFirstFor}

-- a path whose type and width aren't odd lacks what its points lack
path_lacks : (pathtype width : ℤ) (points : List Point) → ((end : PathEnd) × (end_of pathtype ≡ Some end)) → IsPathWidth width
    → (odd : Odd) → PointsLack points odd → PathLacks pathtype width points odd
path_lacks pathtype width points t w PathType h = t
path_lacks pathtype width points t w PathWidth h = w
path_lacks pathtype width points t w BoxElement h = h
path_lacks pathtype width points t w Magnification h = h
path_lacks pathtype width points t w Angle h = h
path_lacks pathtype width points t w Absolute h = h
path_lacks pathtype width points t w Slanted h = h

path_has : (pathtype width : ℤ) (points : List Point) (odd : Odd) → PointsHave points odd → PathHas pathtype width points odd
path_has pathtype width points PathType h = absurd h
path_has pathtype width points PathWidth h = absurd h
path_has pathtype width points BoxElement h = h
path_has pathtype width points Magnification h = h
path_has pathtype width points Angle h = h
path_has pathtype width points Absolute h = h
path_has pathtype width points Slanted h = h

-- the first odd of a path whose type and width aren't odd is that of its points
pub path_first : (pathtype width : ℤ) (points : List Point) (found : Option Odd) → ((end : PathEnd) × (end_of pathtype ≡ Some end)) → IsPathWidth width
    → IsFirstFor (PointsHave points) (PointsLack points) found → IsFirstFor (PathHas pathtype width points) (PathLacks pathtype width points) found
path_first pathtype width points None t w h = λ odd. path_lacks pathtype width points t w odd (h odd)
path_first pathtype width points (Some odd) t w h = record {
  here = path_has pathtype width points odd h.here;
  earlier = λ other before. path_lacks pathtype width points t w other (h.earlier other before);
}
