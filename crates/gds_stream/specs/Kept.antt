-- The points of an element, however they are kept.
use Rattle.std.specs.Prelude.{List}
use Rattle.rt_base.specs.declared.plane.Point.{Point}
use Rattle.gds_stream.specs.declared.points.Kept.{Kept}
use Rattle.gds_stream.specs.declared.points.Kept.TheVariants.{Five, Listed}

-- the points that are kept
abbrev pub points_kept : Kept → List Point
points_kept (Five points) = points
points_kept (Listed points) = points
