use Rattle.std.proofs.Common.{map}
use Rattle.rt_strips.specs.Placed.{placed}
use Rattle.rt_columns.specs.Sides.{side_of}
use Rattle.rt_columns.specs.Ranking.{ListsMasks}
use Rattle.rt_columns.proofs.shown.mask_names.Given as goal

abbrev pub invariant-loop-mask : goal.invariant-loop-mask
invariant-loop-mask l = ListsMasks (map placed l.strips.list) (side_of l.lefts) (side_of l.rights) l.mask l.names
