use Rattle.std.proofs.Common.{take}
use Rattle.rt_template.specs.Horizontal.{RowAcross}
use Rattle.rt_place.specs.Placing.{AreRowsOf}
use Rattle.rt_place.proofs.rows.with_rows.Given as goal

abbrev pub invariant-loop-name : goal.invariant-loop-name
invariant-loop-name l = AreRowsOf (RowAcross l.job) (take l.name-index l.names) l.rows
