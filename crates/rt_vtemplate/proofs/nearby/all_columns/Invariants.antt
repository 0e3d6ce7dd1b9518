use Rattle.rt_rows.specs.Places.{places}
use Rattle.rt_vtemplate.specs.Steps.{AreColumnsOf}
use Rattle.rt_vtemplate.proofs.nearby.all_columns.Given as goal

abbrev pub invariant-loop-i : goal.invariant-loop-i
invariant-loop-i l = AreColumnsOf l.job (places l.columns) l.i l.sides.items
