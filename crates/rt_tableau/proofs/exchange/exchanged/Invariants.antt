use Rattle.rt_tableau.specs.Tables.{table_of, AreNew}
use Rattle.rt_tableau.proofs.exchange.exchanged.Given as goal

abbrev pub invariant-loop-i : goal.invariant-loop-i
invariant-loop-i l = AreNew (table_of l.lines) l.i l.columns l.p l.q l.new.items
