use Rattle.rt_tableau.proofs.Told.{cost_read, free_read}
use Rattle.rt_tableau.proofs.tableau.Tableau.cost.Goals as goal

pub returns-in-Some : goal.returns-in-Some
returns-in-Some c =
    cost_read _ c.args.self.now c.self.inside.lines.items c.index.result.now c.as_slice-line.result.now c.as_slice.result.now c.in-Some.i c.args.j c.columns-columns.result c.column-goal.result c.cost_in.result
    c.number.result c.ratio.result c.self.view_is c.self.invariant c.as_slice.ensures.value c.in-Some.ensures c.column-goal.ensures c.requires.place c.index.ensures c.as_slice-line.ensures c.columns-columns.ensures
    c.cost_in.ensures.is c.cost_in.ensures.small c.number.ensures c.ratio.ensures

pub returns-in-None : goal.returns-in-None
returns-in-None c =
    free_read _ c.args.self.now c.self.inside.lines.items c.as_slice.result.now c.args.j c.column-goal.result c.cost_free.result c.ratio-in-None.result c.self.view_is c.self.invariant c.as_slice.ensures.value
    c.in-None.ensures c.column-goal.ensures c.requires.place c.cost_free.ensures.is c.cost_free.ensures.small c.ratio-in-None.ensures
