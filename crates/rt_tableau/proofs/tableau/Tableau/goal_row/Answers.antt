use Rattle.rt_tableau.proofs.Told.{goal_told, free_told}
use Rattle.rt_tableau.proofs.tableau.Tableau.goal_row.Goals as goal

pub returns-in-Some : goal.returns-in-Some
returns-in-Some c = goal_told _ c.args.self.now c.self.inside.lines.items c.as_slice.result.now c.column-goal.result c.in-Some.i c.self.view_is c.self.invariant c.as_slice.ensures.value c.in-Some.ensures c.column-goal.ensures

pub returns-in-None : goal.returns-in-None
returns-in-None c = free_told _ c.args.self.now c.self.inside.lines.items c.as_slice.result.now c.column-goal.result c.self.view_is c.self.invariant c.as_slice.ensures.value c.in-None.ensures c.column-goal.ensures
