use Rattle.std.proofs.Common.{◌∙◌, sym, subst}
use Rattle.std.specs.Option.{MatchOption}
use Rattle.rt_tableau.specs.States.{IsGoalRow, IsGoalFree}
use Rattle.rt_simplex.proofs.Stored.{cost_told}
use Rattle.rt_simplex.proofs.choices.cost.Goals as goal

pub returns-else-j-goal-clause-is : goal.returns-else-j-goal-clause-is
returns-else-j-goal-clause-is c =
    cost_told c.args.table.now c.args.row.now c.in-Some.i c.args.j c.whole.result c.in-Some.is
    (subst (λ o. MatchOption o (IsGoalFree c.args.table.now) (IsGoalRow c.args.table.now)) c.in-Some.is c.requires.row)
    (λ e. c.if-j-goal.false (e ∙ sym c.requires.goal)) c.requires.there c.whole.ensures.entry c.whole.ensures.small
