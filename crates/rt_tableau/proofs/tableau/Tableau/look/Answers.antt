use Rattle.std.proofs.Common.{length, subst, ◌≡◌}
use Rattle.rt_tableau.specs.States.{State, IsSmallTable}
use Rattle.rt_tableau.proofs.Told.{small_table}
use Rattle.rt_tableau.proofs.tableau.Tableau.look.Goals as goal

pub returns-clause-one_each : goal.returns-clause-one_each
returns-clause-one_each c = subst (λ (s : State). length s.basis ≡ length s.system.rows) c.self.view_is c.self.invariant.basis_each

pub returns-clause-small : goal.returns-clause-small
returns-clause-small c = subst IsSmallTable c.self.view_is (small_table _ c.self.inside.lines.items c.self.invariant)
