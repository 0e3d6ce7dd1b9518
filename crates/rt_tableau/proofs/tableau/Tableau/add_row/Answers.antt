use Rattle.std.proofs.Common.{subst}
use Rattle.std.specs.Option.{MatchOption}
use Rattle.rt_tableau.specs.Added.{IsPastAdded, IsNewRow}
use Rattle.rt_tableau.proofs.AddedRows.{kept_row}
use Rattle.rt_tableau.proofs.Branches.{branch_added}
use Rattle.rt_tableau.proofs.Told.{small_table}
use Rattle.rt_tableau.specs.States.{IsSmallTable}
use Rattle.rt_tableau.specs.Tables.{IsKept}
use Rattle.rt_tableau.proofs.tableau.Tableau.add_row.Goals as goal
use Rattle.rt_tableau.proofs.tableau.Tableau.add_row.Goals.{In_ok-push}

kept : (c : In_ok-push) → IsKept (record { system = record { strips = c.self.inside.strips; rows = c.in_ok-rows.rows.items }; goal = c.self.inside.goal; basis = c.in_ok-basis.basis.items }) c.push.new.self.items
kept c =
    kept_row _ c.args.self.now c.self.inside.lines.items c.push.new.self.items c.args.row.now c.in-Some.line c.in_ok-rows.rows.items c.as_slice-2.result.now c.in_ok-basis.basis.items c.as_slice.result.now c.columns.result
    c.self.view_is c.self.invariant c.requires.few
    (subst (λ o. MatchOption o (IsPastAdded c.args.self.now c.args.row.now) (λ line. IsNewRow c.args.self.now c.args.row.now line)) c.in-Some.is c.in_ok-line.ensures)
    c.in_ok-push.ensures.items c.as_slice-2.ensures.value c.in_ok-rows.ensures c.as_slice.ensures.value c.columns.ensures c.in_ok-basis.ensures

pub invariant_of-self-2 : goal.invariant_of-self-2
invariant_of-self-2 c = kept (goal.at.invariant_of-self-2 c).In_ok-push

pub returns-clause-small : goal.returns-clause-small
returns-clause-small c = small_table _ c.push.new.self.items (kept (goal.at.returns-clause-small c).In_ok-push)

pub returns-in_default-clause-branch : goal.returns-in_default-clause-branch
returns-in_default-clause-branch c =
    branch_added _ c.args.self.now c.self.inside.lines.items c.args.row.now c.self.view_is c.requires.fit c.self.invariant
    (subst (λ o. MatchOption o (IsPastAdded c.args.self.now c.args.row.now) (λ line. IsNewRow c.args.self.now c.args.row.now line)) c.in_default.is c.in_ok-line.ensures)

pub returns-in_default-clause-small : goal.returns-in_default-clause-small
returns-in_default-clause-small c = subst IsSmallTable c.self.view_is (small_table _ c.self.inside.lines.items c.self.invariant)
