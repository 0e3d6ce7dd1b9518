use Rattle.std.proofs.Common.{◌<◌, sym, subst}
use Rattle.rt_solved.specs.Systems.{columns_of}
use Rattle.rt_tableau.specs.States.{State}
use Rattle.rt_tableau.proofs.AddedRows.{row_told, term_is, worth_read, free_read, column_read, column_within}
use Rattle.rt_tableau.proofs.tableau.Tableau.line_of.Goals as goal

pub added_line-requires-clause-rest : goal.added_line-requires-clause-rest
added_line-requires-clause-rest c =
    (worth_read _ c.self.inside.lines.items c.index.result.now c.as_slice-line.result.now c.in_ok-rest-in-Some-row_of.rest.items c.as_slice-in-Some-row_of.result.now c.as_slice.result.now c.column-column.result
    c.in-Some-row_of.i c.number-over.result c.self.invariant c.as_slice.ensures.value c.in-Some-row_of.ensures c.index.ensures c.as_slice-line.ensures c.in_ok-rest-in-Some-row_of.ensures
    c.as_slice-in-Some-row_of.ensures.value c.number-over.ensures).small

pub returns-in_ok-found-in-Some-row_of : goal.returns-in_ok-found-in-Some-row_of
returns-in_ok-found-in-Some-row_of c =
    row_told _ c.args.self.now c.self.inside.lines.items c.args.row.now c.requires.fit c.column-column.result c.columns-own.result c.in-Some.term.times _ c.as_slice-in-Some-row_of.result.now
    c.in_ok-found-in-Some-row_of.found c.self.view_is c.self.invariant
    (worth_read _ c.self.inside.lines.items c.index.result.now c.as_slice-line.result.now c.in_ok-rest-in-Some-row_of.rest.items c.as_slice-in-Some-row_of.result.now c.as_slice.result.now c.column-column.result
    c.in-Some-row_of.i c.number-over.result c.self.invariant c.as_slice.ensures.value c.in-Some-row_of.ensures c.index.ensures c.as_slice-line.ensures c.in_ok-rest-in-Some-row_of.ensures
    c.as_slice-in-Some-row_of.ensures.value c.number-over.ensures)
    (column_read _ c.args.self.now c.args.row.now c.requires.fit c.in-Some.term _ c.column-column.result c.self.view_is c.in-Some.is c.column-column.ensures)
    (λ i. (term_is c.args.row.now c.args.self.now.system.strips c.requires.fit c.in-Some.term _ c.in-Some.is i).times) c.columns-own.ensures c.in_ok-found-in-Some-row_of.ensures

pub returns-in_ok-found-in-None : goal.returns-in_ok-found-in-None
returns-in_ok-found-in-None c =
    let column = column_read _ c.args.self.now c.args.row.now c.requires.fit c.in-Some.term _ c.column-column.result c.self.view_is c.in-Some.is c.column-column.ensures in
    row_told _ c.args.self.now c.self.inside.lines.items c.args.row.now c.requires.fit c.column-column.result c.columns-own.result c.in-Some.term.times _ c.as_slice-in-None.result.now
    c.in_ok-found-in-None.found c.self.view_is c.self.invariant
    (free_read _ c.self.inside.lines.items c.in_ok-rest-in-None.rest.items c.as_slice-in-None.result.now c.as_slice.result.now c.column-column.result c.self.invariant c.as_slice.ensures.value c.in-None.ensures
    (subst (λ (s : State). c.column-column.result < columns_of s.system) (sym c.self.view_is) (column_within c.args.self.now c.args.row.now c.requires.fit c.column-column.result column))
    c.in_ok-rest-in-None.ensures c.as_slice-in-None.ensures.value)
    column (λ i. (term_is c.args.row.now c.args.self.now.system.strips c.requires.fit c.in-Some.term _ c.in-Some.is i).times) c.columns-own.ensures c.in_ok-found-in-None.ensures
