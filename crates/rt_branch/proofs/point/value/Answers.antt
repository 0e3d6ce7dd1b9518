use Rattle.std.proofs.Common.{pos, ◌≤ℤ◌, sym, subst, subst₂}
use Rattle.rt_tableau.specs.States.{IsWholeEntry}
use Rattle.rt_simplex.proofs.Chosen.{small_stored}
use Rattle.rt_branch.specs.Ends.{IsQuotient}
use Rattle.rt_branch.proofs.Pointed.{basic_read, right_not_below, basic_value_of, free_value_of, row_read, free_read}
use Rattle.rt_branch.proofs.point.value.Goals as goal

pub quotient-requires-clause-right : goal.quotient-requires-clause-right
quotient-requires-clause-right c =
    let row = row_read c.args.table.now c.args.j c.in-Some.i c.args.row.now c.in-Some.is c.requires.row in
    subst (λ z. pos 0 ≤ℤ z) (sym (small_stored c.whole.result c.whole.ensures.small))
    (right_not_below c.args.table.now c.in-Some.i c.whole.result c.requires.optimum row.0 (subst (λ k. IsWholeEntry c.args.table.now c.in-Some.i k c.whole.result) c.columns.ensures c.whole.ensures.entry))

pub returns-in-Some : goal.returns-in-Some
returns-in-Some c =
    let row = row_read c.args.table.now c.args.j c.in-Some.i c.args.row.now c.in-Some.is c.requires.row in
    basic_value_of c.args.table.now c.args.j c.whole.result c.whole-in-Some.result c.quotient.result
    (basic_read c.args.table.now c.in-Some.i c.args.j c.whole.result c.whole-in-Some.result row.0 row.1 c.requires.there
    (subst (λ k. IsWholeEntry c.args.table.now c.in-Some.i k c.whole.result) c.columns.ensures c.whole.ensures.entry) c.whole-in-Some.ensures.entry)
    (subst₂ (λ r o. IsQuotient r o c.quotient.result) (small_stored c.whole.result c.whole.ensures.small) (small_stored c.whole-in-Some.result c.whole-in-Some.ensures.small) c.quotient.ensures)

pub returns-in-None : goal.returns-in-None
returns-in-None c = free_value_of c.args.table.now c.args.j (free_read c.args.table.now c.args.j c.args.row.now c.in-None.is c.requires.row)
