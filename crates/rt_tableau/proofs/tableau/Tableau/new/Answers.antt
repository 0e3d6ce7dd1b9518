use Rattle.std.proofs.Common.{sym, subst}
use Rattle.rt_tableau.specs.Starts.{IsTableRow}
use Rattle.rt_tableau.proofs.StartLines.{kept_made}
use Rattle.rt_tableau.proofs.tableau.Tableau.new.Goals as goal

pub lines_of-requires-clause-fit : goal.lines_of-requires-clause-fit
lines_of-requires-clause-fit c = λ d row e. subst (λ n. IsTableRow n row) (sym c.strips_named-strips.ensures) (c.requires.fit d row e)

pub invariant_of-result : goal.invariant_of-result
invariant_of-result c =
    kept_made c.strips_named-strips.result c.args.rows.now c.in_ok-rows.rows.items c.args.goal c.in_ok-basis.basis.items c.in_ok-lines.lines.items c.strips_named-strips.ensures c.in_ok-rows.ensures.items
    c.in_ok-basis.ensures c.in_ok-lines.ensures c.requires.fit c.requires.goal c.requires.few
