use Rattle.std.proofs.Common.{◌<◌, refl, sym, subst, ◌∙◌}
use Rattle.std.proofs.lemmas.Result.{err_from_is_err_and}
use Rattle.rt_branch.specs.declared.parts.Change.TheVariants.{Exchanged}
use Rattle.rt_branch.proofs.Undone.{popped}
use Rattle.rt_branch.proofs.Standings.{pivot_opens, below_limit, stop_told}
use Rattle.rt_branch.proofs.moves.pivot.Goals as goal

pub returns-clause-stands : goal.returns-clause-stands
returns-clause-stands g c =
    pivot_opens g.standing c.args.path.now _ c.args.table.now c.advance.new.table c.args.p c.args.q c.basic-column.result c.requires.0 c.requires.1.0
    (below_limit g.standing c.count-count.result _ c.args.limit c.requires.0.within c.count-count.ensures c.requires.1.1.1 c.requires.1.1.0 c.if-count-limit.false) c.in_ok-advance.ensures.exchanged c.in_ok-advance.ensures.small
    c.basic-column.ensures (popped c.push.new.self.items c.args.path.now.changes.items (Exchanged c.args.p c.basic-column.result) c.in-Ok.ensures.items) refl refl

pub returns-in_err-advance-clause-stopped : goal.returns-in_err-advance-clause-stopped
returns-in_err-advance-clause-stopped g c =
    let p = err_from_is_err_and c.from_residual.result c.from_residual.ensures.1 in
    let below = below_limit g.standing c.count-count.result _ c.args.limit c.requires.0.within c.count-count.ensures c.requires.1.1.1 c.requires.1.1.0 c.if-count-limit.false in
    rw (p.1, p.2)
    (stop_told g.standing c.args.path.now c.args.table.now c.advance.new.table c.advance.new.pivots _ c.requires.0 c.in_err-advance.ensures.table (c.in_err-advance.ensures.ledger ∙ c.requires.1.1.1)
    (c.in_err-advance.ensures.stopped g.standing.limit (subst (λ n. n < g.standing.limit) (sym c.requires.1.1.1) below)))
