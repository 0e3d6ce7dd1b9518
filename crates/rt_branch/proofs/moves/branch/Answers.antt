use Rattle.std.proofs.Common.{refl, sym, subst, ◌∙◌}
use Rattle.rt_tableau.specs.Added.{IsAddable, IsBranch, added_state}
use Rattle.rt_branch.proofs.Standings.{down_fits, down_branches, node_columns, sum_fits, down_read, up_read, branch_opens, branch_less}
use Rattle.rt_branch.proofs.moves.branch.Goals as goal

pub overflow_add-n : goal.overflow_add-n
overflow_add-n g c = sum_fits g.standing c.args.path.now c.args.table.now c.args.j c.args.n.now c.requires.0 c.requires.1.0 c.requires.1.1.0

pub add-requires-clause-fit : goal.add-requires-clause-fit
add-requires-clause-fit g c =
    subst (IsAddable c.args.table.now.system.strips)
    (sym (down_read g.standing c.args.path.now c.args.table.now c.args.j c.args.n.now c.requires.0 c.requires.1.0 c.requires.1.1.0 c.variable-variable.result c.at_most.result c.at_most.ensures c.variable-variable.ensures))
    (down_fits g.standing c.args.path.now c.args.table.now c.args.j c.args.n.now c.requires.0 c.requires.1.0 c.requires.1.1.0)

pub add-requires-clause-branch : goal.add-requires-clause-branch
add-requires-clause-branch g c =
    subst (IsBranch c.args.table.now)
    (sym (down_read g.standing c.args.path.now c.args.table.now c.args.j c.args.n.now c.requires.0 c.requires.1.0 c.requires.1.1.0 c.variable-variable.result c.at_most.result c.at_most.ensures c.variable-variable.ensures))
    (down_branches g.standing c.args.path.now c.args.table.now c.args.j c.args.n.now c.requires.0 c.requires.1.0 c.requires.1.1.0)

pub add-requires-clause-few : goal.add-requires-clause-few
add-requires-clause-few g c = node_columns g.standing c.args.path.now c.args.table.now c.args.j c.args.n.now c.requires.0 c.requires.1.0 c.requires.1.1.0

pub returns-clause-stands : goal.returns-clause-stands
returns-clause-stands g c =
    let down = down_read g.standing c.args.path.now c.args.table.now c.args.j c.args.n.now c.requires.0 c.requires.1.0 c.requires.1.1.0 c.variable-variable.result c.at_most.result c.at_most.ensures c.variable-variable.ensures in
    let up = up_read g.standing c.args.path.now c.args.table.now c.args.j c.args.n.now c.requires.0 c.requires.1.0 c.requires.1.1.0 c.variable-variable.result c.at_least.result c.at_least.ensures c.variable-variable.ensures in
    branch_opens g.standing c.args.path.now c.args.table.now c.args.j c.args.n.now c.requires.0 c.requires.1.0 c.requires.1.1.0
    (record { changes = c.add.new.changes; waiting = c.push.new.self; best = c.args.path.now.best }) c.add.new.table
    (record { length = c.len.result; row = c.at_least.result }) c.requires.1.1.1.1 (c.in_ok-add.ensures.table ∙ (λ i. added_state c.args.table.now (down i))) c.in_ok-add.ensures.small
    (λ i. record { length = (c.len.ensures ∙ c.args.path.now.changes.ok.0) i; row = up i }) c.in_ok-add.ensures.changes c.in_ok-push.ensures.items refl

pub returns-clause-less : goal.returns-clause-less
returns-clause-less g c =
    branch_less g.standing c.args.path.now c.args.table.now c.args.j c.args.n.now c.requires.0 c.requires.1.0 c.requires.1.1.0
    (record { changes = c.add.new.changes; waiting = c.push.new.self; best = c.args.path.now.best }) (record { length = c.len.result; row = c.at_least.result }) c.in_ok-add.ensures.changes c.in_ok-push.ensures.items
