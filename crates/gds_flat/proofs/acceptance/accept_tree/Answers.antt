use Rattle.std.proofs.lemmas.Result.{err_from_is_err_and}
use Rattle.gds_flat.proofs.Accepting.{tree_deep, tested_refused}
use Rattle.gds_flat.proofs.acceptance.accept_tree.Goals as goal

pub returns-then-branch-clause-err : goal.returns-then-branch-clause-err
returns-then-branch-clause-err c =
    tree_deep c.args.names.now.structures.now c.args.names.now.top.now c.args.walk.now c.requires (rw (c.if-branch.true) at c.in_ok-is_deep.ensures)

pub returns-in_err-test_all-clause-err : goal.returns-in_err-test_all-clause-err
returns-in_err-test_all-clause-err c =
    let p = err_from_is_err_and c.from_residual-in_err-test_all.result c.from_residual-in_err-test_all.ensures.1 in
    rw (p.1, p.2)
    (tested_refused c.args.names.now.structures.now c.args.names.now.top.now c.args.tech.now c.args.walk.now _ c.requires
    (rw (c.if-branch.false) at c.in_ok-is_deep.ensures) c.in_err-test_all.ensures.err)

pub returns-clause-ok : goal.returns-clause-ok
returns-clause-ok c =
    record { tree = c.requires; shallow = rw (c.if-branch.false) at c.in_ok-is_deep.ensures; fine = c.in_ok-test_all.ensures.ok }
