use Rattle.std.proofs.lemmas.Result.{err_from_is_err_and}
use Rattle.gds_flat.proofs.Accepting.{stop_refused}
use Rattle.gds_flat.proofs.acceptance.accepted.Goals as goal

pub returns-in_err-walk-clause-err : goal.returns-in_err-walk-clause-err
returns-in_err-walk-clause-err c =
    let p = err_from_is_err_and c.from_residual.result c.from_residual.ensures.1 in
    rw (p.1, p.2) (stop_refused c.args.names.now.structures.now c.args.names.now.top.now c.args.tech.now _ c.in_err-walk.ensures.err)
