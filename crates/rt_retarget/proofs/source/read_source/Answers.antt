use Rattle.std.proofs.lemmas.Result.{err_from_is_err_and}
use Rattle.gds_flat_laws.proofs.Drawable.{stream_is_drawable}
use Rattle.rt_retarget.proofs.source.read_source.Goals as goal

pub cell_view-requires-clause-drawable : goal.cell_view-requires-clause-drawable
cell_view-requires-clause-drawable c = stream_is_drawable c.args.bytes.now c.in_ok-library.library c.in_ok-library.ensures.stream

pub returns-in_err-view-clause-refused : goal.returns-in_err-view-clause-refused
returns-in_err-view-clause-refused c =
    let p = err_from_is_err_and c.from_residual-in_err-view.result c.from_residual-in_err-view.ensures.1 in
    let built = rw c.if-not-are_built.false at c.are_built.ensures in
    rw (p.1, p.2) (λ stable ttable sizes read.
    c.in_err-view.ensures.refused _ (record { read = read; built = built; stream = c.in_ok-library.ensures.stream }))
