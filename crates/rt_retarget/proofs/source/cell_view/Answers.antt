use Rattle.std.proofs.lemmas.Result.{err_from_is_err_and}
use Rattle.gds_flat_laws.proofs.NearLabels.{labels_are_near}
use Rattle.rt_retarget.proofs.Assembled.{plain, sound, checked}
use Rattle.rt_retarget.proofs.source.cell_view.Goals as goal

pub sound_view-requires-clause-points : goal.sound_view-requires-clause-points
sound_view-requires-clause-points c =
    plain c.in_ok-layout.layout.labels
    (labels_are_near c.args.library.now.structures c.args.inputs.now.asked.cell c.args.inputs.now.tables.source c.in_ok-layout.layout c.in_ok-layout.ensures.flat)

pub returns-in_err-view-clause-refused : goal.returns-in_err-view-clause-refused
returns-in_err-view-clause-refused c =
    let p = err_from_is_err_and c.from_residual-in_err-view.result c.from_residual-in_err-view.ensures.1 in
    rw (p.1, p.2) (λ files parsed. c.in_err-view.ensures.refused files c.args.library.now (record { parsed = parsed; flattened = c.in_ok-layout.ensures.flat }))

pub returns-in_err-check_strays-clause-refused : goal.returns-in_err-check_strays-clause-refused
returns-in_err-check_strays-clause-refused c =
    let p = err_from_is_err_and c.from_residual-in_err-check_strays.result c.from_residual-in_err-check_strays.ensures.1 in
    rw (p.1, p.2) (λ files parsed.
    c.in_err-check_strays.ensures.refused files c.args.library.now c.in_ok-layout.layout _
    (sound files c.args.inputs.now c.args.library.now c.in_ok-layout.layout c.in_ok-view.view (record { parsed = parsed; flattened = c.in_ok-layout.ensures.flat })
    c.in_ok-view.ensures.view))

pub returns-clause-view : goal.returns-clause-view
returns-clause-view c =
    checked c.args.inputs.now c.args.library.now c.in_ok-layout.layout c.in_ok-view.view c.in_ok-layout.ensures.flat c.in_ok-view.ensures.view c.in_ok-check_strays.ensures.none
