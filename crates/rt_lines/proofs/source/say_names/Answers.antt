use Rattle.std.proofs.Common.{ℕ, List, ◌∷◌, Err, ap}
use Rattle.std.proofs.lemmas.List.{append-nil}
use Rattle.std.proofs.lemmas.Result.{err_from_is_err_and}
use Rattle.rt_lines.specs.Lines.{named}
use Rattle.rt_lines.proofs.LineLemmas.{stops_at_item, same_line}
use Rattle.rt_lines.proofs.source.say_names.Goals as goal

pub returns-in_err-say_pieces : goal.returns-in_err-say_pieces
returns-in_err-say_pieces g c =
    let p = err_from_is_err_and c.from_residual.result c.from_residual.ensures.1 in
    let name = c.name-item.result in
    let failed = same_line (g.D.Desk.seen c.loop-name.desk) (g.D.Desk.seen c.say_pieces.new.desk) _ (named name) (Err c.in_err-say_pieces.field-0.0) (ap (λ (l : List ℕ). 32 ∷ l) (append-nil name)) c.in_err-say_pieces.ensures in
    rw (p.1, p.2) (stops_at_item named c.args.names.now c.loop-name.name-index name _ _ _ _ _ c.loop-name-test.true c.name-item.is c.loop-name.invariant.0 c.loop-name.invariant.1 failed)
