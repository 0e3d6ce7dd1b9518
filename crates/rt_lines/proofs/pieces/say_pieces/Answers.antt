use Rattle.std.proofs.lemmas.Result.{err_from_is_err_and}
use Rattle.rt_lines.specs.Said.{piece_text}
use Rattle.rt_lines.proofs.LineLemmas.{stops_at_call}
use Rattle.rt_lines.proofs.pieces.say_pieces.Goals as goal

pub returns-in_err-say_piece : goal.returns-in_err-say_piece
returns-in_err-say_piece g c =
    let p = err_from_is_err_and c.from_residual.result c.from_residual.ensures.1 in
    rw (p.1, p.2) (stops_at_call piece_text c.args.pieces.now c.loop-piece.piece-index c.piece-item.result _ _ _ _ _ c.loop-piece-test.true c.piece-item.is c.loop-piece.invariant.0 c.loop-piece.invariant.1 c.in_err-say_piece.ensures)
