use Rattle.std.proofs.Common.{Err, codes, ◌++◌}
use Rattle.std.specs.List.{flat_map}
use Rattle.std.proofs.lemmas.Result.{err_from_is_err_and}
use Rattle.rt_lines.specs.Lines.{named}
use Rattle.rt_lines.proofs.LineLemmas.{stops_before, then_says}
use Rattle.rt_lines.proofs.source.say_cyclic.Goals as goal

pub returns-in_err-say_pieces : goal.returns-in_err-say_pieces
returns-in_err-say_pieces g c =
    let p = err_from_is_err_and c.from_residual.result c.from_residual.ensures.1 in
    rw (p.1, p.2) (stops_before _ _ (codes "cyclic:") (flat_map named c.args.names.now ++ codes "\n") _ c.in_err-say_pieces.ensures)

pub returns-in_err-say_names : goal.returns-in_err-say_names
returns-in_err-say_names g c =
    let p = err_from_is_err_and c.from_residual-in_err-say_names.result c.from_residual-in_err-say_names.ensures.1 in
    let names = flat_map named c.args.names.now in
    rw (p.1, p.2) (then_says _ (g.D.Desk.seen c.say_pieces.new.desk) (g.D.Desk.seen c.say_names.new.desk) (codes "cyclic:") (names ++ codes "\n") (Err c.in_err-say_names.field-0.0)
    c.in_ok-say_pieces.ensures.answer c.in_ok-say_pieces.ensures.stays
    (stops_before _ _ names (codes "\n") _ c.in_err-say_names.ensures))

pub returns : goal.returns
returns g c =
    let names = flat_map named c.args.names.now in
    then_says _ (g.D.Desk.seen c.say_pieces.new.desk) _ (codes "cyclic:") (names ++ codes "\n") _
    c.in_ok-say_pieces.ensures.answer c.in_ok-say_pieces.ensures.stays
    (then_says _ (g.D.Desk.seen c.say_names.new.desk) _ names (codes "\n") _
    c.in_ok-say_names.ensures.answer c.in_ok-say_names.ensures.stays c.say_pieces-2.ensures)
