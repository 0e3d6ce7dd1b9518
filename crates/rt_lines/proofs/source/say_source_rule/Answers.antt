use Rattle.std.proofs.Common.{◌≡◌, ℕ, List, [], ◌++◌, Err, codes, append_assoc}
use Rattle.std.specs.List.{flat_map}
use Rattle.std.proofs.lemmas.List.{append-nil}
use Rattle.std.proofs.lemmas.Result.{err_from_is_err_and}
use Rattle.rt_lines.specs.Lines.{rule_word, named, line, breach_parts}
use Rattle.rt_lines.proofs.LineLemmas.{same_line, stops_before, then_says}
use Rattle.rt_lines.proofs.source.say_source_rule.Goals as goal

-- the first two pieces, as one text before the rest
begins : (a w word rest : List ℕ) → w ≡ word → (a ++ (w ++ [])) ++ rest ≡ a ++ (word ++ rest)
begins a w word rest e = rw (append-nil w, e) (append_assoc a word rest)

pub returns-in_err-say_pieces : goal.returns-in_err-say_pieces
returns-in_err-say_pieces g c =
    let p = err_from_is_err_and c.from_residual.result c.from_residual.ensures.1 in
    let b = c.args.broken.now in
    let rest = flat_map named b.names.now ++ line (breach_parts b.p b.q b.found b.needed) in
    rw (p.1, p.2) (same_line _ _ _ _ _ (begins (codes "source rule: ") c.rule_word.result.now (rule_word b.rule) rest c.rule_word.ensures)
    (stops_before _ _ (codes "source rule: " ++ (c.rule_word.result.now ++ [])) rest _ c.in_err-say_pieces.ensures))

pub returns-in_err-say_names : goal.returns-in_err-say_names
returns-in_err-say_names g c =
    let p = err_from_is_err_and c.from_residual-in_err-say_names.result c.from_residual-in_err-say_names.ensures.1 in
    let b = c.args.broken.now in
    let names = flat_map named b.names.now in
    let behind = line (breach_parts b.p b.q b.found b.needed) in
    rw (p.1, p.2) (same_line _ _ _ _ _ (begins (codes "source rule: ") c.rule_word.result.now (rule_word b.rule) (names ++ behind) c.rule_word.ensures)
    (then_says _ (g.D.Desk.seen c.say_pieces.new.desk) (g.D.Desk.seen c.say_names.new.desk) (codes "source rule: " ++ (c.rule_word.result.now ++ [])) (names ++ behind) (Err c.in_err-say_names.field-0.0)
    c.in_ok-say_pieces.ensures.answer c.in_ok-say_pieces.ensures.stays
    (stops_before _ _ names behind _ c.in_err-say_names.ensures)))

pub returns : goal.returns
returns g c =
    let b = c.args.broken.now in
    let names = flat_map named b.names.now in
    let behind = line (breach_parts b.p b.q b.found b.needed) in
    same_line _ _ _ _ _ (begins (codes "source rule: ") c.rule_word.result.now (rule_word b.rule) (names ++ behind) c.rule_word.ensures)
    (then_says _ (g.D.Desk.seen c.say_pieces.new.desk) _ (codes "source rule: " ++ (c.rule_word.result.now ++ [])) (names ++ behind) _
    c.in_ok-say_pieces.ensures.answer c.in_ok-say_pieces.ensures.stays
    (then_says _ (g.D.Desk.seen c.say_names.new.desk) _ names behind _
    c.in_ok-say_names.ensures.answer c.in_ok-say_names.ensures.stays c.say_breach.ensures))
