use Rattle.std.proofs.Common.{◌≡◌, drop}
use Rattle.std.specs.List.{find}
use Rattle.std.specs.Str.{bytes_eq}
use Rattle.cert_lines.specs.Lines.{row_word}
use Rattle.cert_lines.proofs.guessing.row_in.Given as goal

-- what is found is found behind those that were passed
abbrev pub invariant-loop-row : goal.invariant-loop-row
invariant-loop-row l = find (λ row. bytes_eq (row_word row) l.word) l.rows ≡ find (λ row. bytes_eq (row_word row) l.word) (drop l.row-index l.rows)
