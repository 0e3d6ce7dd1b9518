use Rattle.std.proofs.Common.{◌≡◌, drop}
use Rattle.std.specs.List.{find}
use Rattle.std.specs.Str.{bytes_eq}
use Rattle.cert_lines.specs.Guesses.{first_word}
use Rattle.cert_lines.proofs.guessing.line_in.Given as goal

-- what is found is found behind those that were passed
abbrev pub invariant-loop-line : goal.invariant-loop-line
invariant-loop-line l = find (λ line. bytes_eq (first_word line) l.first) l.lines ≡ find (λ line. bytes_eq (first_word line) l.first) (drop l.line-index l.lines)
