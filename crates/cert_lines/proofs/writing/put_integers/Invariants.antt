use Rattle.std.proofs.Common.{◌≡◌, ◌++◌, take, map}
use Rattle.std.specs.Fmt.{signed_decimal}
use Rattle.std.specs.List.{flat_map}
use Rattle.cert_lines.specs.Lines.{behind_space}
use Rattle.cert_lines.proofs.writing.put_integers.Given as goal

-- the numbers before were written, each behind a space
abbrev pub invariant-loop-number : goal.invariant-loop-number
invariant-loop-number l = l.out.items ≡ l.initial.out.items ++ flat_map behind_space (map signed_decimal (take l.number-index l.numbers))
