use Rattle.std.proofs.Common.{◌≡◌, ◌++◌, take}
use Rattle.std.specs.List.{flat_map}
use Rattle.cert_lines.specs.Written.{text_behind}
use Rattle.cert_lines.proofs.words.put_behind.Given as goal

-- the words before were written, each behind a space
abbrev pub invariant-loop-word : goal.invariant-loop-word
invariant-loop-word l = l.out.items ≡ l.initial.out.items ++ flat_map text_behind (take l.word-index l.words)
