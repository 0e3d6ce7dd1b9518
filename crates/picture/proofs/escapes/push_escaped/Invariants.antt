use Rattle.std.proofs.Common.{◌≡◌, ◌++◌, take}
use Rattle.std.specs.Prelude.{string_bytes}
use Rattle.picture.specs.Escapes.{escaped}
use Rattle.picture.proofs.escapes.push_escaped.Given as goal

-- the bytes before are appended, each as it is spelled
abbrev pub invariant-loop-byte : goal.invariant-loop-byte
invariant-loop-byte l = string_bytes l.xml ≡ string_bytes l.initial.xml ++ escaped (take l.byte-index l.text)
