-- What an answer writes is printable.
use Rattle.std.proofs.Common.{ℕ, List, [], ◌∷◌, map, arith}
use Rattle.std.proofs.lemmas.Bool.Decides.{nat_tests}
use Rattle.std.proofs.lemmas.List.Elements.{All-nil, All-cons}
use Rattle.rt_base.specs.Text.{IsPrintable, IsText}
use Rattle.rt_keys.specs.Faults.{written_byte}

printable_byte : (byte : ℕ) → IsPrintable (written_byte byte)
printable_byte byte = (grind (arith, nat_tests), grind (arith, nat_tests))

pub all_printable : (bytes : List ℕ) → IsText (map written_byte bytes)
all_printable [] = All-nil IsPrintable
all_printable (byte ∷ bytes) = All-cons IsPrintable (written_byte byte) (map written_byte bytes) (printable_byte byte) (all_printable bytes)
