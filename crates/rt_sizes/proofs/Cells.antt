-- A cell's name is a text.
use Rattle.std.proofs.Common.{◌≡◌, ℕ, true, List, [], ◌∷◌, length, arith, nat_le}
use Rattle.std.specs.List.{list_all}
use Rattle.std.proofs.lemmas.Bool.{and_parts}
use Rattle.std.proofs.lemmas.Bool.Decides.{nat_tests}
use Rattle.std.proofs.lemmas.List.Elements.{All-nil, All-cons}
use Rattle.rt_base.specs.Text.{IsPrintable, IsText}
use Rattle.rt_sizes.specs.SizesFile.{is_printable, is_cell}

printable_byte : (byte : ℕ) → is_printable byte ≡ true → IsPrintable byte
printable_byte byte h = (grind (arith, nat_tests), grind (arith, nat_tests))

printable_bytes : (bytes : List ℕ) → list_all is_printable bytes ≡ true → IsText bytes
printable_bytes [] h = All-nil IsPrintable
printable_bytes (byte ∷ bytes) h =
    let parts = and_parts (is_printable byte) (list_all is_printable bytes) h in
    All-cons IsPrintable byte bytes (printable_byte byte parts.0) (printable_bytes bytes parts.1)

pub cell_is_text : (bytes : List ℕ) → is_cell bytes ≡ true → IsText bytes
cell_is_text bytes h = printable_bytes bytes (and_parts (nat_le 1 (length bytes)) (list_all is_printable bytes) h).1
