-- A name is printable.
use Rattle.std.proofs.Common.{◌≡◌, ℕ, true, ◌&&◌, nat_le, List, [], ◌∷◌, length, arith}
use Rattle.std.specs.List.{list_all}
use Rattle.std.proofs.lemmas.Bool.{and_parts}
use Rattle.std.proofs.lemmas.Bool.Decides.{nat_tests}
use Rattle.std.proofs.lemmas.List.Elements.{All-nil, All-cons}
use Rattle.rt_base.specs.Text.{IsPrintable, IsText}
use Rattle.rt_tables.specs.Masks.{is_name, is_name_byte}

printable_name_byte : (byte : ℕ) → is_name_byte byte ≡ true → IsPrintable byte
printable_name_byte byte h = (grind (arith, nat_tests), grind (arith, nat_tests))

printable_name_bytes : (bytes : List ℕ) → list_all is_name_byte bytes ≡ true → IsText bytes
printable_name_bytes [] h = All-nil IsPrintable
printable_name_bytes (byte ∷ bytes) h =
    let (first, more) = and_parts (is_name_byte byte) (list_all is_name_byte bytes) h in
    All-cons IsPrintable byte bytes (printable_name_byte byte first) (printable_name_bytes bytes more)

-- a name is printable
pub name_is_printable : (bytes : List ℕ) → is_name bytes ≡ true → IsText bytes
name_is_printable bytes h =
    let (short, plain) = and_parts (nat_le 1 (length bytes) && nat_le (length bytes) 32) (list_all is_name_byte bytes) h in
    printable_name_bytes bytes plain
