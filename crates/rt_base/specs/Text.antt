-- Texts are lists of printable bytes.
use Rattle.std.specs.Prelude.{ℕ, ◌≤◌, List, All}

-- the byte is printable ASCII, a space included
abbrev pub IsPrintable : ℕ → Type 0
IsPrintable byte = (32 ≤ byte) × (byte ≤ 126)

-- all bytes are printable
abbrev pub IsText : List ℕ → Type 0
IsText bytes = All IsPrintable bytes
