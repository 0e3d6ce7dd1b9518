-- What is said of a line, piece by piece.
use Rattle.std.specs.Prelude.{ℕ, List, decimal, Result, Ok, Err}
use Rattle.std.specs.List.{flat_map}
use Rattle.std.specs.Fmt.{signed_decimal}
use Rattle.rt_desk.specs.declared.outside.DeskError.{DeskError}
use Rattle.rt_desk.specs.declared.outside.DeskError.TheVariants.{Failed, Missing, TooLong, OutOfMemory}
use Rattle.rt_desk.specs.Desk.{Outside, OnlySays, IsSaid, IsSaidInPart, IsFailedSay}
use Rattle.rt_lines.specs.declared.pieces.Piece.{Piece}
use Rattle.rt_lines.specs.declared.pieces.Piece.TheVariants.{Word, Name, Layer, Number, Count}

-- the bytes of a piece
abbrev pub piece_text : Piece → List ℕ
piece_text (Word word) = word.now
piece_text (Name name) = name.now
piece_text (Layer number) = signed_decimal number.now
piece_text (Number number) = signed_decimal number.now
piece_text (Count count) = decimal count

-- the bytes of the pieces, one after another
abbrev pub text_of : List Piece → List ℕ
text_of pieces = flat_map piece_text pieces

-- what saying a line answers, of the outside before and after: all of the line was said; or a first part of it, where the
-- count of faults of `say` rose or there was no memory
abbrev pub LineAnswer : Outside → Outside → List ℕ → Result (Unit {0}) DeskError → Type 0
LineAnswer old new line (Ok _) = IsSaid old new line
LineAnswer old new line (Err Failed) = IsFailedSay old new line
LineAnswer old new line (Err Missing) = ⊥
LineAnswer old new line (Err TooLong) = ⊥
LineAnswer old new line (Err OutOfMemory) = (count : ℕ) × IsSaidInPart old new line count

-- a line is said: what that answers, and what stays
pub record SaysLine (old new : Outside) (line : List ℕ) (result : Result (Unit {0}) DeskError) : Type 0 where
  pub answer : LineAnswer old new line result
  pub stays : OnlySays old new
