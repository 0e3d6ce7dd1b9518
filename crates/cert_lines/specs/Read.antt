-- What a text is as a line.
use Rattle.std.specs.Prelude.{◌≡◌, ◌≢◌, ℕ, List, Option, Some, None}
use Rattle.cert_lines.specs.declared.line.Line.{Line}
use Rattle.cert_lines.specs.Lines.{words_of, spoken}
use Rattle.cert_lines.specs.Limits.{IsWithin}

-- the text is that line's, which has its numbers within the limits, and no other one's
pub record IsLine (text : List ℕ) (line : Line) : Type 0 where
  pub within : IsWithin line
  pub text_is : text ≡ spoken (words_of line)
  pub only : (other : Line) → IsWithin other → text ≡ spoken (words_of other) → line ≡ other

-- the text is no line's with its numbers within the limits
pub record IsNoLine (text : List ℕ) : Type 0 where
  pub none : (line : Line) → IsWithin line → text ≢ spoken (words_of line)

-- what a text is: the one line, or none
abbrev pub IsRead : List ℕ → Option Line → Type 0
IsRead text (Some line) = IsLine text line
IsRead text None = IsNoLine text
