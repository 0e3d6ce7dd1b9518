-- How far a reader has come: the lines before have been read, and they lead to its stage.
use Rattle.std.specs.Prelude.{◌≡◌, ◌≢◌, ℕ, ◌+◌, ◌≤◌, List, [], ◌∷◌, length, Option, Some, None}
use Rattle.cert_lines.specs.declared.line.Line.{Line}
use Rattle.cert_lines.specs.Read.{IsLine, IsNoLine}
use Rattle.cert_text.specs.declared.stage.Stage.{Stage}
use Rattle.cert_text.specs.Wants.{Want, Leads, at_first}
use Rattle.cert_text.specs.Stages.{wants_of, trees_in, IsBehind, IsStuck}

-- each text is the line beside it
pub data AreRead : List (List ℕ) → List Line → Type 0 where
  none : AreRead [] []
  more : (text : List ℕ) (line : Line) (texts : List (List ℕ)) (lines : List Line) → IsLine text line → AreRead texts lines → AreRead (text ∷ texts) (line ∷ lines)

-- the texts are lines that lead to the stage
pub record IsReached (texts : List (List ℕ)) (stage : Stage) : Type 0 where
  pub lines : List Line
  pub read : AreRead texts lines
  pub leads : Leads at_first lines (wants_of stage)
  pub few : trees_in stage ≤ length texts + 1

-- nothing more is wanted, or something is
pub record IsOver (stage : Stage) : Type 0 where
  pub none : wants_of stage ≡ []

pub record IsOpen (stage : Stage) : Type 0 where
  pub want : Want
  pub rest : List Want
  pub some : wants_of stage ≡ want ∷ rest

-- the text is a line that can stand here
pub record IsTaken (stage : Stage) (text : List ℕ) (new : Stage) : Type 0 where
  pub line : Line
  pub is : IsLine text line
  pub behind : IsBehind stage line new

-- the text is no line, or none that can stand here
pub data IsRefused (stage : Stage) (text : List ℕ) : Type 0 where
  no_line : IsNoLine text → IsRefused stage text
  no_place : (line : Line) → IsLine text line → IsStuck stage line → IsRefused stage text

-- the stage behind the text, or none where it can't stand here
abbrev pub IsStep : Stage → List ℕ → Option Stage → Type 0
IsStep stage text (Some new) = IsTaken stage text new
IsStep stage text None = IsRefused stage text

-- nothing is wanted, and nothing stands behind the last line feed
pub record IsEnd (stage : Stage) (last : List ℕ) : Type 0 where
  pub over : IsOver stage
  pub nothing : last ≡ []

-- something is wanted, or something stands behind the last line feed
pub data IsNoEnd (stage : Stage) (last : List ℕ) : Type 0 where
  still_open : IsOpen stage → IsNoEnd stage last
  some_behind : last ≢ [] → IsNoEnd stage last
