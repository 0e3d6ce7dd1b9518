-- Which numbers a line may have.
use Rattle.std.specs.Prelude.{ℕ, ◌^◌, ◌<◌, ℤ, pos, neg_ℤ, ◌≤ℤ◌, List, [], ◌∷◌, All}
use Rattle.rt_rows.specs.declared.row.Var.{Var}
use Rattle.rt_rows.specs.declared.row.Var.TheVariants.{L, R, B, T, Width, Height, Axis as MirrorAxis}
use Rattle.rt_rows.specs.declared.proof.Of.{Of}
use Rattle.cert_lines.specs.declared.line.Line.{Line}
use Rattle.cert_lines.specs.declared.line.Line.TheVariants.{Title, Done, NoneAcross, NoneUpwards, NoAxis, Axis, Strip, Column, Across, Upwards, Branch, Cut, Bound, Empty, Share, End}
use Rattle.cert_lines.specs.declared.limits.TheConstants.{PLACE_LIMIT, DIVISOR_LIMIT, TIMES_LIMIT, SHARES_LIMIT, LAST_STRIP}
use Rattle.cert_lines.specs.Lines.{row_numbers}

-- the number is one of those from the least to the most
pub record IsFrom (least most number : ℤ) : Type 0 where
  pub low : least ≤ℤ number
  pub high : number ≤ℤ most

-- an extent, or a place
abbrev pub IsPlace : ℤ → Type 0
IsPlace number = IsFrom (neg_ℤ PLACE_LIMIT) PLACE_LIMIT number

-- the number of a strip
abbrev pub IsStripNumber : ℤ → Type 0
IsStripNumber number = IsFrom (pos 0) LAST_STRIP number

-- the number of a strip, of a rule or of a row
abbrev pub IsNumber : ℕ → Type 0
IsNumber number = number < 2 ^ 32

-- the variable is of a strip that can be numbered
abbrev pub IsVariable : Var → Type 0
IsVariable (L i) = IsNumber i
IsVariable (R i) = IsNumber i
IsVariable (B i) = IsNumber i
IsVariable (T i) = IsNumber i
IsVariable Width = Unit {0}
IsVariable Height = Unit {0}
IsVariable MirrorAxis = Unit {0}

-- the numbers of a line on a strip
pub record IsStripWithin (number : ℤ) (places : List ℤ) : Type 0 where
  pub strip : IsStripNumber number
  pub each : All IsPlace places

-- the numbers of a branch
pub record IsBranchWithin (var : Var) (at : ℤ) : Type 0 where
  pub variable : IsVariable var
  pub place : IsPlace at

-- the numbers of a node with shares
pub record IsNodeWithin (over shares : ℤ) : Type 0 where
  pub divisor : IsFrom (pos 1) DIVISOR_LIMIT over
  pub count : IsFrom (pos 0) SHARES_LIMIT shares

-- the numbers of a share
pub record IsShareWithin (times : ℤ) (of : Of) : Type 0 where
  pub multiplier : IsFrom (neg_ℤ TIMES_LIMIT) TIMES_LIMIT times
  pub each : All IsNumber (row_numbers of)

-- all numbers of the line are within the limits
abbrev pub IsWithin : Line → Type 0
IsWithin Title = Unit {0}
IsWithin (Done width height) = All IsPlace (width ∷ height ∷ [])
IsWithin NoneAcross = Unit {0}
IsWithin (NoneUpwards width) = IsPlace width
IsWithin NoAxis = Unit {0}
IsWithin (Axis twice) = IsPlace twice
IsWithin (Strip number left bottom right top) = IsStripWithin number (left ∷ bottom ∷ right ∷ top ∷ [])
IsWithin (Column number left right) = IsStripWithin number (left ∷ right ∷ [])
IsWithin Across = Unit {0}
IsWithin Upwards = Unit {0}
IsWithin (Branch var at) = IsBranchWithin var at
IsWithin (Cut over shares) = IsNodeWithin over shares
IsWithin (Bound over shares) = IsNodeWithin over shares
IsWithin (Empty over shares) = IsNodeWithin over shares
IsWithin (Share times of) = IsShareWithin times of
IsWithin End = Unit {0}
