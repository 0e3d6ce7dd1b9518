-- Which lines may stand where, line by line: what is wanted next, and what is wanted behind it.
use Rattle.std.specs.Prelude.{ℕ, zero, suc, ℤ, pos, List, [], ◌∷◌, ◌++◌}
use Rattle.rt_rows.specs.declared.row.Var.{Var}
use Rattle.rt_rows.specs.declared.proof.Of.{Of}
use Rattle.cert_lines.specs.declared.line.Line.{Line}
use Rattle.cert_lines.specs.declared.line.Line.TheVariants as line

-- what may be wanted
pub data Want : Type 0 where
  -- the title
  ATitle : Want
  -- what is claimed, and all that belongs to it
  AClaim : Want
  -- the line of the axis
  AnAxis : Want
  -- lines of strips from that number on, and the heading behind them
  Strips : ℕ → Want
  -- the same of columns
  Columns : ℕ → Want
  -- a heading
  AnAcross : Want
  AnUpwards : Want
  -- a tree
  ATree : Want
  -- a share
  AShare : Want
  -- the end
  AnEnd : Want

-- so many shares
abbrev pub shares : ℕ → List Want
shares zero = []
shares (suc count) = AShare ∷ shares count

-- two trees with their headings but the first, and the end
abbrev pub both_trees : List Want
both_trees = ATree ∷ AnUpwards ∷ ATree ∷ AnEnd ∷ []

-- where this is wanted this line may stand, and then these are wanted
pub data Allows : Want → Line → List Want → Type 0 where
  title : Allows ATitle line.Title []
  done : (width height : ℤ) → Allows AClaim (line.Done width height) (AnAxis ∷ Strips 0 ∷ both_trees)
  none_across : Allows AClaim line.NoneAcross (AnAcross ∷ ATree ∷ AnEnd ∷ [])
  none_upwards : (width : ℤ) → Allows AClaim (line.NoneUpwards width) (AnAxis ∷ Columns 0 ∷ both_trees)
  no_axis : Allows AnAxis line.NoAxis []
  axis : (twice : ℤ) → Allows AnAxis (line.Axis twice) []
  strip : (n : ℕ) (left bottom right top : ℤ) → Allows (Strips n) (line.Strip (pos n) left bottom right top) (Strips (suc n) ∷ [])
  behind_strips : (n : ℕ) → Allows (Strips n) line.Across []
  column : (n : ℕ) (left right : ℤ) → Allows (Columns n) (line.Column (pos n) left right) (Columns (suc n) ∷ [])
  behind_columns : (n : ℕ) → Allows (Columns n) line.Across []
  across : Allows AnAcross line.Across []
  upwards : Allows AnUpwards line.Upwards []
  branch : (var : Var) (at : ℤ) → Allows ATree (line.Branch var at) (ATree ∷ ATree ∷ [])
  cut : (over : ℤ) (count : ℕ) → Allows ATree (line.Cut over (pos count)) (shares count ++ ATree ∷ [])
  bound : (over : ℤ) (count : ℕ) → Allows ATree (line.Bound over (pos count)) (shares count)
  empty : (over : ℤ) (count : ℕ) → Allows ATree (line.Empty over (pos count)) (shares count)
  share : (times : ℤ) (of : Of) → Allows AShare (line.Share times of) []
  end_line : Allows AnEnd line.End []

-- these lines may stand one after another where the first things are wanted, and then the others are
pub data Leads : List Want → List Line → List Want → Type 0 where
  here : (wants : List Want) → Leads wants [] wants
  onward : (want : Want) (now rest behind : List Want) (line : Line) (lines : List Line) → Allows want line now → Leads (now ++ rest) lines behind
      → Leads (want ∷ rest) (line ∷ lines) behind

-- what is wanted of a certificate
abbrev pub at_first : List Want
at_first = ATitle ∷ AClaim ∷ []
