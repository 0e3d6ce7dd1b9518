-- What is wanted at each stage of reading.
use Rattle.std.specs.Prelude.{◌≡◌, ℕ, zero, suc, ◌+◌, ◌≤◌, Bool, true, false, List, [], ◌∷◌, ◌++◌, Option, Some, None}
use Rattle.cert_lines.specs.declared.line.Line.{Line}
use Rattle.cert_text.specs.declared.stage.Stage.{Stage}
use Rattle.cert_text.specs.declared.stage.Stage.TheVariants.{Title, Claim, Axis, Strips, Columns, Across, Tree, Over}
use Rattle.cert_text.specs.Wants.{Want, shares, both_trees, Allows}
use Rattle.cert_text.specs.Wants.Want.{ATitle, AClaim, AnAxis, Strips as SomeStrips, Columns as SomeColumns, AnAcross, AnUpwards, ATree, AnEnd}

-- what follows a tree
abbrev pub behind : Bool → List Want
behind true = AnEnd ∷ []
behind false = AnUpwards ∷ ATree ∷ AnEnd ∷ []

-- so many trees
abbrev pub trees : ℕ → List Want
trees zero = []
trees (suc count) = ATree ∷ trees count

-- what is wanted
abbrev pub wants_of : Stage → List Want
wants_of Title = ATitle ∷ AClaim ∷ []
wants_of Claim = AClaim ∷ []
wants_of (Axis true) = AnAxis ∷ SomeColumns 0 ∷ both_trees
wants_of (Axis false) = AnAxis ∷ SomeStrips 0 ∷ both_trees
wants_of (Strips number) = SomeStrips number ∷ both_trees
wants_of (Columns number) = SomeColumns number ∷ both_trees
wants_of Across = AnAcross ∷ ATree ∷ AnEnd ∷ []
wants_of (Tree count unread last) = shares count ++ (trees unread ++ behind last)
wants_of Over = []

-- where the strips begin
abbrev pub first_of : Bool → Stage
first_of true = Columns 0
first_of false = Strips 0

-- how many trees follow, one in another
abbrev pub trees_in : Stage → ℕ
trees_in (Tree count unread last) = unread
trees_in _ = 0

-- what is wanted first allows the line, and then these are wanted
abbrev pub Follows : List Want → Line → List Want → Type 0
Follows [] line new = ⊥
Follows (want ∷ rest) line new = (now : List Want) × Allows want line now × (new ≡ now ++ rest)

-- the line can't stand here
abbrev pub Stuck : List Want → Line → Type 0
Stuck [] line = Unit {0}
Stuck (want ∷ rest) line = (now : List Want) → ¬ Allows want line now

-- the stage behind a line
pub record IsBehind (old : Stage) (line : Line) (new : Stage) : Type 0 where
  pub follows : Follows (wants_of old) line (wants_of new)
  pub few : trees_in new ≤ trees_in old + 1

-- where the line can't stand
pub record IsStuck (old : Stage) (line : Line) : Type 0 where
  pub stuck : Stuck (wants_of old) line

-- the stage behind a line, or none where the line can't stand there
abbrev pub IsNext : Stage → Line → Option Stage → Type 0
IsNext old line (Some new) = IsBehind old line new
IsNext old line None = IsStuck old line
