-- Searches for the whole positions at which the goal is least: what is done with each open node, and where a search ends.
use Rattle.std.specs.Prelude.{◌≡◌, ℕ, ◌+◌, ◌≤◌, ◌⊎◌, ℤ, pos, ◌+ℤ◌, ◌-ℤ◌, ◌*ℤ◌, ◌≤ℤ◌, ◌<ℤ◌, List, [], ◌∷◌, Option, Some, None, Result, Ok, Err}
use Rattle.rt_rows.specs.Rows.{at_most, at_least}
use Rattle.rt_tableau.specs.States.{State, IsSmallTable, exchanged_state}
use Rattle.rt_tableau.specs.Added.{added_state}
use Rattle.rt_simplex.specs.Choices.{IsOptimum, IsRay, IsDualPivot, goal_of}
use Rattle.rt_simplex.specs.Runs.{IsOutcome}
use Rattle.rt_simplex.specs.declared.answers.SearchError.{SearchError}
use Rattle.rt_branch.specs.declared.parts.Best.{Best}
use Rattle.rt_branch.specs.Values.{IsValue, IsFirstBroken, AreWhole, whole_at}
use Rattle.rt_branch.specs.Branches.{variable_at}

-- a place of a search: the best positions so far, the open nodes, of which the first is taken next, and how many pivots are counted
pub record Place : Type 0 where
  pub best : Option Best
  pub nodes : List State
  pub made : ℕ

abbrev pub place : Option Best → List State → ℕ → Place
place best nodes made = record { best = best; nodes = nodes; made = made }

-- what is done with a node
pub data Move : Type 0 where
  -- the dual pivot is made in it
  Pivot : ℕ → ℕ → Move
  -- it's a ray by that row, and is closed
  Ray : ℕ → Move
  -- its point is whole, and it's closed; these are the best positions from then on
  Whole : Best → Move
  -- it's closed since it has no better ones
  Pruned : Move
  -- it's replaced by two, in which the column is at most the whole number or at least the next one
  Branch : ℕ → ℤ → Move

-- which of two positions are kept: those of the lesser extent, and of equal ones those that were found first
abbrev pub IsLesser : Option Best → Best → Best → Type 0
IsLesser None found kept = kept ≡ found
IsLesser (Some best) found kept = ((found.extent <ℤ best.extent) × (kept ≡ found)) ⊎ ((best.extent ≤ℤ found.extent) × (kept ≡ best))

-- the node's least value of the goal, rounded up, is no less than the number
pub record IsNoLess (node : State) (extent : ℤ) : Type 0 where
  pub right : ℤ
  pub over : ℤ
  pub value : IsValue node (goal_of node) right over
  pub beyond : ((extent -ℤ pos 1) *ℤ over) <ℤ right

-- it's less
pub record IsLess (node : State) (extent : ℤ) : Type 0 where
  pub right : ℤ
  pub over : ℤ
  pub value : IsValue node (goal_of node) right over
  pub within : right ≤ℤ ((extent -ℤ pos 1) *ℤ over)

-- the node has no better positions than those that were found
abbrev pub HasNoBetter : Option Best → State → Type 0
HasNoBetter None node = ⊥
HasNoBetter (Some best) node = IsNoLess node best.extent

-- it may have better ones
abbrev pub MayHaveBetter : Option Best → State → Type 0
MayHaveBetter None node = Unit {0}
MayHaveBetter (Some best) node = IsLess node best.extent

-- no right side is below 0, and the point of the basis is whole
pub record IsWholeEnd (best : Option Best) (node : State) (kept : Best) : Type 0 where
  pub optimum : IsOptimum node
  pub at : List ℤ
  pub whole : AreWhole node at
  pub lesser : IsLesser best (record { extent = whole_at at (goal_of node); at = at }) kept

-- no right side is below 0, some variable isn't whole, and there is nothing better
pub record IsPrunedEnd (best : Option Best) (node : State) : Type 0 where
  pub optimum : IsOptimum node
  pub j : ℕ
  pub n : ℤ
  pub first : IsFirstBroken node j n
  pub none : HasNoBetter best node

-- no right side is below 0, the first variable that isn't whole is that column's, and there may be something better
pub record IsBranchEnd (best : Option Best) (node : State) (j : ℕ) (n : ℤ) : Type 0 where
  pub optimum : IsOptimum node
  pub first : IsFirstBroken node j n
  pub may : MayHaveBetter best node

-- what is done with a node that is open
abbrev pub IsMove : Option Best → State → Move → Type 0
IsMove best node (Pivot p q) = IsDualPivot node p q × IsSmallTable (exchanged_state node p q)
IsMove best node (Ray p) = IsRay node p
IsMove best node (Whole kept) = IsWholeEnd best node kept
IsMove best node Pruned = IsPrunedEnd best node
IsMove best node (Branch j n) = IsBranchEnd best node j n

-- the place after it
abbrev pub after : Option Best → State → List State → ℕ → Move → Place
after best node rest made (Pivot p q) = place best (exchanged_state node p q ∷ rest) (made + 1)
after best node rest made (Ray p) = place best rest made
after best node rest made (Whole kept) = place (Some kept) rest made
after best node rest made Pruned = place best rest made
after best node rest made (Branch j n) = place best (added_state node (at_most (variable_at node j) n) ∷ added_state node (at_least (variable_at node j) (n +ℤ pos 1)) ∷ rest) made

-- moves, each with the first open node, lead from a place to another
pub data IsSearch (start : Place) : Place → Type 0 where
  none : IsSearch start start
  more : (best : Option Best) (node : State) (rest : List State) (made : ℕ) (move : Move) → IsSearch start (place best (node ∷ rest) made) → IsMove best node move → IsSearch start (after best node rest made move)

-- where a search begins: one node is open, and nothing is found
abbrev pub start_at : State → ℕ → Place
start_at root made = place None (root ∷ []) made

-- a pivot is needed in the first open node, and can't be made or can't be counted
pub record IsStopped (limit : ℕ) (at : Place) (error : SearchError) : Type 0 where
  pub node : State
  pub rest : List State
  pub first : at.nodes ≡ node ∷ rest
  pub stop : IsOutcome limit node at.made (Err error)

-- no node is open
pub record IsFinished (limit : ℕ) (at : Place) (best : Option Best) : Type 0 where
  pub closed : at.nodes ≡ []
  pub found : at.best ≡ best
  pub within : at.made ≤ limit

-- how a search ends within a limit of pivots: with the best positions or none, or by a stop that the rows ask for. Want of memory isn't one
abbrev pub IsEnding : ℕ → Place → Result (Option Best) SearchError → Type 0
IsEnding limit at (Ok best) = IsFinished limit at best
IsEnding limit at (Err error) = IsStopped limit at error
