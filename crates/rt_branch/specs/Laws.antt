-- What holds of searches.
use Rattle.std.specs.Prelude.{◌≡◌, ℕ, ◌⊎◌, ℤ, pos, ◌+ℤ◌, List, [], ◌∷◌, ◌++◌, length, Option, Some, Result}
use Rattle.rt_rows.specs.Rows.{at_most, at_least}
use Rattle.rt_tableau.specs.States.{State, IsSmallTable}
use Rattle.rt_tableau.specs.Added.{IsAddable, IsBranch}
use Rattle.rt_tableau.specs.Starts.{HasColumn}
use Rattle.rt_simplex.specs.Feasible.{IsDualFeasible}
use Rattle.rt_simplex.specs.declared.answers.SearchError.{SearchError}
use Rattle.rt_simplex.specs.Shares.{HasTable}
use Rattle.rt_branch.specs.Values.{IsFirstBroken}
use Rattle.rt_branch.specs.Branches.{variable_at}
use Rattle.rt_branch.specs.declared.parts.Best.{Best}
use Rattle.rt_branch.specs.Searches.{Place, Move, IsMove, IsSearch, IsEnding, start_at}
use Rattle.rt_branch.specs.Closed.{IsClosed}
use Rattle.rt_branch.specs.Wholes.{IsLeastOf, IsAttained, IsTheLeast}
use Rattle.rt_branch.specs.declared.parts.Change.{Change}
use Rattle.rt_branch.specs.Trails.{LedTo, undone_state, CanUndo}

-- with a node one thing is done
abbrev pub OneMove : Type 0
OneMove = (best : Option Best) (node : State) (move other : Move) → IsMove best node move → IsMove best node other → move ≡ other

-- of two searches from one place, one goes on from where the other is
abbrev pub SearchesAreOne : Type 0
SearchesAreOne = (start at other : Place) → IsSearch start at → IsSearch start other → IsSearch at other ⊎ IsSearch other at

-- from one place and within one limit, a search that ends has the one ending, at the one place
abbrev pub OneEnding : Type 0
OneEnding = (start at other : Place) (limit : ℕ) (ending second : Result (Option Best) SearchError) → IsSearch start at → IsEnding limit at ending → IsSearch start other → IsEnding limit other second
    → (at ≡ other) × (ending ≡ second)

-- the rows of the two nodes are those of a branch at a basic variable, which a tableau always takes
abbrev pub RowsAreBranches : Type 0
RowsAreBranches = (node : State) (j : ℕ) (n : ℤ) → IsFirstBroken node j n → IsBranch node (at_most (variable_at node j) n) × IsBranch node (at_least (variable_at node j) (n +ℤ pos 1))

-- where the node's entries are small they say that a variable is at most or at least a small number, as a tableau asks of a row that is added
abbrev pub BranchesAreAddable : Type 0
BranchesAreAddable = (node : State) (j : ℕ) (n : ℤ) → IsSmallTable node → IsFirstBroken node j n
    → IsAddable node.system.strips (at_most (variable_at node j) n) × IsAddable node.system.strips (at_least (variable_at node j) (n +ℤ pos 1))

-- the latest change of a trail can be undone, with small entries; what's left is the trail of the state before
abbrev pub ChangesAreUndone : Type 0
ChangesAreUndone = (change : Change) (changes : List Change) (earlier state : State) → LedTo (change ∷ changes) earlier state
    → CanUndo state change × IsSmallTable (undone_state state change) × LedTo changes earlier (undone_state state change)

-- a trail to a state, and one from there on, are one trail
abbrev pub TrailsJoin : Type 0
TrailsJoin = (later older : List Change) (earlier middle state : State) → LedTo older earlier middle → LedTo later middle state → LedTo (later ++ older) earlier state

-- where no column costs less than 0 at the root, and no node is open any more, no whole positions that meet the root's rows are better than the best; where
-- there is no best none meet them
abbrev pub BestIsLeast : Type 0
BestIsLeast = (root : State) (from : ℕ) (at : Place) → length root.basis ≡ length root.system.rows → IsDualFeasible root → IsSearch (start_at root from) at → at.nodes ≡ [] → IsLeastOf root at.best

-- where no column costs less than 0 at the root, whose rows are solved for its basis, the best positions are those of a whole point that meets the root's rows
abbrev pub BestIsAttained : Type 0
BestIsAttained = (root : State) (from : ℕ) (at : Place) (best : Best) → length root.basis ≡ length root.system.rows → HasTable root → IsDualFeasible root → IsSearch (start_at root from) at → at.best ≡ Some best → IsAttained root best

-- from a root whose rows are solved for its basis, where no column costs less than 0: where no node is open any more, the best positions meet the root's rows,
-- and no whole positions that meet them have a lesser extent; where there is no best, no whole positions meet them
abbrev pub BestIsTheLeast : Type 0
BestIsTheLeast = (root : State) (from : ℕ) (at : Place) → length root.basis ≡ length root.system.rows → HasTable root → IsDualFeasible root → IsSearch (start_at root from) at → at.nodes ≡ [] → IsTheLeast root at.best

-- where no node is open any more, the best closes the root: by a tree of pivots and branches, each of whose ends is a ray, or an optimum with nothing better
abbrev pub SearchesClose : Type 0
SearchesClose = (root : State) (from : ℕ) (at : Place) → HasColumn root.system.strips root.goal → IsSearch (start_at root from) at → at.nodes ≡ [] → IsClosed at.best root
