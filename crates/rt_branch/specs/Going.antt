-- What a search keeps: the one table, the changes that led to it, and the nodes that wait.
use Rattle.std.specs.Prelude.{◌≡◌, ℕ, ◌+◌, ◌-◌, ◌*◌, ◌<◌, ◌≤◌, ◌^◌, List, [], ◌∷◌, ◌++◌, length, reverse, Option, Result, Ok, Err}
use Rattle.rt_solved.specs.Systems.{columns_of}
use Rattle.rt_tableau.specs.States.{State, IsSmallTable}
use Rattle.rt_tableau.specs.Added.{IsAddable, IsBranch, added_state}
use Rattle.rt_tableau.specs.Dropped.{AreNamed}
use Rattle.rt_simplex.specs.Choices.{IsOptimum}
use Rattle.rt_simplex.specs.Feasible.{IsDualFeasible}
use Rattle.rt_simplex.specs.declared.answers.SearchError.{SearchError}
use Rattle.rt_simplex.specs.declared.answers.SearchError.TheVariants.{Refuted, Overflow, Budget, OutOfMemory}
use Rattle.rt_branch.specs.declared.parts.Best.{Best}
use Rattle.rt_branch.specs.declared.parts.Change.{Change}
use Rattle.rt_branch.specs.declared.parts.Change.TheVariants.{Exchanged, Added}
use Rattle.rt_branch.specs.declared.parts.Waiting.{Waiting}
use Rattle.rt_branch.specs.declared.parts.Path.{Path}
use Rattle.rt_branch.specs.Trails.{LedTo}
use Rattle.rt_branch.specs.Ends.{IsSmallBest}
use Rattle.rt_branch.specs.Searches.{place, IsSearch, IsEnding, start_at}

-- where a search began, with how many pivots counted and within which limit, and how many are counted now
pub record Standing : Type 0 where
  pub root : State
  pub from : ℕ
  pub limit : ℕ
  pub made : ℕ

-- as many pivots counted
abbrev pub now : Standing → ℕ → Standing
now at made = record { root = at.root; from = at.from; limit = at.limit; made = made }

-- one pivot more
abbrev pub with_pivot : Standing → Standing
with_pivot at = now at (at.made + 1)

-- a node has no more columns than the root, and one for each pivot
abbrev pub most_of : Standing → ℕ
most_of at = columns_of at.root.system + (at.made - at.from)

-- pivots are counted within the limit, and there's room for a column for each, and one more
pub record IsWithin (at : Standing) : Type 0 where
  pub since : at.from ≤ at.made
  pub within : at.made ≤ at.limit
  pub room : columns_of at.root.system + at.limit + 1 < 2 ^ 32 + at.from

-- whether a row was added last
abbrev pub just_added : List Change → ℕ
just_added [] = 0
just_added (Exchanged p column ∷ trail) = 0
just_added (Added ∷ trail) = 1

-- what holds of a node: no column costs less than 0, each row has a basic column, entries are small, and columns few
pub record IsNode (most : ℕ) (node : State) : Type 0 where
  pub feasible : IsDualFeasible node
  pub one_each : length node.basis ≡ length node.system.rows
  pub small : IsSmallTable node
  pub few : columns_of node.system ≤ most

-- the later changes lead from the parent to the node, and the older ones to the parent; what waits is the parent with the row added, the second of a
-- branch, which isn't an optimum
pub record IsWaiting (most : ℕ) (trail : List Change) (node : State) (waiting : Waiting) (older : List Change) (parent : State) : Type 0 where
  pub later : List Change
  pub trail_is : trail ≡ later ++ older
  pub length_is : length older ≡ waiting.length
  pub led : LedTo later parent node
  pub parent_is : IsNode most parent
  pub fit : IsAddable parent.system.strips waiting.row
  pub branch : IsBranch parent waiting.row
  pub unmet : IsSmallTable (added_state parent waiting.row) → IsOptimum (added_state parent waiting.row) → ⊥

-- the nodes that wait, the next one first, each down the trail of the one before
abbrev pub Wait : ℕ → List Change → State → List Waiting → List State → Type 0
Wait most trail node [] nodes = nodes ≡ []
Wait most trail node (waiting ∷ others) nodes =
    (older : List Change) × (parent : State) × (rest : List State) × IsWaiting most trail node waiting older parent × (nodes ≡ added_state parent waiting.row ∷ rest) × Wait most older parent others rest

-- the changes, the latest one first
abbrev pub trail_of : Path → List Change
trail_of path = reverse path.changes.items

-- the nodes that wait, the next one first
abbrev pub waiting_of : Path → List Waiting
waiting_of path = reverse path.waiting.items

-- the table is the first open node's
pub record IsOpen (at : Standing) (path : Path) (node : State) : Type 0 where
  pub within : IsWithin at
  pub rest : List State
  pub reached : IsSearch (start_at at.root at.from) (place path.best (node ∷ rest) at.made)
  pub node_is : IsNode (most_of at + just_added (trail_of path)) node
  pub small_best : IsSmallBest path.best
  pub unready : just_added (trail_of path) ≡ 1 → IsOptimum node → ⊥
  pub wait : Wait (most_of at) (trail_of path) node (waiting_of path) rest

-- the table is that of a node that is closed
pub record IsLeft (at : Standing) (path : Path) (node : State) : Type 0 where
  pub within : IsWithin at
  pub rest : List State
  pub reached : IsSearch (start_at at.root at.from) (place path.best rest at.made)
  pub named : AreNamed node.system
  pub small_best : IsSmallBest path.best
  pub wait : Wait (most_of at) (trail_of path) node (waiting_of path) rest

-- no node is open
pub record IsOver (at : Standing) (path : Path) : Type 0 where
  pub within : IsWithin at
  pub reached : IsSearch (start_at at.root at.from) (place path.best [] at.made)

-- the search from there comes to that ending, with so many pivots counted
pub record Ends (root : State) (from limit made : ℕ) (ending : Result (Option Best) SearchError) : Type 0 where
  pub best : Option Best
  pub nodes : List State
  pub reached : IsSearch (start_at root from) (place best nodes made)
  pub ending_is : IsEnding limit (place best nodes made) ending

-- it ends with that best
abbrev pub IsEnded : State → ℕ → ℕ → ℕ → Option Best → Type 0
IsEnded root from limit made best = Ends root from limit made (Ok best)

-- why it stops: by what its rows ask for, or for want of memory
abbrev pub Stops : State → ℕ → ℕ → ℕ → SearchError → Type 0
Stops root from limit made (Refuted proof) = ⊥
Stops root from limit made (Overflow basis p q i j) = Ends root from limit made (Err (Overflow basis p q i j))
Stops root from limit made (Budget pivots) = Ends root from limit made (Err (Budget pivots))
Stops root from limit made OutOfMemory = Unit {0}

-- how much a search may have left to do: a pivot or a node that waits makes it less, and so does a branch, behind which a pivot comes
abbrev pub to_come : List Change → ℕ
to_come [] = 2
to_come (Exchanged p column ∷ trail) = 2
to_come (Added ∷ trail) = 0

abbrev pub work_left : ℕ → ℕ → Path → ℕ
work_left limit made path = 3 * (limit - made) + length path.waiting.items + to_come (trail_of path)

-- the latest change is that a row was added
abbrev pub HasAdded : List Change → List Change → Type 0
HasAdded old new = reverse new ≡ Added ∷ reverse old

-- the trail ends in older changes to that state
pub record CanGoBack (count : ℕ) (trail : List Change) (state : State) : Type 0 where
  pub older : List Change
  pub parent : State
  pub later : List Change
  pub trail_is : trail ≡ later ++ older
  pub length_is : length older ≡ count
  pub led : LedTo later parent state

-- whichever older changes to whichever state it ends in, those are left, and that state
abbrev pub IsGoneBack : ℕ → List Change → State → List Change → State → Type 0
IsGoneBack count trail state left new = (older later : List Change) (parent : State) → trail ≡ later ++ older → length older ≡ count → LedTo later parent state → (left ≡ older) × (new ≡ parent)
