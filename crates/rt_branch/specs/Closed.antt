-- What a finished search has gone through, as a tree: how the root is closed by the best positions that are found at last.
use Rattle.std.specs.Prelude.{ℕ, ℤ, pos, ◌+ℤ◌, Option}
use Rattle.rt_rows.specs.Rows.{at_most, at_least}
use Rattle.rt_tableau.specs.States.{State, exchanged_state}
use Rattle.rt_tableau.specs.Added.{added_state}
use Rattle.rt_simplex.specs.Choices.{IsOptimum, IsRay, IsDualPivot}
use Rattle.rt_branch.specs.Values.{IsFirstBroken}
use Rattle.rt_branch.specs.Branches.{variable_at}
use Rattle.rt_branch.specs.declared.parts.Best.{Best}
use Rattle.rt_branch.specs.Searches.{HasNoBetter}

-- the node is closed: it's a ray, or an optimum with nothing better than the best, or what it is exchanged to is closed, or both nodes of its branch are
pub data IsClosed (best : Option Best) : State → Type 0 where
  ray : (node : State) (p : ℕ) → IsRay node p → IsClosed best node
  bound : (node : State) → IsOptimum node → HasNoBetter best node → IsClosed best node
  pivot : (node : State) (p q : ℕ) → IsDualPivot node p q → IsClosed best (exchanged_state node p q) → IsClosed best node
  branch : (node : State) (j : ℕ) (n : ℤ) → IsFirstBroken node j n → IsClosed best (added_state node (at_most (variable_at node j) n))
      → IsClosed best (added_state node (at_least (variable_at node j) (n +ℤ pos 1))) → IsClosed best node
