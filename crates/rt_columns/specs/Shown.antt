-- What the columns of a drawing show.
use Rattle.std.specs.Prelude.{ℕ, ℤ, ◌↔◌, List, Contains}
use Rattle.rt_rows.specs.declared.row.Var.{Var}
use Rattle.rt_rows.specs.declared.name.Name.{Name}
use Rattle.rt_rows.specs.declared.name.Name.TheVariants.{Gap, Run}
use Rattle.rt_view.specs.declared.job.Job.{Job}
use Rattle.rt_template.specs.Vertical.{IsSeenFrom, IsKeptAbove, IsWholeChain}

module _ (job : Job) (columns : Var → ℤ) where
  -- a column shows the name: of the gap between two strips that are kept apart and of which the upper one is seen from the lower one, or of
  -- the run of a whole chain
  pub data IsShown : Name → Type 0 where
    seen : (i j : ℕ) → IsKeptAbove job columns i j → IsSeenFrom job columns i j → IsShown (Gap i j)
    chained : (i j : ℕ) → IsWholeChain job columns i j → IsShown (Run i j)

  -- the names are those that a column shows
  pub record ListsShown (names : List Name) : Type 0 where
    pub exact : (name : Name) → Contains names name ↔ IsShown name
