-- Strips that keep their distance across, among pairs.
use Rattle.std.specs.Prelude.{ℕ, ℤ, ◌⊎◌, List, Contains}
use Rattle.rt_tech.specs.declared.table.Mask.{Mask}
use Rattle.rt_view.specs.declared.job.Job.{Job}
use Rattle.rt_template.specs.Horizontal.{IsKeptRightOf}

-- a mask's space
abbrev pub space_in : Mask → ℤ
space_in mask = mask.space

-- among the pairs is each two strips that keep their distance, in one order or the other
pub record HoldKeptPairs (job : Job) (pairs : List (ℕ × ℕ)) : Type 0 where
  pub every : (i j : ℕ) → IsKeptRightOf job i j → Contains pairs (i, j) ⊎ Contains pairs (j, i)
