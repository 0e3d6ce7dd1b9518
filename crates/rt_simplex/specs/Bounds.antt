-- What is told of an optimum and of a ray.
use Rattle.std.specs.Prelude.{ℕ, ℤ, pos, ◌<ℤ◌, List}
use Rattle.rt_rows.specs.declared.proof.Share.{Share}
use Rattle.rt_frac.specs.declared.frac.Frac.{Frac}
use Rattle.rt_proofs.specs.Forms.{Sum}
use Rattle.rt_tableau.specs.States.{State}
use Rattle.rt_simplex.specs.Choices.{IsOptimum, IsRay, goal_of}
use Rattle.rt_simplex.specs.Points.{IsBasisPoint, IsLeastPoint, IsQuotient, value_at, AreValues}
use Rattle.rt_simplex.specs.Combinations.{IsGoalBound, IsRefuting}
use Rattle.rt_simplex.specs.declared.answers.Bound.{Bound}
use Rattle.rt_simplex.specs.declared.answers.Bound.TheVariants.{Optimum, Ray}

-- the values are those of the basis' point, at which the goal is least; that value is the least value of the shares' combination, divided
pub record IsOptimumBound (state : State) (at : List Frac) (shares : List Share) (over : ℤ) : Type 0 where
  pub ended : IsOptimum state
  pub point : ℕ → ℤ
  pub of_basis : IsBasisPoint state point
  pub least : IsLeastPoint state point
  pub values : AreValues state.system point at
  pub sum : Sum
  pub bounds : IsGoalBound state shares over sum
  pub reached : IsQuotient sum.least over (value_at at (goal_of state))

-- the shares' combination shows that no point meets the rows
pub record IsRayBound (state : State) (shares : List Share) (over : ℤ) : Type 0 where
  pub row : ℕ
  pub ended : IsRay state row
  pub positive : pos 0 <ℤ over
  pub sum : Sum
  pub refutes : IsRefuting state.system shares sum

-- what an answer tells of the state
abbrev pub IsBoundOf : State → Bound → Type 0
IsBoundOf state (Optimum at shares over) = IsOptimumBound state at shares over
IsBoundOf state (Ray shares over) = IsRayBound state shares over
