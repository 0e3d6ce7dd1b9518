-- What the steps of the rows come to.
use Rattle.std.specs.Prelude.{◌≡◌, ℕ, ◌+◌, List, Option, Some, slice_get}
use Rattle.rt_base.specs.declared.plane.Axis.{Axis}
use Rattle.rt_rows.specs.declared.positions.Positions.{Positions}
use Rattle.rt_rows.specs.declared.proof.Share.{Share}
use Rattle.rt_rows.specs.declared.proof.Proof.{Proof as ProofOf}
use Rattle.rt_path.specs.declared.path_error.PathError.{PathError}
use Rattle.rt_path.specs.declared.path_error.PathError.TheVariants.{Refuted, OutOfMemory}
use Rattle.rt_path.specs.declared.event.Step.{Step}
use Rattle.rt_path.specs.declared.event.Event.{Event}
use Rattle.rt_path.specs.declared.event.Last.{Last}
use Rattle.rt_path.specs.Raises.{HasEnded}
use Rattle.rt_path.specs.WaysBack.{IsCircle}
use Rattle.rt_path.specs.Steps.{HaveValues, IsBoundBy, IsRefutedBy}

-- some step goes from the origin to the extent
pub record ReachesExtent (steps : List Step) : Type 0 where
  pub number : ℕ
  pub step : Step
  pub there : slice_get steps number ≡ Some step
  pub tail : step.tail ≡ 0
  pub head : step.head ≡ 1

-- the positions and the proof of the last events
pub record HasAnswer (axis : Axis) (count : ℕ) (steps : List Step) (now : List (Option Last)) (at : Positions) (proof : ProofOf) : Type 0 where
  pub values : HaveValues axis count now at
  pub bound : IsBoundBy steps now proof

-- the rounds have ended, with these positions and this proof
pub record IsAnswer (axis : Axis) (count : ℕ) (steps : List Step) (at : Positions) (proof : ProofOf) : Type 0 where
  pub log : List Event
  pub now : List (Option Last)
  pub ended : HasEnded (2 + count + count) steps log now
  pub answer : HasAnswer axis count steps now at proof

-- the proof is a circle of steps
pub record IsCircleProof (count : ℕ) (steps : List Step) (proof : ProofOf) : Type 0 where
  pub shares : List Share
  pub circle : IsCircle (2 + count + count) steps shares
  pub refuted : IsRefutedBy shares proof

abbrev pub IsSetback : ℕ → List Step → PathError → Type 0
IsSetback count steps (Refuted proof) = IsCircleProof count steps proof
IsSetback count steps OutOfMemory = Unit {0}
