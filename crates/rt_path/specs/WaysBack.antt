-- The way back from an event of the log, row by row.
use Rattle.std.specs.Prelude.{◌≡◌, ◌≢◌, ℕ, suc, ◌+◌, ◌<◌, ◌≤◌, ℤ, pos, ◌-ℤ◌, ◌≤ℤ◌, ◌<ℤ◌, List, [], ◌∷◌, ◌++◌, Option, Some, None, length, drop, Contains, slice_get, slice_index_or, slice_set, ◌⊎◌}
use Rattle.rt_rows.specs.declared.name.Name.{Name}
use Rattle.rt_rows.specs.declared.row.Var.{Var}
use Rattle.rt_rows.specs.declared.row.Row.{Row}
use Rattle.rt_rows.specs.declared.proof.Share.{Share}
use Rattle.rt_path.specs.declared.event.Step.{Step}
use Rattle.rt_path.specs.declared.event.Event.{Event}
use Rattle.rt_path.specs.declared.event.Last.{Last}
use Rattle.rt_path.specs.Raises.{IsGoing, AllSettled, HasEnded}
use Rattle.rt_path.specs.Longest.{Listed}
use Rattle.rt_path.specs.Chains.{IsArcOf, once, AddUp}

-- each step is a row of the list, between the variables of its places
pub record AreArcs (label : ℕ → Option Var) (rows : List (Name × Row)) (steps : List Step) : Type 0 where
  pub each : (i : ℕ) (step : Step) → slice_get steps i ≡ Some step
      → (row : Row) × Contains rows (step.name, row) × IsArcOf row (label step.tail) (label step.head) step.by

-- each share takes its row once
pub record AreSingle (shares : List Share) : Type 0 where
  pub each : (i : ℕ) (share : Share) → slice_get shares i ≡ Some share → share.times ≡ pos 1

-- whatever rows the steps are: the shares add up to this, each row taken once
pub record LeadsOn (steps : List Step) (shares : List Share) (tail head : ℕ) (gain : ℤ) : Type 0 where
  pub adds : (rows : List (Name × Row)) (label : ℕ → Option Var) → AreArcs label rows steps → AddUp (Listed rows) shares (label tail) (label head) gain
  pub single : AreSingle shares

-- the shares lead from a place to itself with a gain; there are no more of them than places
pub record IsCircle (places : ℕ) (steps : List Step) (shares : List Share) : Type 0 where
  pub place : ℕ
  pub gain : ℤ
  pub gains : pos 1 ≤ℤ gain
  pub leads : LeadsOn steps shares place place gain
  pub few : length shares ≤ places

-- one step back: the place of the event is marked with the number of shares so far, and the share of its row is added
pub record IsStepBack (steps : List Step) (log : List Event) (at : ℕ) (seen : List (Option ℕ)) (shares : List Share) (seen' : List (Option ℕ)) (shares' : List Share) (before : ℕ) : Type 0 where
  pub event : Event
  pub step : Step
  pub there : slice_get log at ≡ Some event
  pub by_step : slice_get steps event.step ≡ Some step
  pub goes : before ≡ event.before
  pub marked : seen' ≡ slice_set seen event.place (Some (length shares))
  pub added : shares' ≡ shares ++ once step.name ∷ []

-- the way back comes to no place twice
pub record HasNoCircle (places : ℕ) (log : List Event) (start : ℕ) : Type 0 where
  pub few : (event : Event) → slice_get log start ≡ Some event → event.length < places
  pub elsewhere : (event : Event) → slice_get log start ≡ Some event → event.place ≢ 0

abbrev pub AfterWayBack : ℕ → List Step → List Event → ℕ → Option (List Share) → Type 0
AfterWayBack places steps log start None = HasNoCircle places log start
AfterWayBack places steps log start (Some shares) = IsCircle places steps shares

-- how many places are marked
abbrev pub marks : List (Option ℕ) → ℕ
marks [] = 0
marks (None ∷ seen) = marks seen
marks (Some k ∷ seen) = suc (marks seen)

-- from the place the shares behind the first ones lead to the mark's place, and each event so far back lies below the value from there
pub record IsMark (steps : List Step) (log : List Event) (at : ℕ) (event : Event) (shares : List Share) (place k : ℕ) : Type 0 where
  pub within : k ≤ length shares
  pub value : ℤ
  pub leads : LeadsOn steps (drop k shares) event.place place (value -ℤ event.value)
  pub above : (i : ℕ) (other : Event) → i ≤ at → slice_get log i ≡ Some other → other.place ≡ place → other.value <ℤ value

-- so far back
pub record IsBack (places : ℕ) (steps : List Step) (log : List Event) (start at : ℕ) (seen : List (Option ℕ)) (shares : List Share) : Type 0 where
  pub event : Event
  pub there : slice_get log at ≡ Some event
  pub one_each : length seen ≡ places
  pub as_many : length shares ≡ marks seen
  pub counted : (first : Event) → slice_get log start ≡ Some first → event.length + marks seen ≡ first.length
  pub begun : (at ≡ start) ⊎ ((first : Event) → slice_get log start ≡ Some first → (k : ℕ) × (slice_index_or seen first.place None ≡ Some k))
  pub marked : (place k : ℕ) → slice_index_or seen place None ≡ Some k → IsMark steps log at event shares place k

-- so far back, at a place that isn't marked
pub record IsOnWayBack (places : ℕ) (steps : List Step) (log : List Event) (start at : ℕ) (seen : List (Option ℕ)) (shares : List Share) : Type 0 where
  pub back : IsBack places steps log start at seen shares
  pub fresh : slice_index_or seen back.event.place None ≡ None

-- the shares lead from the origin to the event's place, with its value
pub record IsChain (steps : List Step) (log : List Event) (start : ℕ) (shares : List Share) : Type 0 where
  pub leads : (event : Event) → slice_get log start ≡ Some event → LeadsOn steps shares 0 event.place event.value
  pub as_long : (event : Event) → slice_get log start ≡ Some event → length shares ≡ event.length

-- the shares lead from here to there
pub record IsWayTo (steps : List Step) (log : List Event) (start at : ℕ) (shares : List Share) : Type 0 where
  pub event : Event
  pub there : slice_get log at ≡ Some event
  pub leads : (first : Event) → slice_get log start ≡ Some first → LeadsOn steps shares event.place first.place (first.value -ℤ event.value)
  pub as_long : (first : Event) → slice_get log start ≡ Some first → length shares + event.length ≡ first.length

-- the walk came to no place twice, or the shares behind the first ones are a circle
pub record IsCircleBehind (places : ℕ) (steps : List Step) (shares : List Share) (from : ℕ) : Type 0 where
  pub within : from ≤ length shares
  pub circle : IsCircle places steps (drop from shares)

abbrev pub AfterWalk : ℕ → List Step → List Event → ℕ → List Share → Option ℕ → Type 0
AfterWalk places steps log start shares None = HasNoCircle places log start
AfterWalk places steps log start shares (Some from) = IsCircleBehind places steps shares from

-- the rounds have ended, or there is a circle with a gain
abbrev pub AfterRounds : ℕ → List Step → List Event → List (Option Last) → Option (List Share) → Type 0
AfterRounds places steps log now None = HasEnded places steps log now
AfterRounds places steps log now (Some shares) = IsCircle places steps shares

-- before the round of this number
pub record IsBeforeRound (places round : ℕ) (steps : List Step) (log : List Event) (now : List (Option Last)) : Type 0 where
  pub going : IsGoing places steps log now
  pub settled : AllSettled round steps now
  pub below : round < places
