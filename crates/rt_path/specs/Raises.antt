-- The log of raises: which row raised which place, from which earlier event.
use Rattle.std.specs.Prelude.{◌≡◌, ℕ, ◌+◌, ◌<◌, ◌≤◌, pos, neg_ℤ, ◌+ℤ◌, ◌*ℤ◌, ◌≤ℤ◌, ◌<ℤ◌, List, [], ◌∷◌, ◌++◌, Option, Some, None, length, slice_get, slice_index_or, slice_set}
use Rattle.rt_rows.specs.declared.positions.TheConstants.{EXTENT_LIMIT}
use Rattle.rt_path.specs.declared.event.Step.{Step}
use Rattle.rt_path.specs.declared.event.Event.{Event}
use Rattle.rt_path.specs.declared.event.Last.{Last}
use Rattle.rt_path.specs.Longest.{IsNear}

-- the step goes between places that are there, and not far
pub record IsFit (places : ℕ) (step : Step) : Type 0 where
  pub tail_below : step.tail < places
  pub head_below : step.head < places
  pub near : IsNear step.by

abbrev pub AllFit : ℕ → List Step → Type 0
AllFit places steps = (i : ℕ) (step : Step) → slice_get steps i ≡ Some step → IsFit places step

-- the event comes from an earlier one of the log by a step
pub record Comes (steps : List Step) (log : List Event) (i : ℕ) (event : Event) : Type 0 where
  pub step : Step
  pub from : Event
  pub earlier : event.before < i
  pub by_step : slice_get steps event.step ≡ Some step
  pub there : slice_get log event.before ≡ Some from
  pub tail : from.place ≡ step.tail
  pub head : event.place ≡ step.head
  pub value : event.value ≡ from.value +ℤ step.by
  pub length : event.length ≡ from.length + 1

-- the first event: the origin has 0
abbrev pub first : Event
first = record { place = 0; step = 0; before = 0; value = pos 0; length = 0 }

-- the log begins with the origin, each event comes from an earlier one, and the values of a place rise
pub record IsLog (steps : List Step) (log : List Event) : Type 0 where
  pub begins : slice_get log 0 ≡ Some first
  pub comes : (i : ℕ) (event : Event) → 0 < i → slice_get log i ≡ Some event → Comes steps log i event
  pub rising : (i j : ℕ) (a b : Event) → i < j → slice_get log i ≡ Some a → slice_get log j ≡ Some b → a.place ≡ b.place → a.value <ℤ b.value

-- the last event of a place, if it has one
abbrev pub last_at : List (Option Last) → ℕ → Option Last
last_at now place = slice_index_or now place None

-- an event of the place
pub record IsLast (log : List Event) (place : ℕ) (last : Last) : Type 0 where
  pub event : Event
  pub there : slice_get log last.event ≡ Some event
  pub at_place : event.place ≡ place
  pub value : event.value ≡ last.value
  pub length : event.length ≡ last.length

-- each place has its last event, the greatest one
pub record AreLasts (places : ℕ) (log : List Event) (now : List (Option Last)) : Type 0 where
  pub one_each : length now ≡ places
  pub lasts : (place : ℕ) (last : Last) → last_at now place ≡ Some last → IsLast log place last
  pub greatest : (i : ℕ) (event : Event) → slice_get log i ≡ Some event → (last : Last) × (last_at now event.place ≡ Some last) × (event.value ≤ℤ last.value)

-- the last events come by fewer raises than there are places, and lie no farther than these reach
pub record IsShort (places : ℕ) (last : Last) : Type 0 where
  pub few : last.length < places
  pub not_far_down : neg_ℤ (EXTENT_LIMIT *ℤ pos last.length) ≤ℤ last.value
  pub not_far_up : last.value ≤ℤ (EXTENT_LIMIT *ℤ pos last.length)

abbrev pub origin : Last
origin = record { event = 0; value = pos 0; length = 0 }

-- the rounds go on from here: the origin wasn't raised
pub record IsGoing (places : ℕ) (steps : List Step) (log : List Event) (now : List (Option Last)) : Type 0 where
  pub logged : IsLog steps log
  pub lasts : AreLasts places log now
  pub short : (place : ℕ) (last : Last) → last_at now place ≡ Some last → IsShort places last
  pub at_origin : last_at now 0 ≡ Some origin

-- the step is met, if its tail has a value at all
pub record IsQuiet (now : List (Option Last)) (step : Step) : Type 0 where
  pub met : (from : Last) → last_at now step.tail ≡ Some from → (to : Last) × (last_at now step.head ≡ Some to) × ((from.value +ℤ step.by) ≤ℤ to.value)

-- the step is met, or its tail was raised so many times or more
pub data IsSettled (round : ℕ) (now : List (Option Last)) (step : Step) : Type 0 where
  quiet : IsQuiet now step → IsSettled round now step
  late : (from : Last) → last_at now step.tail ≡ Some from → round ≤ from.length → IsSettled round now step

abbrev pub AllQuiet : List Step → List (Option Last) → Type 0
AllQuiet steps now = (i : ℕ) (step : Step) → slice_get steps i ≡ Some step → IsQuiet now step

abbrev pub AllSettled : ℕ → List Step → List (Option Last) → Type 0
AllSettled round steps now = (i : ℕ) (step : Step) → slice_get steps i ≡ Some step → IsSettled round now step

-- the event of a raise, and the last event that it is from then on
abbrev pub event_of : ℕ → Step → Last → Event
event_of number step from = record { place = step.head; step = number; before = from.event; value = from.value +ℤ step.by; length = from.length + 1 }

abbrev pub last_of : List Event → Step → Last → Last
last_of log step from = record { event = length log; value = from.value +ℤ step.by; length = from.length + 1 }

-- the step raised its head
pub record IsRaise (number : ℕ) (step : Step) (log : List Event) (now : List (Option Last)) (log' : List Event) (now' : List (Option Last)) (last : Last) : Type 0 where
  pub from : Last
  pub tail : last_at now step.tail ≡ Some from
  pub wanting : (to : Last) → last_at now step.head ≡ Some to → to.value <ℤ (from.value +ℤ step.by)
  pub is : last ≡ last_of log step from
  pub logged : log' ≡ log ++ event_of number step from ∷ []
  pub kept : now' ≡ slice_set now step.head (Some last)

-- the step is met and nothing changed
pub record IsAsBefore (step : Step) (log : List Event) (now : List (Option Last)) (log' : List Event) (now' : List (Option Last)) : Type 0 where
  pub same_log : log' ≡ log
  pub same_now : now' ≡ now
  pub quiet : IsQuiet now step

abbrev pub AfterStep : ℕ → Step → List Event → List (Option Last) → List Event → List (Option Last) → Option Last → Type 0
AfterStep number step log now log' now' None = IsAsBefore step log now log' now'
AfterStep number step log now log' now' (Some last) = IsRaise number step log now log' now' last

-- as far as the round has come: each step so far is met, or the last event comes by more raises than there were rounds
abbrev pub IsSoFar : ℕ → ℕ → List Step → List Event → List (Option Last) → Option Last → Type 0
IsSoFar round index steps log now None = (i : ℕ) (step : Step) → i < index → slice_get steps i ≡ Some step → IsQuiet now step
IsSoFar round index steps log now (Some last) = (event : Event) × (0 < last.event) × (slice_get log last.event ≡ Some event) × (round < event.length)

-- the round goes on
pub record IsUnderWay (places round index : ℕ) (steps : List Step) (log : List Event) (now : List (Option Last)) (last : Option Last) : Type 0 where
  pub going : IsGoing places steps log now
  pub behind : (i : ℕ) (step : Step) → i < index → slice_get steps i ≡ Some step → IsSettled (round + 1) now step
  pub all : AllSettled round steps now
  pub so_far : IsSoFar round index steps log now last

-- the round was cut short by an event whose way back comes to a place twice
pub data IsCutShort (places : ℕ) (event : Event) : Type 0 where
  long : places ≤ event.length → IsCutShort places event
  at_origin : event.place ≡ 0 → IsCutShort places event

-- after a round that raised something, last the event of this number
pub data IsAfterRaises (places round : ℕ) (steps : List Step) (log : List Event) (now : List (Option Last)) (event : Event) : Type 0 where
  cut_short : IsCutShort places event → IsAfterRaises places round steps log now event
  whole : IsGoing places steps log now → AllSettled (round + 1) steps now → round < event.length → IsAfterRaises places round steps log now event

pub record HasRaised (places round : ℕ) (steps : List Step) (log : List Event) (now : List (Option Last)) (last : Last) : Type 0 where
  pub logged : IsLog steps log
  pub event : Event
  pub later : 0 < last.event
  pub there : slice_get log last.event ≡ Some event
  pub after : IsAfterRaises places round steps log now event

pub record HasEnded (places : ℕ) (steps : List Step) (log : List Event) (now : List (Option Last)) : Type 0 where
  pub going : IsGoing places steps log now
  pub quiet : AllQuiet steps now

abbrev pub AfterRaises : ℕ → ℕ → List Step → List Event → List (Option Last) → Option Last → Type 0
AfterRaises places round steps log now None = HasEnded places steps log now
AfterRaises places round steps log now (Some last) = HasRaised places round steps log now last

-- the step isn't met: its tail has this last event, and its head has less than the step asks for
pub record IsWanted (now : List (Option Last)) (step : Step) (from : Last) : Type 0 where
  pub tail : last_at now step.tail ≡ Some from
  pub wanting : (to : Last) → last_at now step.head ≡ Some to → to.value <ℤ (from.value +ℤ step.by)

abbrev pub AllShort : ℕ → List (Option Last) → Type 0
AllShort places now = (place : ℕ) (last : Last) → last_at now place ≡ Some last → IsShort places last
