-- What a desk over real files answers and counts.
use Rattle.std.specs.Prelude.{◌≡◌, ℕ, ◌<◌, ◌≤◌, List, length, Option, None, IfSome, Result, Ok, Err, Vec}
use Rattle.std.specs.declared.alloc.Global.{Global}
use Rattle.rt_desk.specs.declared.on_disk.FileDesk.{FileDesk}
use Rattle.rt_desk.specs.declared.outside.DeskError.{DeskError}
use Rattle.rt_desk.specs.declared.outside.DeskError.TheVariants.{Failed, Missing, TooLong, OutOfMemory}
use Rattle.rt_desk.specs.Desk.{Outside, raised}

-- bytes that are at most `most`, and all that a reader had left, where that is known
pub record IsWhole (left : Option (List ℕ)) (most : ℕ) (bytes : List ℕ) : Type 0 where
  pub within : length bytes ≤ most
  pub whole : IfSome left (λ xs. bytes ≡ xs)

-- what reading to the end answers, of what the reader had left and the most bytes; it is never Missing
abbrev pub IsRead : Option (List ℕ) → ℕ → Result (Vec ℕ Global) DeskError → Type 0
IsRead left most (Ok bytes) = IsWhole left most bytes.items
IsRead left most (Err Failed) = Unit {0}
IsRead left most (Err Missing) = ⊥
IsRead left most (Err TooLong) = IfSome left (λ xs. most < length xs)
IsRead left most (Err OutOfMemory) = Unit {0}

-- a count of faults after a call that ended in this error: each is a fault but want of memory
abbrev pub faults_after : ℕ → DeskError → ℕ
faults_after count Failed = raised count
faults_after count Missing = raised count
faults_after count TooLong = raised count
faults_after count OutOfMemory = count

-- a count of faults is raised by each error but want of memory, and by nothing else
abbrev pub CountsErrors : {A : Type 0} → ℕ → ℕ → Result A DeskError → Type 0
CountsErrors old new (Ok _) = new ≡ old
CountsErrors old new (Err error) = new ≡ faults_after old error

-- how many fetches were faults
abbrev pub fetch_faults_at : {R : Type 0} → FileDesk R → ℕ
fetch_faults_at desk = desk.fetch_faults

-- how many stores were faults
abbrev pub store_faults_at : {R : Type 0} → FileDesk R → ℕ
store_faults_at desk = desk.store_faults

-- how many says were faults
abbrev pub say_faults_at : {R : Type 0} → FileDesk R → ℕ
say_faults_at desk = desk.say_faults

-- the outside as the desk shows it: it tells neither its files nor what was said
abbrev pub seen_at : {R : Type 0} → FileDesk R → Outside
seen_at desk = record {
  files = None;
  said = None;
  fetch_faults = fetch_faults_at desk;
  store_faults = store_faults_at desk;
  say_faults = say_faults_at desk;
}
