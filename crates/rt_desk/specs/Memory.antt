-- What a desk in memory shows: its files, what was said, its plan, and what it counts.
use Rattle.std.specs.Prelude.{◌≡◌, ℕ, List, [], Some, Contains, Result, Ok, Err}
use Rattle.rt_desk.specs.declared.in_memory.MemoryDesk.{MemoryDesk}
use Rattle.rt_desk.specs.declared.outside.DeskError.{DeskError}
use Rattle.rt_desk.specs.declared.outside.DeskError.TheVariants.{Failed, Missing, TooLong, OutOfMemory}
use Rattle.rt_desk.specs.Desk.{Files, Outside, raised}
use Rattle.rt_desk.specs.Entries.{Entry, file_in}

-- the bytes of each name
abbrev pub files_of : MemoryDesk → Files
files_of desk = file_in desk.files.items

-- all bytes said so far
abbrev pub said_of : MemoryDesk → List ℕ
said_of desk = desk.said.items

-- the numbers of the calls that are planned to fail
abbrev pub plan_of : MemoryDesk → List ℕ
plan_of desk = desk.planned.items

-- how many calls were made, which is the number of the next
abbrev pub calls_of : MemoryDesk → ℕ
calls_of desk = desk.calls

-- how many fetches were faults
abbrev pub fetch_faults_of : MemoryDesk → ℕ
fetch_faults_of desk = desk.fetch_faults

-- how many stores were faults
abbrev pub store_faults_of : MemoryDesk → ℕ
store_faults_of desk = desk.store_faults

-- how many says were faults
abbrev pub say_faults_of : MemoryDesk → ℕ
say_faults_of desk = desk.say_faults

-- the outside as the desk shows it: it always tells its files and what was said
abbrev pub seen_of : MemoryDesk → Outside
seen_of desk = record {
  files = Some (files_of desk);
  said = Some (said_of desk);
  fetch_faults = fetch_faults_of desk;
  store_faults = store_faults_of desk;
  say_faults = say_faults_of desk;
}

-- the next call is planned to fail
abbrev pub IsPlanned : MemoryDesk → Type 0
IsPlanned desk = Contains (plan_of desk) (calls_of desk)

-- one more call was made, and the plan stays
pub record CountsCall (old new : MemoryDesk) : Type 0 where
  pub calls : calls_of new ≡ raised (calls_of old)
  pub plan : plan_of new ≡ plan_of old

-- a count of faults is raised by an answer of Failed, and by no other
abbrev pub CountsFailed : {A : Type 0} → ℕ → ℕ → Result A DeskError → Type 0
CountsFailed old new (Ok _) = new ≡ old
CountsFailed old new (Err Failed) = new ≡ raised old
CountsFailed old new (Err Missing) = new ≡ old
CountsFailed old new (Err TooLong) = new ≡ old
CountsFailed old new (Err OutOfMemory) = new ≡ old

-- a desk with these files: nothing was said, nothing is planned, no call was made, and no fault counted
pub record IsNew (desk : MemoryDesk) (entries : List Entry) : Type 0 where
  pub files : files_of desk ≡ file_in entries
  pub said : said_of desk ≡ []
  pub plan : plan_of desk ≡ []
  pub calls : calls_of desk ≡ 0
  pub fetch_faults : fetch_faults_of desk ≡ 0
  pub store_faults : store_faults_of desk ≡ 0
  pub say_faults : say_faults_of desk ≡ 0

-- two desks differ in their plans alone
pub record SameButPlan (old new : MemoryDesk) : Type 0 where
  pub files : files_of new ≡ files_of old
  pub said : said_of new ≡ said_of old
  pub calls : calls_of new ≡ calls_of old
  pub fetch_faults : fetch_faults_of new ≡ fetch_faults_of old
  pub store_faults : store_faults_of new ≡ store_faults_of old
  pub say_faults : say_faults_of new ≡ say_faults_of old
