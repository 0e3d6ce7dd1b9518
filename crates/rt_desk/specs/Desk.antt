-- What a desk shows of the outside, and what its three calls answer.
use Rattle.std.specs.Prelude.{◌≡◌, ◌≢◌, ℕ, ◌+◌, ◌-◌, ◌^◌, ◌<◌, ◌≤◌, min, ◌⊎◌, List, ◌++◌, length, take, Option, Some, None, Result, Ok, Err, Vec, IsSome, IfSome, IsSomeAnd, MatchOption, option_map}
use Rattle.std.specs.declared.alloc.Global.{Global}
use Rattle.rt_desk.specs.declared.outside.DeskError.{DeskError}
use Rattle.rt_desk.specs.declared.outside.DeskError.TheVariants.{Failed, Missing, TooLong, OutOfMemory}

-- the bytes of each name, which is a list of bytes too; None where no file has that name
abbrev pub Files : Type 0
Files = List ℕ → Option (List ℕ)

-- the outside at one moment, as a desk shows it: the bytes of each name and all bytes said so far, where the desk tells
-- them, and how many fetches, stores and says it counts as faults
pub record Outside : Type 0 where
  pub files : Option Files
  pub said : Option (List ℕ)
  pub fetch_faults : ℕ
  pub store_faults : ℕ
  pub say_faults : ℕ

-- a count of faults rose in a call: it is greater after than before, or stands at its type's end
abbrev pub Rose : ℕ → ℕ → Type 0
Rose old new = (old < new) ⊎ (new ≡ 2 ^ 64 - 1)

-- one more, where a count stands still at its type's end
abbrev pub raised : ℕ → ℕ
raised count = min (count + 1) (2 ^ 64 - 1)

-- a fetch that gave bytes: they are at most `most`, and where files are told they are the file's
pub record IsFetched (files : Option Files) (name : List ℕ) (most : ℕ) (bytes : List ℕ) : Type 0 where
  pub within : length bytes ≤ most
  pub told : IfSome files (λ fs. fs name ≡ Some bytes)

-- files are told, and none has the name
abbrev pub IsAbsent : Option Files → List ℕ → Type 0
IsAbsent files name = IsSomeAnd files (λ fs. fs name ≡ None)

-- where files are told, the named one has more than `most` bytes; where they are not, the count of faults rose
abbrev pub IsOverLong : Option Files → ℕ → ℕ → List ℕ → ℕ → Type 0
IsOverLong files old new name most =
    MatchOption files (Rose old new) (λ fs. IsSomeAnd (fs name) (λ bytes. most < length bytes))

-- what `fetch` answers, of the outside before and after, the name and the most bytes
abbrev pub FetchAnswer : Outside → Outside → List ℕ → ℕ → Result (Vec ℕ Global) DeskError → Type 0
FetchAnswer old new name most (Ok bytes) = IsFetched old.files name most bytes.items
FetchAnswer old new name most (Err Failed) = Rose old.fetch_faults new.fetch_faults
FetchAnswer old new name most (Err Missing) = IsAbsent old.files name
FetchAnswer old new name most (Err TooLong) = IsOverLong old.files old.fetch_faults new.fetch_faults name most
FetchAnswer old new name most (Err OutOfMemory) = Unit {0}

-- all of the outside is as it was, but for the count of fetches that were faults, which is no less
pub record OnlyFetches (old new : Outside) : Type 0 where
  pub files : new.files ≡ old.files
  pub said : new.said ≡ old.said
  pub fetch_faults : old.fetch_faults ≤ new.fetch_faults
  pub store_faults : new.store_faults ≡ old.store_faults
  pub say_faults : new.say_faults ≡ old.say_faults

-- a fetch: its answer, and what stays
pub record Fetches (old new : Outside) (name : List ℕ) (most : ℕ) (result : Result (Vec ℕ Global) DeskError) : Type 0 where
  pub answer : FetchAnswer old new name most result
  pub stays : OnlyFetches old new

-- every name but this one has the bytes that it had
abbrev pub OthersStay : Files → Files → List ℕ → Type 0
OthersStay fs gs name = (other : List ℕ) → other ≢ name → gs other ≡ fs other

-- the name has these bytes now, and every other name has the bytes that it had
pub record Stored (fs gs : Files) (name bytes : List ℕ) : Type 0 where
  pub named : gs name ≡ Some bytes
  pub others : OthersStay fs gs name

-- files are told after exactly where they were before, and then the name was stored
abbrev pub IsStored : Option Files → Option Files → List ℕ → List ℕ → Type 0
IsStored old new name bytes =
    MatchOption old (new ≡ None) (λ fs. IsSomeAnd new (λ gs. Stored fs gs name bytes))

-- no other name's file differs, and this one's is there still where it was
pub record IsChangedAt (fs gs : Files) (name : List ℕ) : Type 0 where
  pub others : OthersStay fs gs name
  pub there : IsSome (fs name) → IsSome (gs name)

-- files are told after exactly where they were before, and then only this name's file may differ, which is not gone
abbrev pub ChangesOnly : Option Files → Option Files → List ℕ → Type 0
ChangesOnly old new name = MatchOption old (new ≡ None) (λ fs. IsSomeAnd new (λ gs. IsChangedAt fs gs name))

-- a store that failed: its count of faults rose, and only the named file may differ
pub record IsFailedStore (old new : Outside) (name : List ℕ) : Type 0 where
  pub rose : Rose old.store_faults new.store_faults
  pub changed : ChangesOnly old.files new.files name

-- what `store` answers, of the outside before and after, the name and the bytes
abbrev pub StoreAnswer : Outside → Outside → List ℕ → List ℕ → Result (Unit {0}) DeskError → Type 0
StoreAnswer old new name bytes (Ok _) = IsStored old.files new.files name bytes
StoreAnswer old new name bytes (Err Failed) = IsFailedStore old new name
StoreAnswer old new name bytes (Err Missing) = ⊥
StoreAnswer old new name bytes (Err TooLong) = ⊥
StoreAnswer old new name bytes (Err OutOfMemory) = new.files ≡ old.files

-- all of the outside is as it was, but for the files and the count of stores that were faults, which is no less
pub record OnlyStores (old new : Outside) : Type 0 where
  pub said : new.said ≡ old.said
  pub fetch_faults : new.fetch_faults ≡ old.fetch_faults
  pub store_faults : old.store_faults ≤ new.store_faults
  pub say_faults : new.say_faults ≡ old.say_faults

-- a store: its answer, and what stays
pub record Stores (old new : Outside) (name bytes : List ℕ) (result : Result (Unit {0}) DeskError) : Type 0 where
  pub answer : StoreAnswer old new name bytes result
  pub stays : OnlyStores old new

-- what was said has these bytes more at its end, where it is told
abbrev pub IsSaid : Outside → Outside → List ℕ → Type 0
IsSaid old new bytes = new.said ≡ option_map (λ before. before ++ bytes) old.said

-- what was said has the first `count` of these bytes more at its end, where it is told
pub record IsSaidInPart (old new : Outside) (bytes : List ℕ) (count : ℕ) : Type 0 where
  pub within : count ≤ length bytes
  pub prefix : IsSaid old new (take count bytes)

-- a say that failed: its count of faults rose, and a prefix of the bytes was said
pub record IsFailedSay (old new : Outside) (bytes : List ℕ) : Type 0 where
  pub rose : Rose old.say_faults new.say_faults
  pub said : (count : ℕ) × IsSaidInPart old new bytes count

-- what `say` answers, of the outside before and after, and the bytes
abbrev pub SayAnswer : Outside → Outside → List ℕ → Result (Unit {0}) DeskError → Type 0
SayAnswer old new bytes (Ok _) = IsSaid old new bytes
SayAnswer old new bytes (Err Failed) = IsFailedSay old new bytes
SayAnswer old new bytes (Err Missing) = ⊥
SayAnswer old new bytes (Err TooLong) = ⊥
SayAnswer old new bytes (Err OutOfMemory) = new.said ≡ old.said

-- all of the outside is as it was, but for what was said and the count of says that were faults, which is no less
pub record OnlySays (old new : Outside) : Type 0 where
  pub files : new.files ≡ old.files
  pub fetch_faults : new.fetch_faults ≡ old.fetch_faults
  pub store_faults : new.store_faults ≡ old.store_faults
  pub say_faults : old.say_faults ≤ new.say_faults

-- a say: its answer, and what stays
pub record Says (old new : Outside) (bytes : List ℕ) (result : Result (Unit {0}) DeskError) : Type 0 where
  pub answer : SayAnswer old new bytes result
  pub stays : OnlySays old new
