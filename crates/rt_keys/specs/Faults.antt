-- The faults of a document. Each rule gives the first fault that it finds, or none; of two rules the left one is tested
-- first. A path has a dot before each of its steps.
use Rattle.std.specs.Prelude.{◌≡◌, ℕ, Bool, not, ◌||◌, ◌&&◌, nat_le, if◌then◌else◌, List, [], ◌∷◌, ◌++◌, length, map, drop, Option, Some, None, is_some, Result, Ok, Err, MatchResult, bytes_eq}
use Rattle.std.specs.List.{list_any}
use Rattle.std.specs.Fmt.{decimal}
use Rattle.toml.specs.Data.{Data, Members, no_members, member, Items, no_items, item}
use Rattle.rt_tech.specs.declared.table.TableCause.{TableCause}
use Rattle.rt_tech.specs.declared.table.TableCause.TheVariants.{Missing, Form, Unknown}
use Rattle.rt_keys.specs.declared.stop.Fault.{Fault}
use Rattle.rt_keys.specs.declared.stop.Stop.{Stop}
use Rattle.rt_keys.specs.declared.stop.Stop.TheVariants.{At, OutOfMemory}
use Rattle.rt_keys.specs.Document.{has, read_at}

-- the first fault of two rules, the left one first
infixr 2 ◌or_else◌
abbrev pub ◌or_else◌ : Option Fault → Option Fault → Option Fault
None or_else later = later
Some fault or_else later = Some fault

-- the value itself is at fault, unless the test holds
abbrev pub test_here : TableCause → Bool → Option Fault
test_here cause holds = if holds then None else Some (record { path = []; cause = cause })

-- the key is at fault, unless the test holds
abbrev pub test : List ℕ → TableCause → Bool → Option Fault
test key cause holds = if holds then None else Some (record { path = 46 ∷ key; cause = cause })

-- a fault of the value at a key, seen from the table around it
abbrev pub within : List ℕ → Option Fault → Option Fault
within key None = None
within key (Some fault) = Some (record { path = (46 ∷ key) ++ fault.path; cause = fault.cause })

-- the key has to be there and to hold this type
abbrev pub wanted : {A : Type 0} → (Data → Option A) → List ℕ → Members → Option Fault
wanted read key members = test key Missing (has key members) or_else test key Form (is_some (read_at read key members))

-- the key may be there, and then has to hold this type
abbrev pub allowed : {A : Type 0} → (Data → Option A) → List ℕ → Members → Option Fault
allowed read key members = test key Form (not (has key members) || is_some (read_at read key members))

-- the key may not be there
abbrev pub unwanted : List ℕ → Members → Option Fault
unwanted key members = test key Unknown (not (has key members))

-- the keys that no rule names may not be there. The members of a table stand in the order of their keys' bytes
abbrev pub others : List (List ℕ) → Members → Option Fault
others named no_members = None
others named (member key value rest) = test key Unknown (list_any (bytes_eq key) named) or_else others named rest

-- the entries of a list, one after another, each with those before it
abbrev pub each : {A : Type 0} → (List A → Data → Option Fault) → (Data → A) → List A → Items → Option Fault
each fault of before no_items = None
each fault of before (item value values) =
    within (decimal (length before)) (fault before value) or_else each fault of (before ++ of value ∷ []) values

-- a byte as an answer writes it
abbrev pub written_byte : ℕ → ℕ
written_byte byte = if nat_le 32 byte && nat_le byte 126 then byte else 63

-- the path as an answer writes it, without its first dot
abbrev pub written : List ℕ → List ℕ
written path = map written_byte (drop 1 path)

-- what is read under a rule: its fault where there is one, and otherwise a good value
abbrev pub Reads : {A : Type 0} → Result A Stop → Option Fault → (A → Type 0) → Type 0
Reads (Ok value) fault Good = (fault ≡ None) × Good value
Reads (Err (At found)) fault Good = fault ≡ Some found
Reads (Err OutOfMemory) fault Good = Unit {0}

-- the answer is this fault, unless memory ran out
abbrev pub Stops : Stop → Option Fault → Type 0
Stops (At found) fault = fault ≡ Some found
Stops OutOfMemory fault = Unit {0}

-- a stop within the value at a key, seen from the table around it
abbrev pub IsStopWithin : List ℕ → Stop → Stop → Type 0
IsStopWithin key (At found) stop = Stops stop (within key (Some found))
IsStopWithin key OutOfMemory stop = stop ≡ OutOfMemory

-- what was read of the value at a key, seen from the table around it
abbrev pub IsWithin : {A : Type 0} → List ℕ → Result A Stop → Result A Stop → Type 0
IsWithin key (Ok value) result = result ≡ Ok value
IsWithin key (Err stop) result = MatchResult result (λ _. ⊥) (IsStopWithin key stop)
