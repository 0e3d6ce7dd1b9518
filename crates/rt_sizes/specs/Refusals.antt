-- A refusal of sizes names the first fault, as an answer writes it.
use Rattle.std.specs.Prelude.{◌≡◌, ℕ, List, Option, Some, option_map}
use Rattle.rt_tech.specs.declared.table.TableCause.{TableCause}
use Rattle.rt_keys.specs.declared.error.TableError.{TableError}
use Rattle.rt_keys.specs.declared.error.TableError.TheVariants.{BadToml, BadTable, TablesDiffer, BadSizes, OutOfMemory}
use Rattle.rt_keys.specs.declared.stop.Fault.{Fault}
use Rattle.rt_keys.specs.Faults.{written}

-- the key and the cause that an answer gives
abbrev pub answered : Option Fault → Option (List ℕ × TableCause)
answered fault = option_map (λ f. (written f.path, f.cause)) fault

-- the refusal of sizes whose first fault is this one
abbrev pub RefusesSizes : Option Fault → TableError → Type 0
RefusesSizes fault (BadSizes key cause) = answered fault ≡ Some (key, cause)
RefusesSizes fault OutOfMemory = Unit {0}
RefusesSizes fault BadToml = ⊥
RefusesSizes fault (TablesDiffer key) = ⊥
RefusesSizes fault (BadTable key cause) = ⊥
