-- How a fault of a document is answered: by the key's path as it is written, and the cause.
use Rattle.std.specs.Prelude.{◌≡◌}
use Rattle.rt_keys.specs.declared.stop.Stop.{Stop}
use Rattle.rt_keys.specs.declared.stop.Stop.TheVariants.{At, OutOfMemory}
use Rattle.rt_keys.specs.declared.error.TableError.{TableError}
use Rattle.rt_keys.specs.declared.error.TableError.TheVariants.{BadToml, BadTable, TablesDiffer, BadSizes}
use Rattle.rt_keys.specs.declared.error.TableError.TheVariants as refusal
use Rattle.rt_keys.specs.declared.stop.Fault.{Fault}
use Rattle.rt_keys.specs.Faults.{written}

-- the refusal of a rule table with this fault
abbrev pub NamesTableFault : Fault → TableError → Type 0
NamesTableFault fault (BadTable key cause) = (key ≡ written fault.path) × (cause ≡ fault.cause)
NamesTableFault fault refusal.OutOfMemory = Unit {0}
NamesTableFault fault BadToml = ⊥
NamesTableFault fault (TablesDiffer key) = ⊥
NamesTableFault fault (BadSizes key cause) = ⊥

-- the refusal of a sizes file with this fault
abbrev pub NamesSizesFault : Fault → TableError → Type 0
NamesSizesFault fault (BadSizes key cause) = (key ≡ written fault.path) × (cause ≡ fault.cause)
NamesSizesFault fault refusal.OutOfMemory = Unit {0}
NamesSizesFault fault BadToml = ⊥
NamesSizesFault fault (TablesDiffer key) = ⊥
NamesSizesFault fault (BadTable key cause) = ⊥

-- what stopped the reading, as an answer
abbrev pub IsBadTable : Stop → TableError → Type 0
IsBadTable (At fault) error = NamesTableFault fault error
IsBadTable OutOfMemory error = error ≡ refusal.OutOfMemory

abbrev pub IsBadSizes : Stop → TableError → Type 0
IsBadSizes (At fault) error = NamesSizesFault fault error
IsBadSizes OutOfMemory error = error ≡ refusal.OutOfMemory
