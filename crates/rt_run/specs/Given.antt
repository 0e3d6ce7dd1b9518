-- The names that a value of the program holds.
use Rattle.rt_run.specs.declared.words.Retarget.{Retarget}
use Rattle.rt_run.specs.declared.fetching.Inputs.{Inputs}
use Rattle.rt_run.specs.Words.{Names}
use Rattle.rt_retarget.specs.Files.{Given}

-- the names as lists of bytes
abbrev pub names_in : Retarget → Names
names_in r = record { source = r.source.now; stable = r.stable.now; ttable = r.ttable.now; sizes = r.sizes.now; out = r.out.now; cert = r.cert.now }

-- the bytes of the four files
abbrev pub contents_in : Inputs → Given
contents_in files = record { source = files.source.items; stable = files.stable.items; ttable = files.ttable.items; sizes = files.sizes.items }
