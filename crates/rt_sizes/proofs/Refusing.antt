-- What stopped the reading of sizes names their first fault.
use Rattle.std.proofs.Common.{Option, Err, refl}
use Rattle.rt_keys.specs.declared.error.TableError.{TableError}
use Rattle.rt_keys.specs.declared.error.TableError.TheVariants.{BadToml, BadTable, TablesDiffer, BadSizes}
use Rattle.rt_keys.specs.declared.error.TableError.TheVariants as refusal
use Rattle.rt_keys.specs.declared.stop.Fault.{Fault}
use Rattle.rt_keys.specs.declared.stop.Stop.{Stop}
use Rattle.rt_keys.specs.declared.stop.Stop.TheVariants.{At, OutOfMemory}
use Rattle.rt_keys.specs.Answers.{IsBadSizes}
use Rattle.rt_keys.specs.Faults.{Reads}
use Rattle.rt_sizes.specs.Refusals.{RefusesSizes}

pub refuses_sizes : {A : Type 0} (Good : A → Type 0) (fault : Option Fault) (stop : Stop) (error : TableError) → Reads (Err stop) fault Good → IsBadSizes stop error → RefusesSizes fault error
refuses_sizes Good fault (At found) (BadSizes key cause) reads names = rw (reads, names.0, names.1) refl
refuses_sizes Good fault (At found) refusal.OutOfMemory reads names = tt
refuses_sizes Good fault (At found) BadToml reads names = absurd names
refuses_sizes Good fault (At found) (TablesDiffer key) reads names = absurd names
refuses_sizes Good fault (At found) (BadTable key cause) reads names = absurd names
refuses_sizes Good fault OutOfMemory (BadSizes key cause) reads names = cc
refuses_sizes Good fault OutOfMemory refusal.OutOfMemory reads names = tt
refuses_sizes Good fault OutOfMemory BadToml reads names = cc
refuses_sizes Good fault OutOfMemory (TablesDiffer key) reads names = cc
refuses_sizes Good fault OutOfMemory (BadTable key cause) reads names = cc
