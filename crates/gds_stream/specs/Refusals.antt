-- Why bytes are refused.
use Rattle.std.specs.Prelude.{ℕ, List}
use Rattle.gds_grammar.specs.Stops.{Stops}
use Rattle.gds_stream.specs.declared.error.StreamError.{StreamError}
use Rattle.gds_stream.specs.declared.error.StreamError.TheVariants.{At, OutOfMemory}

-- at the place the bytes stop being a stream, for the cause; or memory ran out
abbrev pub IsRefused : List ℕ → StreamError → Type 0
IsRefused bytes (At place cause) = Stops bytes place cause
IsRefused bytes OutOfMemory = Unit {0}
