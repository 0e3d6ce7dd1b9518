-- What an error of the system becomes.
use Rattle.std.specs.Prelude.{◌≡◌, ◌≢◌}
use Rattle.std.specs.declared.io.ErrorKind.{ErrorKind}
use Rattle.std.specs.declared.io.ErrorKind.TheVariants.{OutOfMemory as NoMemory}
use Rattle.rt_desk.specs.declared.outside.DeskError.{DeskError}
use Rattle.rt_desk.specs.declared.outside.DeskError.TheVariants.{Failed, Missing, TooLong, OutOfMemory}

-- the cause is the outside's failure or want of memory, and neither a missing file nor a long one
abbrev pub IsOfSystem : DeskError → Type 0
IsOfSystem Failed = Unit {0}
IsOfSystem Missing = ⊥
IsOfSystem TooLong = ⊥
IsOfSystem OutOfMemory = Unit {0}

-- want of memory is told apart, and every other error of the system is a failure
pub record IsCauseOf (kind : ErrorKind) (cause : DeskError) : Type 0 where
  pub memory : kind ≡ NoMemory → cause ≡ OutOfMemory
  pub other : kind ≢ NoMemory → cause ≡ Failed
  pub system : IsOfSystem cause
