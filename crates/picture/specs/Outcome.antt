-- What a run leaves of the files.
use Rattle.std.specs.Prelude.{◌≡◌, ℕ, List}
use Rattle.rt_desk.specs.Desk.{Outside, IsStored, ChangesOnly}
use Rattle.picture.specs.declared.answer.Answer.{Answer}
use Rattle.picture.specs.declared.answer.Answer.TheVariants.{Done, Usage, NotStored, Refused}

-- what is left of the files, by the answer: the picture is stored, or no other file has changed, or none has
abbrev pub Leaves : Outside → Outside → List ℕ → Answer → Type 0
Leaves old new picture (Done name rectangles masks) = (bytes : List ℕ) × IsStored old.files new.files picture bytes
Leaves old new picture Usage = new.files ≡ old.files
Leaves old new picture (NotStored name) = ChangesOnly old.files new.files picture
Leaves old new picture (Refused refusal) = new.files ≡ old.files
