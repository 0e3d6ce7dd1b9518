-- The files that a run fetches, and the first that it doesn't get.
use Rattle.std.specs.Prelude.{◌≡◌, ◌≤◌, List, [], ◌∷◌, ◌++◌, length, ℕ, All, Option, Err, IfSome, IsSomeAnd}
use Rattle.rt_desk.specs.declared.outside.DeskError.{DeskError}
use Rattle.rt_desk.specs.Desk.{Files, Outside, IsFetched, FetchAnswer}
use Rattle.rt_run.specs.declared.fetching.TheConstants.{FILE_LIMIT}
use Rattle.rt_retarget.specs.Files.{Given}
use Rattle.rt_run.specs.Words.{Names}

-- the four files were fetched: where the desk tells its files, these are their bytes
pub record AreFetched (files : Option Files) (names : Names) (contents : Given) : Type 0 where
  pub source : IsFetched files names.source FILE_LIMIT contents.source
  pub stable : IsFetched files names.stable FILE_LIMIT contents.stable
  pub ttable : IsFetched files names.ttable FILE_LIMIT contents.ttable
  pub sizes : IsFetched files names.sizes FILE_LIMIT contents.sizes

-- the names of the files that are fetched, in order
abbrev pub fetched_names : Names → List (List ℕ)
fetched_names names = names.source ∷ names.stable ∷ names.ttable ∷ names.sizes ∷ []

-- the file is there, and not too long
abbrev pub IsReadable : Files → List ℕ → Type 0
IsReadable files name = IsSomeAnd (files name) (λ bytes. length bytes ≤ FILE_LIMIT)

-- where the desk tells its files, those of the names are there, and not too long
abbrev pub AreReadable : Option Files → List (List ℕ) → Type 0
AreReadable files names = IfSome files (λ told. All (IsReadable told) names)

-- why a file wasn't fetched: its fetch was a fault; or the desk tells its files, and it isn't there, or is too long, which
-- is a fault where the desk doesn't tell them; or there was no memory
abbrev pub FetchFails : Outside → Outside → List ℕ → DeskError → Type 0
FetchFails old new name error = FetchAnswer old new name FILE_LIMIT (Err error)

-- the file of the name is the first of those that wasn't fetched, and the error is why
pub record IsNotFetched (old new : Outside) (names : List (List ℕ)) (name : List ℕ) (error : DeskError) : Type 0 where
  pub before : List (List ℕ)
  pub after : List (List ℕ)
  pub in_order : names ≡ before ++ name ∷ after
  pub readable : AreReadable old.files before
  pub fails : FetchFails old new name error
