-- A fetch that fails behind some that didn't.
use Rattle.std.proofs.Common.{◌≡◌, ℕ, ◌≤◌, List, [], ◌∷◌, ◌++◌, length, Option, Some, None, refl, subst}
use Rattle.std.proofs.lemmas.List.Elements.{All-nil, All-cons, All-append}
use Rattle.rt_desk.specs.declared.outside.DeskError.{DeskError}
use Rattle.rt_desk.specs.declared.outside.DeskError.TheVariants.{Failed, Missing, TooLong, OutOfMemory}
use Rattle.rt_desk.specs.Desk.{Files, Outside, IsFetched, IsAbsent, IsOverLong, OnlyFetches}
use Rattle.rt_desk.proofs.OutsideLemmas.{rose_since}
use Rattle.rt_run.specs.declared.fetching.TheConstants.{FILE_LIMIT}
use Rattle.rt_run.specs.Fetched.{IsReadable, AreReadable, FetchFails, IsNotFetched}

-- none of no files has to be read
pub none_read : (files : Option Files) → AreReadable files []
none_read None = tt
none_read (Some told) = All-nil (IsReadable told)

-- a file that was fetched can be read
readable : (told : Files) (name bytes : List ℕ) → told name ≡ Some bytes → length bytes ≤ FILE_LIMIT → IsReadable told name
readable told name bytes e h = rw e h

-- a file more was fetched
pub one_more_read : (files : Option Files) (before : List (List ℕ)) (name bytes : List ℕ) → AreReadable files before → IsFetched files name FILE_LIMIT bytes → AreReadable files (before ++ name ∷ [])
one_more_read None before name bytes h f = tt
one_more_read (Some told) before name bytes h f =
    All-append (IsReadable told) before (name ∷ []) h (All-cons (IsReadable told) name [] (readable told name bytes f.told f.within) (All-nil (IsReadable told)))

-- the same, of a fetch behind others
pub later_read : (old mid : Outside) (before : List (List ℕ)) (name bytes : List ℕ)
    → AreReadable old.files before → OnlyFetches old mid → IsFetched mid.files name FILE_LIMIT bytes → AreReadable old.files (before ++ name ∷ [])
later_read old mid before name bytes h stays f =
    one_more_read old.files before name bytes h (subst (λ (g : Option Files). IsFetched g name FILE_LIMIT bytes) stays.files f)

-- a file that is too long for a fetch behind others
long_since : (files : Option Files) (old mid new : ℕ) (name : List ℕ) → old ≤ mid → IsOverLong files mid new name FILE_LIMIT → IsOverLong files old new name FILE_LIMIT
long_since None old mid new name le long = rose_since old mid new le long
long_since (Some told) old mid new name le long = long

-- the error of a fetch behind others, as that of the first moment
fails_since : (old mid new : Outside) (name : List ℕ) (error : DeskError) → OnlyFetches old mid → FetchFails mid new name error → FetchFails old new name error
fails_since old mid new name Failed stays fails = rose_since old.fetch_faults mid.fetch_faults new.fetch_faults stays.fetch_faults fails
fails_since old mid new name Missing stays fails = subst (λ (f : Option Files). IsAbsent f name) stays.files fails
fails_since old mid new name TooLong stays fails =
    long_since old.files old.fetch_faults mid.fetch_faults new.fetch_faults name stays.fetch_faults
    (subst (λ (f : Option Files). IsOverLong f mid.fetch_faults new.fetch_faults name FILE_LIMIT) stays.files fails)
fails_since old mid new name OutOfMemory stays fails = tt

-- the first fetch fails
pub first_fails : (old new : Outside) (name found : List ℕ) (after : List (List ℕ)) (error : DeskError)
    → found ≡ name → FetchFails old new name error → IsNotFetched old new (name ∷ after) found error
first_fails old new name found after error e fails =
    rw e (record { before = []; after = after; in_order = refl; readable = none_read old.files; fails = fails })

-- a fetch fails behind others
pub later_fails : (old mid new : Outside) (before : List (List ℕ)) (name found : List ℕ) (after : List (List ℕ)) (error : DeskError)
    → AreReadable old.files before → OnlyFetches old mid → found ≡ name → FetchFails mid new name error
    → IsNotFetched old new (before ++ name ∷ after) found error
later_fails old mid new before name found after error h stays e fails =
    rw e (record { before = before; after = after; in_order = refl; readable = h; fails = fails_since old mid new name error stays fails })
