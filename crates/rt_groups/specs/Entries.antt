-- The number that each entry has so far: place e of `known` has that of entry e, or none.
use Rattle.std.specs.Prelude.{◌≡◌, ℕ, ◌<◌, List, length, slice_index_or, slice_set, Option, None, Some, unwrap_or}

-- no entry below the bound has a number yet
pub record AreUnknown (bound : ℕ) (known : List (Option ℕ)) : Type 0 where
  pub counted : length known ≡ bound
  pub none : (e : ℕ) → e < bound → slice_index_or known e None ≡ None

-- the entry has the number that it had, or else the next one
pub record IsNumberOf (entry next : ℕ) (before after : List (Option ℕ)) (number : ℕ) : Type 0 where
  pub is : number ≡ unwrap_or (slice_index_or before entry None) next
  pub known : after ≡ slice_set before entry (Some number)
