-- How the names of a template are put in order: a sort by their places, and a pass that drops repeats.
use Rattle.std.specs.Prelude.{◌≡◌, ℕ, ◌+◌, ◌-◌, ◌<◌, ◌↔◌, List, AllPairs, Contains, slice_index_or}
use Rattle.rt_rows.specs.declared.name.Name.{Name}
use Rattle.rt_rows.specs.Order.{Place, ComesBefore}

-- a place as four numbers, which compare from the left
abbrev pub key_of : Place → ℕ × ℕ × ℕ × ℕ
key_of place = (place.kind, place.first, place.second, place.third)

-- no name of the list stands behind one that comes before it
pub record IsUpwards (names : List Name) : Type 0 where
  pub never_back : AllPairs (λ first second. ¬ ComesBefore second first) names

-- the same names, none behind one that comes before it
pub record IsSortedOf (names sorted : List Name) : Type 0 where
  pub upwards : IsUpwards sorted
  pub same : (name : Name) → Contains sorted name ↔ Contains names name

-- the name of that number comes behind the one before it, if there is one
pub record IsNew (names : List Name) (i : ℕ) : Type 0 where
  pub behind : (k : ℕ) (d : Name) → k + 1 ≡ i → ComesBefore (slice_index_or names k d) (slice_index_or names i d)

-- there is one before it, behind which it doesn't come
pub record IsRepeat (names : List Name) (i : ℕ) : Type 0 where
  pub some : 0 < i
  pub not_behind : (d : Name) → ¬ ComesBefore (slice_index_or names (i - 1) d) (slice_index_or names i d)
