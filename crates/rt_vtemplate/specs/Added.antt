-- Names that are added to a list.
use Rattle.std.specs.Prelude.{ℕ, ◌<◌, ◌⊎◌, ◌↔◌, List, Contains}
use Rattle.rt_rows.specs.declared.name.Name.{Name}

-- the list has the names that it had, and those of the kind
pub record AreAdded (kind : Name → Type 0) (before after : List Name) : Type 0 where
  pub exact : (name : Name) → Contains after name ↔ (Contains before name ⊎ kind name)

-- the list has the names of the kind, and no others
pub record HoldsExactly (kind : Name → Type 0) (names : List Name) : Type 0 where
  pub exact : (name : Name) → Contains names name ↔ kind name

-- the name is of the kind of one of the first so many numbers
pub record IsOfFirst (kind : ℕ → Name → Type 0) (count : ℕ) (name : Name) : Type 0 where
  pub number : ℕ
  pub below : number < count
  pub of_kind : kind number name
