-- Names that are added to a list.
use Rattle.std.specs.Prelude.{◌⊎◌, ◌↔◌, List, Contains}
use Rattle.rt_rows.specs.declared.name.Name.{Name}

-- the list afterwards has the names that it had before and those that are wanted, and no others
pub record Adds (Wanted : Name → Type 0) (before after : List Name) : Type 0 where
  pub exact : (name : Name) → Contains after name ↔ (Contains before name ⊎ Wanted name)
