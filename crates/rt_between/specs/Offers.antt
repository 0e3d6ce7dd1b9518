-- Names that are offered to a template: lists that grow by them.
use Rattle.std.specs.Prelude.{ℕ, ◌<◌, List, Contains, slice_index_or}
use Rattle.rt_rows.specs.declared.name.Name.{Name}

-- the pair of a number
abbrev pub pair_at : List (ℕ × ℕ) → ℕ → ℕ × ℕ
pair_at pairs k = slice_index_or pairs k (0, 0)

-- the names for the first so many are added
pub record AreOffered (names_of : ℕ → List Name) (n : ℕ) (before after : List Name) : Type 0 where
  pub kept : (name : Name) → Contains before name → Contains after name
  pub offered : (k : ℕ) → k < n → (name : Name) → Contains (names_of k) name → Contains after name

-- the names that are wanted are added
pub record AreOfferedBy (wanted : Name → Type 0) (before after : List Name) : Type 0 where
  pub kept : (name : Name) → Contains before name → Contains after name
  pub offered : (name : Name) → wanted name → Contains after name

-- those of the first so many rules are added
pub record AreOfferedFor (wanted : ℕ → Name → Type 0) (n : ℕ) (before after : List Name) : Type 0 where
  pub kept : (name : Name) → Contains before name → Contains after name
  pub offered : (q : ℕ) → q < n → (name : Name) → wanted q name → Contains after name
