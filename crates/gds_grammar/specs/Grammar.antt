-- Grammars over the types of records.
use Rattle.std.specs.Prelude.{◌≡◌, ℕ, ◌⊎◌, List, [], ◌∷◌, ◌++◌, Contains}
use Rattle.std.specs.List.{concat, AllByRecursion}

infixr 30 ◌‣◌
infixr 20 ◌∣◌
-- nothing; one record of one of some types; one part after the other; one or the other; a part any number of times
pub data Grammar : Type 0 where
  nothing : Grammar
  one_of : ℕ → List ℕ → Grammar
  ◌‣◌ : Grammar → Grammar → Grammar
  ◌∣◌ : Grammar → Grammar → Grammar
  many : Grammar → Grammar

-- one record of the type
abbrev pub type : ℕ → Grammar
type code = one_of code []

-- one record of one of these types, of which there is one at least
abbrev pub any_of : List ℕ → Grammar
any_of [] = nothing
any_of (code ∷ codes) = one_of code codes

-- the part, or nothing
abbrev pub maybe : Grammar → Grammar
maybe g = g ∣ nothing

-- the types, in order, are as the grammar says
abbrev pub In : Grammar → List ℕ → Type 0
In nothing types = types ≡ []
In (one_of code codes) types = (t : ℕ) × (types ≡ t ∷ []) × Contains (code ∷ codes) t
In (a ‣ b) types = (first : List ℕ) × (second : List ℕ) × (types ≡ first ++ second) × In a first × In b second
In (a ∣ b) types = In a types ⊎ In b types
In (many a) types = (pieces : List (List ℕ)) × AllByRecursion (In a) pieces × (types ≡ concat pieces)
