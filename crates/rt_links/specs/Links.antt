-- Links: pairs that are joined directly, and walks over such pairs.
use Rattle.std.specs.Prelude.{◌⊎◌}

-- a walk over joined pairs, each gone either way
pub data AreLinked {V : Type 0} (Join : V → V → Type 0) (u : V) : V → Type 0 where
  here : AreLinked Join u u
  onward : (v t : V) → AreLinked Join u v → Join v t ⊎ Join t v → AreLinked Join u t
