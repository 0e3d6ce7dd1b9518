-- When two refusals are one.
use Rattle.std.specs.Prelude.{◌≡◌, ◌⊎◌, List}
use Rattle.gds_flat.specs.declared.error.FlatError.{FlatError}
use Rattle.gds_flat.specs.declared.error.FlatError.TheVariants.{Cyclic}
use Rattle.gds_flat.specs.Reach.{Name}

-- the refusal is that of a circle
abbrev pub IsCyclic : FlatError → Type 0
IsCyclic error = (names : List Name) × (error ≡ Cyclic names)

-- the two refusals are the same, or each is that of a circle
abbrev pub AreOneRefusal : FlatError → FlatError → Type 0
AreOneRefusal a b = (a ≡ b) ⊎ (IsCyclic a × IsCyclic b)
