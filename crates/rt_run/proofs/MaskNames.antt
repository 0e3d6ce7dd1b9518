-- The name of a mask that is there, and of one that isn't.
use Rattle.std.proofs.Common.{◌≡◌, ℕ, ◌<◌, ◌≤◌, List, [], ◌∷◌, ◌++◌, length, get_or, refl, sym}
use Rattle.std.specs.Prelude.{slice_get}
use Rattle.std.proofs.lemmas.List.{append-nil}
use Rattle.std.proofs.lemmas.Option.{slice_get_past, slice_get-get_or}
use Rattle.rt_tech.specs.declared.table.Mask.{Mask}
use Rattle.rt_run.specs.Naming.{name_in}

pub none_named : (masks : List Mask) (m : ℕ) (names : List (List ℕ)) → length masks ≤ m → names ≡ names ++ name_in (slice_get masks m)
none_named masks m names h = rw (slice_get_past masks m h) (sym (append-nil names))

pub one_named : (masks : List Mask) (m : ℕ) (d : Mask) → m < length masks → (get_or masks m d).name ∷ [] ≡ name_in (slice_get masks m)
one_named masks m d h = rw (slice_get-get_or masks m d h) refl
