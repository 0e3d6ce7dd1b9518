-- The sizes that the devices of a cell are given.
use Rattle.std.specs.Prelude.{◌≡◌, ℕ, ◌+◌, nat_eq, nat_lt, List, [], ◌∷◌, length, map, Option, Some, None, is_some, codes}
use Rattle.std.specs.Map.{lookup}
use Rattle.std.specs.Option.{option_or}
use Rattle.std.specs.Fmt.{decimal}
use Rattle.rt_tech.specs.declared.table.TableCause.TheVariants.{Missing, Range}
use Rattle.rt_tech.specs.declared.sizes.Sizes.{Sizes}
use Rattle.rt_tech.specs.declared.sizes.Wish.{Wish}
use Rattle.rt_keys.specs.declared.stop.Fault.{Fault}
use Rattle.rt_keys.specs.Faults.{◌or_else◌, test, within}

-- the sizes that a list gives a number: those of its first entry for it
abbrev pub given : ℕ → List (ℕ × Wish) → Option Wish
given n entries = lookup (nat_eq n) entries

-- the sizes of a device of this kind: its own entry goes before its kind's
abbrev pub wish_of : Sizes → ℕ → ℕ → Option Wish
wish_of sizes device kind = option_or (given device sizes.devices) (given kind sizes.kinds)

-- an entry for a device that isn't there, when there are count of them. The list begins at entry number i
abbrev pub stray_fault : ℕ → ℕ → List (ℕ × Wish) → Option Fault
stray_fault count i [] = None
stray_fault count i (entry ∷ entries) =
    within (decimal i) (test (codes "index") Range (nat_lt entry.0 count)) or_else stray_fault count (i + 1) entries

-- a device without sizes. The list has the kinds of the devices from number d on
abbrev pub lacking_fault : Sizes → ℕ → List ℕ → Option Fault
lacking_fault sizes d [] = None
lacking_fault sizes d (kind ∷ kinds) =
    test (decimal d) Missing (is_some (wish_of sizes d kind)) or_else lacking_fault sizes (d + 1) kinds

-- the first fault of sizes for devices of these kinds
unfoldable pub wishes_fault : Sizes → List ℕ → Option Fault
wishes_fault sizes kinds =
    within (codes "device") (stray_fault (length kinds) 0 sizes.devices) or_else within (codes "device") (lacking_fault sizes 0 kinds)

-- the sizes of the devices from number d on, which have these kinds
abbrev pub wished_from : Sizes → ℕ → List ℕ → List (Option Wish)
wished_from sizes d [] = []
wished_from sizes d (kind ∷ kinds) = wish_of sizes d kind ∷ wished_from sizes (d + 1) kinds

-- the wishes are the sizes of the devices of these kinds, one after another
unfoldable pub AreWishes : Sizes → List ℕ → List Wish → Type 0
AreWishes sizes kinds wishes = map Some wishes ≡ wished_from sizes 0 kinds
