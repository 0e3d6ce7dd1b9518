-- The numbers of a valid table are within the limits.
use Rattle.std.proofs.Common.{◌≡◌, ℕ, List, Option, Some, None, sym, ◌∙◌, subst, refl, inl, inr, arith}
use Rattle.std.specs.Prelude.{slice_get, All}
use Rattle.std.proofs.lemmas.Int.{ints}
use Rattle.std.proofs.lemmas.Option.{slice_get_cases}
use Rattle.std.proofs.lemmas.List.Elements.{All-get_or}
use Rattle.rt_tech.specs.declared.table.Mask.{Mask}
use Rattle.rt_tech.specs.declared.table.Tech.{Tech}
use Rattle.rt_tech.specs.Tech.{width_of_mask, space_of_mask, width_of, space_of, IsLength, IsMeasuredMask, IsMeasured}

width_in_mask : (o : Option Mask) → ((mask : Mask) → o ≡ Some mask → IsMeasuredMask mask) → IsLength (width_of_mask o)
width_in_mask (Some mask) h = (h mask refl).width
width_in_mask None h = record { low = omega (arith, ints); high = omega (arith, ints) }

space_in_mask : (o : Option Mask) → ((mask : Mask) → o ≡ Some mask → IsMeasuredMask mask) → IsLength (space_of_mask o)
space_in_mask (Some mask) h = (h mask refl).space
space_in_mask None h = record { low = omega (arith, ints); high = omega (arith, ints) }

got_is_valid : (masks : List Mask) → All IsMeasuredMask masks → (m : ℕ) (mask : Mask) → slice_get masks m ≡ Some mask → IsMeasuredMask mask
got_is_valid masks h m mask e =
    elim (slice_get_cases masks m).1 [
      | inl (x, lt, is, at) ↦ subst IsMeasuredMask (some_same x mask (sym is ∙ e)) (subst IsMeasuredMask at (All-get_or IsMeasuredMask masks m x lt h))
      | inr (past, is) ↦ absurd (none_some mask (sym is ∙ e))
    ]
  where
    some_same : (a b : Mask) → Some a ≡ Some b → a ≡ b
    some_same a b e = cc

    none_some : (b : Mask) → None ≡ Some b → ⊥
    none_some b e = cc

pub width_is_length : (tech : Tech) → IsMeasured tech → (m : ℕ) → IsLength (width_of tech m)
width_is_length tech h m = width_in_mask (slice_get tech.masks m) (got_is_valid tech.masks h.masks m)

pub space_is_length : (tech : Tech) → IsMeasured tech → (m : ℕ) → IsLength (space_of tech m)
space_is_length tech h m = space_in_mask (slice_get tech.masks m) (got_is_valid tech.masks h.masks m)

pub ruleset lengths = (width_is_length, space_is_length)
