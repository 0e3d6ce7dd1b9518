-- Which enclosures, distances and kinds the masks of a table allow and demand. Masks go by their numbers from 0.
use Rattle.std.specs.Prelude.{ℕ, ◌+◌, Bool, true, false, not, ◌&&◌, ◌||◌, ◌==◌, List, [], ◌∷◌, slice_get, Option, Some, None, is_none}
use Rattle.std.specs.List.{list_any, list_all}
use Rattle.std.specs.Option.{option_map_or}
use Rattle.rt_tech.specs.declared.table.Apart.{Apart}
use Rattle.rt_tech.specs.declared.table.Enclose.{Enclose}
use Rattle.rt_tech.specs.declared.table.Kind.{Kind}
use Rattle.rt_tech.specs.declared.table.Mask.{Mask}
use Rattle.rt_tech.specs.declared.table.Near.{Near}
use Rattle.rt_tech.specs.declared.table.Role.{Role}
use Rattle.rt_tech.specs.declared.table.Role.TheVariants.{Gate, Active, Cut}
use Rattle.rt_tech.specs.Words.{same_role}

-- mask number n has the role
abbrev pub is_role_at : Role → List Mask → ℕ → Bool
is_role_at role masks n = option_map_or (λ mask. same_role mask.role role) (slice_get masks n) false

-- mask number n is a cut with this upper mask, and a cut with this lower mask
abbrev pub is_upper_of : Mask → ℕ → Bool
is_upper_of cut n = same_role cut.role Cut && (cut.upper == n)

abbrev pub is_lower_of : Mask → ℕ → Bool
is_lower_of cut n = same_role cut.role Cut && list_any (λ m. n == m) cut.lowers

-- mask number cut is a cut, and mask number n is its upper mask, or one of its lower masks
abbrev pub has_upper : List Mask → ℕ → ℕ → Bool
has_upper masks cut n = option_map_or (λ mask. is_upper_of mask n) (slice_get masks cut) false

abbrev pub has_lower : List Mask → ℕ → ℕ → Bool
has_lower masks cut n = option_map_or (λ mask. is_lower_of mask n) (slice_get masks cut) false

-- one of the enclosures is of this cut and this mask
abbrev pub has_enclose : List Enclose → ℕ → ℕ → Bool
has_enclose encloses cut mask = list_any (λ e. (e.cut == cut) && (e.mask == mask)) encloses

-- mask number n, where it is a cut, has an enclosure in its upper mask and in each of its lower masks
abbrev pub is_enclosed : List Enclose → ℕ → Mask → Bool
is_enclosed encloses n mask =
    not (same_role mask.role Cut) || (has_enclose encloses n mask.upper && list_all (λ lower. has_enclose encloses n lower) mask.lowers)

abbrev pub are_enclosed : List Enclose → ℕ → List Mask → Bool
are_enclosed encloses n [] = true
are_enclosed encloses n (mask ∷ masks) = is_enclosed encloses n mask && are_enclosed encloses (n + 1) masks

-- both or neither, and then the same
abbrev pub same_on : Option ℕ → Option ℕ → Bool
same_on None None = true
same_on None (Some n) = false
same_on (Some m) None = false
same_on (Some m) (Some n) = m == n

-- one of the distances is of these masks
abbrev pub has_apart : List Apart → ℕ → Option ℕ → ℕ → Bool
has_apart aparts a on b = list_any (λ x. (x.a == a) && same_on x.on on && (x.b == b)) aparts

-- mask number a is the gate, and mask number b the active
abbrev pub are_gate_and_active : List Mask → ℕ → ℕ → Bool
are_gate_and_active masks a b = is_role_at Gate masks a && is_role_at Active masks b

-- on, where it is there, is another lower mask of the cut
abbrev pub is_on_another : List Mask → ℕ → Option ℕ → ℕ → Bool
is_on_another masks a None b = true
is_on_another masks a (Some on) b = has_lower masks a on && not (on == b)

-- the masks may have a distance: they differ and aren't the gate and the active, b is neither the upper mask of a nor a
-- cut of which a is the upper or a lower mask, and on is another lower mask of a
abbrev pub may_be_apart : List Mask → ℕ → Option ℕ → ℕ → Bool
may_be_apart masks a on b =
    not (a == b) && not (are_gate_and_active masks a b) && not (are_gate_and_active masks b a) && is_on_another masks a on b && not (has_upper masks a b) && not (has_upper masks b a) && not (has_lower masks b a)

-- the cut, number n, has a distance from its lower mask b where it stands on another lower mask
abbrev pub is_kept_from : List Apart → ℕ → List ℕ → ℕ → Bool
is_kept_from aparts n lowers b = list_all (λ on. (on == b) || has_apart aparts n (Some on) b) lowers

-- a cut on an active that has no gate below has a distance from the gate
abbrev pub is_kept_from_gate : List Mask → List Apart → ℕ → List ℕ → Bool
is_kept_from_gate masks aparts n lowers =
    not (list_any (is_role_at Active masks) lowers) || list_any (is_role_at Gate masks) lowers || list_any (λ x. (x.a == n) && is_none x.on && is_role_at Gate masks x.b) aparts

-- mask number n, where it is a cut, has the distances that a cut demands
abbrev pub is_kept_apart : List Mask → List Apart → ℕ → Mask → Bool
is_kept_apart masks aparts n mask =
    not (same_role mask.role Cut) || (list_all (is_kept_from aparts n mask.lowers) mask.lowers && is_kept_from_gate masks aparts n mask.lowers)

abbrev pub are_kept_apart : List Mask → List Apart → ℕ → List Mask → Bool
are_kept_apart masks aparts n [] = true
are_kept_apart masks aparts n (mask ∷ more) = is_kept_apart masks aparts n mask && are_kept_apart masks aparts (n + 1) more

-- one of the entries is of this mask
abbrev pub has_near : List Near → ℕ → Bool
has_near nears mask = list_any (λ near. near.mask == mask) nears

-- a mask stands in both lists
abbrev pub share_a_mask : List Near → List Near → Bool
share_a_mask xs ys = list_any (λ x. has_near ys x.mask) xs

-- some mask is inside of the one kind and outside of the other
abbrev pub are_parted : Kind → Kind → Bool
are_parted a b = share_a_mask a.inside b.outside || share_a_mask a.outside b.inside
