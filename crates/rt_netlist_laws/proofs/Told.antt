-- What a table tells of its metals and of the masks beside its cuts, and that both tables of a job tell the same.
use Rattle.std.proofs.Common.{◌≡◌, ℕ, ◌<◌, Bool, true, false, not, ◌&&◌, ◌==◌, All, Option, Some, None, refl, sym, ap, ◌∙◌, subst, inl, inr, arith}
use Rattle.std.specs.List.{list_any}
use Rattle.std.specs.Option.{option_map_or}
use Rattle.std.proofs.lemmas.Bool.{and_parts}
use Rattle.std.proofs.lemmas.Bool.Decides.{nat_tests}
use Rattle.std.proofs.lemmas.List.Elements.{All-get_or, All-contains}
use Rattle.std.proofs.lemmas.List.Sums.{AllPass-from_list_all}
use Rattle.std.proofs.lemmas.Option.{slice_get_cases, slice_get_within, get_or_from_slice_get}
use Rattle.rt_tech.specs.declared.table.Mask.{Mask}
use Rattle.rt_tech.specs.declared.table.Role.{Role as MaskRole}
use Rattle.rt_tech.specs.declared.table.Role.TheVariants.{Metal, Cut}
use Rattle.rt_tech.specs.declared.table.Tech.{Tech}
use Rattle.rt_tech.specs.Rules.{is_role_at, is_upper_of, has_upper, is_lower_of, has_lower}
use Rattle.rt_tech.specs.Tech.{mask_count, mask_at, may_be_lower_at, HasSides, HasSidesOf, IsValidTech}
use Rattle.rt_tech.specs.Words.{same_role, may_be_lower}
use Rattle.rt_tech.proofs.Demanded.{cuts_enclosed}
use Rattle.rt_tech.proofs.Tests.{role_self, role_same}
use Rattle.rt_rules.specs.Pairs.{HasMeasuredPairs}
use Rattle.rt_rules.proofs.Measured.{enclose_named}
use Rattle.rt_strips.specs.Channels.{IsOfRole}
use Rattle.rt_view.specs.Job.{SpeakOfTheSame}
use Rattle.rt_view.specs.Shapes.{IsWiring, IsCut, IsUpper, IsLower}
use Rattle.rt_moved.proofs.Lying.{cut_with_lower, lower_among}
use Rattle.rt_moved.proofs.SameForm.{same_test, same_lower}

never : false ≡ true → ⊥
never e = cc

-- a role as a test and in words
pub role_is : (tech : Tech) (role : MaskRole) (m : ℕ) → is_role_at role tech.masks m ≡ true → IsOfRole tech role m
role_is tech role m h =
    elim (slice_get_cases tech.masks m).1 [
      | inl (mask, below, is, at) ↦ record { mask = mask; there = is; of_role = role_same mask.role role (subst (λ o. option_map_or (λ k. same_role k.role role) o false ≡ true) is h) }
      | inr (past, none) ↦ absurd (never (subst (λ o. option_map_or (λ k. same_role k.role role) o false ≡ true) none h))
    ]

pub role_so : (tech : Tech) (role : MaskRole) (m : ℕ) → IsOfRole tech role m → is_role_at role tech.masks m ≡ true
role_so tech role m is =
    ap (λ o. option_map_or (λ mask. same_role mask.role role) o false) is.there ∙ (ap (λ own. same_role own role) is.of_role ∙ role_self role)

-- the upper mask of mask m, and 0 where there is no mask
abbrev pub upper_at : Option Mask → ℕ
upper_at (Some mask) = mask.upper
upper_at None = 0

-- an upper mask is the one that the cut has
pub upper_is : (tech : Tech) (m u : ℕ) → IsUpper tech m u → upper_at (mask_at tech m) ≡ u
upper_is tech m u h =
    elim (slice_get_cases tech.masks m).1 [
      | inl (mask, below, is, at) ↦
          let test = and_parts (same_role mask.role Cut) (mask.upper == u) (subst (λ o. option_map_or (λ k. is_upper_of k u) o false ≡ true) is h) in
          let same : mask.upper ≡ u = grind (arith, nat_tests, test) in
          ap upper_at is ∙ same
      | inr (past, none) ↦ absurd (never (subst (λ o. option_map_or (λ k. is_upper_of k u) o false ≡ true) none h))
    ]

itself : (n : ℕ) → (n == n) ≡ true
itself n = grind (arith, nat_tests)

pub upper_so : (tech : Tech) (m : ℕ) → IsCut tech m → IsUpper tech m (upper_at (mask_at tech m))
upper_so tech m cut =
    subst (λ o. option_map_or (λ k. is_upper_of k (upper_at o)) o false ≡ true) (sym cut.there)
    (ap (λ role. same_role role Cut && (cut.mask.upper == cut.mask.upper)) cut.of_role ∙ itself cut.mask.upper)

-- the masks beside a cut of a valid table: a metal above it, which isn't among those below it
module _ (tech : Tech) (valid : IsValidTech tech) (m : ℕ) (cut : IsCut tech m) where
  sides : HasSides tech.masks cut.mask
  sides =
      let own = All-get_or (λ mask. HasSidesOf tech.masks mask mask.role) tech.masks m cut.mask (slice_get_within tech.masks m cut.mask cut.there) valid.together.sides in
      subst (HasSidesOf tech.masks cut.mask) cut.of_role
      (subst (λ mask. HasSidesOf tech.masks mask mask.role) (get_or_from_slice_get tech.masks m cut.mask cut.mask cut.there) own)

  pub upper_conducts : is_role_at Metal tech.masks cut.mask.upper ≡ true
  upper_conducts = sides.upper

  not_both : (b : Bool) → not b ≡ true → b ≡ true → ⊥
  not_both true h k = cc
  not_both false h k = cc

  by_test : (b : Bool) → has_lower tech.masks m cut.mask.upper ≡ b → b ≡ false
  by_test false h = refl
  by_test true h =
      let test : is_lower_of cut.mask cut.mask.upper ≡ true = subst (λ o. option_map_or (λ k. is_lower_of k cut.mask.upper) o false ≡ true) cut.there h in
      absurd (not_both (list_any (λ k. cut.mask.upper == k) cut.mask.lowers) (and_parts _ _ sides.different).0 (and_parts _ _ test).1)

  pub upper_is_no_lower : has_lower tech.masks m cut.mask.upper ≡ false
  upper_is_no_lower = by_test (has_lower tech.masks m cut.mask.upper) refl

  -- a lower mask of a table of metals and cuts is a metal
  metal_below : (mask : Mask) → IsWiring mask → may_be_lower mask.role ≡ true → mask.role ≡ Metal
  metal_below mask (inl e) h = e
  metal_below mask (inr e) h = absurd (never (subst (λ role. may_be_lower role ≡ true) e h))

  pub lower_conducts : All IsWiring tech.masks → (l : ℕ) → IsLower tech m l → is_role_at Metal tech.masks l ≡ true
  lower_conducts wiring l lower =
      let may : may_be_lower_at tech.masks l ≡ true =
      All-contains (λ k. may_be_lower_at tech.masks k ≡ true) cut.mask.lowers l (AllPass-from_list_all (may_be_lower_at tech.masks) cut.mask.lowers sides.lowers) (lower_among tech m l cut lower) in
      elim (slice_get_cases tech.masks l).1 [
        | inl (mask, below, is, at) ↦
            let kind = subst IsWiring (get_or_from_slice_get tech.masks l mask mask is) (All-get_or IsWiring tech.masks l mask below wiring) in
            role_so tech Metal l (record { mask = mask; there = is; of_role = metal_below mask kind (subst (λ o. option_map_or (λ k. may_be_lower k.role) o false ≡ true) is may) })
        | inr (past, none) ↦ absurd (never (subst (λ o. option_map_or (λ k. may_be_lower k.role) o false ≡ true) none may))
      ]

-- a lower mask of a valid table is there
pub lower_below : (tech : Tech) → IsValidTech tech → HasMeasuredPairs tech → (m l : ℕ) → IsLower tech m l → l < mask_count tech
lower_below tech valid pairs m l lower =
    let cut = cut_with_lower tech m l lower in
    let there = (cuts_enclosed tech valid).lowers m cut.mask (record { there = cut.there; role_is = cut.of_role }) l (lower_among tech m l cut lower) in
    subst (λ k. k < mask_count tech) there.in_mask (enclose_named tech pairs there.place there.enclose there.there).2

-- both tables tell the same
module _ (source target : Tech) (same : SpeakOfTheSame source target) where
  same_metal : (m : ℕ) → is_role_at Metal source.masks m ≡ is_role_at Metal target.masks m
  same_metal m = same_test (λ (mask : Mask). mask.role) (λ (mask : Mask). mask.role) (λ r s. same_role r Metal) source.masks target.masks same.roles same.roles m

  same_upper : (m u : ℕ) → has_upper source.masks m u ≡ has_upper target.masks m u
  same_upper m u = same_test (λ (mask : Mask). mask.role) (λ (mask : Mask). mask.upper) (λ r k. same_role r Cut && (k == u)) source.masks target.masks same.roles same.uppers m

  pub metal_there : (m : ℕ) → IsOfRole source Metal m → IsOfRole target Metal m
  metal_there m is = role_is target Metal m (sym (same_metal m) ∙ role_so source Metal m is)

  pub metal_here : (m : ℕ) → IsOfRole target Metal m → IsOfRole source Metal m
  metal_here m is = role_is source Metal m (same_metal m ∙ role_so target Metal m is)

  pub upper_there : (m u : ℕ) → IsUpper source m u → IsUpper target m u
  upper_there m u is = sym (same_upper m u) ∙ is

  pub upper_here : (m u : ℕ) → IsUpper target m u → IsUpper source m u
  upper_here m u is = same_upper m u ∙ is

  pub lower_there : (m l : ℕ) → IsLower source m l → IsLower target m l
  lower_there m l is = sym (same_lower source target same m l) ∙ is

  pub lower_here : (m l : ℕ) → IsLower target m l → IsLower source m l
  lower_here m l is = same_lower source target same m l ∙ is
