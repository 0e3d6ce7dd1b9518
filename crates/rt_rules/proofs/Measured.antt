-- The masks that a measured table's rules of two masks name are there; and every valid table is measured.
use Rattle.std.proofs.Common.{◌≡◌, ◌≢◌, ℕ, ◌<◌, Bool, true, false, not, ◌&&◌, ◌||◌, ◌==◌, List, All, Option, Some, None, IfSome, IsTrue, get_or, slice_get, refl, sym, subst, inl, inr, ◌⊎◌, arith}
use Rattle.std.specs.List.{AllPass}
use Rattle.std.specs.Option.{option_map_or}
use Rattle.std.proofs.lemmas.Bool.{and_parts}
use Rattle.std.proofs.lemmas.Bool.Decides.{nat_tests}
use Rattle.std.proofs.lemmas.List.Elements.{All-nil, All-contains, All-get_or}
use Rattle.std.proofs.lemmas.List.Sums.{AllPass-from_list_all}
use Rattle.std.proofs.lemmas.Map.Views.{Contains-from_any}
use Rattle.std.proofs.lemmas.Option.{slice_get_cases, slice_get_within, get_or_from_slice_get}
use Rattle.rt_tech.specs.declared.table.Apart.{Apart as Distance}
use Rattle.rt_tech.specs.declared.table.Enclose.{Enclose as Enclosure}
use Rattle.rt_tech.specs.declared.table.Mask.{Mask}
use Rattle.rt_tech.specs.declared.table.Role.{Role as MaskRole}
use Rattle.rt_tech.specs.declared.table.Role.TheVariants.{Metal, Gate, Active, Cut, Background}
use Rattle.rt_tech.specs.declared.table.Tech.{Tech}
use Rattle.rt_tech.specs.Rules.{is_role_at, has_lower, has_upper, is_lower_of, is_upper_of, may_be_apart, are_gate_and_active}
use Rattle.rt_tech.specs.Tech.{mask_count, may_be_lower_at, HasNoSides, HasSidesOf, IsValidEnclose, IsValidApart, IsValidTech}
use Rattle.rt_tech.specs.Words.{same_role, may_be_lower}
use Rattle.rt_rules.proofs.Few.{few_enclosures, few_distances}
use Rattle.rt_rules.specs.Pairs.{enclose_at, apart_at, lower_of, lower_if, IsMeasuredEnclose, IsMeasuredApart, HasSidesThere, HasMeasuredPairs}

-- what holds of all entries holds of that of a number
pub entry_of : {X : Type 0} (P : X → Type 0) (xs : List X) (n : ℕ) (x : X) → All P xs → slice_get xs n ≡ Some x → P x
entry_of P xs n x all at = subst P (get_or_from_slice_get xs n x x at) (All-get_or P xs n x (slice_get_within xs n x at) all)

never : false ≡ true → ⊥
never e = cc

-- a lower mask of a cut is there
lower_there : (tech : Tech) → All (HasSidesThere tech) tech.masks → (a m : ℕ) → has_lower tech.masks a m ≡ true → m < mask_count tech
lower_there tech sides a m h =
    elim (slice_get_cases tech.masks a).1 [
      | inl (mask, below, is, at) ↦
          let test : is_lower_of mask m ≡ true = subst (λ o. option_map_or (λ k. is_lower_of k m) o false ≡ true) is h in
          let among = Contains-from_any {eq = λ x y. x == y} (λ x y e. grind (arith, nat_tests, e)) m mask.lowers (and_parts _ _ test).1 in
          All-contains (λ k. k < mask_count tech) mask.lowers m (entry_of (HasSidesThere tech) tech.masks a mask sides is).lowers among
      | inr (past, none) ↦ absurd (never (subst (λ o. option_map_or (λ k. is_lower_of k m) o false ≡ true) none h))
    ]

module _ (tech : Tech) (pairs : HasMeasuredPairs tech) where
  in_range : (b : Bool) (m count : ℕ) → m < count → IfSome (lower_if b m) (λ n. n < count)
  in_range true m count h = h
  in_range false m count h = record {}

  -- the masks of an enclosure
  pub enclose_named : (n : ℕ) (e : Enclosure) → enclose_at tech n ≡ Some e
      → (e.cut < mask_count tech) × IfSome (lower_of tech e) (λ m. m < mask_count tech) × (e.mask < mask_count tech)
  enclose_named n e at =
      let is = entry_of (IsMeasuredEnclose tech) tech.encloses n e pairs.encloses at in
      (is.cut, in_range (has_lower tech.masks e.cut e.mask) e.mask (mask_count tech) is.mask, is.mask)

  lower_named : (a : ℕ) (on : Option ℕ) → IfSome on (λ m. IsTrue (has_lower tech.masks a m)) → IfSome on (λ m. m < mask_count tech)
  lower_named a (Some m) h = lower_there tech pairs.sides a m h
  lower_named a None h = h

  -- the masks of a distance
  pub apart_named : (n : ℕ) (a : Distance) → apart_at tech n ≡ Some a
      → (a.a < mask_count tech) × IfSome a.on (λ m. m < mask_count tech) × (a.b < mask_count tech)
  apart_named n a at =
      let is = entry_of (IsMeasuredApart tech) tech.aparts n a pairs.aparts at in
      (is.first, lower_named a.a a.on is.lower, is.second)

-- of these tests the first passes
first_of : (b c d e f g h : Bool) → (b && c && d && e && f && g && h) ≡ true → b ≡ true
first_of true c d e f g h t = refl
first_of false c d e f g h t = absurd cc

-- of these the fourth
on_another : (b c d e f g h i : Bool) → (b && c && d && (e && f) && g && h && i) ≡ true → e ≡ true
on_another true true true true f g h i t = refl
on_another true true true false f g h i t = t
on_another true true false e f g h i t = absurd cc
on_another true false d e f g h i t = absurd cc
on_another false c d e f g h i t = absurd cc

-- every valid table is measured
module _ (tech : Tech) (valid : IsValidTech tech) where
  role_there : (role : MaskRole) (n : ℕ) → is_role_at role tech.masks n ≡ true → n < mask_count tech
  role_there role n h =
      elim (slice_get_cases tech.masks n).1 [
        | inl (mask, below, is, at) ↦ below
        | inr (past, none) ↦ absurd (no_mask (subst (λ o. option_map_or (λ mask. same_role mask.role role) o false ≡ true) none h))
      ]
    where
      no_mask : false ≡ true → ⊥
      no_mask e = cc

  may_be_there : (n : ℕ) → may_be_lower_at tech.masks n ≡ true → n < mask_count tech
  may_be_there n h =
      elim (slice_get_cases tech.masks n).1 [
        | inl (mask, below, is, at) ↦ below
        | inr (past, none) ↦ absurd (no_mask (subst (λ o. option_map_or (λ mask. may_be_lower mask.role) o false ≡ true) none h))
      ]
    where
      no_mask : false ≡ true → ⊥
      no_mask e = cc

  all_there : (lowers : List ℕ) → AllPass (may_be_lower_at tech.masks) lowers → All (λ m. m < mask_count tech) lowers
  all_there lowers pass i d h = may_be_there (get_or lowers i d) (pass i d h)

  no_sides : (mask : Mask) → HasNoSides mask → HasSidesThere tech mask
  no_sides mask none = record {
    upper = let some = valid.some_masks in let e = none.upper in omega (arith, some, e);
    lowers = subst (λ l. All (λ m. m < mask_count tech) l) (sym none.lowers) (All-nil (λ m. m < mask_count tech));
  }

  sides_of : (role : MaskRole) (mask : Mask) → HasSidesOf tech.masks mask role → HasSidesThere tech mask
  sides_of Cut mask has = record {
    upper = role_there Metal mask.upper has.upper;
    lowers = all_there mask.lowers (AllPass-from_list_all (may_be_lower_at tech.masks) mask.lowers has.lowers);
  }
  sides_of Metal mask none = no_sides mask none
  sides_of Gate mask none = no_sides mask none
  sides_of Active mask none = no_sides mask none
  sides_of Background mask none = no_sides mask none

  all_sides : All (HasSidesThere tech) tech.masks
  all_sides i d h = sides_of (get_or tech.masks i d).role (get_or tech.masks i d) (valid.together.sides i d h)

  -- a cut is a mask that is there
  cut_sides : (cut : ℕ) → is_role_at Cut tech.masks cut ≡ true → (mask : Mask) × (slice_get tech.masks cut ≡ Some mask) × HasSidesThere tech mask
  cut_sides cut h =
      elim (slice_get_cases tech.masks cut).1 [
        | inl (mask, below, is, at) ↦ (mask, is, subst (HasSidesThere tech) (get_or_from_slice_get tech.masks cut mask mask is) (all_sides cut mask below))
        | inr (past, none) ↦ absurd (no_mask (subst (λ o. option_map_or (λ mask. same_role mask.role Cut) o false ≡ true) none h))
      ]
    where
      no_mask : false ≡ true → ⊥
      no_mask e = cc

  upper_there : (cut n : ℕ) (mask : Mask) → slice_get tech.masks cut ≡ Some mask → HasSidesThere tech mask → has_upper tech.masks cut n ≡ true → n < mask_count tech
  upper_there cut n mask is sides h =
      let test : is_upper_of mask n ≡ true = subst (λ o. option_map_or (λ k. is_upper_of k n) o false ≡ true) is h in
      let two = and_parts (same_role mask.role Cut) (mask.upper == n) test in
      let same : mask.upper ≡ n = grind (arith, nat_tests, two) in
      subst (λ k. k < mask_count tech) same sides.upper

  enclose_measured : (e : Enclosure) → IsValidEnclose tech.masks e → IsMeasuredEnclose tech e
  enclose_measured e v =
      let (mask, is, sides) = cut_sides e.cut v.cut in
      record {
        cut = slice_get_within tech.masks e.cut mask is;
        mask = elim (or_parts (has_upper tech.masks e.cut e.mask) (has_lower tech.masks e.cut e.mask) v.mask) [
          | inl upper ↦ upper_there e.cut e.mask mask is sides upper
          | inr lower ↦ lower_there tech all_sides e.cut e.mask lower
        ];
        beside = v.mask;
        number = v.number;
      }
    where
      or_parts : (b c : Bool) → (b || c) ≡ true → (b ≡ true) ⊎ (c ≡ true)
      or_parts true c h = inl refl
      or_parts false c h = inr h

  apart_measured : (a : Distance) → IsValidApart tech.masks a → IsMeasuredApart tech a
  apart_measured a v = record { first = v.first; lower = stands a.on v.stands; second = v.second; different = not_one (first_of _ _ _ _ _ _ _ v.stands); number = v.number }
    where
      not_one : not (a.a == a.b) ≡ true → a.a ≢ a.b
      not_one t e = grind (arith, nat_tests, t, e)

      stands : (on : Option ℕ) → may_be_apart tech.masks a.a on a.b ≡ true → IfSome on (λ m. IsTrue (has_lower tech.masks a.a m))
      stands None h = record {}
      stands (Some m) h = on_another (not (a.a == a.b)) (not (are_gate_and_active tech.masks a.a a.b)) (not (are_gate_and_active tech.masks a.b a.a))
          (has_lower tech.masks a.a m) (not (m == a.b)) (not (has_upper tech.masks a.a a.b)) (not (has_upper tech.masks a.b a.a)) (not (has_lower tech.masks a.b a.a)) h

  all_encloses : All (IsMeasuredEnclose tech) tech.encloses
  all_encloses i d h = enclose_measured (get_or tech.encloses i d) (valid.encloses.allowed i d h)

  all_aparts : All (IsMeasuredApart tech) tech.aparts
  all_aparts i d h = apart_measured (get_or tech.aparts i d) (valid.aparts.allowed i d h)

  lower_below : (a : ℕ) (on : Option ℕ) → IfSome on (λ m. IsTrue (has_lower tech.masks a m)) → IfSome on (λ m. m < 64)
  lower_below a None h = h
  lower_below a (Some m) h = let few = valid.few_masks in omega (arith, few, lower_there tech all_sides a m h)

  -- every valid table has measured pairs
  pub pairs_measured : HasMeasuredPairs tech
  pairs_measured =
      let few = valid.few_masks in
      record {
        sides = all_sides;
        encloses = all_encloses;
        few_encloses =
            few_enclosures tech.encloses (λ i d h. let is = all_encloses i d h in record { cut = omega (arith, few, is.cut); mask = omega (arith, few, is.mask) })
            valid.encloses.different;
        aparts = all_aparts;
        few_aparts =
            few_distances tech.aparts
            (λ i d h. let is = all_aparts i d h in record { first = omega (arith, few, is.first); lower = lower_below _ _ is.lower; second = omega (arith, few, is.second) })
            valid.aparts.different;
      }
