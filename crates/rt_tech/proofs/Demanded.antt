-- What a valid table demands of its cuts and its kinds is there: from the tests to the words.
use Rattle.std.proofs.Common.{◌≡◌, ◌≢◌, ℕ, zero, suc, ◌+◌, ◌<◌, ℤ, pos, ◌≤ℤ◌, Bool, true, false, not, ◌&&◌, ◌||◌, ◌==◌, List, [], ◌∷◌, All, AllPairs, length, get_or, slice_get, Option, Some, None, is_none, unwrap_or, IsTrue, refl, sym, ap, ◌∙◌, subst, ◌⊎◌, ⊎_elim, inl, inr, zero-add, arith}
use Rattle.std.specs.List.{Contains, list_any, list_all}
use Rattle.std.specs.Option.{option_map_or}
use Rattle.std.proofs.lemmas.Bool.{and_parts, cases_lt}
use Rattle.std.proofs.lemmas.Bool.Decides.{nat_tests}
use Rattle.std.proofs.lemmas.Int.{ints, clamps}
use Rattle.std.proofs.lemmas.List.Elements.{All-contains, Contains-get_or}
use Rattle.std.proofs.lemmas.List.Folds.{Any-from_list_any, list_any_at, list_any_none}
use Rattle.std.proofs.lemmas.List.Sums.{AllPass-from_list_all}
use Rattle.std.proofs.lemmas.Option.{slice_get_cases, slice_get-get_or, slice_get_within, unwrap_or-slice_get}
use Rattle.rt_tech.proofs.Tests.{role_self, role_same, same_on_is}
use Rattle.rt_tech.specs.declared.table.Apart.{Apart}
use Rattle.rt_tech.specs.declared.table.Enclose.{Enclose}
use Rattle.rt_cells.specs.Line.{between}
use Rattle.rt_tech.specs.declared.table.Gates.{Gates}
use Rattle.rt_tech.specs.declared.table.Kind.{Kind}
use Rattle.rt_tech.specs.declared.table.Mask.{Mask}
use Rattle.rt_tech.specs.declared.table.Near.{Near}
use Rattle.rt_tech.specs.declared.table.Role.{Role as MaskRole}
use Rattle.rt_tech.specs.declared.table.Role.TheVariants.{Metal, Gate, Active, Cut, Background}
use Rattle.rt_tech.specs.declared.table.Tech.{Tech}
use Rattle.rt_tech.specs.Demands.{IsMaskOf, HasRoleAt, IsEnclosedIn, AreKeptApart, CutsAreEnclosed, LowersAreKeptApart, CutsAreKeptFromGate, IsNear, AreParted, KindsAreParted, IsAround, IsOfKind, NoneIsOfTwoKinds}
use Rattle.rt_tech.specs.Rules.{is_role_at, has_enclose, is_enclosed, are_enclosed, same_on, has_apart, is_kept_from, is_kept_from_gate, is_kept_apart, are_kept_apart, has_near, share_a_mask, are_parted}
use Rattle.rt_tech.specs.Tech.{IsReach, IsLength, IsValidNear, IsValidKind, IsValidTech, HasChannels}
use Rattle.rt_tech.specs.Words.{same_role, has_role}

-- an entry of a list that passes a test, with its place
record Passing {X : Type 0} (p : X → Bool) (xs : List X) : Type 0 where
  place : ℕ
  entry : X
  there : slice_get xs place ≡ Some entry
  passes : p entry ≡ true

passing : {X : Type 0} (p : X → Bool) (xs : List X) → list_any p xs ≡ true → Passing p xs
passing p xs h =
    let (k, x, below, at, passes) = Any-from_list_any p xs h in
    record { place = k; entry = x; there = slice_get-get_or xs k x below ∙ ap Some at; passes = passes }

-- each entry of a list passes a test of its own number
numbered_passes : {X : Type 0} (p : ℕ → X → Bool) (all : ℕ → List X → Bool)
    → ((n : ℕ) (x : X) (xs : List X) → all n (x ∷ xs) ≡ (p n x && all (n + 1) xs))
    → (from : ℕ) (xs : List X) → all from xs ≡ true → (k : ℕ) (x : X) → slice_get xs k ≡ Some x → p (from + k) x ≡ true
numbered_passes p all step from [] h k x at = cc
numbered_passes p all step from (y ∷ xs) h zero x at =
    let (here, more) = and_parts (p from y) (all (from + 1) xs) (sym (step from y xs) ∙ h) in
    let same : y ≡ x = cc in
    let place : from ≡ from + 0 = omega arith in
    subst (λ n. p n x ≡ true) place (subst (λ z. p from z ≡ true) same here)
numbered_passes p all step from (y ∷ xs) h (suc k) x at =
    let (here, more) = and_parts (p from y) (all (from + 1) xs) (sym (step from y xs) ∙ h) in
    let place : (from + 1) + k ≡ from + suc k = omega arith in
    subst (λ n. p n x ≡ true) place (numbered_passes p all step (from + 1) xs more k x at)

-- numbers from 0 on
numbered_from_zero : {X : Type 0} (p : ℕ → X → Bool) (all : ℕ → List X → Bool)
    → ((n : ℕ) (x : X) (xs : List X) → all n (x ∷ xs) ≡ (p n x && all (n + 1) xs))
    → (xs : List X) → all 0 xs ≡ true → (k : ℕ) (x : X) → slice_get xs k ≡ Some x → p k x ≡ true
numbered_from_zero p all step xs h k x at = subst (λ n. p n x ≡ true) (zero-add k) (numbered_passes p all step 0 xs h k x at)

-- what is asked of a cut, where the mask is one
asked_of_cut : (role : MaskRole) (b : Bool) → role ≡ Cut → (not (same_role role Cut) || b) ≡ true → b ≡ true
asked_of_cut role b e h = let at : (not (same_role Cut Cut) || b) ≡ true = subst (λ r. (not (same_role r Cut) || b) ≡ true) e h in at

-- enclosures
enclose_there : (tech : Tech) (cut mask : ℕ) → has_enclose tech.encloses cut mask ≡ true → IsEnclosedIn tech cut mask
enclose_there tech cut mask h =
    let found = passing (λ (e : Enclose). (e.cut == cut) && (e.mask == mask)) tech.encloses h in
    let (of_cut, in_mask) = and_parts (found.entry.cut == cut) (found.entry.mask == mask) found.passes in
    record { place = found.place; enclose = found.entry; there = found.there; of_cut = grind (arith, nat_tests); in_mask = grind (arith, nat_tests) }

cut_is_enclosed : (tech : Tech) → IsValidTech tech → (n : ℕ) (cut : Mask) → IsMaskOf tech n cut Cut
    → (has_enclose tech.encloses n cut.upper && list_all (λ lower. has_enclose tech.encloses n lower) cut.lowers) ≡ true
cut_is_enclosed tech valid n cut is =
    asked_of_cut cut.role _ is.role_is (numbered_from_zero (is_enclosed tech.encloses) (are_enclosed tech.encloses) (λ n x xs. refl) tech.masks valid.encloses.demanded n cut is.there)

pub cuts_enclosed : (tech : Tech) → IsValidTech tech → CutsAreEnclosed tech
cuts_enclosed tech valid = record {
  upper = λ n cut is. enclose_there tech n cut.upper (and_parts _ _ (cut_is_enclosed tech valid n cut is)).0;
  lowers = λ n cut is lower among.
      let each_one = AllPass-from_list_all (λ lower. has_enclose tech.encloses n lower) cut.lowers (and_parts _ _ (cut_is_enclosed tech valid n cut is)).1 in
      enclose_there tech n lower (All-contains (λ m. has_enclose tech.encloses n m ≡ true) cut.lowers lower each_one among);
}

-- distances
apart_there : (tech : Tech) (a : ℕ) (on : Option ℕ) (b : ℕ) → has_apart tech.aparts a on b ≡ true → AreKeptApart tech a on b
apart_there tech a on b h =
    let found = passing (λ (x : Apart). (x.a == a) && same_on x.on on && (x.b == b)) tech.aparts h in
    let (more, second) = and_parts ((found.entry.a == a) && same_on found.entry.on on) (found.entry.b == b) found.passes in
    let (first, lower) = and_parts (found.entry.a == a) (same_on found.entry.on on) more in
    record { place = found.place; apart = found.entry; there = found.there; first = grind (arith, nat_tests); lower = same_on_is _ _ lower; second = grind (arith, nat_tests) }

cut_is_kept : (tech : Tech) → IsValidTech tech → (n : ℕ) (cut : Mask) → IsMaskOf tech n cut Cut
    → (list_all (is_kept_from tech.aparts n cut.lowers) cut.lowers && is_kept_from_gate tech.masks tech.aparts n cut.lowers) ≡ true
cut_is_kept tech valid n cut is =
    asked_of_cut cut.role _ is.role_is (numbered_from_zero (is_kept_apart tech.masks tech.aparts) (are_kept_apart tech.masks tech.aparts) (λ n x xs. refl) tech.masks valid.aparts.demanded n cut is.there)

other_is_kept : (on other : ℕ) (b : Bool) → on ≢ other → ((on == other) || b) ≡ true → b ≡ true
other_is_kept on other b differ h = grind (arith, nat_tests)

pub lowers_apart : (tech : Tech) → IsValidTech tech → LowersAreKeptApart tech
lowers_apart tech valid n cut is on other on_among other_among differ =
    let each_other = AllPass-from_list_all (is_kept_from tech.aparts n cut.lowers) cut.lowers (and_parts _ _ (cut_is_kept tech valid n cut is)).0 in
    let kept : is_kept_from tech.aparts n cut.lowers other ≡ true = All-contains (λ m. is_kept_from tech.aparts n cut.lowers m ≡ true) cut.lowers other each_other other_among in
    let each_on = AllPass-from_list_all (λ m. (m == other) || has_apart tech.aparts n (Some m) other) cut.lowers kept in
    let here = All-contains (λ m. ((m == other) || has_apart tech.aparts n (Some m) other) ≡ true) cut.lowers on each_on on_among in
    apart_there tech n (Some on) other (other_is_kept on other _ differ here)

-- a role that a mask has, as a test and in words
role_at_is : (tech : Tech) (role : MaskRole) (n : ℕ) → is_role_at role tech.masks n ≡ true → HasRoleAt tech n role
role_at_is tech role n h =
    elim (slice_get_cases tech.masks n).1 [
      | inl (mask, below, is, at) ↦ (mask, record { there = is; role_is = role_same mask.role role (subst (λ o. option_map_or (λ m. same_role m.role role) o false ≡ true) is h) })
      | inr (past, none) ↦ absurd (never (subst (λ o. option_map_or (λ m. same_role m.role role) o false ≡ true) none h))
    ]
  where
    never : false ≡ true → ⊥
    never e = cc

role_at_so : (tech : Tech) (role : MaskRole) (n : ℕ) → HasRoleAt tech n role → is_role_at role tech.masks n ≡ true
role_at_so tech role n (mask, is) =
    ap (λ o. option_map_or (λ m. same_role m.role role) o false) is.there ∙ (ap (λ r. same_role r role) is.role_is ∙ role_self role)

-- no lower mask is the gate, as a test
none_is_gate : (tech : Tech) (lowers : List ℕ) → ((lower : ℕ) → Contains lowers lower → HasRoleAt tech lower Gate → ⊥) → list_any (is_role_at Gate tech.masks) lowers ≡ false
none_is_gate tech lowers never = list_any_none (is_role_at Gate tech.masks) lowers (λ k d below. by_test (get_or lowers k d) (Contains-get_or lowers k d below) _ refl)
  where
    by_test : (lower : ℕ) → Contains lowers lower → (b : Bool) → is_role_at Gate tech.masks lower ≡ b → b ≡ false
    by_test lower among true is = absurd (never lower among (role_at_is tech Gate lower is))
    by_test lower among false is = refl

last_of_three : (a b c : Bool) → a ≡ true → b ≡ false → (not a || b || c) ≡ true → c ≡ true
last_of_three true false c x y h = h
last_of_three true true c x y h = cc
last_of_three false b c x y h = cc

pub kept_from_gate : (tech : Tech) → IsValidTech tech → CutsAreKeptFromGate tech
kept_from_gate tech valid n cut is active among is_active never =
    let asked : is_kept_from_gate tech.masks tech.aparts n cut.lowers ≡ true =
    (and_parts (list_all (is_kept_from tech.aparts n cut.lowers) cut.lowers) (is_kept_from_gate tech.masks tech.aparts n cut.lowers) (cut_is_kept tech valid n cut is)).1 in
    let on_active : list_any (is_role_at Active tech.masks) cut.lowers ≡ true =
    list_any_at (is_role_at Active tech.masks) cut.lowers among.0 active among.1 (ap (is_role_at Active tech.masks) among.2 ∙ role_at_so tech Active active is_active) in
    let kept = last_of_three (list_any (is_role_at Active tech.masks) cut.lowers) (list_any (is_role_at Gate tech.masks) cut.lowers) (list_any (λ x. (x.a == n) && is_none x.on && is_role_at Gate tech.masks x.b) tech.aparts) on_active (none_is_gate tech cut.lowers never) asked in
    let found = passing (λ (x : Apart). (x.a == n) && is_none x.on && is_role_at Gate tech.masks x.b) tech.aparts kept in
    let (more, gate) = and_parts ((found.entry.a == n) && is_none found.entry.on) (is_role_at Gate tech.masks found.entry.b) found.passes in
    let (first, none) = and_parts (found.entry.a == n) (is_none found.entry.on) more in
    let first_is : found.entry.a ≡ n = grind (arith, nat_tests) in (
      found.entry.b,
      role_at_is tech Gate found.entry.b gate,
      record { place = found.place; apart = found.entry; there = found.there; first = first_is; lower = no_lower found.entry.on none; second = refl },
    )
  where
    no_lower : (on : Option ℕ) → is_none on ≡ true → on ≡ None
    no_lower None h = refl
    no_lower (Some n) h = cc

-- kinds
near_there : (nears : List Near) (mask : ℕ) → has_near nears mask ≡ true → IsNear nears mask
near_there nears mask h =
    let (k, near, below, at, passes) = Any-from_list_any (λ near. near.mask == mask) nears h in
    (near, (k, below, at), grind (arith, nat_tests))

shared : (xs ys : List Near) → share_a_mask xs ys ≡ true → (mask : ℕ) × IsNear xs mask × IsNear ys mask
shared xs ys h =
    let (k, near, below, at, passes) = Any-from_list_any (λ x. has_near ys x.mask) xs h in
    (near.mask, (near, (k, below, at), refl), near_there ys near.mask passes)

parted_in_words : (a b : Kind) → are_parted a b ≡ true → AreParted a b
parted_in_words a b h = by_side (share_a_mask a.inside b.outside) refl h
  where
    by_side : (side : Bool) → share_a_mask a.inside b.outside ≡ side → (side || share_a_mask a.outside b.inside) ≡ true → AreParted a b
    by_side true is h = let (mask, here, there) = shared a.inside b.outside is in record { mask = mask; parts = inl (here, there) }
    by_side false is h = let (mask, here, there) = shared a.outside b.inside h in record { mask = mask; parts = inr (here, there) }

turned : (a b : Kind) → AreParted a b → AreParted b a
turned a b h = record { mask = h.mask; parts = ⊎_elim (λ p. inr (p.1, p.0)) (λ p. inl (p.1, p.0)) h.parts }

kinds_pairs : (masks : List Mask) (gates : Option Gates) (kinds : List Kind) (active : Bool) → HasChannels masks gates kinds active → AllPairs (λ a b. IsTrue (are_parted b a)) kinds
kinds_pairs masks gates kinds true h = h.1.parted
kinds_pairs masks gates kinds false h = λ i j d below inside. let none : length kinds ≡ 0 = ap length h.1 in absurd (omega arith)

pair_at : {X : Type 0} (R : X → X → Type 0) (xs : List X) → AllPairs R xs → (i j : ℕ) (a b : X) → i < j → slice_get xs i ≡ Some a → slice_get xs j ≡ Some b → R a b
pair_at R xs h i j a b below first second =
    let there = slice_get_within xs j b second in
    let first_is : get_or xs i a ≡ a = sym (unwrap_or-slice_get xs i a) ∙ ap (λ o. unwrap_or o a) first in
    let second_is : get_or xs j a ≡ b = sym (unwrap_or-slice_get xs j a) ∙ ap (λ o. unwrap_or o a) second in
    subst (λ y. R a y) second_is (subst (λ x. R x (get_or xs j a)) first_is (h i j a below there))

pub kinds_parted : (tech : Tech) → IsValidTech tech → KindsAreParted tech
kinds_parted tech valid i j a b differ first second =
    let pairs = kinds_pairs tech.masks tech.gates tech.kinds (has_role Active tech.masks) valid.channels in
    ⊎_elim
    (λ less. turned b a (parted_in_words b a (pair_at (λ x y. IsTrue (are_parted y x)) tech.kinds pairs i j a b less first second)))
    (λ more. parted_in_words a b (pair_at (λ x y. IsTrue (are_parted y x)) tech.kinds pairs j i b a (let other : (i ≡ j) → ⊥ = differ in omega (arith, other)) second first))
    (cases_lt i j)

-- cells inside of a background aren't outside of it
kept_out : (covers : ℕ → ℤ → ℤ → Type 0) (cells : ℤ → ℤ → Type 0) (a b : Kind) (mask : ℕ) (x y : ℤ) → cells x y
    → IsOfKind covers cells a → IsOfKind covers cells b
    → ((near : Near) → Contains a.inside near → pos 0 ≤ℤ near.number) → ((near : Near) → Contains b.outside near → pos 1 ≤ℤ near.number)
    → IsNear a.inside mask → IsNear b.outside mask → ⊥
kept_out covers cells a b mask x y here is_a is_b reaches stays (near, among, same) (far, far_among, far_same) =
    let low = reaches near among in
    let high = stays far far_among in
    let around : (z : ℤ) → IsAround near.number z z = λ z. record { from = omega (arith, ints); to = omega (arith, ints) } in
    let covered : covers mask x y = subst (λ m. covers m x y) same (is_a.inside near among x y x y here (around x) (around y)) in
    let apart = is_b.outside far far_among x y x y here (subst (λ m. covers m x y) (sym far_same) covered) in
    ⊎_elim (λ (h : far.number ≤ℤ between x x). omega (arith, ints, clamps)) (λ (h : far.number ≤ℤ between y y). omega (arith, ints, clamps)) apart

all_kinds : (masks : List Mask) (gates : Option Gates) (kinds : List Kind) (active : Bool) → HasChannels masks gates kinds active → All (IsValidKind masks) kinds
all_kinds masks gates kinds true h = h.1.allowed
all_kinds masks gates kinds false h = λ k d below. let none : length kinds ≡ 0 = ap length h.1 in absurd (omega arith)

kind_at : (tech : Tech) → IsValidTech tech → (i : ℕ) (a : Kind) → slice_get tech.kinds i ≡ Some a → IsValidKind tech.masks a
kind_at tech valid i a at =
    let is : get_or tech.kinds i a ≡ a = sym (unwrap_or-slice_get tech.kinds i a) ∙ ap (λ o. unwrap_or o a) at in
    subst (IsValidKind tech.masks) is (all_kinds tech.masks tech.gates tech.kinds (has_role Active tech.masks) valid.channels i a (slice_get_within tech.kinds i a at))

pub none_of_two : (tech : Tech) → IsValidTech tech → NoneIsOfTwoKinds tech
none_of_two tech valid i j a b differ first second covers cells x y here is_a is_b =
    let one = kind_at tech valid i a first in
    let other = kind_at tech valid j b second in
    let parted = kinds_parted tech valid i j a b differ first second in
    let covered : ℕ → ℤ → ℤ → Type 0 = λ m u v. IsTrue (covers m u v) in
    let piece : ℤ → ℤ → Type 0 = λ u v. IsTrue (cells u v) in
    ⊎_elim
    (λ p. kept_out covered piece a b parted.mask x y here is_a is_b (reaches tech.masks a one) (stays tech.masks b other) p.0 p.1)
    (λ p. kept_out covered piece b a parted.mask x y here is_b is_a (reaches tech.masks b other) (stays tech.masks a one) p.1 p.0)
    parted.parts
  where
    reaches : (masks : List Mask) (kind : Kind) → IsValidKind masks kind → (near : Near) → Contains kind.inside near → pos 0 ≤ℤ near.number
    reaches masks kind h near among = (All-contains (IsValidNear IsReach masks) kind.inside near h.inside.allowed among).number.low

    stays : (masks : List Mask) (kind : Kind) → IsValidKind masks kind → (near : Near) → Contains kind.outside near → pos 1 ≤ℤ near.number
    stays masks kind h near among = (All-contains (IsValidNear IsLength masks) kind.outside near h.outside.allowed among).number.low
