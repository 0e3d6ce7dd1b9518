-- Entries that differ name different masks, so there are few of them.
use Rattle.std.proofs.Common.{◌≡◌, ◌≢◌, ℕ, suc, ◌+◌, ◌*◌, ◌<◌, ◌≤◌, ◌==◌, ◌^◌, List, [], ◌∷◌, map, length, All, AllPairs, Option, Some, None, IfSome, refl, subst, arith}
use Rattle.std.proofs.lemmas.Bool.{eqb-true, eq-eqb}
use Rattle.std.proofs.lemmas.Bool.Decides.{nat_tests}
use Rattle.std.proofs.lemmas.List.{length-map}
use Rattle.std.proofs.lemmas.List.Elements.{All-map, All-contains}
use Rattle.std.proofs.lemmas.List.Kept.{AllPairs-cons}
use Rattle.std.proofs.lemmas.Map.Made.{IsDistinct-from_AllPairs}
use Rattle.std.proofs.lemmas.Map.Steps.{length-le_from_distinct_below}
use Rattle.std.proofs.lemmas.Map.Views.{Contains-from_any}
use Rattle.rt_tech.specs.declared.table.Apart.{Apart as Distance}
use Rattle.rt_tech.specs.declared.table.Enclose.{Enclose as Enclosure}
use Rattle.rt_tech.specs.Tech.{AreOneEnclose, AreOneApart}

module _ {X : Type 0} (number : X → ℕ) where
  apart_mapped : (xs : List X) → AllPairs (λ a b. number a ≢ number b) xs → AllPairs (λ m n. m ≢ n) (map number xs)
  apart_mapped [] h = λ i j d lt within. absurd (omega (arith, within))
  apart_mapped (x ∷ xs) h =
      AllPairs-cons (λ m n. m ≢ n) (number x) (map number xs) (All-map (λ n. number x ≢ n) number xs (λ j d within. h 0 (suc j) d (omega arith) (omega (arith, within))))
      (apart_mapped xs (λ i j d lt within. h (suc i) (suc j) d (omega (arith, lt)) (omega (arith, within))))

  -- entries of which each has its own number below n are at most n
  at_most : (n : ℕ) (xs : List X) → All (λ x. number x < n) xs → AllPairs (λ a b. number a ≢ number b) xs → length xs ≤ n
  at_most n xs below apart =
      let few = length-le_from_distinct_below (map number xs) n (IsDistinct-from_AllPairs (λ a b. (eqb-true a b, eq-eqb a b)) (map number xs) (apart_mapped xs apart))
      (λ q h. All-contains (λ k. k < n) (map number xs) q (All-map (λ k. k < n) number xs below) (Contains-from_any {eq = λ x y. x == y} (λ x y e. grind (arith, nat_tests, e)) q (map number xs) h)) in
      subst (λ k. k ≤ n) (length-map xs number) few

-- the number of an enclosure, and of a distance, where masks have numbers below 64
abbrev enclosure_number : Enclosure → ℕ
enclosure_number e = e.cut * 64 + e.mask

abbrev lower_number : Option ℕ → ℕ
lower_number None = 0
lower_number (Some l) = l + 1

abbrev distance_number : Distance → ℕ
distance_number a = (a.a * 65 + lower_number a.on) * 64 + a.b

-- the masks of an enclosure, and of a distance, have numbers below 64
pub record NamesFew (enclose : Enclosure) : Type 0 where
  pub cut : enclose.cut < 64
  pub mask : enclose.mask < 64

pub record AreFewNamed (apart : Distance) : Type 0 where
  pub first : apart.a < 64
  pub lower : IfSome apart.on (λ l. l < 64)
  pub second : apart.b < 64

two_parts : (a b c d : ℕ) → b < 64 → d < 64 → a * 64 + b ≡ c * 64 + d → (a ≡ c) × (b ≡ d)
two_parts a b c d h k e = (omega (arith, h, k, e), omega (arith, h, k, e))

lower_below : (on : Option ℕ) → IfSome on (λ l. l < 64) → lower_number on < 65
lower_below None h = omega arith
lower_below (Some l) h = omega (arith, h)

same_lower : (on other : Option ℕ) → lower_number on ≡ lower_number other → on ≡ other
same_lower None None e = refl
same_lower None (Some m) e = absurd (omega (arith, e))
same_lower (Some l) None e = absurd (omega (arith, e))
same_lower (Some l) (Some m) e = let same : l ≡ m = omega (arith, e) in subst (λ k. Some l ≡ Some k) same refl

first_parts : (a b c d : ℕ) → b < 65 → d < 65 → a * 65 + b ≡ c * 65 + d → (a ≡ c) × (b ≡ d)
first_parts a b c d h k e = (omega (arith, h, k, e), omega (arith, h, k, e))

-- so enclosures that are all different are few, and distances are
pub few_enclosures : (xs : List Enclosure) → All NamesFew xs → AllPairs (λ a b. ¬ AreOneEnclose a b) xs → length xs < 2 ^ 32
few_enclosures xs named different =
    let few =
    at_most enclosure_number 4096 xs (λ i d h. let is = named i d h in omega (arith, is.cut, is.mask))
    (λ i j d lt within e.
    let one = named i d (omega (arith, lt, within)) in
    let other = named j d within in
    let same = two_parts _ _ _ _ one.mask other.mask e in
    different i j d lt within (record { cuts = same.0; masks = same.1 })) in
    omega (arith, few)

pub few_distances : (xs : List Distance) → All AreFewNamed xs → AllPairs (λ a b. ¬ AreOneApart a b) xs → length xs < 2 ^ 32
few_distances xs named different =
    let few =
    at_most distance_number 266240 xs
    (λ i d h.
    let is = named i d h in
    let low = lower_below _ is.lower in
    omega (arith, is.first, low, is.second))
    (λ i j d lt within e.
    let one = named i d (omega (arith, lt, within)) in
    let other = named j d within in
    let same = two_parts _ _ _ _ one.second other.second e in
    let firsts = first_parts _ _ _ _ (lower_below _ one.lower) (lower_below _ other.lower) same.0 in
    different i j d lt within (record { firsts = firsts.0; lowers = same_lower _ _ firsts.1; seconds = same.1 })) in
    omega (arith, few)
