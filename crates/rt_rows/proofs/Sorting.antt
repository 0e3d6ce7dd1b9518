-- A sort by places, and a pass that drops repeats.
use Rattle.std.proofs.Common.{◌≡◌, ℕ, ◌+◌, ◌-◌, ◌<◌, ◌≤◌, ◌⊎◌, Bool, true, false, List, [], ◌∷◌, ◌++◌, length, get_or, sym, ap, subst, ◌∙◌, inl, inr, arith, is_lt}
use Rattle.std.specs.Prelude.{AllPairs, Contains}
use Rattle.std.proofs.lemmas.Bool.{cases_eq}
use Rattle.std.proofs.lemmas.Cmp.{nat_cmp_total, on_total, then_total}
use Rattle.std.proofs.lemmas.List.{get_or_read}
use Rattle.std.proofs.lemmas.List.Elements.{Contains-get_or, Contains-append_left, Contains-push, Contains-push_cases}
use Rattle.std.proofs.lemmas.List.Quantifiers.{all_pairs_push}
use Rattle.std.proofs.lemmas.List.Sorted.{sorted_far, ranks_by, Contains-permutation, IsPermutation-sym}
use Rattle.std.specs.Bool.{MatchBool}
use Rattle.std.specs.Cmp.{IsTotalOrder}
use Rattle.std.specs.List.Sorted.{IsPermutation, IsSortedBy}
use Rattle.rt_rows.specs.declared.name.Name.{Name}
use Rattle.rt_rows.specs.Order.{Place, place_of, ComesBefore, ArePutInOrder}
use Rattle.rt_rows.specs.Keys.{IsUpwards, IsSortedOf, IsNew, IsRepeat}
use Rattle.rt_rows.proofs.PlacesOrder.{compare_places, tells_earlier, one_name, one_if_neither, earlier_too}

places_total : IsTotalOrder compare_places
places_total =
    then_total (then_total (then_total (on_total (λ (p : Place). p.kind) nat_cmp_total) (on_total (λ (p : Place). p.first) nat_cmp_total))
    (on_total (λ (p : Place). p.second) nat_cmp_total)) (on_total (λ (p : Place). p.third) nat_cmp_total)

-- how two names compare
abbrev pub compare_names : Name → Name → Bool
compare_names a b = is_lt (compare_places (place_of a) (place_of b))

refused : (b : Bool) (P Q : Type 0) → MatchBool b P Q → b ≡ false → Q
refused true P Q h e = cc
refused false P Q h e = h

-- what a sort by places gives
pub upwards_by_sort : (names : List Name) → IsSortedBy compare_names names → IsUpwards names
upwards_by_sort names sorted = record {
  never_back = λ i j d h below.
      refused (compare_names (get_or names j d) (get_or names i d)) _ _ (tells_earlier (place_of (get_or names j d)) (place_of (get_or names i d)))
      (sorted_far compare_names (ranks_by places_total place_of) names sorted i j d (omega arith) below);
}

pub sorted_of : (names sorted : List Name) → IsPermutation names sorted → IsSortedBy compare_names sorted → IsSortedOf names sorted
sorted_of names sorted moved up = record {
  upwards = upwards_by_sort sorted up;
  same = λ name. (Contains-permutation sorted names name (IsPermutation-sym names sorted moved), Contains-permutation names sorted name moved);
}

-- the first so many names, each once
pub record AreKeptSoFar (names : List Name) (i : ℕ) (kept : List Name) : Type 0 where
  pub each : (name : Name) → Contains kept name → (k : ℕ) × (k < i) × ((d : Name) → get_or names k d ≡ name)
  pub every : (k : ℕ) (d : Name) → k < i → Contains kept (get_or names k d)
  pub in_order : AllPairs ComesBefore kept

module _ (names : List Name) (upwards : IsUpwards names) (i : ℕ) (below : i < length names) where
  -- every name before a new one comes before it
  before_new : IsNew names i → (k : ℕ) (d : Name) → k < i → ComesBefore (get_or names k d) (get_or names i d)
  before_new new k d h =
      elim (cases_eq (k + 1) i) [
        | inl e ↦ new.behind k d e
        | inr n ↦ earlier_too (place_of (get_or names k d)) (place_of (get_or names (i - 1) d)) (place_of (get_or names i d))
            (upwards.never_back k (i - 1) d (omega (arith, h, n)) (omega (arith, below)))
            (new.behind (i - 1) d (omega (arith, h)))
      ]

  kept_each : (kept : List Name) (x : Name) → x ≡ get_or names i x → AreKeptSoFar names i kept → (name : Name) → Contains kept name ⊎ (x ≡ name)
      → (k : ℕ) × (k < i + 1) × ((d : Name) → get_or names k d ≡ name)
  kept_each kept x e before name (inl c) = let m = before.each name c in (m.0, omega (arith, m.1), m.2)
  kept_each kept x e before name (inr s) = (i, omega arith, λ d. sym (get_or_read names i x below e d) ∙ s)

  pub one_more : (kept : List Name) (x : Name) → x ≡ get_or names i x → IsNew names i → AreKeptSoFar names i kept → AreKeptSoFar names (i + 1) (kept ++ x ∷ [])
  one_more kept x e new before = record {
    each = λ name c. kept_each kept x e before name (Contains-push_cases kept x name c);
    every = λ k d h. elim (cases_eq k i) [
      | inl s ↦ subst (λ n. Contains (kept ++ x ∷ []) n) (get_or_read names i x below e d ∙ ap (λ m. get_or names m d) (sym s)) (Contains-push kept x)
      | inr n ↦ Contains-append_left kept (x ∷ []) (get_or names k d) (before.every k d (omega (arith, h, n)))
    ];
    in_order = all_pairs_push ComesBefore kept x before.in_order
        (λ k d h. let m = before.each (get_or kept k d) (Contains-get_or kept k d h) in
        subst (λ n. ComesBefore n x) (m.2 x) (subst (λ n. ComesBefore (get_or names m.0 x) n) (sym e) (before_new new m.0 x m.1)));
  }

  -- a name that repeats the one before it is that name
  repeated : IsRepeat names i → (d : Name) → get_or names (i - 1) d ≡ get_or names i d
  repeated repeat d =
      one_name (get_or names (i - 1) d) (get_or names i d)
      (one_if_neither (place_of (get_or names (i - 1) d)) (place_of (get_or names i d)) (repeat.not_behind d)
      (upwards.never_back (i - 1) i d (omega (arith, repeat.some)) below))

  pub none_more : (kept : List Name) → IsRepeat names i → AreKeptSoFar names i kept → AreKeptSoFar names (i + 1) kept
  none_more kept repeat before = record {
    each = λ name c. let m = before.each name c in (m.0, omega (arith, m.1), m.2);
    every = λ k d h. elim (cases_eq k i) [
      | inl s ↦ subst (λ n. Contains kept n) (repeated repeat d ∙ ap (λ m. get_or names m d) (sym s)) (before.every (i - 1) d (omega (arith, repeat.some)))
      | inr n ↦ before.every k d (omega (arith, h, n))
    ];
    in_order = before.in_order;
  }

-- when all have been seen
pub all_kept : (names kept : List Name) (i : ℕ) → length names ≤ i → i ≤ length names → AreKeptSoFar names i kept → ArePutInOrder names kept
all_kept names kept i h g are = record {
  in_order = are.in_order;
  same = λ name. (
    λ c. let m = are.each name c in (m.0, omega (arith, m.1, g), m.2 name),
    λ c. subst (λ n. Contains kept n) c.2 (are.every c.0 name (omega (arith, c.1, h))),
  );
}

-- to put names in order it's enough to do so with the sorted ones
pub put_by_sort : (names sorted kept : List Name) → IsSortedOf names sorted → ArePutInOrder sorted kept → ArePutInOrder names kept
put_by_sort names sorted kept of put = record {
  in_order = put.in_order;
  same = λ name. (λ c. (of.same name).0 ((put.same name).0 c), λ c. (put.same name).1 ((of.same name).1 c));
}
