-- Numbered intervals, put in order, have their numbers still.
use Rattle.std.proofs.Common.{◌≡◌, ◌≢◌, ℕ, ◌<◌, ℤ, List, length, map, get_or, All, refl, sym, ap, subst, ◌∙◌, arith}
use Rattle.std.specs.Prelude.{AllPairs}
use Rattle.std.proofs.lemmas.Bool.Decides.{Decides-eqb}
use Rattle.std.proofs.lemmas.Cmp.{nat_eq_equiv}
use Rattle.std.proofs.lemmas.List.{get_or-map, length-map, get_or_default}
use Rattle.std.proofs.lemmas.List.Elements.{Contains-get_or}
use Rattle.std.proofs.lemmas.List.Sorted.{All-permutation, Contains-permutation, IsPermutation-map}
use Rattle.std.proofs.lemmas.Map.Keys.{IsDistinct-IsPermutation}
use Rattle.std.proofs.lemmas.Map.Made.{IsDistinct-from_AllPairs, AllPairs-from_IsDistinct}
use Rattle.std.specs.List.Sorted.{IsPermutation}
use Rattle.rt_near.specs.declared.near.Sides.{Sides}
use Rattle.rt_near.specs.declared.entry.Entry.{Entry}
use Rattle.rt_near.specs.Near.{IsInterval, sides_at, no_sides}
use Rattle.rt_near.specs.Entries.{entry_of, entry_at, no_entry, AreNumbered, AreInOrder, AreIntervals, AreSortedOf}

abbrev number_of : Entry → ℕ
number_of e = e.number

-- it's the interval of its number
record IsEntry (sides : List Sides) (reaches : List ℤ) (e : Entry) : Type 0 where
  pub below : e.number < length sides
  pub is : e ≡ entry_of (sides_at sides reaches e.number) reaches e.number

module _ (sides : List Sides) (reaches : List ℤ) (entries : List Entry) (of : AreNumbered sides reaches entries) where
  number_is : (k : ℕ) → k < length sides → (entry_at entries k).number ≡ k
  number_is k h = ap number_of (of.each k h)

  all_entries : All (IsEntry sides reaches) entries
  all_entries k d h =
      let l : k < length sides = omega (arith, h, of.count) in
      subst (IsEntry sides reaches) (sym (of.each k l) ∙ get_or_default entries k no_entry d h) (record { below = l; is = refl })

  mapped_numbers : (k d : ℕ) → k < length (map number_of entries) → get_or (map number_of entries) k d ≡ k
  mapped_numbers k d h =
      let l : k < length entries = omega (arith, h, length-map entries number_of) in
      get_or-map number_of entries k no_entry d l ∙ number_is k (omega (arith, l, of.count))

  apart : AllPairs (λ (x y : ℕ). x ≢ y) (map number_of entries)
  apart i j d h g e =
      let k : i ≡ j = sym (mapped_numbers i d (omega (arith, h, g))) ∙ e ∙ mapped_numbers j d g in omega (arith, h, k)

  module _ (sorted : List Entry) (moved : IsPermutation entries sorted) where
    still_apart : AllPairs (λ (x y : ℕ). x ≢ y) (map number_of sorted)
    still_apart =
        AllPairs-from_IsDistinct Decides-eqb (map number_of sorted)
        (IsDistinct-IsPermutation _ nat_eq_equiv.symm (map number_of entries) (map number_of sorted) (IsPermutation-map number_of entries sorted moved)
        (IsDistinct-from_AllPairs Decides-eqb (map number_of entries) apart))

    pub sorted_of : AreInOrder sorted → AreSortedOf sides reaches sorted
    sorted_of order = record {
      order = order;
      number = λ k h. (All-permutation (IsEntry sides reaches) entries sorted moved all_entries k no_entry h).below;
      each = λ k h. (All-permutation (IsEntry sides reaches) entries sorted moved all_entries k no_entry h).is;
      every = λ i h.
          let l : i < length entries = omega (arith, h, of.count) in
          let c = Contains-permutation entries sorted (entry_at entries i) moved (Contains-get_or entries i no_entry l) in
          (c.0, c.1, get_or_default sorted c.0 no_entry (entry_at entries i) c.1 ∙ c.2 ∙ of.each i h);
      different = λ k m h g e.
          let n : k < length sorted = omega (arith, h, g) in
          still_apart k m 0 h (omega (arith, g, length-map sorted number_of))
          (get_or-map number_of sorted k no_entry 0 n ∙ e ∙ sym (get_or-map number_of sorted m no_entry 0 g));
    }

-- of intervals that have a place each entry has one
pub are_intervals : (sides : List Sides) (reaches : List ℤ) (entries : List Entry) → All IsInterval sides → AreSortedOf sides reaches entries → AreIntervals entries
are_intervals sides reaches entries all of = record {
  each = λ k h. subst (λ (e : Entry). IsInterval e.at) (sym (of.each k h)) (all (entry_at entries k).number no_sides (of.number k h));
}
