-- The mask of a layer pair: no other mask of the table has the pair. And so for the pair of labels.
use Rattle.std.proofs.Common.{◌≡◌, ℕ, ◌<◌, ◌≤◌, ℤ, Bool, true, false, List, length, get_or, cond, Option, Some, None, AllPairs, sym, ◌∙◌, ap, subst, inl, inr, arith}
use Rattle.std.specs.Prelude.{◌≢◌, nat_lt, slice_get, IfSome}
use Rattle.std.specs.List.{position_or_len}
use Rattle.std.specs.Option.{option_map_or}
use Rattle.std.proofs.lemmas.Bool.{and_from, false_from_ne_true, cases_order}
use Rattle.std.proofs.lemmas.Option.{slice_get_within, slice_get-get_or, get_or_from_slice_get}
use Rattle.std.proofs.lemmas.List.Sums.{position_or_len_is}
use Rattle.std.proofs.lemmas.Int.{ints}
use Rattle.rt_tech.proofs.Tests.{pair_is}
use Rattle.rt_tech.specs.declared.table.Mask.{Mask}
use Rattle.rt_tech.specs.Tech.{pair_of, AreDistinct, DoNotClash}
use Rattle.rt_tech.specs.Words.{same_number, same_pair}
use Rattle.gds_flat.specs.Elements.{mask_of_shapes, mask_of_notes}
use Rattle.rt_written.specs.Written.{IsMaskOfPairIn, IsMaskOfNoteIn}

number_itself : (a : ℤ) → same_number a a ≡ true
number_itself a = grind (arith, ints)

pair_itself : (p : ℤ × ℤ) → same_pair p p ≡ true
pair_itself p = and_from (same_number p.0 p.0) (same_number p.1 p.1) (number_itself p.0) (number_itself p.1)

lt_yes : (m n : ℕ) → m < n → nat_lt m n ≡ true
lt_yes m n h = grind arith

at_most : (m n : ℕ) → m < n → m ≤ n
at_most m n h = omega arith

-- the mask of a number is below their count
pub mask_below : (masks : List Mask) (layer datatype : ℤ) (m : ℕ) → IsMaskOfPairIn masks layer datatype m → m < length masks
mask_below masks layer datatype m is = slice_get_within masks m is.mask is.is_mask

-- the mask of the pair is found
pub mask_found : (masks : List Mask) (layer datatype : ℤ) (m : ℕ) → AllPairs AreDistinct masks → IsMaskOfPairIn masks layer datatype m
    → mask_of_shapes masks (layer, datatype) ≡ Some m
mask_found masks layer datatype m apart is =
    ap (λ k. cond (nat_lt k (length masks)) (Some k) None) at ∙ ap (λ b. cond b (Some m) None) (lt_yes m (length masks) low)
  where
    test : Mask → Bool
    test mask = same_pair (mask.layer, mask.datatype) (layer, datatype)

    low : m < length masks
    low = mask_below masks layer datatype m is

    here : get_or masks m is.mask ≡ is.mask
    here = get_or_from_slice_get masks m is.mask is.mask is.is_mask

    passes : same_pair ((get_or masks m is.mask).layer, (get_or masks m is.mask).datatype) (layer, datatype) ≡ true
    passes =
        ap (λ (mask : Mask). same_pair (mask.layer, mask.datatype) (layer, datatype)) here
        ∙ ap (λ (pair : ℤ × ℤ). same_pair pair (layer, datatype)) is.pair ∙ pair_itself (layer, datatype)

    others : (k : ℕ) → k < m → same_pair ((get_or masks k is.mask).layer, (get_or masks k is.mask).datatype) (layer, datatype) ≡ false
    others k h =
        false_from_ne_true (same_pair ((get_or masks k is.mask).layer, (get_or masks k is.mask).datatype) (layer, datatype)) (λ e.
        let distinct : AreDistinct (get_or masks k is.mask) (get_or masks m is.mask) = apart k m is.mask h low in
        distinct.pairs
        (pair_is ((get_or masks k is.mask).layer, (get_or masks k is.mask).datatype) (layer, datatype) e ∙ sym (ap pair_of here ∙ is.pair)))

    at : position_or_len (λ (mask : Mask). same_pair (mask.layer, mask.datatype) (layer, datatype)) masks ≡ m
    at =
        position_or_len_is (λ (mask : Mask). same_pair (mask.layer, mask.datatype) (layer, datatype)) masks m is.mask
        (at_most m (length masks) low) others (λ _. passes)

-- ---- labels

-- the labels of a mask are on the pair
abbrev has_note : ℤ × ℤ → Mask → Bool
has_note pair mask = option_map_or (λ note. same_pair note pair) mask.note false

-- so they are on that pair
note_is : (pair : ℤ × ℤ) (note : Option (ℤ × ℤ)) → option_map_or (λ n. same_pair n pair) note false ≡ true → note ≡ Some pair
note_is pair None e = cc
note_is pair (Some n) e = ap (λ (p : ℤ × ℤ). Some p) (pair_is n pair e)

-- the mask of the labels' pair is found
pub note_found : (masks : List Mask) (layer texttype : ℤ) (m : ℕ) → IsMaskOfNoteIn masks layer texttype m → mask_of_notes masks (layer, texttype) ≡ Some m
note_found masks layer texttype m is =
    ap (λ k. cond (nat_lt k (length masks)) (Some k) None) at ∙ ap (λ b. cond b (Some m) None) (lt_yes m (length masks) low)
  where
    low : m < length masks
    low = slice_get_within masks m is.mask is.is_mask

    passes : has_note (layer, texttype) (get_or masks m is.mask) ≡ true
    passes =
        ap (has_note (layer, texttype)) (get_or_from_slice_get masks m is.mask is.mask is.is_mask)
        ∙ ap (λ (note : Option (ℤ × ℤ)). option_map_or (λ n. same_pair n (layer, texttype)) note false) is.note ∙ pair_itself (layer, texttype)

    others : (k : ℕ) → k < m → has_note (layer, texttype) (get_or masks k is.mask) ≡ false
    others k h =
        false_from_ne_true (has_note (layer, texttype) (get_or masks k is.mask)) (λ e.
        let same = is.alone k (get_or masks k is.mask) (slice_get-get_or masks k is.mask (omega (arith, h, low)))
        (note_is (layer, texttype) (get_or masks k is.mask).note e) in
        absurd (omega (arith, same, h)))

    at : position_or_len (has_note (layer, texttype)) masks ≡ m
    at = position_or_len_is (has_note (layer, texttype)) masks m is.mask (at_most m (length masks) low) others (λ _. passes)

-- where no two masks clash, no other mask has the pair of a mask's labels
pub note_alone : (masks : List Mask) (layer texttype : ℤ) (m : ℕ) (mask : Mask) → AllPairs DoNotClash masks → slice_get masks m ≡ Some mask
    → mask.note ≡ Some (layer, texttype) → IsMaskOfNoteIn masks layer texttype m
note_alone masks layer texttype m mask apart there note = record {
  mask = mask;
  is_mask = there;
  note = note;
  alone = λ k other at same.
      elim (cases_order k m) [
        | inl e ↦ e
        | inr (inl l) ↦ absurd (clash k m other mask l at there same note)
        | inr (inr l) ↦ absurd (clash m k mask other l there at note same)
      ];
}
  where
    clash : (i j : ℕ) (a b : Mask) → i < j → slice_get masks i ≡ Some a → slice_get masks j ≡ Some b → a.note ≡ Some (layer, texttype)
        → b.note ≡ Some (layer, texttype) → ⊥
    clash i j a b less at_i at_j of_a of_b =
        let differ : DoNotClash a b = subst (λ (x : Mask). DoNotClash x b) (get_or_from_slice_get masks i a a at_i)
        (subst (λ (y : Mask). DoNotClash (get_or masks i a) y) (get_or_from_slice_get masks j b a at_j) (apart i j a less (slice_get_within masks j b at_j))) in
        subst (λ (o : Option (ℤ × ℤ)). IfSome o (λ (n : ℤ × ℤ). a.note ≢ Some n)) of_b differ.notes of_a
