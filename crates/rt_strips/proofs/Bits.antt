-- Rows of bits in words of 64.
use Rattle.std.proofs.Common.{◌≡◌, ◌≢◌, ℕ, ◌+◌, ◌*◌, ◌/◌, ◌%◌, ◌^◌, ◌<◌, ◌≤◌, ◌⊎◌, max, List, length, get_or, set, sym, ap, subst, ◌∙◌, arith, inl, inr}
use Rattle.std.specs.Int.{bit_at}
use Rattle.std.specs.Prelude.{bit_or}
use Rattle.std.proofs.lemmas.Bool.{cases_eq, cases_order}
use Rattle.std.proofs.lemmas.List.{length-set, get_or-set_same, get_or-set_other}
use Rattle.std.proofs.lemmas.Nat.{div_below, same_from_place, div-add-mod', row_fits}
use Rattle.std.proofs.lemmas.Nat.Bits.{bit_at-lt, bit_at_or, bit_at-pow_same, bit_at-pow_other}
use Rattle.rt_strips.specs.Table.{bit_of, IsRowTaken, IsSet, IsJoined}

-- a row's place of a bit
pub word_within : (i width : ℕ) → i < width * 64 → i / 64 < width
word_within i width h = div_below i 64 width (omega arith) h

-- the rows before a row end where it begins
pub row_before : (j k width : ℕ) → j < k → j * width + width ≤ k * width
row_before j k width h = row_fits j width k width h (omega arith)

outside_row : (j k width q : ℕ) → j ≢ k → q < width → (j * width + q < k * width) ⊎ (k * width + width ≤ j * width + q)
outside_row j k width q other h =
    elim (cases_order j k) [
      | inl e ↦ absurd (other e)
      | inr (inl l) ↦ inl (omega (arith, row_before j k width l, h))
      | inr (inr l) ↦ inr (omega (arith, row_before k j width l))
    ]

one_or : (a b c : ℕ) → c ≡ max a b → a < 2 → b < 2 → c ≡ 1 → (a ≡ 1) ⊎ (b ≡ 1)
one_or a b c e h g f =
    elim (cases_eq a 1) [
      | inl s ↦ inl s
      | inr n ↦ inr (omega (arith, e, h, g, f, n))
    ]

first_one : (a b c : ℕ) → c ≡ max a b → b < 2 → a ≡ 1 → c ≡ 1
first_one a b c e h f = omega (arith, e, h, f)

second_one : (a b c : ℕ) → c ≡ max a b → a < 2 → b ≡ 1 → c ≡ 1
second_one a b c e h f = omega (arith, e, h, f)

same_number : (i b : ℕ) → i / 64 ≡ b / 64 → i % 64 ≡ b % 64 → i ≡ b
same_number i b e f = sym (div-add-mod' i 64) ∙ ap (λ q. q * 64 + i % 64) e ∙ ap (λ r. b / 64 * 64 + r) f ∙ div-add-mod' b 64

module _ (width below above : ℕ) (before between : List ℕ) (wide : below < width * 64) (fits : above * width + width ≤ length before)
    (row : IsRowTaken (below * width) (above * width) width before between) where
  -- the joined row
  joined_bit : (i : ℕ) → i < width * 64 → bit_of width between i above ≡ max (bit_of width before i above) (bit_of width before i below)
  joined_bit i h =
      ap (λ w. bit_at w (i % 64)) (row.within (i / 64) (word_within i width h))
      ∙ bit_at_or (get_or before (above * width + i / 64) 0) (get_or before (below * width + i / 64) 0) (i % 64)

  -- and the others
  other_bit : (i j : ℕ) → i < width * 64 → j ≢ above → bit_of width between i j ≡ bit_of width before i j
  other_bit i j h other = ap (λ w. bit_at w (i % 64)) (row.outside (j * width + i / 64) (outside_row j above width (i / 64) other (word_within i width h)))

  abbrev place : ℕ
  place = above * width + below / 64

  abbrev word : ℕ
  word = bit_or (get_or between place 0) (2 ^ (below % 64))

  abbrev after : List ℕ
  after = set between place word

  in_row : place < length between
  in_row = omega (arith, word_within below width wide, fits, row.same_length)

  word_here : get_or after place 0 ≡ word
  word_here = get_or-set_same between place word 0 in_row

  -- what setting one more bit does to a bit
  data IsAfter (i j : ℕ) : Type 0 where
    as_before : bit_of width after i j ≡ bit_of width between i j → IsAfter i j
    now_set : j ≡ above → i ≡ below → bit_of width after i j ≡ 1 → IsAfter i j

  bit_here : (i j : ℕ) → i < width * 64 → j * width + i / 64 ≡ place → IsAfter i j
  bit_here i j h e =
      let at = same_from_place j (i / 64) above (below / 64) width (word_within i width h) (word_within below width wide) e in
      let is : bit_of width after i j ≡ max (bit_at (get_or between place 0) (i % 64)) (bit_at (2 ^ (below % 64)) (i % 64)) =
      ap (λ p. bit_at (get_or after p 0) (i % 64)) e ∙ ap (λ w. bit_at w (i % 64)) word_here ∙ bit_at_or (get_or between place 0) (2 ^ (below % 64)) (i % 64) in
      elim (cases_eq (i % 64) (below % 64)) [
        | inl s ↦ now_set at.0 (same_number i below at.1 s)
            (second_one _ _ _ is (bit_at-lt (get_or between place 0) (i % 64)) (ap (λ r. bit_at (2 ^ (below % 64)) r) s ∙ bit_at-pow_same (below % 64)))
        | inr n ↦ as_before (none_more _ _ _ is (bit_at-pow_other (below % 64) (i % 64) n) ∙ ap (λ p. bit_at (get_or between p 0) (i % 64)) (sym e))
      ]
    where
      none_more : (a b c : ℕ) → c ≡ max a b → b ≡ 0 → c ≡ a
      none_more a b c e f = omega (arith, e, f)

  bit_after : (i j : ℕ) → i < width * 64 → IsAfter i j
  bit_after i j h =
      elim (cases_eq (j * width + i / 64) place) [
        | inl e ↦ bit_here i j h e
        | inr n ↦ as_before (ap (λ w. bit_at w (i % 64)) (get_or-set_other between place (j * width + i / 64) word 0 n))
      ]

  set_after : (i j : ℕ) → IsAfter i j → bit_of width between i j ≡ 1 → IsSet width after i j
  set_after i j (as_before e) s = record { set = e ∙ s }
  set_after i j (now_set _ _ e) s = record { set = e }

  set_from : (i j : ℕ) → IsAfter i j → IsSet width after i j → (bit_of width between i j ≡ 1) ⊎ ((j ≡ above) × (i ≡ below))
  set_from i j (as_before e) s = inl (sym e ∙ s.set)
  set_from i j (now_set f g _) s = inr (f, g)

  kept_between : (i j : ℕ) → i < width * 64 → IsSet width before i j → bit_of width between i j ≡ 1
  kept_between i j h s =
      elim (cases_eq j above) [
        | inl e ↦ subst (λ n. bit_of width between i n ≡ 1) (sym e)
            (first_one _ _ _ (joined_bit i h) (bit_at-lt (get_or before (below * width + i / 64) 0) (i % 64)) (subst (λ n. bit_of width before i n ≡ 1) e s.set))
        | inr n ↦ other_bit i j h n ∙ s.set
      ]

  set_below : IsAfter below above → IsSet width after below above
  set_below (now_set _ _ e) = record { set = e }
  set_below (as_before e) = record {
    set = second_one _ _ _
        (ap (λ w. bit_at w (below % 64)) word_here ∙ bit_at_or (get_or between place 0) (2 ^ (below % 64)) (below % 64))
        (bit_at-lt (get_or between place 0) (below % 64)) (bit_at-pow_same (below % 64));
  }

  pub joined : IsJoined width below above before after
  joined = record {
    same_length = length-set between place word ∙ row.same_length;
    kept = λ i j h s. set_after i j (bit_after i j h) (kept_between i j h s);
    others = λ i j h n s. elim (set_from i j (bit_after i j h) s) [
      | inl e ↦ record { set = sym (other_bit i j h n) ∙ e }
      | inr e ↦ absurd (n e.0)
    ];
    taken = λ i h s. set_after i above (bit_after i above h)
        (second_one _ _ _ (joined_bit i h) (bit_at-lt (get_or before (above * width + i / 64) 0) (i % 64)) s.set);
    here = set_below (bit_after below above wide);
    comes_from = λ i h s. elim (set_from i above (bit_after i above h) s) [
      | inl e ↦ elim (one_or _ _ _ (joined_bit i h) (bit_at-lt (get_or before (above * width + i / 64) 0) (i % 64)) (bit_at-lt (get_or before (below * width + i / 64) 0) (i % 64)) e) [
        | inl a ↦ inl (record { set = a })
        | inr b ↦ inr (inl (record { set = b }))
      ]
      | inr e ↦ inr (inr e.1)
    ];
  }
