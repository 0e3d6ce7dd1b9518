-- The numbers of an added row's line.
use Rattle.std.proofs.Common.{◌≡◌, ℕ, suc, ◌+◌, ◌<◌, ◌≤◌, ℤ, pos, neg_ℤ, ◌+ℤ◌, ◌*ℤ◌, List, [], ◌∷◌, ◌++◌, length, refl, sym, ap, subst, ◌∙◌, inl, inr, to_z, of_z, length-append, arith}
use Rattle.std.proofs.Math.ListN.{get_or-eq_default}
use Rattle.std.proofs.Math.Seq.{get_or-append_seam}
use Rattle.std.proofs.lemmas.Bool.{cases_lt}
use Rattle.std.proofs.lemmas.Int.{ints}
use Rattle.std.proofs.lemmas.List.{get_or_append_left}
use mir.Syntax.{w64, w128}
use Rattle.rt_rows.specs.Known.{IsSmall}
use Rattle.rt_tableau.specs.Numbers.{number_of, AreSmall, IsWide, IsSmallOver}
use Rattle.rt_tableau.specs.Added.{added_right, IsAddedLine}
use Rattle.rt_tableau.proofs.Combined.{small_read}
use Rattle.rt_tableau.proofs.Quotients.{wide_stored}

-- a number of the line at its place
pub record IsAddedNumber (rest : List ℤ) (over times right : ℤ) (own s : ℕ) (number : ℤ) : Type 0 where
  pub small : IsSmall number
  pub at_right : s ≡ 0 → number ≡ right
  pub at_own : s ≡ own + 1 → number ≡ over
  pub other : 0 < s → (s ≡ own + 1 → ⊥) → number ≡ times *ℤ number_of rest s

-- what the loop keeps: the numbers so far
pub record AreAddedSoFar (rest : List ℤ) (over times right : ℤ) (own : ℕ) (numbers : List ℤ) (i : ℕ) : Type 0 where
  pub one_each : length numbers ≡ i
  pub each : (s : ℕ) → s < i → IsAddedNumber rest over times right own s (number_of numbers s)

added_further : (rest : List ℤ) (over times right : ℤ) (own : ℕ) (numbers : List ℤ) (i : ℕ) (number : ℤ) → AreAddedSoFar rest over times right own numbers i → IsAddedNumber rest over times right own i number
    → AreAddedSoFar rest over times right own (numbers ++ number ∷ []) (i + 1)
added_further rest over times right own numbers i number so is = record { one_each = length-append numbers (number ∷ []) ∙ ap (λ n. n + 1) so.one_each; each = each_next }
  where
    each_next : (s : ℕ) → s < i + 1 → IsAddedNumber rest over times right own s (number_of (numbers ++ number ∷ []) s)
    each_next s h =
        elim (cases_lt s i) [
          | inl l ↦ subst (IsAddedNumber rest over times right own s) (sym (get_or_append_left numbers (number ∷ []) (pos 0) s (omega (arith, l, so.one_each)))) (so.each s l)
          | inr g ↦ last (omega (arith, g, h))
        ]
      where
        last : s ≡ i → IsAddedNumber rest over times right own s (number_of (numbers ++ number ∷ []) s)
        last e =
            subst (λ t. IsAddedNumber rest over times right own t (number_of (numbers ++ number ∷ []) t)) (sym e)
            (subst (IsAddedNumber rest over times right own i) (sym (ap (number_of (numbers ++ number ∷ [])) (sym so.one_each) ∙ get_or-append_seam numbers number [] (pos 0))) is)

-- a turn of the loop, as code makes it
pub added_turn : (rest : List ℤ) (over times right : ℤ) (own : ℕ) (numbers next : List ℤ) (i : ℕ) (number : ℤ) → AreAddedSoFar rest over times right own numbers i → IsSmall number
    → (i ≡ 0 → number ≡ right) → (i ≡ own + 1 → number ≡ over) → (0 < i → (i ≡ own + 1 → ⊥) → number ≡ times *ℤ number_of rest i) → next ≡ numbers ++ to_z w64 (of_z w64 number) ∷ []
    → AreAddedSoFar rest over times right own next (i + 1)
added_turn rest over times right own numbers next i number so small a b c e =
    let same : to_z w64 (of_z w64 number) ≡ number = small_read number number small refl in
    subst (λ xs. AreAddedSoFar rest over times right own xs (i + 1)) (sym (e ∙ ap (λ z. numbers ++ z ∷ []) same))
    (added_further rest over times right own numbers i number so (record { small = small; at_right = a; at_own = b; other = c }))

one_time : (a b : ℤ) → a ≡ pos 1 *ℤ b → b ≡ a
one_time a b e = omega (arith, ints, e)

nothing_small : IsSmall (pos 0)
nothing_small = record { low = omega (arith, ints); high = omega (arith, ints) }

added_at_last : (rest : List ℤ) (over times least right value : ℤ) (own : ℕ) (numbers : List ℤ) (i : ℕ) → AreAddedSoFar rest over times right own numbers i → i ≤ own + 2 → own + 2 ≤ i
    → value ≡ added_right least times over rest → IsSmallOver 1 value right → IsAddedLine own least times over rest numbers
added_at_last rest over times least right value own numbers i so h g e is = record {
  long = so.one_each ∙ omega (arith, h, g);
  small = record { each = small_each };
  right = (so.each 0 (omega (arith, g))).at_right refl ∙ one_time value right is.is ∙ e;
  own_is = (so.each (suc own) (omega (arith, g))).at_own (omega arith);
  others = λ s k l. (so.each s (omega (arith, l, g))).other k (λ f. omega (arith, f, l));
}
  where
    small_each : (s : ℕ) → IsSmall (number_of numbers s)
    small_each s =
        elim (cases_lt s i) [
          | inl l ↦ (so.each s l).small
          | inr k ↦ subst IsSmall (sym (get_or-eq_default numbers (pos 0) (omega (arith, k, so.one_each)))) nothing_small
        ]

-- the right side that code computes
pub right_is : (rest : List ℤ) (over times least r value : ℤ) → AreSmall rest → r ≡ number_of rest 0 → value ≡ neg_ℤ least *ℤ over +ℤ times *ℤ to_z w64 (of_z w64 r) → IsWide value
    → to_z w128 (of_z w128 value) ≡ added_right least times over rest
right_is rest over times least r value small e f wide = wide_stored value wide ∙ f ∙ ap (λ z. neg_ℤ least *ℤ over +ℤ times *ℤ z) (small_read (number_of rest 0) r (small.each 0) e)

pub added_finished : (rest : List ℤ) (over times least right value : ℤ) (own : ℕ) (numbers : List ℤ) (i : ℕ) → AreAddedSoFar rest over times (to_z w64 (of_z w64 right)) own numbers i → i ≤ own + 2 → own + 2 ≤ i
    → value ≡ added_right least times over rest → IsSmallOver 1 value right → IsAddedLine own least times over rest numbers
added_finished rest over times least right value own numbers i so h g e is =
    added_at_last rest over times least right value own numbers i (subst (λ z. AreAddedSoFar rest over times z own numbers i) (small_read right right is.small refl) so) h g e is
