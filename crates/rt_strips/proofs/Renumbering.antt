-- A permutation of a list gives each element a number of its own in the list that it came from.
use Rattle.std.proofs.Common.{◌≡◌, ◌≢◌, ℕ, ◌<◌, ◌==◌, cond, List, length, get_or, refl, sym, ap, subst, ◌∙◌, ◌⊎◌, arith}
use Rattle.std.proofs.lemmas.Bool.{cases_eq}
use Rattle.std.proofs.lemmas.Bool.Decides.{nat_tests}
use Rattle.std.proofs.lemmas.List.Edits.{Swapped, swapped_from_swap, length-swap}
use Rattle.std.proofs.lemmas.List.Sorted.{IsPermutation-keeps}
use Rattle.std.specs.List.{swap}
use Rattle.std.specs.List.Sorted.{IsPermutation}
use mathlib.Core.Logic.{inl, inr}

-- each element of ys has a number in xs, and no two have the same
pub record IsRenumbered {X : Type 0} (xs ys : List X) : Type 0 where
  pub count : length ys ≡ length xs
  pub number : ℕ → ℕ
  pub within : (k : ℕ) → k < length ys → number k < length xs
  pub distinct : (k m : ℕ) → number k ≡ number m → k ≡ m
  pub same : (k : ℕ) (d : X) → k < length ys → get_or ys k d ≡ get_or xs (number k) d

-- the number of the other one of two that are exchanged
abbrev exchange : ℕ → ℕ → ℕ → ℕ
exchange a b k = cond (k == a) b (cond (k == b) a k)

exchange_first : (a b : ℕ) → exchange a b a ≡ b
exchange_first a b = grind (arith, nat_tests)

exchange_second : (a b : ℕ) → exchange a b b ≡ a
exchange_second a b = grind (arith, nat_tests)

exchange_other : (a b k : ℕ) → k ≢ a → k ≢ b → exchange a b k ≡ k
exchange_other a b k h g = grind (arith, nat_tests)

exchange_within : (a b n k : ℕ) → a < n → b < n → k < n → exchange a b k < n
exchange_within a b n k h g l = grind (arith, nat_tests)

exchange_distinct : (a b k m : ℕ) → exchange a b k ≡ exchange a b m → k ≡ m
exchange_distinct a b k m h = grind (arith, nat_tests)

exchange_same : {X : Type 0} (f g : ℕ → X) (a b : ℕ) → Swapped f g a b → (k : ℕ) → (k ≡ a) ⊎ (k ≢ a) → (k ≡ b) ⊎ (k ≢ b) → g k ≡ f (exchange a b k)
exchange_same f g a b s k (inl e) h = ap g e ∙ s.0 ∙ ap f (sym (ap (exchange a b) e ∙ exchange_first a b))
exchange_same f g a b s k (inr n) (inl e) = ap g e ∙ s.1 ∙ ap f (sym (ap (exchange a b) e ∙ exchange_second a b))
exchange_same f g a b s k (inr n) (inr m) = s.2 k n m ∙ ap f (sym (exchange_other a b k n m))

more_renumbered : {X : Type 0} (xs l : List X) (a b : ℕ) → a < length l → b < length l → IsRenumbered xs l → IsRenumbered xs (swap l a b)
more_renumbered xs l a b h g before =
    let e = length-swap l a b in
    record {
      count = e ∙ before.count;
      number = λ k. before.number (exchange a b k);
      within = λ k in_list. before.within (exchange a b k) (exchange_within a b (length l) k h g (subst (λ n. k < n) e in_list));
      distinct = λ k m same. exchange_distinct a b k m (before.distinct (exchange a b k) (exchange a b m) same);
      same = λ k d in_list.
          exchange_same (λ n. get_or l n d) (λ n. get_or (swap l a b) n d) a b (swapped_from_swap l (swap l a b) a b d h g refl) k (cases_eq k a) (cases_eq k b)
          ∙ before.same (exchange a b k) d (exchange_within a b (length l) k h g (subst (λ n. k < n) e in_list));
    }

-- a permutation renumbers
pub renumbered : {X : Type 0} (xs ys : List X) → IsPermutation xs ys → IsRenumbered xs ys
renumbered xs ys p =
    IsPermutation-keeps xs (λ l. IsRenumbered xs l)
    (record { count = refl; number = λ k. k; within = λ k h. h; distinct = λ k m e. e; same = λ k d h. refl })
    (more_renumbered xs) ys p
