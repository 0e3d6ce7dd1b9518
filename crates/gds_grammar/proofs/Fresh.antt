-- A text that isn't in a list.
use Rattle.std.proofs.Common.{◌≡◌, ◌≢◌, ℕ, zero, suc, ◌+◌, ◌*◌, ◌^◌, ◌<◌, ◌≤◌, cond, inl, inr, eqb, List, [], ◌∷◌, length, get_or, drop, Option, Some, None, refl, sym, ap, ◌∙◌, subst, add-one, arith}
use Rattle.std.specs.List.{filter_map, cons_option, AllByRecursion}
use Rattle.std.proofs.lemmas.Bool.{cases_Bool, cases_lt, cond-true, cond-false, cond_both, eqb-true, eqb-false}
use Rattle.std.proofs.lemmas.Grind.{pow_more}

-- a text without its first letter, where that is the one
abbrev tail_of : ℕ → List ℕ → Option (List ℕ)
tail_of c [] = None
tail_of c (x ∷ xs) = cond (eqb x c) (Some xs) None

-- the texts that begin with the letter, without it
abbrev tails : ℕ → List (List ℕ) → List (List ℕ)
tails c names = filter_map (tail_of c) names

abbrev count : Option (List ℕ) → ℕ
count None = 0
count (Some x) = 1

length_cons : (o : Option (List ℕ)) (names : List (List ℕ)) → length (cons_option o names) ≡ count o + length names
length_cons None names = omega arith
length_cons (Some x) names = omega arith

-- no text begins with two letters
one_letter : (c d : ℕ) → c ≢ d → (name : List ℕ) → count (tail_of c name) + count (tail_of d name) ≤ 1
one_letter c d apart [] = omega arith
one_letter c d apart (x ∷ xs) =
    cond_both (eqb x c) (Some xs) None (λ o. count o + count (tail_of d (x ∷ xs)) ≤ 1)
    (λ e. cond_both (eqb x d) (Some xs) None (λ o. 1 + count o ≤ 1) (λ f. absurd (apart (sym (eqb-true x c e) ∙ eqb-true x d f))) (λ f. omega arith))
    (λ e. cond_both (eqb x d) (Some xs) None (λ o. 0 + count o ≤ 1) (λ f. omega arith) (λ f. omega arith))

fewer : (c d : ℕ) → c ≢ d → (names : List (List ℕ)) → length (tails c names) + length (tails d names) ≤ length names
fewer c d apart [] = omega arith
fewer c d apart (name ∷ names) =
    omega (arith, fewer c d apart names, one_letter c d apart name, length_cons (tail_of c name) (tails c names), length_cons (tail_of d name) (tails d names))

-- a text that is none of the tails isn't one of the texts with its letter before it
away : (c : ℕ) (text : List ℕ) (names : List (List ℕ)) → AllByRecursion (λ n. n ≢ text) (tails c names) → AllByRecursion (λ n. n ≢ c ∷ text) names
away c text [] h = tt
away c text ([] ∷ names) h = ((λ e. omega (arith, ap length e)), away c text names h)
away c text ((x ∷ xs) ∷ names) h =
    elim (cases_Bool (eqb x c)) [
      | inl e ↦
          let parts : AllByRecursion (λ n. n ≢ text) (xs ∷ tails c names) = subst (λ (o : Option (List ℕ)). AllByRecursion (λ n. n ≢ text) (cons_option o (tails c names))) (cond-true _ _ _ e) h in
          ((λ f. parts.0 (ap (drop 1) f)), away c text names parts.1)
      | inr e ↦
          let rest : AllByRecursion (λ n. n ≢ text) (tails c names) = subst (λ (o : Option (List ℕ)). AllByRecursion (λ n. n ≢ text) (cons_option o (tails c names))) (cond-false _ _ _ e) h in
          ((λ f. eqb-false x c e (ap (λ (l : List ℕ). get_or l 0 0) f)), away c text names rest)
    ]

-- a text of so many letters A or B that isn't in the list
pub record Fresh (k : ℕ) (names : List (List ℕ)) : Type 0 where
  pub text : List ℕ
  pub long : length text ≡ k
  pub letters : AllByRecursion (λ b. (65 ≤ b) × (b ≤ 66)) text
  pub new : AllByRecursion (λ n. n ≢ text) names

longer : (k c : ℕ) (names : List (List ℕ)) → 65 ≤ c → c ≤ 66 → Fresh k (tails c names) → Fresh (suc k) names
longer k c names low high f = record {
  text = c ∷ f.text;
  long = ap suc f.long;
  letters = ((low, high), f.letters);
  new = away c f.text names f.new;
}

-- there is one where the list is shorter than 2 ^ k
pub fresh : (k : ℕ) (names : List (List ℕ)) → length names < 2 ^ k → Fresh k names
fresh zero [] few = record { text = []; long = refl; letters = tt; new = tt }
fresh zero (name ∷ names) few = absurd (omega arith)
fresh (suc k) names few =
    let twice : 2 ^ suc k ≡ 2 ^ k * 2 = ap (λ (n : ℕ). 2 ^ n) (sym (add-one k)) ∙ pow_more 2 k in
    elim (cases_lt (length (tails 65 names)) (2 ^ k)) [
      | inl less ↦ longer k 65 names (omega arith) (omega arith) (fresh k (tails 65 names) less)
      | inr more ↦ longer k 66 names (omega arith) (omega arith) (fresh k (tails 66 names) (omega (arith, fewer 65 66 (λ e. omega arith) names)))
    ]
