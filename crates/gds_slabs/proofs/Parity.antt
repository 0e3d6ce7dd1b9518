-- Parity as a truth value.
use Rattle.std.proofs.Common.{◌≡◌, ℕ, ◌+◌, ◌%◌, Bool, true, false, not, cond, List, [], ◌∷◌, refl, sym, ◌∙◌, ap, subst, arith, count_by}
use Rattle.std.proofs.lemmas.List.Sums.{sum_by-cons}
use Rattle.std.proofs.lemmas.List.Sorted.{sum_by-IsPermutation}
use Rattle.std.specs.List.Sorted.{IsPermutation}

-- exactly one of the two
abbrev pub xor : Bool → Bool → Bool
xor true b = not b
xor false b = b

pub xor_assoc : (a b c : Bool) → xor (xor a b) c ≡ xor a (xor b c)
xor_assoc true true c = elim c as (λ v. v ≡ not (not v)) [ true ↦ refl | false ↦ refl ]
xor_assoc true false c = refl
xor_assoc false b c = refl

pub xor_comm : (a b : Bool) → xor a b ≡ xor b a
xor_comm true true = refl
xor_comm true false = refl
xor_comm false true = refl
xor_comm false false = refl

pub xor_false : (b : Bool) → xor b false ≡ b
xor_false true = refl
xor_false false = refl

pub xor_self : (b : Bool) → xor b b ≡ false
xor_self true = refl
xor_self false = refl

pub xor_left_comm : (a b c : Bool) → xor a (xor b c) ≡ xor b (xor a c)
xor_left_comm a b c = sym (xor_assoc a b c) ∙ ap (λ v. xor v c) (xor_comm a b) ∙ xor_assoc b a c

-- b once more undoes it
pub xor_twice : (b c : Bool) → xor b (xor b c) ≡ c
xor_twice b c = sym (xor_assoc b b c) ∙ ap (λ v. xor v c) (xor_self b)

-- an odd number of the tests pass
abbrev pub parity : {X : Type 0} → (X → Bool) → List X → Bool
parity f [] = false
parity f (x ∷ xs) = xor (f x) (parity f xs)

-- the truth value and the number of the tests that pass agree
abbrev pub Agree : Bool → ℕ → Type 0
Agree true n = n % 2 ≡ 1
Agree false n = n % 2 ≡ 0

one_more : (b c : Bool) (n : ℕ) → Agree c n → Agree (xor b c) (cond b 1 0 + n)
one_more true true n h = omega arith
one_more true false n h = omega arith
one_more false true n h = omega arith
one_more false false n h = omega arith

pub parity_agrees : {X : Type 0} (f : X → Bool) (xs : List X) → Agree (parity f xs) (count_by f xs)
parity_agrees f [] = refl
parity_agrees f (x ∷ xs) = rw (sum_by-cons (λ v. cond (f v) 1 0) x xs) (one_more (f x) (parity f xs) (count_by f xs) (parity_agrees f xs))

one_answer : (b c : Bool) (n : ℕ) → Agree b n → Agree c n → b ≡ c
one_answer true true n h k = refl
one_answer true false n h k = absurd (omega arith)
one_answer false true n h k = absurd (omega arith)
one_answer false false n h k = refl

-- the order of the list doesn't matter
pub parity-IsPermutation : {X : Type 0} (f : X → Bool) (xs ys : List X) → IsPermutation xs ys → parity f ys ≡ parity f xs
parity-IsPermutation f xs ys p =
    one_answer (parity f ys) (parity f xs) (count_by f xs)
    (subst (Agree (parity f ys)) (sum_by-IsPermutation (λ v. cond (f v) 1 0) xs ys p) (parity_agrees f ys))
    (parity_agrees f xs)

-- an odd number of the tests pass exactly where the count is odd
pub odd_from_parity : {X : Type 0} (f : X → Bool) (xs : List X) → parity f xs ≡ true → count_by f xs % 2 ≡ 1
odd_from_parity f xs e = subst (λ b. Agree b (count_by f xs)) e (parity_agrees f xs)

pub parity_from_odd : {X : Type 0} (f : X → Bool) (xs : List X) → count_by f xs % 2 ≡ 1 → parity f xs ≡ true
parity_from_odd f xs h = one_answer (parity f xs) true (count_by f xs) (parity_agrees f xs) h
