-- Entries of lists after one more, or after one is set.
use Rattle.std.proofs.Common.{◌≡◌, ◌≢◌, ℕ, zero, suc, List, [], ◌∷◌, Some, slice_get, refl, sym, ap, subst, ◌∙◌, ◌⊎◌, inl, inr, ⊎_elim}
use Rattle.std.proofs.Math.ListN.{set}
use Rattle.std.proofs.lemmas.Bool.{cases_eq}

pub set_here : {X : Type 0} (xs : List X) (i : ℕ) (x y : X) → slice_get xs i ≡ Some y → slice_get (set xs i x) i ≡ Some x
set_here [] i x y e = cc
set_here (z ∷ xs) zero x y e = refl
set_here (z ∷ xs) (suc i) x y e = set_here xs i x y e

set_there : {X : Type 0} (xs : List X) (i j : ℕ) (x : X) → j ≢ i → slice_get (set xs i x) j ≡ slice_get xs j
set_there [] i j x ne = refl
set_there (z ∷ xs) zero zero x ne = absurd (ne refl)
set_there (z ∷ xs) zero (suc j) x ne = refl
set_there (z ∷ xs) (suc i) zero x ne = refl
set_there (z ∷ xs) (suc i) (suc j) x ne = set_there xs i j x (λ e. ne (ap suc e))

-- an entry after one is set: the one that is set, or an old one
pub set_entry : {X : Type 0} (xs : List X) (i j : ℕ) (x old y : X) → slice_get xs i ≡ Some old → slice_get (set xs i x) j ≡ Some y
    → ((j ≡ i) × (x ≡ y)) ⊎ ((j ≢ i) × (slice_get xs j ≡ Some y))
set_entry xs i j x old y was now =
    ⊎_elim
    (λ e. let here = set_here xs i x old was in
    let P : ℕ → Type 0 = λ n. slice_get (set xs i x) n ≡ Some y in
    let there : slice_get (set xs i x) i ≡ Some y = subst P e now in
    let same : x ≡ y = cc in inl (e, same))
    (λ ne. inr (ne, sym (set_there xs i j x ne) ∙ now))
    (cases_eq j i)

pub set_kept : {X : Type 0} (xs : List X) (i j : ℕ) (x y : X) → j ≢ i → slice_get xs j ≡ Some y → slice_get (set xs i x) j ≡ Some y
set_kept xs i j x y ne was = set_there xs i j x ne ∙ was

-- two places with different entries
pub places_differ : {X : Type 0} (xs : List X) (i j : ℕ) (x y : X) → slice_get xs i ≡ Some x → slice_get xs j ≡ Some y → x ≢ y → i ≢ j
places_differ xs i j x y a b ne e =
    let P : ℕ → Type 0 = λ n. slice_get xs n ≡ Some x in
    let c : slice_get xs j ≡ Some x = subst P e a in
    let same : x ≡ y = cc in ne same
