-- Elements of a list by their number.
use Rattle.std.proofs.Common.{◌≡◌, ℕ, zero, suc, List, [], ◌∷◌, ◌++◌, Some, Contains, length, slice_get, refl, ap, ◌∙◌, ◌⊎◌, inl, inr, arith}
use Rattle.std.proofs.lemmas.Option.{none-some, same_Some, slice_get_within, slice_get-get_or, get_or_from_slice_get}

-- behind one more element what was in the list stays there
pub get_before : {X : Type 0} (xs : List X) (y : X) (i : ℕ) (x : X) → slice_get xs i ≡ Some x → slice_get (xs ++ y ∷ []) i ≡ Some x
get_before [] y i x e = absurd (none-some x e)
get_before (z ∷ xs) y zero x e = e
get_before (z ∷ xs) y (suc i) x e = get_before xs y i x e

-- the new element is at the end
pub get_end : {X : Type 0} (xs : List X) (y : X) → slice_get (xs ++ y ∷ []) (length xs) ≡ Some y
get_end [] y = refl
get_end (z ∷ xs) y = get_end xs y

-- an element was in the list, or it is the new one
pub before_or_end : {X : Type 0} (xs : List X) (y : X) (i : ℕ) (x : X) → slice_get (xs ++ y ∷ []) i ≡ Some x
    → (slice_get xs i ≡ Some x) ⊎ ((i ≡ length xs) × (y ≡ x))
before_or_end [] y zero x e = inr (refl, same_Some y x e)
before_or_end [] y (suc i) x e = absurd (none-some x e)
before_or_end (z ∷ xs) y zero x e = inl e
before_or_end (z ∷ xs) y (suc i) x e = step (before_or_end xs y i x e)
  where
    step : (slice_get xs i ≡ Some x) ⊎ ((i ≡ length xs) × (y ≡ x)) → (slice_get xs i ≡ Some x) ⊎ ((suc i ≡ suc (length xs)) × (y ≡ x))
    step (inl h) = inl h
    step (inr h) = inr (omega (arith, h.0), h.1)

-- what has a number in the list is contained in it, and what is contained has a number
pub contains_at : {X : Type 0} (xs : List X) (k : ℕ) (x : X) → slice_get xs k ≡ Some x → Contains xs x
contains_at xs k x e = (k, slice_get_within xs k x e, get_or_from_slice_get xs k x x e)

pub contained_at : {X : Type 0} (xs : List X) (x : X) → Contains xs x → (k : ℕ) × (slice_get xs k ≡ Some x)
contained_at xs x h = (h.0, slice_get-get_or xs h.0 x h.1 ∙ ap (λ y. Some y) h.2)
