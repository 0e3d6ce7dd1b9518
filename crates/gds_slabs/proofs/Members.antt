-- Members of lists by recursion, against membership by place.
use Rattle.std.proofs.Common.{◌≡◌, ℕ, zero, suc, ◌<◌, ◌⊎◌, List, [], ◌∷◌, ◌++◌, length, get_or, Contains, All, refl, inl, inr, arith}
use Rattle.std.proofs.lemmas.List.Elements.{All-nil, All-cons, All-contains}

-- x is one of the elements
abbrev pub Among : {X : Type 0} → List X → X → Type 0
Among [] x = ⊥
Among (y ∷ ys) x = (y ≡ x) ⊎ Among ys x

pub contains_from_among : {X : Type 0} (xs : List X) (x : X) → Among xs x → Contains xs x
contains_from_among [] x h = elim h [ ]
contains_from_among (y ∷ ys) x (inl e) = (0, omega arith, e)
contains_from_among (y ∷ ys) x (inr h) = let c = contains_from_among ys x h in (suc c.0, omega arith, c.2)

at_place : {X : Type 0} (xs : List X) (x : X) (k : ℕ) → k < length xs → get_or xs k x ≡ x → Among xs x
at_place [] x k h e = absurd (omega arith)
at_place (y ∷ ys) x zero h e = inl e
at_place (y ∷ ys) x (suc k) h e = inr (at_place ys x k (omega arith) e)

pub among_from_contains : {X : Type 0} (xs : List X) (x : X) → Contains xs x → Among xs x
among_from_contains xs x c = at_place xs x c.0 c.1 c.2

pub among_append_left : {X : Type 0} (xs ys : List X) (x : X) → Among xs x → Among (xs ++ ys) x
among_append_left [] ys x h = elim h [ ]
among_append_left (y ∷ xs) ys x (inl e) = inl e
among_append_left (y ∷ xs) ys x (inr h) = inr (among_append_left xs ys x h)

pub among_append_right : {X : Type 0} (xs ys : List X) (x : X) → Among ys x → Among (xs ++ ys) x
among_append_right [] ys x h = h
among_append_right (y ∷ xs) ys x h = inr (among_append_right xs ys x h)

pub among_append_cases : {X : Type 0} (xs ys : List X) (x : X) → Among (xs ++ ys) x → Among xs x ⊎ Among ys x
among_append_cases [] ys x h = inr h
among_append_cases (y ∷ xs) ys x (inl e) = inl (inl e)
among_append_cases (y ∷ xs) ys x (inr h) = elim (among_append_cases xs ys x h) [ inl k ↦ inl (inr k) | inr k ↦ inr k ]

-- what holds of each member holds of all
pub all_from_among : {X : Type 0} (P : X → Type 0) (xs : List X) → ((x : X) → Among xs x → P x) → All P xs
all_from_among P [] f = All-nil P
all_from_among P (x ∷ xs) f = All-cons P x xs (f x (inl refl)) (all_from_among P xs (λ y h. f y (inr h)))

pub among_all : {X : Type 0} (P : X → Type 0) (xs : List X) (x : X) → All P xs → Among xs x → P x
among_all P xs x h k = All-contains P xs x h (contains_from_among xs x k)
