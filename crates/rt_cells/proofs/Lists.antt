-- What a mapped list and a filtered list contain.
use Rattle.std.proofs.Common.{◌≡◌, Bool, true, false, cond, List, [], ◌∷◌, map, filter, Contains, All, refl, ap, ◌∙◌, arith}
use Rattle.std.proofs.lemmas.List.{get_or-map, length-map}
use Rattle.std.proofs.lemmas.List.Elements.{All-nil, All-cons, All-map, All-weaker, All-filter, All-contains, All-contains_itself, filter_passes, Contains-get_or, Contains-append_right}

-- an element of a list is mapped to an element of the mapped list
pub mapped : {X Y : Type 0} (f : X → Y) (xs : List X) (x : X) → Contains xs x → Contains (map f xs) (f x)
mapped {X} {Y} f xs x c =
    (c.0, omega (arith, length-map xs f, c.1), get_or-map f xs c.0 x (f x) c.1 ∙ ap f c.2)

-- an element of a mapped list comes from an element of the list
pub mapped_from : {X Y : Type 0} (f : X → Y) (xs : List X) (y : Y) → Contains (map f xs) y → (x : X) × Contains xs x × (f x ≡ y)
mapped_from {X} {Y} f xs y c =
    All-contains (λ z. (x : X) × Contains xs x × (f x ≡ z)) (map f xs) y
    (All-map (λ z. (x : X) × Contains xs x × (f x ≡ z)) f xs
    (All-weaker (Contains xs) (λ x. (t : X) × Contains xs t × (f t ≡ f x)) (λ x m. (x, m, refl)) xs (All-contains_itself xs)))
    c

-- an element of a filtered list is one of the list that passes
pub filtered_from : {X : Type 0} (p : X → Bool) (xs : List X) (x : X) → Contains (filter p xs) x → Contains xs x × (p x ≡ true)
filtered_from {X} p xs x c = (
  All-contains (Contains xs) (filter p xs) x (All-filter p (Contains xs) xs (All-contains_itself xs)) c,
  All-contains (λ y. p y ≡ true) (filter p xs) x (filter_passes p xs) c,
)

kept_first : {X : Type 0} (b : Bool) (x : X) (xs : List X) → b ≡ true → Contains (cond b (x ∷ xs) xs) x
kept_first true x xs e = Contains-get_or (x ∷ xs) 0 x (omega arith)
kept_first false x xs e = cc

kept_later : {X : Type 0} (b : Bool) (y x : X) (xs : List X) → Contains xs x → Contains (cond b (y ∷ xs) xs) x
kept_later true y x xs c = Contains-append_right (y ∷ []) xs x c
kept_later false y x xs c = c

all_kept : {X : Type 0} (p : X → Bool) (xs : List X) → All (λ x. p x ≡ true → Contains (filter p xs) x) xs
all_kept {X} p [] = All-nil (λ x. p x ≡ true → Contains (filter p []) x)
all_kept {X} p (y ∷ ys) =
    All-cons (λ x. p x ≡ true → Contains (filter p (y ∷ ys)) x) y ys
    (kept_first (p y) y (filter p ys))
    (All-weaker (λ x. p x ≡ true → Contains (filter p ys) x) (λ x. p x ≡ true → Contains (filter p (y ∷ ys)) x)
    (λ x h e. kept_later (p y) y x (filter p ys) (h e)) ys (all_kept p ys))

-- an element that passes is one of the filtered list
pub filtered : {X : Type 0} (p : X → Bool) (xs : List X) (x : X) → Contains xs x → p x ≡ true → Contains (filter p xs) x
filtered p xs x c = All-contains (λ z. p z ≡ true → Contains (filter p xs) z) xs x (all_kept p xs) c
