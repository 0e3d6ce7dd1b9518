-- Two lists in order with the same elements are one list.
use Rattle.std.proofs.Common.{◌≡◌, zero, suc, List, [], ◌∷◌, refl, sym, subst, ◌∙◌, ◌⊎◌, inl, inr, arith}
use Rattle.std.specs.Prelude.{All, AllPairs, Contains}
use Rattle.std.proofs.lemmas.List.Elements.{All-contains}

contains_here : {X : Type 0} (x : X) (xs : List X) → Contains (x ∷ xs) x
contains_here x xs = (0, omega arith, refl)

contains_later : {X : Type 0} (x : X) (xs : List X) (p : X) → Contains xs p → Contains (x ∷ xs) p
contains_later x xs p c = (suc c.0, omega (arith, c.1), c.2)

contains_cases : {X : Type 0} (x : X) (xs : List X) (p : X) → Contains (x ∷ xs) p → (x ≡ p) ⊎ Contains xs p
contains_cases x xs p (zero, h, e) = inl e
contains_cases x xs p (suc k, h, e) = inr (k, omega (arith, h), e)

contains_none : {X : Type 0} (p : X) → Contains [] p → ⊥
contains_none {X} p c = omega (arith, c.1)

first_before : {X : Type 0} (R : X → X → Type 0) (x : X) (xs : List X) → AllPairs R (x ∷ xs) → All (R x) xs
first_before R x xs pairs k d h = pairs 0 (suc k) d (omega arith) (omega (arith, h))

rest_in_order : {X : Type 0} (R : X → X → Type 0) (x : X) (xs : List X) → AllPairs R (x ∷ xs) → AllPairs R xs
rest_in_order R x xs pairs i j d h g = pairs (suc i) (suc j) d (omega (arith, h)) (omega (arith, g))

module _ {X : Type 0} (R : X → X → Type 0) (never_back : (x y : X) → R x y → R y x → ⊥) where
  -- the first elements of two lists in order with the same elements are one
  firsts : (x : X) (xs : List X) (y : X) (ys : List X) → AllPairs R (x ∷ xs) → AllPairs R (y ∷ ys) → Contains (y ∷ ys) x → Contains (x ∷ xs) y → x ≡ y
  firsts x xs y ys p q c d =
      elim (contains_cases y ys x c) [
        | inl e ↦ sym e
        | inr later ↦ elim (contains_cases x xs y d) [
          | inl e ↦ e
          | inr other ↦ absurd (never_back x y (All-contains (R x) xs y (first_before R x xs p) other) (All-contains (R y) ys x (first_before R y ys q) later))
        ]
      ]

  -- an element of the one list behind its first is one of the other behind its first
  rests : (x : X) (xs : List X) (y : X) (ys : List X) → AllPairs R (x ∷ xs) → x ≡ y → ((p : X) → Contains (x ∷ xs) p → Contains (y ∷ ys) p)
      → (p : X) → Contains xs p → Contains ys p
  rests x xs y ys order e there p c =
      elim (contains_cases y ys p (there p (contains_later x xs p c))) [
        | inl f ↦ absurd (let after = All-contains (R x) xs p (first_before R x xs order) c in
            let self = subst (λ q. R x q) (sym (e ∙ f)) after in never_back x x self self)
        | inr d ↦ d
      ]

  pub one_list : (xs ys : List X) → AllPairs R xs → AllPairs R ys → ((p : X) → Contains xs p → Contains ys p) → ((p : X) → Contains ys p → Contains xs p) → xs ≡ ys
  one_list [] [] p q there back = refl
  one_list [] (y ∷ ys) p q there back = absurd (contains_none y (back y (contains_here y ys)))
  one_list (x ∷ xs) [] p q there back = absurd (contains_none x (there x (contains_here x xs)))
  one_list (x ∷ xs) (y ∷ ys) p q there back =
      let e = firsts x xs y ys p q (there x (contains_here x xs)) (back y (contains_here y ys)) in
      let rest = one_list xs ys (rest_in_order R x xs p) (rest_in_order R y ys q)
      (rests x xs y ys p e there) (rests y ys x xs q (sym e) back) in
      λ i. e i ∷ rest i
