-- Finitely many numbers: a search, a bound, and what is decided of strips.
use Rattle.std.proofs.Common.{◌≡◌, ℕ, zero, suc, ◌<◌, ℤ, pos, ◌≤ℤ◌, ◌<ℤ◌, ◌⊎◌, sym, subst, arith, inl, inr}
use Rattle.std.proofs.lemmas.Int.{ints, clamps, by_lt_z}
use Rattle.std.specs.Int.{int_max}
use Rattle.rt_cells.specs.Line.{Within}
use Rattle.rt_cells.specs.Rectangles.{Rectangle}
use Rattle.rt_family.specs.Strips.{ShareColumn, StandsOn, IsListed}

-- a fact, or that it isn't so
abbrev pub OrNot : Type 0 → Type 0
OrNot P = P ⊎ (¬ P)

split_last : (k n : ℕ) → k < suc n → (k ≡ n) ⊎ (k < n)
split_last k n h = grind (arith, h)

-- a number below n with the property, or none has it
pub search_below : (P : ℕ → Type 0) → ((k : ℕ) → OrNot (P k)) → (n : ℕ) → ((k : ℕ) × P k) ⊎ ((k : ℕ) → k < n → ¬ P k)
search_below P test zero = inr (λ k h _. absurd (omega (arith, h)))
search_below P test (suc n) =
    elim (test n) [
      | inl p ↦ inl (n, p)
      | inr none ↦ elim (search_below P test n) [
        | inl found ↦ inl found
        | inr before ↦ inr (λ k h p. elim (split_last k n h) [ inl e ↦ none (subst P e p) | inr l ↦ before k l p ])
      ]
    ]

bound_more : (h t b : ℤ) → b ≤ℤ h → b ≤ℤ int_max h t
bound_more h t b k = omega (arith, ints, clamps)

bound_last : (h t : ℤ) → t ≤ℤ int_max h t
bound_last h t = omega (arith, ints, clamps)

-- no value at a number below n is above the bound
pub bound_below : (f : ℕ → ℤ) → (n : ℕ) → (bound : ℤ) × ((k : ℕ) → k < n → f k ≤ℤ bound)
bound_below f zero = (pos 0, λ k h. absurd (omega (arith, h)))
bound_below f (suc n) =
    let b = bound_below f n in (
      int_max b.0 (f n),
      λ k h. elim (split_last k n h) [
        | inl e ↦ subst (λ t. f t ≤ℤ int_max b.0 (f n)) (sym e) (bound_last b.0 (f n))
        | inr l ↦ bound_more b.0 (f n) (f k) (b.1 k l)
      ],
    )

clash : (a b : ℤ) → a <ℤ b → b ≤ℤ a → ⊥
clash a b h k = omega (arith, ints)

differ : (a b : ℤ) → a <ℤ b → a ≡ b → ⊥
differ a b h e = omega (arith, ints)

differ_back : (a b : ℤ) → b <ℤ a → a ≡ b → ⊥
differ_back a b h e = omega (arith, ints)

equal : (a b : ℤ) → b ≤ℤ a → a ≤ℤ b → a ≡ b
equal a b h k = omega (arith, ints)

pub below_or_not : (a b : ℤ) → OrNot (a <ℤ b)
below_or_not a b = by_lt_z a b (λ l. inl l) (λ l. inr (λ m. clash a b m l))

pub at_most_or_not : (a b : ℤ) → OrNot (a ≤ℤ b)
at_most_or_not a b = by_lt_z b a (λ l. inr (λ m. clash b a l m)) (λ l. inl l)

pub equal_or_not : (a b : ℤ) → OrNot (a ≡ b)
equal_or_not a b = by_lt_z a b (λ l. inr (differ a b l)) (λ l. by_lt_z b a (λ m. inr (differ_back a b m)) (λ m. inl (equal a b l m)))

-- both of two facts, or not
pub both_or_not : {P Q : Type 0} → OrNot P → OrNot Q → OrNot (P × Q)
both_or_not {P} {Q} (inl p) (inl q) = inl (p, q)
both_or_not {P} {Q} (inl p) (inr q) = inr (λ h. q h.1)
both_or_not {P} {Q} (inr p) _ = inr (λ h. p h.0)

-- a fact that says the same as another one is decided with it
pub decided_as : {P Q : Type 0} → (P → Q) → (Q → P) → OrNot P → OrNot Q
decided_as {P} {Q} to from (inl p) = inl (to p)
decided_as {P} {Q} to from (inr p) = inr (λ q. p (from q))

pub within_or_not : (low high x : ℤ) → OrNot (Within low high x)
within_or_not low high x =
    decided_as (λ h. record { from = h.0; to = h.1 }) (λ (w : Within low high x). (w.from, w.to)) (both_or_not (at_most_or_not low x) (below_or_not x high))

shares_column_or_not : (a b : Rectangle) → OrNot (ShareColumn a b)
shares_column_or_not a b =
    decided_as (λ h. record { first = h.0; second = h.1 }) (λ (w : ShareColumn a b). (w.first, w.second)) (both_or_not (below_or_not a.left b.right) (below_or_not b.left a.right))

-- one strip stands on another, or not
pub stands_or_not : (member : ℕ → Type 0) (box : ℕ → Rectangle) (count : ℕ) → IsListed member count → (i j : ℕ) → OrNot (StandsOn member box i j)
stands_or_not member box count listed i j =
    decided_as (λ h. record { lower = h.0.0; upper = h.0.1; adjoin = h.1.0; over = h.1.1 })
    (λ (s : StandsOn member box i j). ((s.lower, s.upper), (s.adjoin, s.over)))
    (both_or_not (both_or_not (listed.decided i) (listed.decided j)) (both_or_not (equal_or_not (box i).top (box j).bottom) (shares_column_or_not (box i) (box j))))
