-- Cases on the order of two numbers.
use Rattle.std.proofs.Common.{◌≡◌, ℕ, ◌+◌, ◌<◌, ◌≤◌, ◌⊎◌, inl, inr, arith}
use Rattle.std.proofs.lemmas.Bool.{cases_lt, cases_order}

-- a number below the next one is below it or that one
pub below_or_at : (k i : ℕ) → k < i + 1 → (k < i) ⊎ (k ≡ i)
below_or_at k i h = elim (cases_lt k i) [ inl l ↦ inl l | inr l ↦ inr (omega arith) ]

-- the same, the last one first
pub last_or_before : (n k : ℕ) → k < n + 1 → (k ≡ n) ⊎ (k < n)
last_or_before n k h = grind (arith, h)

-- a number is below another or it isn't
pub by_lt_n : {P : Type 0} (a b : ℕ) → (a < b → P) → (b ≤ a → P) → P
by_lt_n {P} a b f g = elim (cases_order a b) [ inl e ↦ g (omega (arith, e)) | inr (inl h) ↦ f h | inr (inr h) ↦ g (omega (arith, h)) ]
