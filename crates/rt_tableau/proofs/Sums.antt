-- Points that differ in one place, and sums of terms at points.
use Rattle.std.proofs.Common.{◌≡◌, ℕ, suc, ◌+◌, ◌*◌, ◌<◌, Bool, true, false, ◌==◌, if◌then◌else◌, ℤ, pos, ◌+ℤ◌, ◌*ℤ◌, List, [], ◌∷◌, Option, Some, None, refl, sym, ap, ◌∙◌, arith}
use Rattle.std.proofs.lemmas.Bool.{eqb-true, eq-eqb}
use Rattle.std.proofs.lemmas.Int.{ints}
use Rattle.rt_rows.specs.declared.row.Term.{Term}
use Rattle.rt_rows.specs.Rows.{sum_of_terms}
use Rattle.rt_cells.proofs.Times.{times_sum}
use Rattle.rt_proofs.proofs.Products.{times_comm, times_assoc}
use Rattle.rt_solved.specs.Systems.{column_of}
use Rattle.rt_tableau.specs.Starts.{HaveColumns}
use Rattle.rt_tableau.proofs.StartLines.{column_below}

-- the point with another number in one place
pub with_own : ℕ → (ℕ → ℤ) → ℤ → ℕ → ℤ
with_own own y a s = if s == own then a else y s

pub own_there : (own : ℕ) (y : ℕ → ℤ) (a : ℤ) → with_own own y a own ≡ a
unfolding with_own
own_there own y a = rw (eq-eqb own own refl) refl

pub others_there : (own : ℕ) (y : ℕ → ℤ) (a : ℤ) (s : ℕ) → (s ≡ own → ⊥) → with_own own y a s ≡ y s
unfolding with_own
others_there own y a s n = by_test (s == own) refl
  where
    by_test : (b : Bool) → (s == own) ≡ b → (if b then a else y s) ≡ y s
    by_test true e = absurd (n (eqb-true s own e))
    by_test false e = refl

-- the terms at values that are the same at their columns
pub sum_same : (strips : ℕ) (f g : ℕ → ℤ) (terms : List (Option Term)) → HaveColumns strips terms → ((j : ℕ) → j < 2 * strips + 2 → f (suc j) ≡ g (suc j))
    → sum_of_terms (λ var. f (suc (column_of strips var))) terms ≡ sum_of_terms (λ var. g (suc (column_of strips var))) terms
sum_same strips f g [] have same = refl
sum_same strips f g (None ∷ terms) have same = ap (λ z. pos 0 +ℤ z) (sum_same strips f g terms have same)
sum_same strips f g (Some term ∷ terms) have same =
    λ i. term.times *ℤ same (column_of strips term.var) (column_below strips term.var have.0.below) i +ℤ sum_same strips f g terms have.1 same i

-- terms at so many times the numbers
pub sum_scaled : (strips : ℕ) (y : ℤ) (f : ℕ → ℤ) (terms : List (Option Term)) → sum_of_terms (λ var. y *ℤ f (suc (column_of strips var))) terms ≡ y *ℤ sum_of_terms (λ var. f (suc (column_of strips var))) terms
sum_scaled strips y f [] = none_of y
  where
    none_of : (z : ℤ) → pos 0 ≡ z *ℤ pos 0
    none_of z = omega (arith, ints)
sum_scaled strips y f (None ∷ terms) = nothing_first y _ _ (sum_scaled strips y f terms)
  where
    nothing_first : (y a b : ℤ) → a ≡ y *ℤ b → pos 0 +ℤ a ≡ y *ℤ (pos 0 +ℤ b)
    nothing_first y a b e = let same : pos 0 +ℤ b ≡ b = omega (arith, ints) in omega (arith, ints, e, ap (λ z. y *ℤ z) same)
sum_scaled strips y f (Some term ∷ terms) = both y term.times (f (suc (column_of strips term.var))) _ _ (sum_scaled strips y f terms)
  where
    both : (y t v a b : ℤ) → a ≡ y *ℤ b → t *ℤ (y *ℤ v) +ℤ a ≡ y *ℤ (t *ℤ v +ℤ b)
    both y t v a b e =
        let turn : t *ℤ (y *ℤ v) ≡ y *ℤ (t *ℤ v) = sym (times_assoc t y v) ∙ ap (λ z. z *ℤ v) (times_comm t y) ∙ times_assoc y t v in
        omega (arith, ints, e, turn, times_sum y (t *ℤ v) b)
