-- The product of two small numbers, and the sum of the terms of a row.
use Rattle.std.proofs.Common.{◌≡◌, ℕ, suc, ◌-◌, ◌*◌, ◌^◌, ◌≤◌, ℤ, pos, negsuc, ◌+ℤ◌, ◌*ℤ◌, ◌≤ℤ◌, Bool, true, false, List, [], ◌∷◌, length, get_or, Option, refl, sym, ap, subst, subst₂, ◌∙◌, FitsSigned, to_z, of_z, arith}
use Rattle.std.specs.Bool.{MatchBool}
use lib.Signed.{le_z}
use mir.Syntax.{w64, w128}
use Rattle.std.proofs.lemmas.Int.{ints, to_z-of_z}
use Rattle.std.proofs.Math.Nat.{mul-le-mul}
use Rattle.rt_rows.specs.declared.row.Var.{Var}
use Rattle.rt_rows.specs.declared.row.Term.{Term}
use Rattle.rt_rows.specs.Rows.{term_value, sum_of_terms, MeetsRow}
use Rattle.rt_rows.specs.declared.row.Row.{Row}
use Rattle.rt_rows.specs.Known.{IsSmall, IsProduct}

product_bound : (m n : ℕ) → m ≤ 1000000000000000000 → n ≤ 1000000000000000000 → m * n ≤ 1000000000000000000000000000000000000
product_bound m n h g = mul-le-mul h g

pub small_product : (a b : ℤ) → IsSmall a → IsSmall b → IsProduct (a *ℤ b)
small_product (pos m) (pos n) h g = let k = product_bound m n (omega (arith, ints, h.high)) (omega (arith, ints, g.high)) in record { low = omega (arith, ints, k); high = omega (arith, ints, k) }
small_product (pos m) (negsuc n) h g =
    let k = product_bound m (suc n) (omega (arith, ints, h.high)) (omega (arith, ints, g.low)) in record { low = omega (arith, ints, k); high = omega (arith, ints, k) }
small_product (negsuc m) (pos n) h g =
    let k = product_bound (suc m) n (omega (arith, ints, h.low)) (omega (arith, ints, g.high)) in record { low = omega (arith, ints, k); high = omega (arith, ints, k) }
small_product (negsuc m) (negsuc n) h g =
    let k = product_bound (suc m) (suc n) (omega (arith, ints, h.low)) (omega (arith, ints, g.low)) in record { low = omega (arith, ints, k); high = omega (arith, ints, k) }

-- the sum of three terms
pub three_terms : (at : Var → ℤ) (terms : List (Option Term)) (d : Option Term) → length terms ≡ 3
    → sum_of_terms at terms ≡ (term_value at (get_or terms 0 d) +ℤ term_value at (get_or terms 1 d)) +ℤ term_value at (get_or terms 2 d)
three_terms at [] d e = absurd (omega (arith, e))
three_terms at (a ∷ []) d e = absurd (omega (arith, e))
three_terms at (a ∷ b ∷ []) d e = absurd (omega (arith, e))
three_terms at (a ∷ b ∷ c ∷ []) d e = omega (arith, ints)
three_terms at (a ∷ b ∷ c ∷ f ∷ rest) d e = absurd (omega (arith, e))

small_fits : (z : ℤ) → IsSmall z → FitsSigned w128 z
small_fits (pos n) h = record { sfits = omega (arith, ints, h.high) }
small_fits (negsuc n) h = record { sfits = omega (arith, ints, h.low) }

pub product_fits : (z : ℤ) → IsProduct z → FitsSigned w128 z
product_fits (pos n) h = record { sfits = omega (arith, ints, h.high) }
product_fits (negsuc n) h = record { sfits = omega (arith, ints, h.low) }

pub small_fits_64 : (z : ℤ) → IsSmall z → FitsSigned w64 z
small_fits_64 (pos n) h = record { sfits = omega (arith, ints, h.high) }
small_fits_64 (negsuc n) h = record { sfits = omega (arith, ints, h.low) }

-- what code gets where it multiplies them
abbrev stored : ℤ → ℤ
stored z = to_z w128 (of_z w128 z)

pub wide_product : (a b x y : ℤ) → a ≡ x → b ≡ y → IsSmall x → IsSmall y → IsProduct (stored (stored a *ℤ stored b))
wide_product a b x y e f h g =
    let first : stored a ≡ x = ap stored e ∙ to_z-of_z w128 x (small_fits x h) in
    let second : stored b ≡ y = ap stored f ∙ to_z-of_z w128 y (small_fits y g) in
    let product = small_product x y h g in
    subst IsProduct (sym ((λ i. stored (first i *ℤ second i)) ∙ to_z-of_z w128 (x *ℤ y) (product_fits (x *ℤ y) product))) product

within_fits : (z : ℤ) → negsuc (3 * 10 ^ 36 - 1) ≤ℤ z → z ≤ℤ pos (3 * 10 ^ 36) → FitsSigned w128 z
within_fits (pos n) h g = record { sfits = omega (arith, ints, g) }
within_fits (negsuc n) h g = record { sfits = omega (arith, ints, h) }

sum_fits : (u v : ℤ) → IsProduct u → IsProduct v → FitsSigned w128 (u +ℤ v)
sum_fits u v h g = within_fits (u +ℤ v) (omega (arith, ints)) (omega (arith, ints))

sums_fit : (u v w : ℤ) → IsProduct u → IsProduct v → IsProduct w → FitsSigned w128 ((u +ℤ v) +ℤ w)
sums_fit u v w h g k = within_fits ((u +ℤ v) +ℤ w) (omega (arith, ints)) (omega (arith, ints))

-- what it gets where it adds three of them
pub wide_sum : (u v w : ℤ) → IsProduct u → IsProduct v → IsProduct w → stored (stored (stored u +ℤ stored v) +ℤ stored w) ≡ (u +ℤ v) +ℤ w
wide_sum u v w h g k =
    let a = to_z-of_z w128 u (product_fits u h) in
    let b = to_z-of_z w128 v (product_fits v g) in
    let c = to_z-of_z w128 w (product_fits w k) in
    let ab : stored (stored u +ℤ stored v) ≡ u +ℤ v = (λ i. stored (a i +ℤ b i)) ∙ to_z-of_z w128 (u +ℤ v) (sum_fits u v h g) in
    (λ i. stored (ab i +ℤ c i)) ∙ to_z-of_z w128 ((u +ℤ v) +ℤ w) (sums_fit u v w h g k)

at_most_or_not : (x y : ℤ) (b : Bool) → b ≡ le_z x y → MatchBool b (x ≤ℤ y) (¬ (x ≤ℤ y))
at_most_or_not x y true e = grind (arith, ints)
at_most_or_not x y false e = λ h. grind (arith, ints)

meets_or_not : (at : Var → ℤ) (row : Row) (b : Bool) → MatchBool b (row.least ≤ℤ sum_of_terms at row.terms) (¬ (row.least ≤ℤ sum_of_terms at row.terms))
    → MatchBool b (MeetsRow at row) (¬ MeetsRow at row)
meets_or_not at row true h = record { holds = h }
meets_or_not at row false n = λ m. n m.holds

-- the comparison of the least value with the sum tells whether the row is met
pub tells : (at : Var → ℤ) (row : Row) (least sum : ℤ) → least ≡ row.least → sum ≡ sum_of_terms at row.terms → MatchBool (le_z least sum) (MeetsRow at row) (¬ MeetsRow at row)
tells at row least sum e f =
    subst₂ (λ x y. MatchBool (le_z x y) (MeetsRow at row) (¬ MeetsRow at row)) (sym e) (sym f)
    (meets_or_not at row (le_z row.least (sum_of_terms at row.terms)) (at_most_or_not row.least (sum_of_terms at row.terms) _ refl))
