-- Quotients by a positive number, with remainders that aren't negative.
use Rattle.std.proofs.Common.{◌≡◌, ℕ, zero, suc, ◌+◌, ◌-◌, ◌*◌, ◌/◌, ◌%◌, ◌<◌, ◌≤◌, ℤ, pos, negsuc, ◌+ℤ◌, ◌-ℤ◌, ◌*ℤ◌, ◌≤ℤ◌, ◌<ℤ◌, sym, ap, subst, ◌∙◌, arith, FitsSigned, to_z, of_z}
use Rattle.std.proofs.lemmas.Int.{ints, to_z-of_z}
use Rattle.std.specs.Int.{int_div_euclid, int_rem_euclid}
use Rattle.std.specs.Int.RustNames.{unsigned_abs}
use mir.Syntax.{w128}
use Rattle.rt_cells.proofs.Times.{times_lt}
use Rattle.rt_frac.specs.declared.frac.Frac.{Frac}
use Rattle.rt_frac.specs.Fracs.{IsFloor, IsCeiling}

low_natural : (a b : ℕ) → 0 < b → b * (a / b) ≤ a
low_natural a b h = omega arith

high_natural : (a b : ℕ) → 0 < b → a < b * (a / b + 1)
high_natural a b h = omega arith

one_up : (r : ℕ) → negsuc (suc r) +ℤ pos 1 ≡ negsuc r
one_up r = omega (arith, ints)

neg_below : (q a b : ℕ) → b * q ≤ a → negsuc a <ℤ (pos b *ℤ (negsuc q +ℤ pos 1))
neg_below zero a b h = omega (arith, ints)
neg_below (suc r) a b h = subst (λ z. negsuc a <ℤ (pos b *ℤ z)) (sym (one_up r)) (omega (arith, ints, h))

low : (num den : ℤ) → pos 0 <ℤ den → (den *ℤ int_div_euclid num den) ≤ℤ num
low (pos a) (pos b) h = let l = low_natural a b (omega (arith, ints, h)) in omega (arith, ints, l)
low (negsuc a) (pos b) h = let l = high_natural a b (omega (arith, ints, h)) in omega (arith, ints, l)
low (pos a) (negsuc b) h = absurd (omega (arith, ints, h))
low (negsuc a) (negsuc b) h = absurd (omega (arith, ints, h))

high : (num den : ℤ) → pos 0 <ℤ den → num <ℤ (den *ℤ (int_div_euclid num den +ℤ pos 1))
high (pos a) (pos b) h = let l = high_natural a b (omega (arith, ints, h)) in omega (arith, ints, l)
high (negsuc a) (pos b) h = neg_below (a / b) a b (low_natural a b (omega (arith, ints, h)))
high (pos a) (negsuc b) h = absurd (omega (arith, ints, h))
high (negsuc a) (negsuc b) h = absurd (omega (arith, ints, h))

whole_natural : (a b : ℕ) → 0 < b → a % b ≡ 0 → b * (a / b) ≡ a
whole_natural a b h e = omega arith

last_natural : (a b : ℕ) → 0 < b → b - 1 - a % b ≡ 0 → b * (a / b + 1) ≡ a + 1
last_natural a b h e = omega arith

whole : (num den : ℤ) → pos 0 <ℤ den → int_rem_euclid num den ≡ pos 0 → num ≤ℤ (den *ℤ int_div_euclid num den)
whole (pos a) (pos b) h e = let l = whole_natural a b (omega (arith, ints, h)) (omega (arith, ints, e)) in omega (arith, ints, l)
whole (negsuc a) (pos b) h e = let l = last_natural a b (omega (arith, ints, h)) (omega (arith, ints, e)) in omega (arith, ints, l)
whole (pos a) (negsuc b) h e = absurd (omega (arith, ints, h))
whole (negsuc a) (negsuc b) h e = absurd (omega (arith, ints, h))

part_natural : (a b : ℕ) → 0 < b → (a % b ≡ 0 → ⊥) → b * (a / b) < a
part_natural a b h n = omega (arith, n)

more_natural : (a b : ℕ) → 0 < b → (b - 1 - a % b ≡ 0 → ⊥) → a + 1 < b * (a / b + 1)
more_natural a b h n = omega (arith, n)

part : (num den : ℤ) → pos 0 <ℤ den → (int_rem_euclid num den ≡ pos 0 → ⊥) → (den *ℤ int_div_euclid num den) <ℤ num
part (pos a) (pos b) h n = let l = part_natural a b (omega (arith, ints, h)) (λ e. n (ap pos e)) in omega (arith, ints, l)
part (negsuc a) (pos b) h n = let l = more_natural a b (omega (arith, ints, h)) (λ e. n (ap pos e)) in omega (arith, ints, l)
part (pos a) (negsuc b) h n = absurd (omega (arith, ints, h))
part (negsuc a) (negsuc b) h n = absurd (omega (arith, ints, h))

-- what code gets
abbrev stored : ℤ → ℤ
stored z = to_z w128 (of_z w128 z)

pub quotient_is : (num den q : ℤ) → FitsSigned w128 num → FitsSigned w128 den → FitsSigned w128 q → q ≡ int_div_euclid (stored num) (stored den) → stored q ≡ int_div_euclid num den
quotient_is num den q f g h e = to_z-of_z w128 q h ∙ e ∙ (λ i. int_div_euclid (to_z-of_z w128 num f i) (to_z-of_z w128 den g i))

pub rest_is : (num den r : ℤ) → FitsSigned w128 num → FitsSigned w128 den → r ≡ int_rem_euclid (stored num) (stored den) → r ≡ int_rem_euclid num den
rest_is num den r f g e = e ∙ (λ i. int_rem_euclid (to_z-of_z w128 num f i) (to_z-of_z w128 den g i))

pub zero_is : (r : ℤ) → FitsSigned w128 r → of_z w128 r ≡ 0 → r ≡ pos 0
zero_is (pos n) f e = ap pos e
zero_is (negsuc n) f e = absurd (omega (arith, f.sfits, e))

pub some_size : (z : ℤ) → FitsSigned w128 z → (of_z w128 z ≡ 0 → ⊥) → 0 < unsigned_abs z
some_size (pos n) f h = omega (arith, h)
some_size (negsuc n) f h = omega arith

pub floor_is : (f : Frac) (q : ℤ) → pos 0 <ℤ f.den → q ≡ int_div_euclid f.num f.den → IsFloor f q
floor_is f q h e = subst (IsFloor f) (sym e) (record { not_above = low f.num f.den h; next_above = high f.num f.den h })

some : (a : ℤ) → pos 0 <ℤ a → pos 1 ≤ℤ a
some a h = omega (arith, ints)

one_before : (q : ℤ) → (q -ℤ pos 1) <ℤ q
one_before q = omega (arith, ints)

forth_and_back : (q : ℤ) → q ≡ (q +ℤ pos 1) -ℤ pos 1
forth_and_back q = omega (arith, ints)

at_most_below : (a b c : ℤ) → a <ℤ b → b ≤ℤ c → a <ℤ c
at_most_below a b c h g = omega (arith, ints)

at_most : (a b : ℤ) → a <ℤ b → a ≤ℤ b
at_most a b h = omega (arith, ints)

pub ceiling_whole : (f : Frac) (q : ℤ) → pos 0 <ℤ f.den → q ≡ int_div_euclid f.num f.den → int_rem_euclid f.num f.den ≡ pos 0 → IsCeiling f q
ceiling_whole f q h e r =
    let d = int_div_euclid f.num f.den in
    subst (IsCeiling f) (sym e) (record {
      not_below = whole f.num f.den h r;
      one_below = at_most_below (f.den *ℤ (d -ℤ pos 1)) (f.den *ℤ d) f.num (times_lt f.den (d -ℤ pos 1) d (some f.den h) (one_before d)) (low f.num f.den h);
    })

pub ceiling_part : (f : Frac) (q : ℤ) → pos 0 <ℤ f.den → q ≡ int_div_euclid f.num f.den → (int_rem_euclid f.num f.den ≡ pos 0 → ⊥) → IsCeiling f (q +ℤ pos 1)
ceiling_part f q h e n =
    let d = int_div_euclid f.num f.den in
    subst (λ z. IsCeiling f (z +ℤ pos 1)) (sym e) (record {
      not_below = at_most f.num (f.den *ℤ (d +ℤ pos 1)) (high f.num f.den h);
      one_below = subst (λ z. (f.den *ℤ z) <ℤ f.num) (forth_and_back d) (part f.num f.den h n);
    })
