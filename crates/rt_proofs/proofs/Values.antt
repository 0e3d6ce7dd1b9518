-- Values and coefficients of linear forms: sums, multiples, and that forms with equal coefficients have equal values.
use Rattle.std.proofs.Common.{◌≡◌, ℕ, zero, suc, ◌≤◌, Bool, true, false, ◌==◌, ℤ, pos, negsuc, ◌+ℤ◌, ◌*ℤ◌, List, [], ◌∷◌, ◌++◌, length, refl, sym, ap, subst, ◌∙◌, arith}
use Rattle.std.proofs.lemmas.Int.{ints}
use Rattle.std.proofs.lemmas.Bool.{and_parts, eqb-true, eq-eqb, and_from}
use Rattle.rt_cells.proofs.Times.{times_sum}
use Rattle.rt_proofs.proofs.Products.{times_comm, times_assoc}
use Rattle.rt_rows.specs.declared.row.Var.{Var}
use Rattle.rt_rows.specs.declared.row.Var.TheVariants.{L, R, B, T, Width, Height, Axis}
use Rattle.rt_rows.specs.declared.row.Term.{Term}
use Rattle.rt_proofs.specs.Forms.{kind_of, strip_of, same_var, value, only_if, coefficient, scale}

var_of : ℕ → ℕ → Var
var_of zero i = L i
var_of (suc zero) i = R i
var_of (suc (suc zero)) i = B i
var_of (suc (suc (suc zero))) i = T i
var_of (suc (suc (suc (suc zero)))) i = Width
var_of (suc (suc (suc (suc (suc zero))))) i = Height
var_of (suc (suc (suc (suc (suc (suc k)))))) i = Axis

back_from_parts : (v : Var) → var_of (kind_of v) (strip_of v) ≡ v
unfolding var_of
back_from_parts (L i) = refl
back_from_parts (R i) = refl
back_from_parts (B i) = refl
back_from_parts (T i) = refl
back_from_parts Width = refl
back_from_parts Height = refl
back_from_parts Axis = refl

-- what the test calls one variable is one
pub same-true : (v w : Var) → same_var v w ≡ true → v ≡ w
same-true v w e =
    let parts : (kind_of v ≡ kind_of w) × (strip_of v ≡ strip_of w) = equal_parts (and_parts (kind_of v == kind_of w) (strip_of v == strip_of w) e) in
    sym (back_from_parts v) ∙ ap (λ k. var_of k (strip_of v)) parts.0 ∙ ap (λ i. var_of (kind_of w) i) parts.1 ∙ back_from_parts w
  where
    equal_parts : ((kind_of v == kind_of w) ≡ true) × ((strip_of v == strip_of w) ≡ true) → (kind_of v ≡ kind_of w) × (strip_of v ≡ strip_of w)
    equal_parts h = (eqb-true _ _ h.0, eqb-true _ _ h.1)

-- a variable is itself
pub same_self : (v : Var) → same_var v v ≡ true
same_self v = and_from (kind_of v == kind_of v) (strip_of v == strip_of v) (eq-eqb _ _ refl) (eq-eqb _ _ refl)

-- a product of a sum
pub sum_times : (a b c : ℤ) → (a +ℤ b) *ℤ c ≡ (a *ℤ c) +ℤ (b *ℤ c)
sum_times a b c = times_comm (a +ℤ b) c ∙ times_sum c a b ∙ ap (λ z. z +ℤ (c *ℤ b)) (times_comm c a) ∙ ap (λ z. (a *ℤ c) +ℤ z) (times_comm c b)

-- the value of two forms together
pub value-append : (at : Var → ℤ) (ts us : List Term) → value at (ts ++ us) ≡ value at ts +ℤ value at us
value-append at [] us = omega (arith, ints)
value-append at (t ∷ ts) us = omega (arith, ints, value-append at ts us)

-- the coefficients of two forms together
pub coefficient-append : (v : Var) (ts us : List Term) → coefficient v (ts ++ us) ≡ coefficient v ts +ℤ coefficient v us
coefficient-append v [] us = omega (arith, ints)
coefficient-append v (t ∷ ts) us = omega (arith, ints, coefficient-append v ts us)

times_none : (k : ℤ) → k *ℤ pos 0 ≡ pos 0
times_none k = omega (arith, ints)

-- the value of a multiple
pub value-scale : (at : Var → ℤ) (k : ℤ) (ts : List Term) → value at (scale k ts) ≡ k *ℤ value at ts
value-scale at k [] = sym (times_none k)
value-scale at k (t ∷ ts) =
    omega (arith, ints, value-scale at k ts, times_assoc k t.times (at t.var), times_sum k (t.times *ℤ at t.var) (value at ts))

only_if-times : (b : Bool) (k n : ℤ) → only_if b (k *ℤ n) ≡ k *ℤ only_if b n
only_if-times true k n = refl
only_if-times false k n = sym (times_none k)

-- the coefficients of a multiple
pub coefficient-scale : (v : Var) (k : ℤ) (ts : List Term) → coefficient v (scale k ts) ≡ k *ℤ coefficient v ts
coefficient-scale v k [] = sym (times_none k)
coefficient-scale v k (t ∷ ts) =
    omega (arith, ints, coefficient-scale v k ts, only_if-times (same_var v t.var) k t.times, times_sum k (only_if (same_var v t.var) t.times) (coefficient v ts))

-- the terms of other variables
unless : Bool → Term → List Term → List Term
unless true t ts = ts
unless false t ts = t ∷ ts

without : Var → List Term → List Term
without v [] = []
without v (t ∷ ts) = unless (same_var v t.var) t (without v ts)

-- the value is that of the variable and that of the rest
value_split : (at : Var → ℤ) (v : Var) (ts : List Term) → value at ts ≡ (coefficient v ts *ℤ at v) +ℤ value at (without v ts)
unfolding without unless
value_split at v [] = omega (arith, ints)
value_split at v (t ∷ ts) = step (value_split at v ts) (same_var v t.var) refl
  where
    step : value at ts ≡ (coefficient v ts *ℤ at v) +ℤ value at (without v ts) → (b : Bool) → same_var v t.var ≡ b
        → (t.times *ℤ at t.var) +ℤ value at ts ≡ ((only_if b t.times +ℤ coefficient v ts) *ℤ at v) +ℤ value at (unless b t (without v ts))
    step h true e =
        omega (arith, ints, h, sum_times t.times (coefficient v ts) (at v), ap (λ w. t.times *ℤ at w) (same-true v t.var e))
    step h false e = omega (arith, ints, h, sum_times (pos 0) (coefficient v ts) (at v))

coefficient_gone : (v : Var) (ts : List Term) → coefficient v (without v ts) ≡ pos 0
unfolding without unless
coefficient_gone v [] = refl
coefficient_gone v (t ∷ ts) = step (coefficient_gone v ts) (same_var v t.var) refl
  where
    step : coefficient v (without v ts) ≡ pos 0 → (b : Bool) → same_var v t.var ≡ b → coefficient v (unless b t (without v ts)) ≡ pos 0
    step h true e = h
    step h false e = rw e (omega (arith, ints, h))

coefficient_kept : (v w : Var) (ts : List Term) → same_var w v ≡ false → coefficient w (without v ts) ≡ coefficient w ts
unfolding without unless
coefficient_kept v w [] other = refl
coefficient_kept v w (t ∷ ts) other = step (coefficient_kept v w ts other) (same_var v t.var) refl
  where
    step : coefficient w (without v ts) ≡ coefficient w ts → (b : Bool) → same_var v t.var ≡ b
        → coefficient w (unless b t (without v ts)) ≡ only_if (same_var w t.var) t.times +ℤ coefficient w ts
    step h true e =
        let gone : same_var w t.var ≡ false = ap (λ u. same_var w u) (sym (same-true v t.var e)) ∙ other in
        rw gone (omega (arith, ints, h))
    step h false e = ap (λ z. only_if (same_var w t.var) t.times +ℤ z) h

without_short : (v : Var) (ts : List Term) → length (without v ts) ≤ length ts
unfolding without unless
without_short v [] = omega arith
without_short v (t ∷ ts) = step (without_short v ts) (same_var v t.var)
  where
    step : length (without v ts) ≤ length ts → (b : Bool) → length (unless b t (without v ts)) ≤ suc (length ts)
    step h true = omega (arith, h)
    step h false = omega (arith, h)

still_none : (v w : Var) (ts : List Term) → ((u : Var) → same_var u v ≡ false → coefficient u ts ≡ pos 0) → coefficient w (without v ts) ≡ pos 0
still_none v w ts h = step (same_var w v) refl
  where
    step : (b : Bool) → same_var w v ≡ b → coefficient w (without v ts) ≡ pos 0
    step true e = subst (λ u. coefficient u (without v ts) ≡ pos 0) (sym (same-true w v e)) (coefficient_gone v ts)
    step false e = coefficient_kept v w ts e ∙ h w e

value_nothing_within : (at : Var → ℤ) (n : ℕ) (ts : List Term) → length ts ≤ n → ((v : Var) → coefficient v ts ≡ pos 0) → value at ts ≡ pos 0
value_nothing_within at n [] short h = refl
value_nothing_within at zero (t ∷ ts) short h = absurd (omega (arith, short))
value_nothing_within at (suc n) (t ∷ ts) short h =
    let rest : value at (without t.var ts) ≡ pos 0 = value_nothing_within at n (without t.var ts) (omega (arith, short, without_short t.var ts)) (λ w. still_none t.var w ts (λ u e. others u e (h u))) in
    let here : t.times +ℤ coefficient t.var ts ≡ pos 0 = first (h t.var) in
    omega (arith, ints, rest, value_split at t.var ts, sum_times t.times (coefficient t.var ts) (at t.var), ap (λ z. z *ℤ at t.var) here)
  where
    others : (u : Var) → same_var u t.var ≡ false → only_if (same_var u t.var) t.times +ℤ coefficient u ts ≡ pos 0 → coefficient u ts ≡ pos 0
    others u e k = omega (arith, ints, sym (ap (λ b. only_if b t.times +ℤ coefficient u ts) e) ∙ k)

    first : only_if (same_var t.var t.var) t.times +ℤ coefficient t.var ts ≡ pos 0 → t.times +ℤ coefficient t.var ts ≡ pos 0
    first k = sym (ap (λ b. only_if b t.times +ℤ coefficient t.var ts) (same_self t.var)) ∙ k

-- a form without coefficients is worth nothing
pub value_nothing : (at : Var → ℤ) (ts : List Term) → ((v : Var) → coefficient v ts ≡ pos 0) → value at ts ≡ pos 0
value_nothing at ts h = value_nothing_within at (length ts) ts (omega arith) h

-- forms with equal coefficients have equal values
pub value_alike : (at : Var → ℤ) (ts us : List Term) → ((v : Var) → coefficient v ts ≡ coefficient v us) → value at ts ≡ value at us
value_alike at ts us h =
    let none : value at (ts ++ scale (negsuc 0) us) ≡ pos 0 = value_nothing at (ts ++ scale (negsuc 0) us)
    (λ v. omega (arith, ints, coefficient-append v ts (scale (negsuc 0) us), coefficient-scale v (negsuc 0) us, h v)) in
    omega (arith, ints, none, value-append at ts (scale (negsuc 0) us), value-scale at (negsuc 0) us)
