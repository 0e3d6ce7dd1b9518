-- Whole steps from one coordinate to another.
use Rattle.std.proofs.Common.{◌≡◌, ◌≢◌, ℕ, ◌%◌, Bool, true, false, nat_eq, MatchBool, ℤ, pos, negsuc, ◌-ℤ◌, ◌*ℤ◌, ◌≤ℤ◌, neg_ℤ, unsigned_abs, refl, sym, ap, ◌∙◌, inr, arith}
use Rattle.std.specs.Int.RustNames.{int_div, int_rem}
use Rattle.std.proofs.Math.IntN.{*ℤ_comm}
use Rattle.std.proofs.Math.Nat.{mul-mod_right}
use Rattle.std.proofs.lemmas.Int.{ints, quot-rem, unsigned_abs-mul}
use Rattle.std.proofs.lemmas.Bool.Decides.{nat_tests}
use Rattle.rt_base.specs.declared.plane.Point.{Point}
use Rattle.gds_flat.specs.Elements.{LeadTo, NoneLeads}

pub rem_none : (d c : ℤ) → unsigned_abs d % unsigned_abs c ≡ 0 → int_rem d c ≡ pos 0
rem_none (pos a) c even = ap pos even
rem_none (negsuc a) c even = ap (λ n. neg_ℤ (pos n)) even

leads : (c d : ℤ) → unsigned_abs d % unsigned_abs c ≡ 0 → (step : ℤ) × (c *ℤ step ≡ d)
leads c d even =
    let r = rem_none d c even in
    let q = quot-rem d c in
    let e = *ℤ_comm c (int_div d c) in
    (int_div d c, omega (arith, ints, q, r, e))

none_leads : (c d : ℤ) → unsigned_abs d % unsigned_abs c ≢ 0 → (step : ℤ) → c *ℤ step ≢ d
none_leads c d odd step e =
    odd (ap (λ x. unsigned_abs x % unsigned_abs c) (sym e) ∙ ap (λ m. m % unsigned_abs c) (unsigned_abs-mul c step)
    ∙ mul-mod_right (unsigned_abs c) (unsigned_abs step))

by_test : (b : Bool) (c d : ℤ) (n : ℕ) → n ≡ unsigned_abs d % unsigned_abs c → nat_eq n 0 ≡ b
    → MatchBool b ((step : ℤ) × (c *ℤ step ≡ d)) ((step : ℤ) → c *ℤ step ≢ d)
by_test true c d n is test = let none : n ≡ 0 = grind (arith, nat_tests) in leads c d (sym is ∙ none)
by_test false c d n is test = none_leads c d (λ e. let none : n ≡ 0 = is ∙ e in grind (arith, nat_tests))

pub leads_by : (c d : ℤ) (a b : ℕ) → a ≡ unsigned_abs d → b ≡ unsigned_abs c → MatchBool (nat_eq (a % b) 0) ((step : ℤ) × (c *ℤ step ≡ d)) ((step : ℤ) → c *ℤ step ≢ d)
leads_by c d a b p q = by_test (nat_eq (a % b) 0) c d (a % b) (ap (λ n. n % b) p ∙ ap (λ n. unsigned_abs d % n) q) refl

-- both coordinates
pub leads_both : (b : Bool) (c : ℤ) (from to : Point) → pos 1 ≤ℤ c → (step : ℤ) × (c *ℤ step ≡ to.x -ℤ from.x)
    → MatchBool b ((step : ℤ) × (c *ℤ step ≡ to.y -ℤ from.y)) ((step : ℤ) → c *ℤ step ≢ to.y -ℤ from.y)
    → MatchBool b ((step : ℤ × ℤ) × LeadTo c step from to) (NoneLeads c from to)
leads_both true c from to some x y = ((x.0, y.0), record { some = some; across = x.1; upwards = y.1 })
leads_both false c from to some x y = inr (inr y)
