use Rattle.std.proofs.Common.{◌≡◌, ◌^◌, ℤ, pos, neg_ℤ, ◌*ℤ◌, ◌-ℤ◌, ◌≤ℤ◌, to_z, of_z, w64, FitsSigned, w16, rules, ap, ◌∙◌, subst, sym, arith}
use Rattle.std.specs.Int.Signed.{quot_z}
use Rattle.std.proofs.lemmas.Int.{ints}
use Rattle.gds_flat.proofs.BoundsOfSteps.{part_is, quotient_is, part_low, part_high}
use Rattle.gds_flat.proofs.placing.part.Goals as goal

way_is : (d w : ℤ) → w ≡ d → neg_ℤ (pos (2 ^ 32)) ≤ℤ w → w ≤ℤ pos (2 ^ 32) → to_z w64 (of_z w64 w) ≡ d
way_is d w e l h = omega (arith, ints)

-- the number of parts, as it is passed
count_is : (c r : ℤ) → FitsSigned w16 c → r ≡ to_z w16 (of_z w16 c) → to_z w64 (of_z w64 r) ≡ c
count_is c r f e = omega (arith, ints, f, e)

value : (c d w r : ℤ) → FitsSigned w16 c → pos 1 ≤ℤ c → (p : ℤ) × (c *ℤ p ≡ d) → w ≡ d → neg_ℤ (pos (2 ^ 32)) ≤ℤ w → w ≤ℤ pos (2 ^ 32) → r ≡ to_z w16 (of_z w16 c)
    → to_z w64 (of_z w64 (quot_z (to_z w64 (of_z w64 w)) (to_z w64 (of_z w64 r)))) ≡ quot_z d c
value c d w r f some whole e low high is =
    part_is c d (to_z w64 (of_z w64 w)) (to_z w64 (of_z w64 r)) some whole (omega (arith, ints)) (omega (arith, ints)) (way_is d w e low high) (count_is c r f is)

pub returns-clause-value : goal.returns-clause-value
returns-clause-value c =
    let f : FitsSigned w16 c.args.count.now = search rules in
    let v = value c.args.count.now (c.args.to.now -ℤ c.args.from.now) c.way.result c.from.result f c.requires.some c.requires.whole c.way.ensures.value c.way.ensures.low c.way.ensures.high
    c.from.ensures in
    ap (λ q. c.args.count.now *ℤ q) v ∙ quotient_is c.args.count.now (c.args.to.now -ℤ c.args.from.now) c.requires.whole.0 c.requires.whole.1

pub returns-clause-low : goal.returns-clause-low
returns-clause-low c =
    let f : FitsSigned w16 c.args.count.now = search rules in
    let d = c.args.to.now -ℤ c.args.from.now in
    let v = value c.args.count.now d c.way.result c.from.result f c.requires.some c.requires.whole c.way.ensures.value c.way.ensures.low c.way.ensures.high c.from.ensures in
    let P : ℤ → Type 0 = λ w. neg_ℤ (pos (2 ^ 32)) ≤ℤ w in
    let Q : ℤ → Type 0 = λ q. neg_ℤ (pos (2 ^ 32)) ≤ℤ q in
    let R : ℤ → Type 0 = λ w. w ≤ℤ pos (2 ^ 32) in
    subst Q (sym v) (part_low c.args.count.now (quot_z d c.args.count.now) d (2 ^ 32) c.requires.some (quotient_is c.args.count.now d c.requires.whole.0 c.requires.whole.1)
    (subst P c.way.ensures.value c.way.ensures.low) (subst R c.way.ensures.value c.way.ensures.high))

pub returns-clause-high : goal.returns-clause-high
returns-clause-high c =
    let f : FitsSigned w16 c.args.count.now = search rules in
    let d = c.args.to.now -ℤ c.args.from.now in
    let v = value c.args.count.now d c.way.result c.from.result f c.requires.some c.requires.whole c.way.ensures.value c.way.ensures.low c.way.ensures.high c.from.ensures in
    let P : ℤ → Type 0 = λ w. neg_ℤ (pos (2 ^ 32)) ≤ℤ w in
    let R : ℤ → Type 0 = λ w. w ≤ℤ pos (2 ^ 32) in
    subst R (sym v) (part_high c.args.count.now (quot_z d c.args.count.now) d (2 ^ 32) c.requires.some (quotient_is c.args.count.now d c.requires.whole.0 c.requires.whole.1)
    (subst P c.way.ensures.value c.way.ensures.low) (subst R c.way.ensures.value c.way.ensures.high))
