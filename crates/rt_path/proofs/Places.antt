-- Rows of differences are the steps that the code makes of them.
use Rattle.std.proofs.Common.{◌≡◌, ℕ, zero, suc, ◌+◌, ◌-◌, ◌<◌, ◌≤◌, Bool, true, false, nat_lt, ℤ, pos, negsuc, neg_ℤ, ◌+ℤ◌, ◌-ℤ◌, List, [], ◌∷◌, Some, None, length, slice_get, refl, sym, ap, subst, ◌∙◌, arith}
use Rattle.std.proofs.lemmas.Int.{ints}
use Rattle.std.proofs.lemmas.Option.{none-some, same_Some}
use Rattle.rt_base.specs.declared.plane.Axis.{Axis}
use Rattle.rt_base.specs.declared.plane.Axis.TheVariants.{Across, Upwards}
use Rattle.rt_rows.specs.declared.name.Name.{Name}
use Rattle.rt_rows.specs.declared.row.Var.{Var}
use Rattle.rt_rows.specs.declared.row.Row.{Row}
use Rattle.rt_rows.specs.Rows.{at_least, at_most, beyond}
use Rattle.rt_rows.proofs.Rows.{at_least_meets, at_least_met, at_most_meets, at_most_met, beyond_meets, beyond_met}
use Rattle.rt_proofs.specs.Forms.{same_var, only_if}
use Rattle.rt_path.specs.Longest.{low, high, extent, IsOfAxis, IsNear, IsDifference}
use Rattle.rt_path.specs.Longest.IsOfAxis.{is_low, is_high, is_extent}
use Rattle.rt_path.specs.Longest.IsDifference.{bounds_below, bounds_above, keeps_beyond}
use Rattle.rt_path.specs.Chains.{IsArcOf}
use Rattle.rt_path.specs.Raises.{IsFit}
use Rattle.rt_path.specs.Steps.{strips_for, strips_for_terms, strips_for_rows, HasThreeTerms, place_of, side_at, var_at, step_for}

-- the variable at the place of a variable of the axis is that variable
nat_lt-yes : (k count : ℕ) → k < count → nat_lt k count ≡ true
nat_lt-yes k count h = grind (arith, h)

nat_lt-no : (k count : ℕ) → count ≤ k → nat_lt k count ≡ false
nat_lt-no k count h = grind (arith, h)

pub low_there : (axis : Axis) (count i : ℕ) → i < count → var_at axis count (2 + i) ≡ Some (low axis i)
low_there axis count i h =
    subst (λ k. var_at axis count k ≡ Some (low axis i)) two_more (ap (λ b. Some (side_at axis count i b)) (nat_lt-yes i count h))
  where
    two_more : suc (suc i) ≡ 2 + i
    two_more = omega arith

pub high_there : (axis : Axis) (count i : ℕ) → var_at axis count (2 + count + i) ≡ Some (high axis i)
high_there axis count i =
    subst (λ k. var_at axis count k ≡ Some (high axis i)) two_more
    (ap (λ b. Some (side_at axis count (count + i) b)) (nat_lt-no (count + i) count (omega arith)) ∙ ap (λ k. Some (high axis k)) back)
  where
    back : (count + i) - count ≡ i
    back = omega arith

    two_more : suc (suc (count + i)) ≡ 2 + count + i
    two_more = omega arith

-- the place of a side
pub place_low : (axis : Axis) (count i : ℕ) → place_of count (low axis i) ≡ 2 + i
place_low Across count i = refl
place_low Upwards count i = refl

pub place_high : (axis : Axis) (count i : ℕ) → place_of count (high axis i) ≡ 2 + count + i
place_high Across count i = refl
place_high Upwards count i = refl

pub place_extent : (axis : Axis) (count : ℕ) → place_of count (extent axis) ≡ 1
place_extent Across count = refl
place_extent Upwards count = refl

pub strips_low : (axis : Axis) (i : ℕ) → strips_for (low axis i) ≡ i + 1
strips_low Across i = refl
strips_low Upwards i = refl

pub strips_high : (axis : Axis) (i : ℕ) → strips_for (high axis i) ≡ i + 1
strips_high Across i = refl
strips_high Upwards i = refl

pub strips_extent : (axis : Axis) → strips_for (extent axis) ≡ 0
strips_extent Across = refl
strips_extent Upwards = refl

-- a variable of the axis has a place, and stands there
pub record IsPlaced (axis : Axis) (count : ℕ) (v : Var) : Type 0 where
  pub below : place_of count v < 2 + count + count
  pub there : var_at axis count (place_of count v) ≡ Some v

pub placed : (axis : Axis) (count : ℕ) (v : Var) → IsOfAxis axis v → strips_for v ≤ count → IsPlaced axis count v
placed axis count v (is_low i e) h =
    subst (λ w. IsPlaced axis count w) (sym e)
    (placed_low (omega (arith, subst (λ w. strips_for w ≤ count) e h, strips_low axis i)))
  where
    placed_low : i < count → IsPlaced axis count (low axis i)
    placed_low l = record {
      below = omega (arith, l, place_low axis count i);
      there = ap (λ p. var_at axis count p) (place_low axis count i) ∙ low_there axis count i l;
    }
placed axis count v (is_high i e) h =
    subst (λ w. IsPlaced axis count w) (sym e)
    (placed_high (omega (arith, subst (λ w. strips_for w ≤ count) e h, strips_high axis i)))
  where
    placed_high : i < count → IsPlaced axis count (high axis i)
    placed_high l = record {
      below = omega (arith, l, place_high axis count i);
      there = ap (λ p. var_at axis count p) (place_high axis count i) ∙ high_there axis count i;
    }
placed axis count v (is_extent e) h =
    subst (λ w. IsPlaced axis count w) (sym e) (record {
      below = omega (arith, place_extent axis count);
      there = ap (λ p. var_at axis count p) (place_extent axis count);
    })

-- the three forms between variables
pub arc_at_least : (v : Var) (n : ℤ) → IsArcOf (at_least v n) None (Some v) n
arc_at_least v n = record {
  arc = record { left = λ w. omega (arith, ints); right = refl };
  met = λ at h. omega (arith, ints, at_least_met at v n h);
  meets = λ at h. at_least_meets at v n (omega (arith, ints, h));
}

pub arc_at_most : (v : Var) (n : ℤ) → IsArcOf (at_most v n) (Some v) None (neg_ℤ n)
arc_at_most v n = record {
  arc = record { left = λ w. one_less (same_var w v); right = refl };
  met = λ at h. omega (arith, ints, at_most_met at v n h);
  meets = λ at h. at_most_meets at v n (omega (arith, ints, h));
}
  where
    one_less : (b : Bool) → only_if b (negsuc 0) +ℤ pos 0 ≡ pos 0 -ℤ only_if b (pos 1)
    one_less true = omega (arith, ints)
    one_less false = omega (arith, ints)

pub arc_beyond : (u v : Var) (n : ℤ) → IsArcOf (beyond u v n) (Some u) (Some v) n
arc_beyond u v n = record {
  arc = record { left = λ w. one_less (same_var w v) (same_var w u); right = refl };
  met = λ at h. omega (arith, ints, beyond_met at u v n h);
  meets = λ at h. beyond_meets at u v n (omega (arith, ints, h));
}
  where
    one_less : (a b : Bool) → only_if a (pos 1) +ℤ (only_if b (negsuc 0) +ℤ pos 0) ≡ only_if a (pos 1) -ℤ only_if b (pos 1)
    one_less a true = omega (arith, ints)
    one_less a false = omega (arith, ints)

-- the step of a row goes between its variables
pub record IsStepFor (axis : Axis) (count : ℕ) (named : Name × Row) : Type 0 where
  pub fit : IsFit (2 + count + count) (step_for count named)
  pub arc : IsArcOf named.1 (var_at axis count (step_for count named).tail) (var_at axis count (step_for count named).head) (step_for count named).by

near_neg : (n : ℤ) → IsNear n → IsNear (neg_ℤ n)
near_neg n near = record { not_far_down = omega (arith, ints, near.not_far_up); not_far_up = omega (arith, ints, near.not_far_down) }

module _ (axis : Axis) (count : ℕ) (name : Name) where
  for_at_least : (v : Var) (n : ℤ) → IsOfAxis axis v → IsNear n → strips_for v ≤ count → IsStepFor axis count (name, at_least v n)
  for_at_least v n of near h =
      let p = placed axis count v of h in
      record {
        fit = record { tail_below = omega arith; head_below = p.below; near = near };
        arc = subst (λ x. IsArcOf (at_least v n) None x n) (sym p.there) (arc_at_least v n);
      }

  for_at_most : (v : Var) (n : ℤ) → IsOfAxis axis v → IsNear n → strips_for v ≤ count → IsStepFor axis count (name, at_most v n)
  for_at_most v n of near h =
      let p = placed axis count v of h in
      record {
        fit = record { tail_below = p.below; head_below = omega arith; near = near_neg n near };
        arc = subst (λ x. IsArcOf (at_most v n) x None (neg_ℤ n)) (sym p.there) (arc_at_most v n);
      }

  for_beyond : (u v : Var) (n : ℤ) → IsOfAxis axis u → IsOfAxis axis v → IsNear n → strips_for u ≤ count → strips_for v ≤ count → IsStepFor axis count (name, beyond u v n)
  for_beyond u v n of_u of_v near h k =
      let p = placed axis count u of_u h in
      let q = placed axis count v of_v k in
      record {
        fit = record { tail_below = p.below; head_below = q.below; near = near };
        arc = subst (λ x. IsArcOf (beyond u v n) x (var_at axis count (place_of count v)) n) (sym p.there)
            (subst (λ y. IsArcOf (beyond u v n) (Some u) y n) (sym q.there) (arc_beyond u v n));
      }

  pub step_is : (row : Row) → IsDifference axis row → strips_for_terms row.terms ≤ count → IsStepFor axis count (name, row)
  step_is row (bounds_below v n of near e) h =
      subst (λ r. IsStepFor axis count (name, r)) (sym e) (for_at_least v n of near (omega (arith, subst (λ r. strips_for_terms r.terms ≤ count) e h)))
  step_is row (bounds_above v n of near e) h =
      subst (λ r. IsStepFor axis count (name, r)) (sym e) (for_at_most v n of near (omega (arith, subst (λ r. strips_for_terms r.terms ≤ count) e h)))
  step_is row (keeps_beyond u v n of_u of_v near e) h =
      let k : strips_for_terms (beyond u v n).terms ≤ count = subst (λ r. strips_for_terms r.terms ≤ count) e h in
      subst (λ r. IsStepFor axis count (name, r)) (sym e) (for_beyond u v n of_u of_v near (omega (arith, k)) (omega (arith, k)))

-- the rows of a list are rows of few enough strips
pub strips_within : (rows : List (Name × Row)) (i : ℕ) (named : Name × Row) → slice_get rows i ≡ Some named → strips_for_terms named.1.terms ≤ strips_for_rows rows
strips_within [] i named e = absurd (none-some named e)
strips_within (first ∷ rows) zero named e =
    let is : first ≡ named = same_Some first named e in
    omega (arith, ap (λ x. strips_for_terms x.1.terms) is)
strips_within (first ∷ rows) (suc i) named e = omega (arith, strips_within rows i named e)

-- and a difference has three terms
pub three_terms : (axis : Axis) (name : Name) (row : Row) → IsDifference axis row → HasThreeTerms (name, row)
three_terms axis name row (bounds_below v n of near e) = record { three = ap (λ r. length r.terms) e }
three_terms axis name row (bounds_above v n of near e) = record { three = ap (λ r. length r.terms) e }
three_terms axis name row (keeps_beyond u v n of_u of_v near e) = record { three = ap (λ r. length r.terms) e }
