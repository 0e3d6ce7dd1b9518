-- Whether a node may have better positions, and which are kept, as code finds it.
use Rattle.std.proofs.Common.{◌≡◌, ℕ, ◌*◌, ◌^◌, ◌<◌, ◌≤◌, ℤ, pos, ◌-ℤ◌, ◌*ℤ◌, ◌≤ℤ◌, ◌<ℤ◌, neg_ℤ, Bool, true, false, List, Option, Some, None, refl, sym, subst, subst₂, ◌∙◌, inl, inr, to_z, of_z, arith, MatchBool}
use Rattle.std.proofs.lemmas.Int.{ints, to_z-of_z, fits_signed_from_abs}
use Rattle.std.specs.Int.RustNames.{unsigned_abs}
use mir.Syntax.{w64, w128}
use lib.Signed.{lt_z}
use Rattle.rt_rows.specs.Known.{IsSmall}
use Rattle.rt_rows.proofs.Products.{small_product}
use Rattle.rt_cells.proofs.Times.{one_less}
use Rattle.rt_solved.specs.Systems.{columns_of, variables_of}
use Rattle.rt_tableau.specs.States.{State, IsWholeEntry, IsGoalRow, IsGoalFree, IsSmallTable}
use Rattle.rt_tableau.proofs.Combined.{wide_read}
use Rattle.rt_simplex.specs.Choices.{goal_of}
use Rattle.rt_simplex.proofs.Chosen.{small_stored}
use Rattle.rt_branch.specs.declared.parts.Best.{Best}
use Rattle.rt_branch.specs.Values.{IsValue, AreWhole, whole_at}
use Rattle.rt_branch.specs.Searches.{IsLesser, IsNoLess, IsLess, HasNoBetter, MayHaveBetter}
use Rattle.rt_branch.specs.Ends.{IsSmallBest, IsBestOf, AreKept}
use Rattle.rt_branch.proofs.Pointed.{basic_read, whole_small}

abbrev wide : ℤ → ℤ
wide z = to_z w128 (of_z w128 z)

within_wide : (z : ℤ) → unsigned_abs z ≤ 2 * 10 ^ 36 → wide z ≡ z
within_wide z h = to_z-of_z w128 z (fits_signed_from_abs w128 z (omega (arith, h)))

less_one : (e : ℤ) → IsSmall e → wide (e -ℤ pos 1) ≡ e -ℤ pos 1
less_one e small = let low = small.low in let high = small.high in within_wide (e -ℤ pos 1) (omega (arith, ints, low, high))

less_one_times : (e o : ℤ) → IsSmall e → IsSmall o → wide ((e -ℤ pos 1) *ℤ o) ≡ (e -ℤ pos 1) *ℤ o
less_one_times e o small_e small_o =
    let product = small_product e o small_e small_o in
    let low = product.low in
    let high = product.high in
    let low_o = small_o.low in
    let high_o = small_o.high in
    within_wide ((e -ℤ pos 1) *ℤ o) (bounded ((e -ℤ pos 1) *ℤ o) (e *ℤ o) o (one_less e o) low high low_o high_o)
  where
    bounded : (z p o : ℤ) → z ≡ p -ℤ o → (neg_ℤ (pos (10 ^ 36))) ≤ℤ p → p ≤ℤ pos (10 ^ 36) → (neg_ℤ (pos (10 ^ 18))) ≤ℤ o → o ≤ℤ pos (10 ^ 18) → unsigned_abs z ≤ 2 * 10 ^ 36
    bounded z p o e a b c d = omega (arith, ints, e, a, b, c, d)

compared : (p q : ℤ) → MatchBool (lt_z p q) (p <ℤ q) (q ≤ℤ p)
compared p q = by (lt_z p q) refl
  where
    by : (t : Bool) → lt_z p q ≡ t → MatchBool t (p <ℤ q) (q ≤ℤ p)
    by true e = omega (arith, ints, e)
    by false e = omega (arith, ints, e)

pub no_less_told : (e o r fe fo fr : ℤ) → IsSmall e → IsSmall o → IsSmall r → fe ≡ to_z w64 (of_z w64 e) → fo ≡ to_z w64 (of_z w64 o) → fr ≡ to_z w64 (of_z w64 r)
    → MatchBool (lt_z (wide (wide (wide fe -ℤ pos 1) *ℤ wide fo)) (wide fr)) (((e -ℤ pos 1) *ℤ o) <ℤ r) (r ≤ℤ ((e -ℤ pos 1) *ℤ o))
no_less_told e o r fe fo fr small_e small_o small_r ee oe re =
    let first = (λ i. wide (wide (wide_read e fe small_e ee i -ℤ pos 1) *ℤ wide_read o fo small_o oe i)) ∙ (λ i. wide (less_one e small_e i *ℤ o)) ∙ less_one_times e o small_e small_o in
    subst₂ (λ s t. MatchBool (lt_z s t) (((e -ℤ pos 1) *ℤ o) <ℤ r) (r ≤ℤ ((e -ℤ pos 1) *ℤ o))) (sym first) (sym (wide_read r fr small_r re)) (compared ((e -ℤ pos 1) *ℤ o) r)

-- by what the goal is worth at the point of the basis
told : (state : State) (extent right over : ℤ) (b : Bool) → IsValue state (goal_of state) right over → MatchBool b (((extent -ℤ pos 1) *ℤ over) <ℤ right) (right ≤ℤ ((extent -ℤ pos 1) *ℤ over))
    → MatchBool b (IsNoLess state extent) (IsLess state extent)
told state extent right over true value h = record { right = right; over = over; value = value; beyond = h }
told state extent right over false value h = record { right = right; over = over; value = value; within = h }

by_best : (state : State) (best : Option Best) (found : Best) (b : Bool) → best ≡ Some found → MatchBool b (IsNoLess state found.extent) (IsLess state found.extent) → MatchBool b (HasNoBetter best state) (MayHaveBetter best state)
by_best state best found b e h = subst (λ o. MatchBool b (HasNoBetter o state) (MayHaveBetter o state)) (sym e) h

-- where the goal is basic in a row
pub basic_told : (state : State) (best : Option Best) (found : Best) (i columns goal : ℕ) (right over : ℤ) (b : Bool) → best ≡ Some found → IsGoalRow state i → columns ≡ columns_of state.system → goal ≡ goal_of state → goal < columns_of state.system
    → IsWholeEntry state i columns right → IsSmall right → IsWholeEntry state i goal over → IsSmall over
    → MatchBool b (((found.extent -ℤ pos 1) *ℤ to_z w64 (of_z w64 over)) <ℤ to_z w64 (of_z w64 right)) (to_z w64 (of_z w64 right) ≤ℤ ((found.extent -ℤ pos 1) *ℤ to_z w64 (of_z w64 over)))
    → MatchBool b (HasNoBetter best state) (MayHaveBetter best state)
basic_told state best found i columns goal right over b e row ce ge below first small_r second small_o h =
    by_best state best found b e
    (told state found.extent right over b
    (inl (basic_read state i (goal_of state) right over row.there row.is (subst (λ g. g < columns_of state.system) ge below) (subst (λ k. IsWholeEntry state i k right) ce first) (subst (λ g. IsWholeEntry state i g over) ge second)))
    (subst₂ (λ r o. MatchBool b (((found.extent -ℤ pos 1) *ℤ o) <ℤ r) (r ≤ℤ ((found.extent -ℤ pos 1) *ℤ o))) (small_stored right small_r) (small_stored over small_o) h))

-- where it's basic in none
pub free_told : (state : State) (best : Option Best) (found : Best) (b : Bool) → best ≡ Some found → IsGoalFree state
    → MatchBool b (((found.extent -ℤ pos 1) *ℤ pos 1) <ℤ pos 0) (pos 0 ≤ℤ ((found.extent -ℤ pos 1) *ℤ pos 1)) → MatchBool b (HasNoBetter best state) (MayHaveBetter best state)
free_told state best found b e free h = by_best state best found b e (told state found.extent (pos 0) (pos 1) b (inr (record { off = free.free; right_is = refl; over_is = refl })) h)

-- the best of an optimum is small
pub best_small : (state : State) (at : List ℤ) (best : Best) → IsSmallTable state → goal_of state < variables_of state.system → AreWhole state at → IsBestOf state at best → IsSmall best.extent
best_small state at best small below whole is = subst IsSmall (sym is.extent_is) (whole_small state (goal_of state) (whole_at at (goal_of state)) small (whole.each (goal_of state) below))

kept_small : (best : Option Best) (found kept : Best) → IsSmallBest best → IsSmall found.extent → IsLesser best found kept → IsSmall kept.extent
kept_small None found kept small is e = subst (λ (b : Best). IsSmall b.extent) (sym e) is
kept_small (Some best) found kept small is (inl a) = subst (λ (b : Best). IsSmall b.extent) (sym a.1) is
kept_small (Some best) found kept small is (inr a) = subst (λ (b : Best). IsSmall b.extent) (sym a.1) small

pub new_small : (best new : Option Best) (found : Best) → IsSmallBest best → IsSmall found.extent → AreKept best found new → IsSmallBest new
new_small best new found small is kept = subst IsSmallBest (sym kept.is) (kept_small best found kept.kept small is kept.lesser)
