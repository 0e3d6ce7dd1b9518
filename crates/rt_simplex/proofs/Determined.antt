-- A state has one dual pivot at most, and none at an end.
use Rattle.std.proofs.Common.{◌≡◌, ℕ, suc, ◌<◌, ◌≤◌, ◌⊎◌, ℤ, ◌==◌, if◌then◌else◌, pos, neg_ℤ, ◌*ℤ◌, ◌<ℤ◌, length, Option, Some, None, refl, sym, ap, subst, ◌∙◌, inl, inr, arith}
use Rattle.std.proofs.lemmas.Bool.{cases_lt}
use Rattle.std.proofs.lemmas.Int.{ints}
use Rattle.rt_rows.specs.Known.{IsSmall}
use Rattle.rt_solved.specs.Lines.{IsReduced}
use Rattle.rt_solved.specs.Systems.{columns_of, IsSolution}
use Rattle.rt_solved.specs.Tables.{IsWhole, basic_of}
use Rattle.rt_solved.proofs.Proportional.{proportional, same_or_not}
use Rattle.rt_solved.proofs.Factors.{one_table_each, reduced_once}
use Rattle.rt_tableau.specs.States.{State, PassesFirst, IsFirstPast, exchanged_state}
use Rattle.rt_tableau.proofs.NewLines.{column_at}
use Rattle.rt_tableau.proofs.Excluding.{number_within}
use Rattle.rt_tableau.proofs.Firsts.{not_both}
use Rattle.rt_simplex.specs.Choices.{IsOptimum, IsLeaving, IsEntering, IsRay, IsDualPivot, IsGoalAt, cost_by, goal_of}

no_sign : (z : ℤ) → pos 0 <ℤ z → z ≡ pos 0 → ⊥
no_sign z h e = omega (arith, ints, h, e)

-- rows have different basic columns
pub one_row : (state : State) (table : ℕ → ℕ → ℤ) (i k : ℕ) → IsWhole state.system state.basis table → i < length state.system.rows → k < length state.system.rows → basic_of state.basis i ≡ basic_of state.basis k → i ≡ k
one_row state table i k whole h g e =
    elim (same_or_not i k) [
      | inl same ↦ same
      | inr n ↦ absurd (no_sign _ (subst (λ c. pos 0 <ℤ table i (suc c)) e (whole.solved.positive i h)) (whole.solved.alone i k h g n))
    ]

-- a state has one row that a pivot takes
pub one_leaving : (state : State) (p r : ℕ) → IsLeaving state p → IsLeaving state r → p ≡ r
one_leaving state p r first second =
    let a = first.least r second.there second.below in
    let b = second.least p first.there first.below in
    one_row state first.below.is.table p r first.below.is.whole first.there second.there (omega (arith, a, b))

one_goal_row : (state : State) (table : ℕ → ℕ → ℤ) → IsWhole state.system state.basis table → (row other : Option ℕ) → IsGoalAt state row → IsGoalAt state other → row ≡ other
one_goal_row state table whole None None first second = refl
one_goal_row state table whole None (Some k) first second = absurd (first.free k second.there second.is)
one_goal_row state table whole (Some i) None first second = absurd (second.free i first.there first.is)
one_goal_row state table whole (Some i) (Some k) first second = ap (λ r. Some r) (one_row state table i k whole first.there second.there (first.is ∙ sym second.is))

same_cost : (state : State) (table other : ℕ → ℕ → ℤ) (row : Option ℕ) (j : ℕ) → IsWhole state.system state.basis table → IsWhole state.system state.basis other → IsGoalAt state row → j < columns_of state.system
    → cost_by (goal_of state) row table j ≡ cost_by (goal_of state) row other j
same_cost state table other None j whole whole' goal h = refl
same_cost state table other (Some i) j whole whole' goal h =
    ap (λ z. if j == goal_of state then pos 0 else neg_ℤ z) (one_table_each state.system state.basis table other whole whole' i (suc j) goal.there (omega (arith, h)))

first_once : (q r : ℕ) (x y u v : ℤ) → (x <ℤ y) ⊎ ((x ≡ y) × (q ≤ r)) → (u <ℤ v) ⊎ ((u ≡ v) × (r ≤ q)) → u ≡ y → v ≡ x → q ≡ r
first_once q r x y u v (inl a) (inl b) e f = absurd (omega (arith, ints, a, b, e, f))
first_once q r x y u v (inl a) (inr b) e f = let c = b.0 in absurd (omega (arith, ints, a, c, e, f))
first_once q r x y u v (inr a) (inl b) e f = let c = a.0 in absurd (omega (arith, ints, b, c, e, f))
first_once q r x y u v (inr a) (inr b) e f = let c = a.1 in let d = b.1 in omega (arith, c, d)

-- and one column that it makes basic
pub one_entering : (state : State) (p q r : ℕ) → p < length state.system.rows → IsEntering state p q → IsEntering state p r → q ≡ r
one_entering state p q r there first second =
    first_once q r _ _ _ _
    (first.first.first r second.first.there (subst (λ z. z <ℤ pos 0) (sym (entry r second.first.there)) second.first.below))
    (second.first.first q first.first.there (subst (λ z. z <ℤ pos 0) (entry q first.first.there) first.first.below))
    (λ i. sym (cost r second.first.there) i *ℤ neg_ℤ (sym (entry q first.first.there) i))
    (λ i. sym (cost q first.first.there) i *ℤ neg_ℤ (sym (entry r second.first.there) i))
  where
    entry : (j : ℕ) → j < columns_of state.system → first.table p (suc j) ≡ second.table p (suc j)
    entry j h = one_table_each state.system state.basis first.table second.table first.whole second.whole p (suc j) there (omega (arith, h))

    cost : (j : ℕ) → j < columns_of state.system → cost_by (goal_of state) first.row first.table j ≡ cost_by (goal_of state) second.row second.table j
    cost j h =
        same_cost state first.table second.table first.row j first.whole second.whole first.goal h
        ∙ ap (λ row. cost_by (goal_of state) row second.table j) (one_goal_row state first.table first.whole first.row second.row first.goal second.goal)

-- a state has one dual pivot
pub one_pivot : (state : State) (p q r s : ℕ) → IsDualPivot state p q → IsDualPivot state r s → (p ≡ r) × (q ≡ s)
one_pivot state p q r s first second =
    let same = one_leaving state p r first.leaving second.leaving in
    (same, one_entering state p q s first.leaving.there first.entering (subst (λ k. IsEntering state k s) (sym same) second.entering))

-- an optimum has none
pub optimum_has_none : (state : State) (p q : ℕ) → IsOptimum state → IsDualPivot state p q → ⊥
optimum_has_none state p q optimum dual = optimum.none p dual.leaving.there dual.leaving.below

pub optimum_is_no_ray : (state : State) (p : ℕ) → IsOptimum state → IsRay state p → ⊥
optimum_is_no_ray state p optimum ray = optimum.none p ray.leaving.there ray.leaving.below

-- a ray has none
pub ray_has_none : (state : State) (p r q : ℕ) → IsRay state p → IsDualPivot state r q → ⊥
ray_has_none state p r q ray dual =
    let same = one_leaving state p r ray.leaving dual.leaving in
    let entering : IsEntering state p q = subst (λ k. IsEntering state k q) (sym same) dual.entering in
    ray.none q entering.first.there
    (record {
      entry = entering.table p (suc q);
      is = record { table = entering.table; whole = entering.whole; is = ap (entering.table p) (sym (column_at (columns_of state.system) q entering.first.there)) };
      below = entering.first.below;
    })

-- after one exchange there is one first place past the limit
module _ (state : State) (p q i j k l : ℕ) (first : PassesFirst state p q i j) (second : PassesFirst state p q k l) where
  same_line : (r : ℕ) → r < length state.system.rows → IsReduced (columns_of state.system) (first.table r) → IsReduced (columns_of state.system) (second.table r) → (s : ℕ) → s ≤ columns_of state.system
      → first.table r s ≡ second.table r s
  same_line r h a b =
      let after = exchanged_state state p q in
      reduced_once (columns_of state.system) (first.table r) (second.table r) (first.table r (suc (basic_of after.basis r))) (second.table r (suc (basic_of after.basis r))) a b (first.solved.positive r h)
      (second.solved.positive r h)
      (λ t g. proportional (columns_of state.system) (length state.system.rows) (IsSolution state.system) (basic_of after.basis) first.table second.table first.solved second.solved r t h g)

  not_before : i < k → ⊥
  not_before h =
      let within = number_within (columns_of state.system) j first.first.there in
      not_both _ first.first.past (subst IsSmall (sym (same_line i first.row first.reduced (second.reduced_before i h) _ within)) ((second.small_before i h).each _ within))

  not_behind : k < i → ⊥
  not_behind h =
      let within = number_within (columns_of state.system) l second.first.there in
      not_both _ second.first.past (subst IsSmall (same_line k second.row (first.reduced_before k h) second.reduced _ within) ((first.small_before k h).each _ within))

  pub one_row_past : i ≡ k
  one_row_past =
      elim (cases_lt i k) [
        | inl a ↦ absurd (not_before a)
        | inr a ↦ elim (cases_lt k i) [ inl b ↦ absurd (not_behind b) | inr b ↦ omega (arith, a, b) ]
      ]

-- in one line there is one
one_place : (columns : ℕ) (line other : ℕ → ℤ) (j l : ℕ) → ((s : ℕ) → s ≤ columns → line s ≡ other s) → IsFirstPast columns line j → IsFirstPast columns other l → j ≡ l
one_place columns line other j l same first second =
    elim (cases_lt j l) [
      | inl a ↦ absurd (not_both _ first.past (subst IsSmall (sym (same _ (number_within columns j first.there))) (second.before j a)))
      | inr a ↦
          elim (cases_lt l j) [
            | inl b ↦ absurd (not_both _ second.past (subst IsSmall (same _ (number_within columns l second.there)) (first.before l b)))
            | inr b ↦ omega (arith, a, b)
          ]
    ]

pub one_first_past : (state : State) (p q i j k l : ℕ) → PassesFirst state p q i j → PassesFirst state p q k l → (i ≡ k) × (j ≡ l)
one_first_past state p q i j k l first second =
    let same = one_row_past state p q i j k l first second in
    let moved : PassesFirst state p q i l = subst (λ r. PassesFirst state p q r l) (sym same) second in
    (same, one_place (columns_of state.system) (first.table i) (moved.table i) j l (same_line state p q i j i l first moved i first.row first.reduced moved.reduced) first.first moved.first)
