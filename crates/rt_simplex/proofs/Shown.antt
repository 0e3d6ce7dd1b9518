-- What the ends of runs show.
use Rattle.std.proofs.Common.{◌≡◌, ℕ, suc, ◌<◌, Bool, true, false, ◌==◌, List, ℤ, pos, ◌+ℤ◌, ◌-ℤ◌, ◌*ℤ◌, ◌≤ℤ◌, ◌<ℤ◌, Option, length, inl, inr, refl, sym, ap, subst, ◌∙◌, arith}
use Rattle.std.proofs.lemmas.Bool.{eqb-true, eqb-false}
use Rattle.std.proofs.lemmas.Int.{ints, by_lt_z}
use Rattle.std.proofs.lemmas.Nat.Gcd.{IsGcd-from_zero, IsGcd-from_mod}
use Rattle.rt_cells.proofs.Times.{times_le, times_cancel_le}
use Rattle.rt_proofs.proofs.Products.{times_comm, times_assoc}
use Rattle.rt_rows.specs.declared.proof.Share.{Share}
use Rattle.rt_frac.specs.declared.frac.Frac.{Frac}
use Rattle.rt_proofs.specs.Forms.{only_if}
use Rattle.rt_proofs.specs.Rows.{terms_of}
use Rattle.rt_solved.specs.Lines.{worth}
use Rattle.rt_solved.specs.Systems.{IsSolution, columns_of, variables_of, own_column, row_at}
use Rattle.rt_solved.specs.Tables.{IsWhole, basic_of}
use Rattle.rt_solved.proofs.Totals.{total_same, unit, unit_there, unit_elsewhere, worth_none}
use Rattle.rt_solved.proofs.Proportional.{times_cancel}
use Rattle.rt_tableau.specs.States.{State, IsRowEntry}
use Rattle.rt_tableau.proofs.NewLines.{right_at, column_at}
use Rattle.rt_simplex.specs.Choices.{IsOptimum, IsRay, IsGoalAt, goal_of, costs_by}
use Rattle.rt_simplex.specs.Feasible.{IsDualFeasible}
use Rattle.rt_simplex.specs.Points.{IsBasisPoint, IsQuotient, value_at, AreValues}
use Rattle.rt_simplex.specs.Combinations.{times_of, IsGoalBound, IsRefuting}
use Rattle.rt_simplex.specs.Bounds.{IsOptimumBound, IsRayBound}
use Rattle.rt_simplex.specs.Shares.{AreTaken, AreTakenByCosts, AreTakenByRow, AreFilled, AreTimesBy, HasTable}
use Rattle.rt_simplex.proofs.Chosen.{read_in}
use Rattle.rt_simplex.proofs.GoalLines.{goal_before, goal_there, goal_line, goal_line_none, costs_proportional, Known, known}
use Rattle.rt_simplex.proofs.Leasts.{basic_or_off, basis_goal, least_at_basis}
use Rattle.rt_simplex.proofs.Multipliers.{own_columns, own_right}
use Rattle.rt_simplex.proofs.BasisPoints.{IsSpare, spare_point, basic_value, optimum_point}

-- the costs of the goal's row aren't below 0 either
pub known_feasible : (state : State) (row : Option ℕ) (table : ℕ → ℕ → ℤ) → IsWhole state.system state.basis table → IsDualFeasible state → Known state row table → IsDualFeasible state
known_feasible state row table whole feasible k = record { rows = feasible.rows; goal = feasible.goal; times = k.times; costs = k.costs; are = k.are; none_below = none }
  where
    moved : (t u c k : ℤ) → pos 0 <ℤ t → pos 0 <ℤ u → u *ℤ c ≡ t *ℤ k → pos 0 ≤ℤ c → pos 0 ≤ℤ k
    moved t u c k ht hu e h = times_cancel_le t (pos 0) k (omega (arith, ints, ht)) (under _ _ _ _ (none_of t) (sym e) (none_of u) (times_le u (pos 0) c (omega (arith, ints, hu)) h))
      where
        none_of : (z : ℤ) → z *ℤ pos 0 ≡ pos 0
        none_of z = omega (arith, ints)

        under : (a b c d : ℤ) → a ≡ pos 0 → b ≡ c → d ≡ pos 0 → d ≤ℤ c → a ≤ℤ b
        under a b c d e f g h = omega (arith, ints, e, f, g, h)

    none : (j : ℕ) → j < columns_of state.system → pos 0 ≤ℤ k.costs (suc j)
    none j h =
        moved feasible.times k.times (feasible.costs (suc j)) (k.costs (suc j)) feasible.are.positive k.are.positive
        (costs_proportional state table feasible.times k.times feasible.costs k.costs whole.solved (goal_there state feasible) feasible.are k.are j h) (feasible.none_below j h)

-- a cost as the goal's row tells it
pub cost_not_below : (state : State) (row : Option ℕ) (table : ℕ → ℕ → ℤ) → IsWhole state.system state.basis table → IsDualFeasible state → IsGoalAt state row → (j : ℕ) → j < columns_of state.system
    → pos 0 ≤ℤ costs_by (goal_of state) row table (suc j)
unfolding known_feasible
cost_not_below state row table whole feasible goal j h =
    let k = known state row table whole (goal_there state feasible) goal in subst (λ z. pos 0 ≤ℤ z) (k.same j) ((known_feasible state row table whole feasible k).none_below j h)

-- the combination of an optimum
module _ (state : State) (row : Option ℕ) (table : ℕ → ℕ → ℤ) (whole : IsWhole state.system state.basis table) (feasible : IsDualFeasible state) (k : Known state row table) (shares : List Share)
    (taken : AreTaken state.system (costs_by (goal_of state) row table) (length state.system.rows) shares) where
  line : ℕ → ℤ
  line = goal_line state k.times k.costs

  own_same : (d : ℕ) → costs_by (goal_of state) row table (suc (own_column state.system d)) ≡ line (suc (own_column state.system d))
  unfolding line
  own_same d =
      sym (k.same (own_column state.system d)) ∙ less_none _ k.times _ (unit_elsewhere (goal_of state) (own_column state.system d) (λ e. let h = goal_before state feasible in omega (arith, e, h)))
    where
      less_none : (a b u : ℤ) → u ≡ pos 0 → a ≡ a -ℤ b *ℤ u
      less_none a b u e = omega (arith, ints, ap (λ z. b *ℤ z) e)

  pub optimum_right : taken.sum.least ≡ k.costs 0
  unfolding line
  optimum_right =
      taken.least
      ∙ total_same (length state.system.rows) (λ d. costs_by (goal_of state) row table (suc (own_column state.system d)) *ℤ (row_at state.system d).least) (λ d. line (suc (own_column state.system d)) *ℤ (row_at state.system d).least)
      (λ d h. ap (λ z. z *ℤ (row_at state.system d).least) (own_same d))
      ∙ turned (k.costs 0) _ (own_right state.system feasible.rows line (goal_line_none state k.times k.costs (goal_there state feasible) k.are))
    where
      turned : (c t : ℤ) → (pos 0 -ℤ c) +ℤ t ≡ pos 0 → t ≡ c
      turned c t e = omega (arith, ints, e)

  optimum_most : (j : ℕ) → j < variables_of state.system → times_of state.system.strips j taken.sum.terms ≤ℤ only_if (j == goal_of state) k.times
  unfolding line known_feasible
  optimum_most j h =
      at_most _ _ (k.costs (suc j)) k.times (unit (goal_of state) j) (only_if (j == goal_of state) k.times)
      (taken.terms j
      ∙ total_same (length state.system.rows) (λ d. costs_by (goal_of state) row table (suc (own_column state.system d)) *ℤ times_of state.system.strips j (terms_of (row_at state.system d).terms))
      (λ d. line (suc (own_column state.system d)) *ℤ times_of state.system.strips j (terms_of (row_at state.system d).terms))
      (λ d l. ap (λ z. z *ℤ times_of state.system.strips j (terms_of (row_at state.system d).terms)) (own_same d)))
      (own_columns state.system feasible.rows line (goal_line_none state k.times k.costs (goal_there state feasible) k.are) j h)
      ((known_feasible state row table whole feasible k).none_below j (omega (arith, h))) (only (j == goal_of state) refl)
    where
      at_most : (a t c b u o : ℤ) → a ≡ t → (c -ℤ b *ℤ u) +ℤ t ≡ pos 0 → pos 0 ≤ℤ c → b *ℤ u ≡ o → a ≤ℤ o
      at_most a t c b u o e f h g = omega (arith, ints, e, f, h, g)

      only : (b : Bool) → (j == goal_of state) ≡ b → k.times *ℤ unit (goal_of state) j ≡ only_if b k.times
      only true e = one k.times _ (ap (unit (goal_of state)) (eqb-true j (goal_of state) e) ∙ unit_there (goal_of state))
        where
          one : (a u : ℤ) → u ≡ pos 1 → a *ℤ u ≡ a
          one a u e = omega (arith, ints, ap (λ z. a *ℤ z) e)
      only false e = no k.times _ (unit_elsewhere (goal_of state) j (λ f. eqb-false j (goal_of state) e (sym f)))
        where
          no : (a u : ℤ) → u ≡ pos 0 → a *ℤ u ≡ pos 0
          no a u e = omega (arith, ints, ap (λ z. a *ℤ z) e)

  pub optimum_bounds : IsGoalBound state shares k.times taken.sum
  optimum_bounds = record { adds = taken.adds; positive = k.are.positive; most = optimum_most }

-- a ray's entries, and its right side
pub ray_entry : (state : State) (p : ℕ) (table : ℕ → ℕ → ℤ) → IsWhole state.system state.basis table → IsRay state p → (j : ℕ) → j < columns_of state.system → pos 0 ≤ℤ table p (suc j)
ray_entry state p table whole ray j h =
    by_lt_z (table p (suc j)) (pos 0)
    (λ l. absurd (ray.none j h (record { entry = table p (suc j); is = record { table = table; whole = whole; is = λ i. table p (sym (column_at (columns_of state.system) j h) i) }; below = l }))) (λ l. l)

pub ray_right : (state : State) (p : ℕ) (table : ℕ → ℕ → ℤ) → IsWhole state.system state.basis table → IsRay state p → table p 0 <ℤ pos 0
ray_right state p table whole ray =
    let below = ray.leaving.below in
    subst (λ z. z <ℤ pos 0)
    (read_in state table p (columns_of state.system) below.entry whole ray.leaving.there (omega arith) below.is ∙ (λ i. table p (right_at (columns_of state.system) i))) below.below

-- the combination of a ray
pub ray_refutes : (state : State) (p : ℕ) (table : ℕ → ℕ → ℤ) (shares : List Share) → IsWhole state.system state.basis table → IsDualFeasible state → IsRay state p
    → (taken : AreTaken state.system (table p) (length state.system.rows) shares) → IsRefuting state.system shares taken.sum
ray_refutes state p table shares whole feasible ray taken = record {
  adds = taken.adds;
  none = λ j h. none _ _ _ (taken.terms j) (own_columns state.system feasible.rows (table p) holds j h) (ray_entry state p table whole ray j (omega (arith, h)));
  right = above _ _ _ taken.least (own_right state.system feasible.rows (table p) holds) (ray_right state p table whole ray);
}
  where
    holds : (x : ℕ → ℤ) → IsSolution state.system x → worth (columns_of state.system) (table p) x ≡ pos 0
    holds x sol = worth_none (columns_of state.system) (table p) x (whole.solved.holds x sol p ray.leaving.there)

    none : (a t w : ℤ) → a ≡ t → w +ℤ t ≡ pos 0 → pos 0 ≤ℤ w → a ≤ℤ pos 0
    none a t w e f h = omega (arith, ints, e, f, h)

    above : (a t w : ℤ) → a ≡ t → w +ℤ t ≡ pos 0 → w <ℤ pos 0 → pos 0 <ℤ a
    above a t w e f h = omega (arith, ints, e, f, h)

-- the values that are filled in are those of the point
module _ (state : State) (point : ℕ → ℤ) (at : List Frac) (spare : IsSpare state point) (filled : AreFilled state (length state.system.rows) at) where
  nothing_lowest : IsQuotient (pos 0) (point 0) (record { num = pos 0; den = pos 1 })
  nothing_lowest = record {
    lowest = record { positive = omega (arith, ints); lowest = IsGcd-from_mod 0 1 1 (IsGcd-from_zero 1 0 refl) };
    equal = omega (arith, ints);
  }

  quotient_in : (i : ℕ) (f : Frac) → i < length state.system.rows → IsRowEntry state i (columns_of state.system) f → IsQuotient (point (suc (basic_of state.basis i))) (point 0) f
  quotient_in i f h entry = record {
    lowest = entry.is.frac;
    equal = across (entry.table i (suc (basic_of state.basis i))) (entry.table i 0) entry.is.factor f.num f.den (point (suc (basic_of state.basis i))) (point 0) (entry.whole.solved.positive i h)
        (sym (λ j. entry.table i (right_at (columns_of state.system) j)) ∙ entry.is.num_is) entry.is.den_is (basic_value state entry.table point entry.whole.solved spare i h);
  }
    where
      across : (d n g a b x y : ℤ) → pos 0 <ℤ d → n ≡ g *ℤ a → d ≡ g *ℤ b → d *ℤ x ≡ n *ℤ y → a *ℤ y ≡ x *ℤ b
      across d n g a b x y h e f k =
          times_cancel d (a *ℤ y) (x *ℤ b) h
          (ap (λ z. z *ℤ (a *ℤ y)) f ∙ times_assoc g b (a *ℤ y) ∙ ap (λ z. g *ℤ z) (times_comm b (a *ℤ y) ∙ times_assoc a y b) ∙ sym (times_assoc g a (y *ℤ b)) ∙ ap (λ z. z *ℤ (y *ℤ b)) (sym e) ∙ sym (times_assoc n y b)
          ∙ ap (λ z. z *ℤ b) (sym k) ∙ times_assoc d x b)

  pub filled_values : AreValues state.system point at
  filled_values = record { one_each = filled.one_each; each = each }
    where
      each : (j : ℕ) → j < variables_of state.system → IsQuotient (point (suc j)) (point 0) (value_at at j)
      each j h =
          elim (basic_or_off state.basis j (length state.system.rows)) [
            | inl b ↦ subst (λ n. IsQuotient (point (suc n)) (point 0) (value_at at n)) b.2
                (quotient_in b.0 (value_at at (basic_of state.basis b.0)) b.1 (filled.there b.0 b.1 (subst (λ n. n < variables_of state.system) (sym b.2) h)))
            | inr off ↦ subst (λ z. IsQuotient z (point 0) (value_at at j)) (sym (spare.off j off)) (subst (IsQuotient (pos 0) (point 0)) (sym (filled.rest j h off)) nothing_lowest)
          ]

-- what an optimum shows
pub optimum_shown : (state : State) (row : Option ℕ) (at : List Frac) (shares : List Share) (over : ℤ) → IsDualFeasible state → IsOptimum state → HasTable state → IsGoalAt state row
    → AreTimesBy state row over → AreTakenByCosts state row (length state.system.rows) shares → AreFilled state (length state.system.rows) at → IsOptimumBound state at shares over
unfolding known_feasible
optimum_shown state row at shares over feasible ended has goal times taken filled = by_known (known state row has.table has.whole (goal_there state feasible) goal) (spare_point state has.table has.whole.solved)
  where
    all : AreTaken state.system (costs_by (goal_of state) row has.table) (length state.system.rows) shares
    all = taken.each has.table has.whole

    across : (t x0 xg c num den : ℤ) → pos 0 <ℤ x0 → t *ℤ xg ≡ c *ℤ x0 → num *ℤ x0 ≡ xg *ℤ den → num *ℤ t ≡ c *ℤ den
    across t x0 xg c num den h e f =
        times_cancel x0 (num *ℤ t) (c *ℤ den) h
        (sym (times_assoc x0 num t) ∙ ap (λ z. z *ℤ t) (times_comm x0 num ∙ f) ∙ times_comm (xg *ℤ den) t ∙ sym (times_assoc t xg den) ∙ ap (λ z. z *ℤ den) (e ∙ times_comm c x0) ∙ times_assoc x0 c den)

    by_known : Known state row has.table → (point : ℕ → ℤ) × IsSpare state point → IsOptimumBound state at shares over
    by_known k sp = record {
      ended = ended;
      point = sp.0;
      of_basis = basis;
      least = least_at_basis state feasible sp.0 basis;
      values = values;
      sum = all.sum;
      bounds = subst (λ z. IsGoalBound state shares z all.sum) (sym same) (optimum_bounds state row has.table has.whole feasible k shares all);
      reached = record {
        lowest = goal_value.lowest;
        equal = subst (λ z. goal_frac.num *ℤ z ≡ all.sum.least *ℤ goal_frac.den) (sym same)
            (across k.times (sp.0 0) (sp.0 (suc (goal_of state))) (k.costs 0) goal_frac.num goal_frac.den sp.1.positive
            (basis_goal state (known_feasible state row has.table has.whole feasible k) sp.0 basis) goal_value.equal
            ∙ ap (λ z. z *ℤ goal_frac.den) (sym (optimum_right state row has.table has.whole feasible k shares all)));
      };
    }
      where
        basis : IsBasisPoint state sp.0
        basis = optimum_point state has.table sp.0 has.whole ended sp.1

        values : AreValues state.system sp.0 at
        values = filled_values state sp.0 at sp.1 filled

        same : over ≡ k.times
        same = times.each has.table has.whole ∙ sym k.times_is

        goal_frac : Frac
        goal_frac = value_at at (goal_of state)

        goal_value : IsQuotient (sp.0 (suc (goal_of state))) (sp.0 0) goal_frac
        goal_value = values.each (goal_of state) (goal_before state feasible)

pub ray_shown : (state : State) (p : ℕ) (shares : List Share) (over : ℤ) → IsDualFeasible state → IsRay state p → pos 0 <ℤ over → AreTakenByRow state p (length state.system.rows) shares → IsRayBound state shares over
ray_shown state p shares over feasible ray positive taken =
    let t = ray.leaving.below.is in
    let all = taken.each t.table t.whole in
    record { row = p; ended = ray; positive = positive; sum = all.sum; refutes = ray_refutes state p t.table shares t.whole feasible ray all }
