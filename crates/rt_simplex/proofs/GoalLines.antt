-- Costs as lines that hold at all solutions, and that costs are proportional.
use Rattle.std.proofs.Common.{◌≡◌, ℕ, zero, suc, ◌<◌, Bool, true, false, ◌==◌, if◌then◌else◌, ℤ, pos, neg_ℤ, ◌+ℤ◌, ◌-ℤ◌, ◌*ℤ◌, ◌<ℤ◌, Option, Some, None, length, ◌⊎◌, inl, inr, refl, sym, ap, subst, ◌∙◌, arith}
use Rattle.std.proofs.lemmas.Bool.{eqb-true, eqb-false}
use Rattle.std.proofs.lemmas.Int.{ints}
use Rattle.rt_cells.proofs.Times.{times_sub}
use Rattle.rt_proofs.proofs.Products.{times_comm, times_assoc}
use Rattle.rt_solved.specs.Lines.{total, worth, LiesOn}
use Rattle.rt_solved.specs.Systems.{columns_of, variables_of, IsSolution}
use Rattle.rt_solved.specs.Tables.{IsSolved, IsWhole, basic_of}
use Rattle.rt_solved.proofs.Totals.{total_combined, total_unit, unit, unit_there, unit_elsewhere, worth_swapped, worth_combined, worth_unit}
use Rattle.rt_solved.proofs.Proportional.{same_or_not, vanishes}
use Rattle.rt_tableau.specs.States.{State, AreCosts, IsGoalFree}
use Rattle.rt_tableau.proofs.StartLines.{column_below}
use Rattle.rt_simplex.specs.Choices.{goal_of, IsGoalAt, cost_by}
use Rattle.rt_simplex.specs.Feasible.{IsDualFeasible}
use Rattle.rt_simplex.specs.Shares.{times_by}

-- the goal has the column of a variable
pub goal_before : (state : State) → IsDualFeasible state → goal_of state < variables_of state.system
goal_before state feasible = column_below state.system.strips state.goal feasible.goal.below

pub goal_there : (state : State) → IsDualFeasible state → goal_of state < columns_of state.system
goal_there state feasible = let h = goal_before state feasible in omega (arith, h)

-- the costs less the goal as often as it's taken
abbrev pub goal_line : State → ℤ → (ℕ → ℤ) → ℕ → ℤ
goal_line state t c zero = pos 0 -ℤ c 0
goal_line state t c (suc j) = c (suc j) -ℤ t *ℤ unit (goal_of state) j

abbrev as_line : (ℕ → ℤ) → ℕ → ℤ
as_line c zero = pos 0 -ℤ c 0
as_line c (suc j) = c (suc j)

one_less : (z t u : ℤ) → pos 1 *ℤ (z -ℤ t *ℤ u) ≡ pos 1 *ℤ z +ℤ (pos 0 -ℤ t) *ℤ u
one_less z t u = omega (arith, ints, times_comm (pos 0 -ℤ t) u, times_sub u (pos 0) t, times_comm u t)

module _ (state : State) (t : ℤ) (c : ℕ → ℤ) (there : goal_of state < columns_of state.system) (are : AreCosts state t c) where
  m : ℕ
  m = columns_of state.system

  parts : (s : ℕ) → pos 1 *ℤ goal_line state t c s ≡ pos 1 *ℤ as_line c s +ℤ (pos 0 -ℤ t) *ℤ unit (suc (goal_of state)) s
  parts zero = omega (arith, ints)
  parts (suc j) = one_less (c (suc j)) t (unit (goal_of state) j)

  costs_worth : (x : ℕ → ℤ) → IsSolution state.system x → worth (columns_of state.system) (as_line c) x ≡ t *ℤ x (suc (goal_of state))
  costs_worth x sol = moved _ (c 0) (x 0) _ (are.equal x sol)
    where
      moved : (s b y g : ℤ) → g ≡ b *ℤ y +ℤ s → s -ℤ (pos 0 -ℤ b) *ℤ y ≡ g
      moved s b y g e = omega (arith, ints, e, times_comm (pos 0 -ℤ b) y, times_sub y (pos 0) b, times_comm y b)

  -- the line holds at all solutions
  pub goal_line_none : (x : ℕ → ℤ) → IsSolution state.system x → worth (columns_of state.system) (goal_line state t c) x ≡ pos 0
  goal_line_none x sol =
      balanced t _ _ _ (x (suc (goal_of state)))
      (worth_combined (columns_of state.system) (goal_line state t c) (as_line c) (unit (suc (goal_of state))) x (pos 1) (pos 0 -ℤ t) (pos 1) (λ s h. parts s)) (costs_worth x sol)
      (worth_swapped (columns_of state.system) (unit (suc (goal_of state))) x ∙ worth_unit (columns_of state.system) (goal_of state) x there)
    where
      balanced : (t w a b g : ℤ) → pos 1 *ℤ w ≡ pos 1 *ℤ a +ℤ (pos 0 -ℤ t) *ℤ b → a ≡ t *ℤ g → b ≡ g → w ≡ pos 0
      balanced t w a b g e f h = omega (arith, ints, e, f, ap (λ z. (pos 0 -ℤ t) *ℤ z) h, times_comm (pos 0 -ℤ t) g, times_sub g (pos 0) t, times_comm g t)

-- numbers of costs of one state are proportional
pub costs_proportional : (state : State) (table : ℕ → ℕ → ℤ) (t u : ℤ) (c d : ℕ → ℤ) → IsSolved state.system state.basis table → goal_of state < columns_of state.system → AreCosts state t c → AreCosts state u d
    → (j : ℕ) → j < columns_of state.system → u *ℤ c (suc j) ≡ t *ℤ d (suc j)
costs_proportional state table t u c d solved there first second j h =
    freed u t (c (suc j)) (d (suc j)) (unit (goal_of state) j)
    (vanishes (columns_of state.system) (length state.system.rows) (IsSolution state.system) (basic_of state.basis) table solved mixed (λ k l. basic k l)
    (λ x sol. both_none _ u (pos 0 -ℤ t) _ _
    (worth_combined (columns_of state.system) mixed (goal_line state t c) (goal_line state u d) x u (pos 0 -ℤ t) (pos 1) (λ s l. one_of (mixed s)))
    (goal_line_none state t c there first x sol) (goal_line_none state u d there second x sol)) (suc j) (omega (arith, h)))
  where
    mixed : ℕ → ℤ
    mixed s = u *ℤ goal_line state t c s +ℤ (pos 0 -ℤ t) *ℤ goal_line state u d s

    one_of : (z : ℤ) → pos 1 *ℤ z ≡ z
    one_of z = omega (arith, ints)

    both_none : (w a b p q : ℤ) → pos 1 *ℤ w ≡ a *ℤ p +ℤ b *ℤ q → p ≡ pos 0 → q ≡ pos 0 → w ≡ pos 0
    both_none w a b p q g e f = omega (arith, ints, g, ap (λ z. a *ℤ z) e, ap (λ z. b *ℤ z) f)

    regrouped : (a b v : ℤ) → a *ℤ (b *ℤ v) ≡ b *ℤ (a *ℤ v)
    regrouped a b v = sym (times_assoc a b v) ∙ ap (λ z. z *ℤ v) (times_comm a b) ∙ times_assoc b a v

    spread : (a b p q v : ℤ) → a *ℤ (p -ℤ b *ℤ v) +ℤ (pos 0 -ℤ b) *ℤ (q -ℤ a *ℤ v) ≡ a *ℤ p -ℤ b *ℤ q
    spread a b p q v =
        omega (arith, ints, times_sub a p (b *ℤ v), times_comm (pos 0 -ℤ b) (q -ℤ a *ℤ v), times_sub (q -ℤ a *ℤ v) (pos 0) b, times_comm (q -ℤ a *ℤ v) b, times_sub b q (a *ℤ v), regrouped a b v)

    freed : (a b p q v : ℤ) → a *ℤ (p -ℤ b *ℤ v) +ℤ (pos 0 -ℤ b) *ℤ (q -ℤ a *ℤ v) ≡ pos 0 → a *ℤ p ≡ b *ℤ q
    freed a b p q v e = let s = spread a b p q v in omega (arith, ints, e, s)

    nothing : (a b p q v : ℤ) → p ≡ pos 0 → q ≡ pos 0 → a *ℤ (p -ℤ b *ℤ v) +ℤ (pos 0 -ℤ b) *ℤ (q -ℤ a *ℤ v) ≡ pos 0
    nothing a b p q v e f = let s = spread a b p q v in omega (arith, ints, s, ap (λ z. a *ℤ z) e, ap (λ z. b *ℤ z) f)

    basic : (k : ℕ) → k < length state.system.rows → mixed (suc (basic_of state.basis k)) ≡ pos 0
    basic k l = nothing u t (c (suc (basic_of state.basis k))) (d (suc (basic_of state.basis k))) (unit (goal_of state) (basic_of state.basis k)) (first.basic k l) (second.basic k l)

-- the costs that the goal's row tells
pub record Known (state : State) (row : Option ℕ) (table : ℕ → ℕ → ℤ) : Type 0 where
  pub times : ℤ
  pub costs : ℕ → ℤ
  pub are : AreCosts state times costs
  pub times_is : times ≡ times_by (goal_of state) row table
  pub same : (j : ℕ) → costs (suc j) ≡ cost_by (goal_of state) row table j

-- costs by a line that holds at all solutions, and has the goal so many times and no other basic column
module _ (state : State) (times : ℤ) (line : ℕ → ℤ) (there : goal_of state < columns_of state.system) (positive : pos 0 <ℤ times)
    (holds : (x : ℕ → ℤ) → IsSolution state.system x → LiesOn (columns_of state.system) line x)
    (basic : (k : ℕ) → k < length state.system.rows → line (suc (basic_of state.basis k)) ≡ times *ℤ unit (goal_of state) (basic_of state.basis k)) where
  abbrev pub costs_of_line : ℕ → ℤ
  costs_of_line zero = line 0
  costs_of_line (suc j) = times *ℤ unit (goal_of state) j -ℤ line (suc j)

  spread : (d u n x : ℤ) → pos 1 *ℤ ((d *ℤ u -ℤ n) *ℤ x) ≡ d *ℤ (x *ℤ u) +ℤ (pos 0 -ℤ pos 1) *ℤ (n *ℤ x)
  spread d u n x = omega (arith, ints, times_comm (d *ℤ u -ℤ n) x, times_sub x (d *ℤ u) n, times_comm x (d *ℤ u), times_assoc d u x, ap (λ z. d *ℤ z) (times_comm u x), times_comm x n)

  summed : (n d a b r g : ℤ) → pos 1 *ℤ n ≡ d *ℤ a +ℤ (pos 0 -ℤ pos 1) *ℤ b → b ≡ r → a ≡ g → d *ℤ g ≡ r +ℤ n
  summed n d a b r g e f h = omega (arith, ints, e, f, ap (λ z. d *ℤ z) h)

  pub costs_are : AreCosts state times costs_of_line
  costs_are = record {
    positive = positive;
    basic = λ k h. no_rest _ _ (basic k h);
    equal = λ x sol.
        summed _ times _ _ _ _
        (total_combined (columns_of state.system) (λ j. x (suc j) *ℤ unit (goal_of state) j) (λ j. line (suc j) *ℤ x (suc j)) (λ j. (times *ℤ unit (goal_of state) j -ℤ line (suc j)) *ℤ x (suc j)) times (pos 0 -ℤ pos 1) (pos 1)
        (λ j l. spread times (unit (goal_of state) j) (line (suc j)) (x (suc j)))) (holds x sol).equal (total_unit (columns_of state.system) (goal_of state) (λ j. x (suc j)) there);
  }
    where
      no_rest : (a b : ℤ) → a ≡ b → b -ℤ a ≡ pos 0
      no_rest a b e = omega (arith, ints, e)

one_time : (d u : ℤ) → u ≡ pos 1 → d *ℤ u ≡ d
one_time d u e = omega (arith, ints, ap (λ z. d *ℤ z) e)

no_time : (d u : ℤ) → u ≡ pos 0 → d *ℤ u ≡ pos 0
no_time d u e = omega (arith, ints, ap (λ z. d *ℤ z) e)

-- the line of zeros
pub zeros_hold : (m : ℕ) (x : ℕ → ℤ) → LiesOn m (λ s. pos 0) x
zeros_hold m x = record { equal = let gone : pos 0 *ℤ x 0 ≡ pos 0 = omega (arith, ints) in zeros m ∙ sym gone }
  where
    zeros : (n : ℕ) → total n (λ j. pos 0 *ℤ x (suc j)) ≡ pos 0
    zeros zero = refl
    zeros (suc n) = let gone : pos 0 *ℤ x (suc n) ≡ pos 0 = omega (arith, ints) in omega (arith, ints, zeros n, gone)

-- a goal that is basic nowhere has it once
pub free_basic : (state : State) → IsGoalFree state → (k : ℕ) → k < length state.system.rows → pos 0 ≡ pos 1 *ℤ unit (goal_of state) (basic_of state.basis k)
free_basic state free k h = sym (no_time (pos 1) _ (unit_elsewhere (goal_of state) (basic_of state.basis k) (λ e. free.free k h (sym e))))

pub known : (state : State) (row : Option ℕ) (table : ℕ → ℕ → ℤ) → IsWhole state.system state.basis table → goal_of state < columns_of state.system → IsGoalAt state row → Known state row table
known state None table whole there free = record {
  times = pos 1;
  costs = costs_of_line state (pos 1) (λ s. pos 0) there (omega (arith, ints)) (λ x sol. zeros_hold (columns_of state.system) x) (free_basic state free);
  are = costs_are state (pos 1) (λ s. pos 0) there (omega (arith, ints)) (λ x sol. zeros_hold (columns_of state.system) x) (free_basic state free);
  times_is = refl;
  same = λ j. by_test j (j == goal_of state) refl;
}
  where
    by_test : (j : ℕ) (b : Bool) → (j == goal_of state) ≡ b → pos 1 *ℤ unit (goal_of state) j -ℤ pos 0 ≡ (if b then pos 1 else pos 0)
    by_test j true e = less_none _ _ (one_time (pos 1) _ (ap (unit (goal_of state)) (eqb-true j (goal_of state) e) ∙ unit_there (goal_of state)))
      where
        less_none : (a b : ℤ) → a ≡ b → a -ℤ pos 0 ≡ b
        less_none a b e = omega (arith, ints, e)
    by_test j false e = less_none _ _ (no_time (pos 1) _ (unit_elsewhere (goal_of state) j (λ f. eqb-false j (goal_of state) e (sym f))))
      where
        less_none : (a b : ℤ) → a ≡ b → a -ℤ pos 0 ≡ b
        less_none a b e = omega (arith, ints, e)
known state (Some i) table whole there goal = record {
  times = table i (suc (goal_of state));
  costs = costs_of_line state (table i (suc (goal_of state))) (table i) there positive holds basic;
  are = costs_are state (table i (suc (goal_of state))) (table i) there positive holds basic;
  times_is = refl;
  same = λ j. by_test j (j == goal_of state) refl;
}
  where
    positive : pos 0 <ℤ table i (suc (goal_of state))
    positive = subst (λ c. pos 0 <ℤ table i (suc c)) goal.is (whole.solved.positive i goal.there)

    holds : (x : ℕ → ℤ) → IsSolution state.system x → LiesOn (columns_of state.system) (table i) x
    holds x sol = whole.solved.holds x sol i goal.there

    basic : (k : ℕ) → k < length state.system.rows → table i (suc (basic_of state.basis k)) ≡ table i (suc (goal_of state)) *ℤ unit (goal_of state) (basic_of state.basis k)
    basic k h = at_row (same_or_not i k)
      where
        no_sign : (z : ℤ) → pos 0 <ℤ z → z ≡ pos 0 → ⊥
        no_sign z p q = omega (arith, ints, p, q)

        at_row : (i ≡ k) ⊎ (i ≡ k → ⊥) → table i (suc (basic_of state.basis k)) ≡ table i (suc (goal_of state)) *ℤ unit (goal_of state) (basic_of state.basis k)
        at_row (inl e) =
            let same : basic_of state.basis k ≡ goal_of state = ap (basic_of state.basis) (sym e) ∙ goal.is in
            ap (λ c. table i (suc c)) same ∙ sym (one_time (table i (suc (goal_of state))) _ (ap (unit (goal_of state)) same ∙ unit_there (goal_of state)))
        at_row (inr n) =
            let none = whole.solved.alone i k goal.there h n in
            none
            ∙ sym (no_time (table i (suc (goal_of state))) _ (unit_elsewhere (goal_of state) (basic_of state.basis k) (λ e. no_sign _ (subst (λ c. pos 0 <ℤ table i (suc c)) e positive) none)))

    by_test : (j : ℕ) (b : Bool) → (j == goal_of state) ≡ b → table i (suc (goal_of state)) *ℤ unit (goal_of state) j -ℤ table i (suc j) ≡ (if b then pos 0 else neg_ℤ (table i (suc j)))
    by_test j true e = let same : j ≡ goal_of state = eqb-true j (goal_of state) e in none_left _ _ _ (one_time _ _ (ap (unit (goal_of state)) same ∙ unit_there (goal_of state))) (ap (λ k. table i (suc k)) same)
      where
        none_left : (a d n : ℤ) → a ≡ d → n ≡ d → a -ℤ n ≡ pos 0
        none_left a d n e f = omega (arith, ints, e, f)
    by_test j false e = turned _ (table i (suc j)) (no_time _ _ (unit_elsewhere (goal_of state) j (λ f. eqb-false j (goal_of state) e (sym f))))
      where
        turned : (a n : ℤ) → a ≡ pos 0 → a -ℤ n ≡ neg_ℤ n
        turned a n e = omega (arith, ints, e)
