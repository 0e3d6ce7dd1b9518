-- Entries of a table that is kept, and its costs.
use Rattle.std.proofs.Common.{◌≡◌, ℕ, zero, suc, ◌+◌, ◌<◌, ◌≤◌, ◌⊎◌, Bool, true, false, ◌==◌, if◌then◌else◌, ℤ, pos, neg_ℤ, ◌-ℤ◌, ◌+ℤ◌, ◌*ℤ◌, ◌<ℤ◌, List, length, get_or, refl, sym, ap, subst, subst₂, ◌∙◌, inl, inr, to_z, of_z, arith}
use Rattle.std.proofs.lemmas.Bool.{eqb-true, eqb-false}
use Rattle.std.proofs.lemmas.Int.{ints}
use Rattle.rt_cells.proofs.Times.{times_sub}
use Rattle.rt_proofs.proofs.Products.{times_comm, times_assoc}
use Rattle.rt_frac.specs.declared.frac.Frac.{Frac}
use Rattle.rt_frac.specs.Fracs.{IsFracOf}
use Rattle.rt_solved.specs.Systems.{column_of, columns_of}
use Rattle.rt_solved.specs.Tables.{IsSolved, IsWhole, basic_of}
use Rattle.rt_solved.proofs.Totals.{total_combined, total_same, unit, unit_there, unit_elsewhere, total_unit}
use Rattle.rt_solved.proofs.Proportional.{same_or_not}
use Rattle.rt_tableau.specs.Numbers.{number_of}
use Rattle.rt_tableau.specs.States.{State, number_at, IsWholeEntry, IsRowEntry, AreCosts, IsCost, IsSmallTable, IsGoalRow, IsGoalFree}
use Rattle.rt_tableau.specs.Tables.{line_at, table_of, IsKept}
use Rattle.rt_tableau.specs.Costs.{IsFree, IsBasicIn, cost_of, free_cost}
use mir.Syntax.{w64}
use Rattle.std.proofs.lemmas.List.{get_or_default}
use Rattle.rt_rows.specs.Known.{IsSmall}
use Rattle.rt_tableau.proofs.Combined.{small_read}
use Rattle.rt_tableau.proofs.NewLines.{right_at, column_at, line_read}
use Rattle.rt_tableau.proofs.Pivoted.{reduced_line}
use Rattle.rt_tableau.proofs.StartLines.{column_below}

-- the table that is kept is whole
pub whole_kept : (state : State) (lines : List (List ℤ)) → IsKept state lines → IsWhole state.system state.basis (table_of lines)
whole_kept state lines kept = record { solved = kept.solved; reduced = λ i h. reduced_line (columns_of state.system) (line_at lines i) (kept.each i h) }

pub whole_entry : (state : State) (lines : List (List ℤ)) (i j : ℕ) (entry : ℤ) → IsKept state lines → entry ≡ number_of (line_at lines i) (number_at (columns_of state.system) j) → IsWholeEntry state i j entry
whole_entry state lines i j entry kept e = record { table = table_of lines; whole = whole_kept state lines kept; is = e }

pub row_entry : (state : State) (lines : List (List ℤ)) (i j : ℕ) (num den : ℤ) (entry : Frac) → IsKept state lines → num ≡ number_of (line_at lines i) (number_at (columns_of state.system) j)
    → den ≡ number_of (line_at lines i) (suc (basic_of state.basis i)) → IsFracOf num den entry → IsRowEntry state i j entry
row_entry state lines i j num den entry kept e f is = record { table = table_of lines; whole = whole_kept state lines kept; is = subst₂ (λ a b. IsFracOf a b entry) e f is }

-- the costs by a line in which the goal is basic, in the places of a line
pub line_costs : ℤ → (ℕ → ℤ) → ℕ → ℕ → ℤ
line_costs times line goal zero = line 0
line_costs times line goal (suc k) = times *ℤ unit goal k -ℤ line (suc k)

none_left : (d n u : ℤ) → u ≡ pos 1 → n ≡ d → d *ℤ u -ℤ n ≡ pos 0
none_left d n u e f = omega (arith, ints, f, ap (λ z. d *ℤ z) e)

turned_left : (d n u : ℤ) → u ≡ pos 0 → d *ℤ u -ℤ n ≡ neg_ℤ n
turned_left d n u e = omega (arith, ints, ap (λ z. d *ℤ z) e)

both_none : (d n u : ℤ) → u ≡ pos 0 → n ≡ pos 0 → d *ℤ u -ℤ n ≡ pos 0
both_none d n u e f = omega (arith, ints, f, ap (λ z. d *ℤ z) e)

-- as they are told
line_cost_at : (times : ℤ) (line : List ℤ) (goal columns j : ℕ) → number_of line (suc goal) ≡ times → goal < columns → j ≤ columns
    → line_costs times (number_of line) goal (number_at columns j) ≡ cost_of line goal columns j
unfolding line_costs
line_cost_at times line goal columns j e h g = by_goal (j == goal) refl
  where
    by_column : (b : Bool) → (j == columns) ≡ b → (j ≡ goal → ⊥) → line_costs times (number_of line) goal (number_at columns j) ≡ (if b then number_of line 0 else neg_ℤ (number_of line (suc j)))
    by_column true f n = ap (line_costs times (number_of line) goal) (ap (number_at columns) (eqb-true j columns f) ∙ right_at columns)
    by_column false f n =
        ap (line_costs times (number_of line) goal) (column_at columns j (omega (arith, g, eqb-false j columns f)))
        ∙ turned_left times (number_of line (suc j)) (unit goal j) (unit_elsewhere goal j (λ k. n (sym k)))

    by_goal : (b : Bool) → (j == goal) ≡ b → line_costs times (number_of line) goal (number_at columns j) ≡ cost_of line goal columns j
    by_goal true f =
        let same : j ≡ goal = eqb-true j goal f in
        ap (line_costs times (number_of line) goal) (column_at columns j (omega (arith, h, same)))
        ∙ none_left times (number_of line (suc j)) (unit goal j) (ap (unit goal) same ∙ unit_there goal) (ap (λ k. number_of line (suc k)) same ∙ e)
        ∙ sym (rw f refl)
    by_goal false f = by_column (j == columns) refl (eqb-false j goal f) ∙ sym (rw f refl)

times_left : (d u n x : ℤ) → pos 1 *ℤ ((d *ℤ u -ℤ n) *ℤ x) ≡ d *ℤ (x *ℤ u) +ℤ (pos 0 -ℤ pos 1) *ℤ (n *ℤ x)
times_left d u n x = omega (arith, ints, times_comm (d *ℤ u -ℤ n) x, times_sub x (d *ℤ u) n, times_assoc x d u, times_comm x d, times_assoc d x u, ap (λ z. z *ℤ u) (times_comm x d), times_comm x n)

sum_up : (t d a b r x : ℤ) → pos 1 *ℤ t ≡ d *ℤ a +ℤ (pos 0 -ℤ pos 1) *ℤ b → b ≡ r → a ≡ x → d *ℤ x ≡ r +ℤ t
sum_up t d a b r x e f g = omega (arith, ints, e, f, ap (λ z. d *ℤ z) g)

-- they are the costs
pub line_are : (state : State) (table : ℕ → ℕ → ℤ) (i : ℕ) → IsSolved state.system state.basis table → i < length state.system.rows → basic_of state.basis i ≡ column_of state.system.strips state.goal
    → AreCosts state (table i (suc (column_of state.system.strips state.goal))) (line_costs (table i (suc (column_of state.system.strips state.goal))) (table i) (column_of state.system.strips state.goal))
unfolding line_costs
line_are state table i solved h e = record {
  positive = subst (λ c. pos 0 <ℤ table i (suc c)) e (solved.positive i h);
  basic = λ k l. basic_cost k l (same_or_not i k);
  equal = λ x sol.
      sum_up _ times _ _ _ _ (total_combined columns (λ j. x (suc j) *ℤ unit goal j) (λ j. line (suc j) *ℤ x (suc j)) (λ j. (times *ℤ unit goal j -ℤ line (suc j)) *ℤ x (suc j)) times (pos 0 -ℤ pos 1) (pos 1)
      (λ j l. times_left times (unit goal j) (line (suc j)) (x (suc j)))) (solved.holds x sol i h).equal (total_unit columns goal (λ j. x (suc j)) there);
}
  where
    goal : ℕ
    goal = column_of state.system.strips state.goal

    columns : ℕ
    columns = columns_of state.system

    line : ℕ → ℤ
    line = table i

    times : ℤ
    times = line (suc goal)

    there : goal < columns
    there = subst (λ c. c < columns_of state.system) e (solved.there i h)

    basic_cost : (k : ℕ) → k < length state.system.rows → (i ≡ k) ⊎ (i ≡ k → ⊥) → times *ℤ unit goal (basic_of state.basis k) -ℤ line (suc (basic_of state.basis k)) ≡ pos 0
    basic_cost k l (inl f) =
        let same : basic_of state.basis k ≡ goal = ap (basic_of state.basis) (sym f) ∙ e in
        none_left times (line (suc (basic_of state.basis k))) (unit goal (basic_of state.basis k)) (ap (unit goal) same ∙ unit_there goal) (ap (λ c. line (suc c)) same)
    basic_cost k l (inr n) =
        let none : line (suc (basic_of state.basis k)) ≡ pos 0 = solved.alone i k h l n in
        both_none times (line (suc (basic_of state.basis k))) (unit goal (basic_of state.basis k))
        (unit_elsewhere goal (basic_of state.basis k) (λ f. no_sign _ (subst (λ c. pos 0 <ℤ table i (suc c)) (e ∙ f) (solved.positive i h)) none)) none
      where
        no_sign : (z : ℤ) → pos 0 <ℤ z → z ≡ pos 0 → ⊥
        no_sign z p q = omega (arith, ints, p, q)

pub line_cost : (state : State) (lines : List (List ℤ)) (i j : ℕ) (num den : ℤ) (entry : Frac) → IsKept state lines → IsBasicIn state.basis (column_of state.system.strips state.goal) i → j ≤ columns_of state.system
    → num ≡ cost_of (line_at lines i) (column_of state.system.strips state.goal) (columns_of state.system) j → den ≡ number_of (line_at lines i) (suc (column_of state.system.strips state.goal))
    → IsFracOf num den entry → IsCost state j entry
line_cost state lines i j num den entry kept basic h e f is = record {
  table = table_of lines;
  solved = kept.solved;
  times = number_of (line_at lines i) (suc goal);
  costs = line_costs (number_of (line_at lines i) (suc goal)) (number_of (line_at lines i)) goal;
  are = line_are state (table_of lines) i kept.solved here basic.is;
  is = subst₂ (λ a b. IsFracOf a b entry) (e ∙ sym (line_cost_at (number_of (line_at lines i) (suc goal)) (line_at lines i) goal (columns_of state.system) j refl there h)) f is;
}
  where
    goal : ℕ
    goal = column_of state.system.strips state.goal

    here : i < length state.system.rows
    here = subst (λ n. i < n) kept.basis_each basic.there

    there : goal < columns_of state.system
    there = subst (λ c. c < columns_of state.system) basic.is (kept.solved.there i here)

-- a goal that is basic nowhere costs itself
pub free_costs : ℕ → ℕ → ℤ
free_costs goal zero = pos 0
free_costs goal (suc k) = unit goal k

free_cost_at : (goal columns j : ℕ) → goal < columns → j ≤ columns → free_costs goal (number_at columns j) ≡ free_cost goal j
unfolding free_costs
free_cost_at goal columns j h g = by_goal (j == goal) refl
  where
    by_column : (j ≡ columns) ⊎ (j ≡ columns → ⊥) → (j ≡ goal → ⊥) → free_costs goal (number_at columns j) ≡ pos 0
    by_column (inl e) n = ap (free_costs goal) (ap (number_at columns) e ∙ right_at columns)
    by_column (inr m) n = ap (free_costs goal) (column_at columns j (omega (arith, g, m))) ∙ unit_elsewhere goal j (λ k. n (sym k))

    by_goal : (b : Bool) → (j == goal) ≡ b → free_costs goal (number_at columns j) ≡ free_cost goal j
    by_goal true f =
        let same : j ≡ goal = eqb-true j goal f in
        ap (free_costs goal) (column_at columns j (omega (arith, h, same))) ∙ ap (unit goal) same ∙ unit_there goal ∙ sym (rw f refl)
    by_goal false f = by_column (same_or_not j columns) (eqb-false j goal f) ∙ sym (rw f refl)

alone : (t x y : ℤ) → t ≡ x → pos 1 *ℤ x ≡ pos 0 *ℤ y +ℤ t
alone t x y e = omega (arith, ints, e)

pub free_are : (state : State) → column_of state.system.strips state.goal < columns_of state.system → IsGoalFree state → AreCosts state (pos 1) (free_costs (column_of state.system.strips state.goal))
unfolding free_costs
free_are state there free = record {
  positive = omega (arith, ints);
  basic = λ i h. unit_elsewhere goal (basic_of state.basis i) (λ e. free.free i h (sym e));
  equal = λ x sol.
      alone _ _ (x 0) (total_same (columns_of state.system) (λ j. unit goal j *ℤ x (suc j)) (λ j. x (suc j) *ℤ unit goal j) (λ j l. times_comm (unit goal j) (x (suc j))) ∙ total_unit (columns_of state.system) goal (λ j. x (suc j)) there);
}
  where
    goal : ℕ
    goal = column_of state.system.strips state.goal

goal_free : (state : State) (lines : List (List ℤ)) → IsKept state lines → IsFree state.basis (column_of state.system.strips state.goal) → IsGoalFree state
goal_free state lines kept free = record { free = λ i h. free i (subst (λ n. i < n) (sym kept.basis_each) h) }

-- where the goal is basic
pub goal_told : (state now : State) (lines : List (List ℤ)) (basis : List ℕ) (goal i : ℕ) → state ≡ now → IsKept state lines → basis ≡ state.basis → IsBasicIn basis goal i → goal ≡ column_of state.system.strips state.goal → IsGoalRow now i
goal_told state now lines basis goal i e kept b basic c =
    let basic' : IsBasicIn state.basis (column_of state.system.strips state.goal) i = subst₂ (λ xs n. IsBasicIn xs n i) b c basic in
    subst (λ s. IsGoalRow s i) e (record { there = subst (λ n. i < n) kept.basis_each basic'.there; is = basic'.is })

-- where it isn't
pub free_told : (state now : State) (lines : List (List ℤ)) (basis : List ℕ) (goal : ℕ) → state ≡ now → IsKept state lines → basis ≡ state.basis → IsFree basis goal → goal ≡ column_of state.system.strips state.goal → IsGoalFree now
free_told state now lines basis goal e kept b free c = subst IsGoalFree e (goal_free state lines kept (subst₂ IsFree b c free))

pub free_entry : (state : State) (lines : List (List ℤ)) (j : ℕ) (num den : ℤ) (entry : Frac) → IsKept state lines → IsFree state.basis (column_of state.system.strips state.goal) → j ≤ columns_of state.system
    → num ≡ free_cost (column_of state.system.strips state.goal) j → den ≡ pos 1 → IsFracOf num den entry → IsCost state j entry
free_entry state lines j num den entry kept free h e f is = record {
  table = table_of lines;
  solved = kept.solved;
  times = pos 1;
  costs = free_costs (column_of state.system.strips state.goal);
  are = free_are state there (goal_free state lines kept free);
  is = subst₂ (λ a b. IsFracOf a b entry) (e ∙ sym (free_cost_at (column_of state.system.strips state.goal) (columns_of state.system) j there h)) f is;
}
  where
    there : column_of state.system.strips state.goal < columns_of state.system
    there = let b = column_below state.system.strips state.goal kept.goal_there.below in omega (arith, b)

-- the same as code reads it
abbrev stored : ℤ → ℤ
stored z = to_z w64 (of_z w64 z)

-- the line that code reads
line_is : (state : State) (lines : List (List ℤ)) (i : ℕ) (found slice : List ℤ) → IsKept state lines → i < length state.system.rows → found ≡ get_or lines i found → slice ≡ found → line_at lines i ≡ slice
line_is state lines i found slice kept h e f = line_read lines i found slice (subst (λ n. i < n) (sym kept.one_each) h) e f

pub whole_read : (state now : State) (lines : List (List ℤ)) (found slice : List ℤ) (i j columns place : ℕ) (r : ℤ) → state ≡ now → IsKept state lines → i < length now.system.rows
    → found ≡ get_or lines i found → slice ≡ found → columns ≡ columns_of now.system → place ≡ number_at columns j → r ≡ number_of slice place → IsWholeEntry now i j (stored r)
whole_read state now lines found slice i j columns place r e kept h f g k l m =
    let here : i < length state.system.rows = subst (λ s. i < length s.system.rows) (sym e) h in
    let line = line_is state lines i found slice kept here f g in
    let at : columns ≡ columns_of state.system = k ∙ ap (λ s. columns_of s.system) (sym e) in
    let is : r ≡ number_of (line_at lines i) (number_at (columns_of state.system) j) = m ∙ (λ t. number_of (sym line t) (l t)) ∙ ap (λ n. number_of (line_at lines i) (number_at n j)) at in
    subst (λ s. IsWholeEntry s i j (stored r)) e
    (whole_entry state lines i j (stored r) kept (small_read (number_of (line_at lines i) (number_at (columns_of state.system) j)) r ((kept.each i here).small.each (number_at (columns_of state.system) j)) is))

pub row_read : (state now : State) (lines : List (List ℤ)) (found slice : List ℤ) (i j columns place basic : ℕ) (r s : ℤ) (entry : Frac) → state ≡ now → IsKept state lines → i < length now.system.rows
    → found ≡ get_or lines i found → slice ≡ found → columns ≡ columns_of now.system → place ≡ number_at columns j → r ≡ number_of slice place
    → basic ≡ get_or state.basis i basic → s ≡ number_of slice (basic + 1) → IsFracOf (stored r) (stored s) entry → IsRowEntry now i j entry
row_read state now lines found slice i j columns place basic r s entry e kept h f g k l m n o is =
    let here : i < length state.system.rows = subst (λ s. i < length s.system.rows) (sym e) h in
    let line = line_is state lines i found slice kept here f g in
    let at : columns ≡ columns_of state.system = k ∙ ap (λ s. columns_of s.system) (sym e) in
    let small = (kept.each i here).small in
    let first : r ≡ number_of (line_at lines i) (number_at (columns_of state.system) j) = m ∙ (λ t. number_of (sym line t) (l t)) ∙ ap (λ n. number_of (line_at lines i) (number_at n j)) at in
    let column : basic + 1 ≡ suc (basic_of state.basis i) = next basic ∙ ap suc (n ∙ get_or_default state.basis i basic 0 (subst (λ n. i < n) (sym kept.basis_each) here)) in
    let second : s ≡ number_of (line_at lines i) (suc (basic_of state.basis i)) = o ∙ (λ t. number_of (sym line t) (column t)) in
    subst (λ s. IsRowEntry s i j entry) e
    (row_entry state lines i j (stored r) (stored s) entry kept (small_read _ r (small.each (number_at (columns_of state.system) j)) first) (small_read _ s (small.each (suc (basic_of state.basis i))) second) is)
  where
    next : (n : ℕ) → n + 1 ≡ suc n
    next n = omega arith

pub cost_read : (state now : State) (lines : List (List ℤ)) (found slice : List ℤ) (basis : List ℕ) (i j columns goal : ℕ) (r s : ℤ) (entry : Frac) → state ≡ now → IsKept state lines → basis ≡ state.basis
    → IsBasicIn basis goal i → goal ≡ column_of state.system.strips state.goal → j ≤ columns_of now.system → found ≡ get_or lines i found → slice ≡ found → columns ≡ columns_of now.system
    → r ≡ cost_of slice goal columns j → IsSmall r → s ≡ number_of slice (goal + 1) → IsFracOf (stored r) (stored s) entry → IsCost now j entry
cost_read state now lines found slice basis i j columns goal r s entry e kept b basic c h f g k m small o is =
    let basic' : IsBasicIn state.basis (column_of state.system.strips state.goal) i = subst₂ (λ xs n. IsBasicIn xs n i) b c basic in
    let here : i < length state.system.rows = subst (λ n. i < n) kept.basis_each basic'.there in
    let line = line_is state lines i found slice kept here f g in
    let at : columns ≡ columns_of state.system = k ∙ ap (λ s. columns_of s.system) (sym e) in
    let first : r ≡ cost_of (line_at lines i) (column_of state.system.strips state.goal) (columns_of state.system) j = m ∙ (λ t. cost_of (sym line t) (c t) (at t) j) in
    let column : goal + 1 ≡ suc (column_of state.system.strips state.goal) = next goal ∙ ap suc c in
    let second : s ≡ number_of (line_at lines i) (suc (column_of state.system.strips state.goal)) = o ∙ (λ t. number_of (sym line t) (column t)) in
    subst (λ s. IsCost s j entry) e
    (line_cost state lines i j (stored r) (stored s) entry kept basic' (subst (λ s. j ≤ columns_of s.system) (sym e) h) (small_read r r small refl ∙ first)
    (small_read _ s ((kept.each i here).small.each (suc (column_of state.system.strips state.goal))) second) is)
  where
    next : (n : ℕ) → n + 1 ≡ suc n
    next n = omega arith

pub free_read : (state now : State) (lines : List (List ℤ)) (basis : List ℕ) (j goal : ℕ) (r : ℤ) (entry : Frac) → state ≡ now → IsKept state lines → basis ≡ state.basis
    → IsFree basis goal → goal ≡ column_of state.system.strips state.goal → j ≤ columns_of now.system → r ≡ free_cost goal j → IsSmall r → IsFracOf (stored r) (pos 1) entry → IsCost now j entry
free_read state now lines basis j goal r entry e kept b free c h m small is =
    subst (λ s. IsCost s j entry) e
    (free_entry state lines j (stored r) (pos 1) entry kept (subst₂ IsFree b c free) (subst (λ s. j ≤ columns_of s.system) (sym e) h) (small_read r r small refl ∙ m ∙ ap (λ n. free_cost n j) c) refl is)

-- what a whole entry reads is small
pub whole_small : (state now : State) (lines : List (List ℤ)) (found slice : List ℤ) (i place : ℕ) (r : ℤ) → state ≡ now → IsKept state lines → i < length now.system.rows
    → found ≡ get_or lines i found → slice ≡ found → r ≡ number_of slice place → IsSmall (stored r)
whole_small state now lines found slice i place r e kept h f g m =
    let here : i < length state.system.rows = subst (λ s. i < length s.system.rows) (sym e) h in
    let line = line_is state lines i found slice kept here f g in
    let is : r ≡ number_of (line_at lines i) place = m ∙ (λ t. number_of (sym line t) place) in
    let small = (kept.each i here).small.each place in
    subst IsSmall (sym (small_read (number_of (line_at lines i) place) r small is)) small

-- all entries that are kept are small
pub small_table : (state : State) (lines : List (List ℤ)) → IsKept state lines → IsSmallTable state
small_table state lines kept = record { table = table_of lines; whole = whole_kept state lines kept; small = λ i h. record { each = λ s l. (kept.each i h).small.each s } }
