-- The best positions of a search are a whole point that meets the root's rows.
use Rattle.std.proofs.Common.{◌≡◌, ℕ, suc, ◌-◌, ◌<◌, ℤ, pos, ◌+ℤ◌, ◌-ℤ◌, ◌*ℤ◌, ◌≤ℤ◌, ◌<ℤ◌, List, [], ◌∷◌, length, Option, Some, None, refl, sym, ap, subst, ◌∙◌, inl, inr, length-append, arith}
use Rattle.std.proofs.lemmas.Bool.{cases_lt}
use Rattle.std.proofs.lemmas.Int.{ints}
use Rattle.rt_cells.proofs.Times.{times_sub, times_cancel_le}
use Rattle.rt_proofs.proofs.Products.{times_comm, times_assoc}
use Rattle.rt_rows.specs.declared.row.Row.{Row}
use Rattle.rt_rows.specs.Rows.{at_most, at_least}
use Rattle.rt_solved.specs.Systems.{columns_of, variables_of, own_column, row_at}
use Rattle.rt_solved.proofs.Proportional.{times_cancel}
use Rattle.rt_tableau.specs.States.{State}
use Rattle.rt_tableau.specs.Added.{IsBranch, added_state}
use Rattle.rt_simplex.specs.Choices.{IsOptimum, goal_of}
use Rattle.rt_simplex.specs.Points.{IsPoint, IsBasisPoint}
use Rattle.rt_simplex.specs.Feasible.{IsDualFeasible}
use Rattle.rt_simplex.specs.Shares.{HasTable}
use Rattle.rt_simplex.proofs.GoalLines.{goal_before}
use Rattle.rt_tableau.proofs.Sums.{sum_same, sum_scaled}
use Rattle.rt_simplex.proofs.BasisPoints.{spare_point, basic_value, optimum_point, IsSpare}
use Rattle.rt_branch.specs.Values.{IsValue, AreWhole, whole_at}
use Rattle.rt_branch.specs.Branches.{variable_at}
use Rattle.rt_branch.specs.declared.parts.Best.{Best}
use Rattle.rt_branch.specs.Searches.{Place, Move, place, start_at, IsLesser, IsMove, after, IsSearch}
use Rattle.rt_branch.specs.Searches.Move.{Pivot, Ray, Whole, Pruned, Branch}
use Rattle.rt_branch.specs.Searches.IsSearch.{none, more}
use Rattle.rt_branch.specs.Wholes.{IsAttained}
use Rattle.rt_branch.specs.Laws.{BestIsAttained}
use Rattle.rt_branch.proofs.OneValue.{over_positive}
use Rattle.rt_branch.proofs.Variables.{rows_are_branches_each}
use Rattle.rt_branch.proofs.WholePoints.{numbers, beyond_least, whole_point, first_is, one_positive, variable_is, own_is, split}
use Rattle.rt_branch.proofs.Covered.{IsNodeOf, AreNodesOf, nodes_after}
use Rattle.rt_branch.proofs.Grown.{solution_before, grown_table}

module _ (node : State) (at : List ℤ) (feasible : IsDualFeasible node) (held : HasTable node) (optimum : IsOptimum node) (whole : AreWhole node at) where
  spare : (point : ℕ → ℤ) × IsSpare node point
  spare = spare_point node held.table held.whole.solved

  p : ℕ → ℤ
  p = spare.0

  basis_point : IsBasisPoint node p
  unfolding p
  basis_point = optimum_point node held.table spare.0 held.whole optimum spare.1

  -- the point of the basis has so many times the numbers
  at_basis : (j : ℕ) (right over : ℤ) → j < columns_of node.system → IsValue node j right over → over *ℤ p (suc j) ≡ right *ℤ p 0
  unfolding p
  at_basis j right over h (inl value) =
      ap (λ z. z *ℤ spare.0 (suc j)) value.over_is
      ∙ subst (λ c. value.table value.i (suc c) *ℤ spare.0 (suc c) ≡ value.table value.i 0 *ℤ spare.0 0) value.is (basic_value node value.table spare.0 value.whole.solved spare.1 value.i value.there)
      ∙ ap (λ z. z *ℤ spare.0 0) (sym value.right_is)
  at_basis j right over h (inr value) = none over (spare.0 (suc j)) right (spare.0 0) (spare.1.off j value.off) value.right_is
    where
      none : (o x r y : ℤ) → x ≡ pos 0 → r ≡ pos 0 → o *ℤ x ≡ r *ℤ y
      none o x r y e f = let gone : pos 0 *ℤ y ≡ pos 0 = omega (arith, ints) in omega (arith, ints, ap (λ z. o *ℤ z) e, ap (λ z. z *ℤ y) f, gone)

  p_positive : pos 0 <ℤ p 0
  unfolding p
  p_positive = spare.1.positive

  scaled_variable : (j : ℕ) → j < variables_of node.system → p (suc j) ≡ p 0 *ℤ whole_at at j
  scaled_variable j h =
      let value = whole.each j h in
      divided _ _ _ _ _ (over_positive node j value.right value.over value.value) (at_basis j value.right value.over (omega (arith, h)) value.value) value.equal
    where
      divided : (o x r y m : ℤ) → pos 0 <ℤ o → o *ℤ x ≡ r *ℤ y → r ≡ m *ℤ o → x ≡ y *ℤ m
      divided o x r y m h e f = times_cancel o x (y *ℤ m) h (e ∙ ap (λ z. z *ℤ y) (f ∙ times_comm m o) ∙ times_assoc o m y ∙ ap (λ z. o *ℤ z) (times_comm m y))

  scaled_own : (d : ℕ) → d < length node.system.rows → p (suc (own_column node.system d)) ≡ p 0 *ℤ beyond_least node.system at d
  unfolding p
  scaled_own d h =
      summed _ (row_at node.system d).least (spare.0 0) _ _ _ (spare.1.solution.each d h).equal
      (sum_same node.system.strips spare.0 (λ s. spare.0 0 *ℤ numbers at s) (row_at node.system d).terms (feasible.rows d h) (λ j l. scaled_variable j l))
      (sum_scaled node.system.strips (spare.0 0) (numbers at) (row_at node.system d).terms)
    where
      summed : (x l y s u w : ℤ) → x +ℤ l *ℤ y ≡ s → s ≡ u → u ≡ y *ℤ w → x ≡ y *ℤ (w -ℤ l)
      summed x l y s u w e f g = omega (arith, ints, e, f, g, times_sub y w l, times_comm l y)

  scaled : (j : ℕ) → j < columns_of node.system → p (suc j) ≡ p 0 *ℤ whole_point node.system at (suc j)
  scaled j h =
      elim (cases_lt j (variables_of node.system)) [
        | inl l ↦ scaled_variable j l ∙ ap (λ z. p 0 *ℤ z) (sym (variable_is node.system at j l))
        | inr g ↦
            let same : own_column node.system (j - variables_of node.system) ≡ j = omega (arith, g) in
            subst (λ c. p (suc c) ≡ p 0 *ℤ whole_point node.system at (suc c)) same
            (scaled_own (j - variables_of node.system) (omega (arith, g, h)) ∙ ap (λ z. p 0 *ℤ z) (sym (own_is node.system at (j - variables_of node.system))))
      ]

  pub whole_meets : IsPoint node.system (whole_point node.system at)
  whole_meets = record {
    solution = record { each = λ d h. split node.system at feasible.rows d h };
    positive = one_positive node.system at;
    columns = λ j h. divided (p 0) _ _ p_positive (scaled j h) (basis_point.meets.columns j h);
  }
    where
      divided : (y x z : ℤ) → pos 0 <ℤ y → x ≡ y *ℤ z → pos 0 ≤ℤ x → pos 0 ≤ℤ z
      divided y x z h e g = times_cancel_le y (pos 0) z (omega (arith, ints, h)) (let gone : y *ℤ pos 0 ≡ pos 0 = omega (arith, ints) in omega (arith, ints, gone, e, g))

-- a point that meets all rows meets those before
point_before : (node : State) (row : Row) (y : ℕ → ℤ) → IsPoint (added_state node row).system y → IsPoint node.system y
point_before node row y meets = record {
  solution = solution_before node row y meets.solution;
  positive = meets.positive;
  columns = λ j h. meets.columns j (let e = length-append node.system.rows (row ∷ []) in omega (arith, e, h));
}

-- a node's rows are the root's and more, over the same variables, and are solved for its basis
record IsWithin (root node : State) : Type 0 where
  variables : variables_of node.system ≡ variables_of root.system
  meets : (y : ℕ → ℤ) → IsPoint node.system y → IsPoint root.system y
  table : HasTable node

AreWithin : State → List State → Type 0
AreWithin root [] = Unit {0}
AreWithin root (node ∷ rest) = IsWithin root node × AreWithin root rest

IsFound : State → Option Best → Type 0
IsFound root None = Unit {0}
IsFound root (Some best) = IsAttained root best

within_added : (root node : State) (row : Row) → length node.basis ≡ length node.system.rows → IsWithin root node → IsBranch node row → IsWithin root (added_state node row)
within_added root node row one_each within branch = record {
  variables = within.variables;
  meets = λ y meets. within.meets y (point_before node row y meets);
  table = grown_table node row one_each branch;
}

within_after : (root : State) (best : Option Best) (node : State) (rest : List State) (made : ℕ) (move : Move) → IsMove best node move → IsNodeOf root node → AreWithin root (node ∷ rest)
    → AreWithin root (after best node rest made move).nodes
unfolding AreWithin
within_after root best node rest made (Pivot p q) moves is (within, others) =
    (record { variables = within.variables; meets = within.meets; table = record { table = moves.1.table; whole = moves.1.whole } }, others)
within_after root best node rest made (Ray p) moves is (within, others) = others
within_after root best node rest made (Whole kept) moves is (within, others) = others
within_after root best node rest made Pruned moves is (within, others) = others
within_after root best node rest made (Branch j n) moves is (within, others) =
    let branches = rows_are_branches_each node j n moves.first in (
      within_added root node (at_most (variable_at node j) n) is.one_each within branches.0,
      (within_added root node (at_least (variable_at node j) (n +ℤ pos 1)) is.one_each within branches.1, others),
    )

-- whole values of an optimum are attained
attained : (root node : State) (at : List ℤ) → IsNodeOf root node → IsWithin root node → IsOptimum node → AreWhole node at → IsAttained root (record { extent = whole_at at (goal_of node); at = at })
attained root node at is within optimum whole = record {
  one_each = whole.one_each ∙ within.variables;
  point = whole_point node.system at;
  whole = record { meets = within.meets _ (whole_meets node at is.feasible within.table optimum whole); one = first_is node.system at };
  at = λ j h. variable_is node.system at j (let e = within.variables in omega (arith, e, h));
  extent = sym (variable_is node.system at (goal_of node) (goal_before node is.feasible))
      ∙ ap (λ g. whole_point node.system at (suc g)) is.goal;
}

kept_attained : (root : State) (best : Option Best) (found kept : Best) → IsLesser best found kept → IsFound root best → IsAttained root found → IsAttained root kept
unfolding IsFound
kept_attained root None found kept e before now = subst (IsAttained root) (sym e) now
kept_attained root (Some best) found kept (inl e) before now = subst (IsAttained root) (sym e.1) now
kept_attained root (Some best) found kept (inr e) before now = subst (IsAttained root) (sym e.1) before

found_after : (root : State) (best : Option Best) (node : State) (rest : List State) (made : ℕ) (move : Move) → IsMove best node move → IsNodeOf root node → IsWithin root node → IsFound root best
    → IsFound root (after best node rest made move).best
unfolding IsFound
found_after root best node rest made (Pivot p q) moves is within found = found
found_after root best node rest made (Ray p) moves is within found = found
found_after root best node rest made (Whole kept) moves is within found = kept_attained root best _ kept moves.lesser found (attained root node moves.at is within moves.optimum moves.whole)
found_after root best node rest made Pruned moves is within found = found
found_after root best node rest made (Branch j n) moves is within found = found

-- what a search keeps
record IsKept (root : State) (at : Place) : Type 0 where
  nodes : AreNodesOf root at.nodes
  within : AreWithin root at.nodes
  found : IsFound root at.best

kept_by_search : (root : State) (from : ℕ) → length root.basis ≡ length root.system.rows → HasTable root → IsDualFeasible root → (at : Place) → IsSearch (start_at root from) at → IsKept root at
unfolding AreNodesOf AreWithin IsFound
kept_by_search root from one_each held feasible _ none = record {
  nodes = (record { feasible = feasible; one_each = one_each; goal = refl }, tt);
  within = (record { variables = refl; meets = λ y meets. meets; table = held }, tt);
  found = tt;
}
kept_by_search root from one_each held feasible _ (more best node rest made move search moves) =
    let so = kept_by_search root from one_each held feasible (place best (node ∷ rest) made) search in
    record {
      nodes = nodes_after root best node rest made move moves so.nodes;
      within = within_after root best node rest made move moves so.nodes.0 so.within;
      found = found_after root best node rest made move moves so.nodes.0 so.within.0 so.found;
    }

pub best_is_attained_each : BestIsAttained
unfolding IsFound
best_is_attained_each root from at best one_each held feasible search is = subst (IsFound root) is (kept_by_search root from one_each held feasible at search).found
