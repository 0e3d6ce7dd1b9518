-- Whole points that meet the root's rows are no better than the best, or meet those of an open node.
use Rattle.std.proofs.Common.{◌≡◌, ℕ, zero, suc, ◌+◌, ◌*◌, ◌/◌, ◌%◌, ◌<◌, ◌⊎◌, Bool, true, false, nat_lt, ◌==◌, if◌then◌else◌, ℤ, pos, negsuc, neg_ℤ, ◌+ℤ◌, ◌-ℤ◌, ◌*ℤ◌, ◌≤ℤ◌, ◌<ℤ◌, List, [], ◌∷◌, length, Option, Some, None, refl, sym, ap, subst, ◌∙◌, inl, inr, length-append, arith}
use Rattle.std.proofs.lemmas.Bool.{ltb-true}
use Rattle.std.proofs.lemmas.Int.{ints, by_lt_z}
use Rattle.std.proofs.lemmas.List.{length-set}
use Rattle.rt_rows.specs.declared.row.Var.TheVariants.{Axis}
use Rattle.rt_rows.specs.declared.row.Row.{Row}
use Rattle.rt_rows.specs.declared.row.Term.{Term}
use Rattle.rt_rows.specs.Rows.{at_most, at_least}
use Rattle.rt_cells.proofs.Times.{times_le, times_cancel_le}
use Rattle.rt_proofs.proofs.Products.{times_comm, times_assoc}
use Rattle.rt_solved.specs.Systems.{columns_of, variables_of, column_of}
use Rattle.rt_tableau.specs.States.{State}
use Rattle.rt_tableau.specs.Starts.{HasColumn, strips_with}
use Rattle.rt_tableau.specs.Added.{added_state}
use Rattle.rt_simplex.specs.Choices.{IsOptimum, goal_of}
use Rattle.rt_simplex.specs.Points.{IsPoint}
use Rattle.rt_tableau.specs.Starts.{HaveColumns}
use Rattle.rt_simplex.specs.Feasible.{IsDualFeasible}
use Rattle.rt_simplex.proofs.Rays.{ray_has_no_point_each}
use Rattle.rt_simplex.proofs.Kept.{kept_by_pivot}
use Rattle.rt_simplex.proofs.AddedCosts.{kept_by_row}
use Rattle.rt_simplex.proofs.GoalLines.{goal_before, goal_there}
use Rattle.rt_simplex.proofs.Leasts.{least_at_basis}
use Rattle.rt_simplex.proofs.BasisPoints.{spare_point, basic_value, optimum_point}
use Rattle.rt_branch.specs.Values.{IsValue, IsWholeValue, whole_at}
use Rattle.rt_branch.specs.Branches.{is_upwards, low_side, high_side, extent_along, variable_of, variable_at}
use Rattle.rt_branch.specs.declared.parts.Best.{Best}
use Rattle.rt_branch.specs.Searches.{Place, Move, place, start_at, IsLesser, IsNoLess, HasNoBetter, IsWholeEnd, IsMove, after, IsSearch}
use Rattle.rt_branch.specs.Searches.Move.{Pivot, Ray, Whole, Pruned, Branch}
use Rattle.rt_branch.specs.Searches.IsSearch.{none, more}
use Rattle.rt_branch.specs.Wholes.{IsWholePoint, IsLeastOf}
use Rattle.rt_branch.specs.Laws.{BestIsLeast}
use Rattle.rt_branch.proofs.OneValue.{over_positive, less_by}
use Rattle.rt_branch.proofs.Extended.{extended, same_there, extended_meets}

-- at an optimum the goal's value is a bound on all points
value_bound : (node : State) (right over : ℤ) → IsDualFeasible node → IsOptimum node → IsValue node (goal_of node) right over → (y : ℕ → ℤ) → IsPoint node.system y → y 0 ≡ pos 1 → right ≤ℤ (over *ℤ y (suc (goal_of node)))
value_bound node right over feasible optimum (inl value) y meets one =
    let spare = spare_point node value.table value.whole.solved in
    let p = spare.0 in
    let less = (least_at_basis node feasible p (optimum_point node value.table p value.whole optimum spare.1)).least y meets in
    let at_goal : value.table value.i (suc (goal_of node)) *ℤ p (suc (goal_of node)) ≡ value.table value.i 0 *ℤ p 0 =
    subst (λ c. value.table value.i (suc c) *ℤ p (suc c) ≡ value.table value.i 0 *ℤ p 0) value.is (basic_value node value.table p value.whole.solved spare.1 value.i value.there) in
    divided over right (p (suc (goal_of node))) (p 0) (y (suc (goal_of node))) (y 0) (over_positive node (goal_of node) right over (inl value)) spare.1.positive one
    (ap (λ z. z *ℤ p (suc (goal_of node))) value.over_is ∙ at_goal ∙ ap (λ z. z *ℤ p 0) (sym value.right_is)) less
  where
    divided : (o r g x h w : ℤ) → pos 0 <ℤ o → pos 0 <ℤ x → w ≡ pos 1 → o *ℤ g ≡ r *ℤ x → (g *ℤ w) ≤ℤ (h *ℤ x) → r ≤ℤ (o *ℤ h)
    divided o r g x h w ho hx e f k =
        times_cancel_le x r (o *ℤ h) (omega (arith, ints, hx))
        (under _ _ _ _ (times_comm x r ∙ sym f) (times_comm x (o *ℤ h) ∙ times_assoc o h x) (times_le o g (h *ℤ x) (omega (arith, ints, ho)) (first_one g w (h *ℤ x) e k)))
      where
        first_one : (a b c : ℤ) → b ≡ pos 1 → (a *ℤ b) ≤ℤ c → a ≤ℤ c
        first_one a b c e k = omega (arith, ints, ap (λ z. a *ℤ z) e, k)

        under : (a b c d : ℤ) → a ≡ c → b ≡ d → c ≤ℤ d → a ≤ℤ b
        under a b c d e f h = omega (arith, ints, e, f, h)
value_bound node right over feasible optimum (inr value) y meets one = none right over (y (suc (goal_of node))) value.right_is value.over_is (meets.columns (goal_of node) (goal_there node feasible))
  where
    none : (r o z : ℤ) → r ≡ pos 0 → o ≡ pos 1 → pos 0 ≤ℤ z → r ≤ℤ (o *ℤ z)
    none r o z e f h = omega (arith, ints, e, h, ap (λ w. w *ℤ z) f)

-- whole values are a bound
whole_bound : (node : State) (n : ℤ) → IsDualFeasible node → IsOptimum node → IsWholeValue node (goal_of node) n → (y : ℕ → ℤ) → IsPoint node.system y → y 0 ≡ pos 1 → n ≤ℤ y (suc (goal_of node))
whole_bound node n feasible optimum whole y meets one =
    times_cancel_le whole.over n (y (suc (goal_of node))) (let h = over_positive node (goal_of node) whole.right whole.over whole.value in omega (arith, ints, h))
    (from_equal _ _ _ (times_comm whole.over n ∙ sym whole.equal) (value_bound node whole.right whole.over feasible optimum whole.value y meets one))
  where
    from_equal : (a b c : ℤ) → a ≡ b → b ≤ℤ c → a ≤ℤ c
    from_equal a b c e h = omega (arith, ints, e, h)

-- a value beyond the next lower one is a bound
beyond_bound : (node : State) (n : ℤ) → IsDualFeasible node → IsOptimum node → IsNoLess node n → (y : ℕ → ℤ) → IsPoint node.system y → y 0 ≡ pos 1 → n ≤ℤ y (suc (goal_of node))
beyond_bound node n feasible optimum no_less y meets one =
    next n _ (less_by (n -ℤ pos 1) (y (suc (goal_of node))) no_less.over (over_positive node (goal_of node) no_less.right no_less.over no_less.value)
    (joined _ _ _ _ no_less.beyond (value_bound node no_less.right no_less.over feasible optimum no_less.value y meets one) (times_comm no_less.over (y (suc (goal_of node))))))
  where
    next : (a b : ℤ) → (a -ℤ pos 1) <ℤ b → a ≤ℤ b
    next a b h = omega (arith, ints, h)

    joined : (a b c d : ℤ) → a <ℤ b → b ≤ℤ c → c ≡ d → a <ℤ d
    joined a b c d h g e = omega (arith, ints, h, g, e)

-- the column's variable is one of a strip that there is
side_there : (strips : ℕ) (upwards : Bool) (j : ℕ) (b : Bool) → j < 2 * strips → strips_with (if b then low_side upwards (j / 2) else high_side upwards (j / 2)) < strips + 1
side_there strips true j true h = omega (arith, h)
side_there strips false j true h = omega (arith, h)
side_there strips true j false h = omega (arith, h)
side_there strips false j false h = omega (arith, h)

last_there : (strips : ℕ) (upwards : Bool) (b : Bool) → strips_with (if b then extent_along upwards else Axis) < strips + 1
last_there strips true true = omega arith
last_there strips false true = omega arith
last_there strips upwards false = omega arith

pub variable_there : (strips : ℕ) (upwards : Bool) (j : ℕ) → HasColumn strips (variable_of strips upwards j)
variable_there strips upwards j = record { below = by_test (nat_lt j (2 * strips)) refl }
  where
    by_test : (b : Bool) → nat_lt j (2 * strips) ≡ b
        → strips_with (if b then (if (j % 2) == 0 then low_side upwards (j / 2) else high_side upwards (j / 2)) else (if j == (2 * strips) then extent_along upwards else Axis)) < strips + 1
    by_test true e = side_there strips upwards j ((j % 2) == 0) (ltb-true j (2 * strips) e)
    by_test false e = last_there strips upwards (j == (2 * strips))

-- a node of the root's search: no column costs less than 0, each row has a basic column, and the goal is the root's
pub record IsNodeOf (root node : State) : Type 0 where
  pub feasible : IsDualFeasible node
  pub one_each : length node.basis ≡ length node.system.rows
  pub goal : goal_of node ≡ goal_of root

unfoldable pub AreNodesOf : State → List State → Type 0
AreNodesOf root [] = Unit {0}
AreNodesOf root (node ∷ rest) = IsNodeOf root node × AreNodesOf root rest

-- a point that meets the node's rows has the numbers of that one
record Holds (node : State) (x : ℕ → ℤ) : Type 0 where
  point : ℕ → ℤ
  meets : IsPoint node.system point
  one : point 0 ≡ pos 1
  same : (j : ℕ) → j < variables_of node.system → point (suc j) ≡ x (suc j)

SomeHolds : List State → (ℕ → ℤ) → Type 0
SomeHolds [] x = ⊥
SomeHolds (node ∷ rest) x = Holds node x ⊎ SomeHolds rest x

-- the best is no worse
IsReached : State → Option Best → (ℕ → ℤ) → Type 0
IsReached root None x = ⊥
IsReached root (Some best) x = best.extent ≤ℤ x (suc (goal_of root))

IsCovered : State → Option Best → List State → (ℕ → ℤ) → Type 0
IsCovered root best nodes x = IsReached root best x ⊎ SomeHolds nodes x

-- the node with a row added
added_node : (root node : State) (row : Row) (term : Term) → row.terms ≡ Some term ∷ None ∷ None ∷ [] → HasColumn node.system.strips term.var → IsNodeOf root node → IsNodeOf root (added_state node row)
added_node root node row term only there is = record {
  feasible = kept_by_row node row is.one_each (subst (HaveColumns node.system.strips) (sym only) (there, tt)) is.feasible;
  one_each = let a = length-append node.basis (columns_of node.system ∷ []) in let b = length-append node.system.rows (row ∷ []) in let e = is.one_each in omega (arith, a, b, e);
  goal = is.goal;
}

pub nodes_after : (root : State) (best : Option Best) (node : State) (rest : List State) (made : ℕ) (move : Move) → IsMove best node move → AreNodesOf root (node ∷ rest) → AreNodesOf root (after best node rest made move).nodes
unfolding AreNodesOf
nodes_after root best node rest made (Pivot p q) moves (is, others) =
    (record { feasible = kept_by_pivot node p q is.feasible moves.0; one_each = length-set node.basis p q ∙ is.one_each; goal = is.goal }, others)
nodes_after root best node rest made (Ray p) moves (is, others) = others
nodes_after root best node rest made (Whole kept) moves (is, others) = others
nodes_after root best node rest made Pruned moves (is, others) = others
nodes_after root best node rest made (Branch j n) moves (is, others) =
    let v = variable_at node j in
    let there = variable_there node.system.strips (is_upwards node.goal) j in (
      added_node root node (at_most v n) (record { var = v; times = negsuc 0 }) refl there is,
      (added_node root node (at_least v (n +ℤ pos 1)) (record { var = v; times = pos 1 }) refl there is, others),
    )

-- the goal at a held point
held_goal : (root node : State) (x : ℕ → ℤ) → IsNodeOf root node → (holds : Holds node x) → holds.point (suc (goal_of node)) ≡ x (suc (goal_of root))
held_goal root node x is holds = holds.same (goal_of node) (goal_before node is.feasible) ∙ ap (λ g. x (suc g)) is.goal

moved_bound : (n a b : ℤ) → a ≡ b → n ≤ℤ a → n ≤ℤ b
moved_bound n a b e h = omega (arith, ints, e, h)

kept_bound : (best : Option Best) (found kept : Best) (z : ℤ) → IsLesser best found kept → found.extent ≤ℤ z → kept.extent ≤ℤ z
kept_bound None found kept z e h = subst (λ (b : Best). b.extent ≤ℤ z) (sym e) h
kept_bound (Some best) found kept z (inl e) h = subst (λ (b : Best). b.extent ≤ℤ z) (sym e.1) h
kept_bound (Some best) found kept z (inr e) h = subst (λ (b : Best). b.extent ≤ℤ z) (sym e.1) (let l = e.0 in omega (arith, ints, l, h))

still_reached : (root : State) (best : Option Best) (found kept : Best) (x : ℕ → ℤ) → IsLesser best found kept → IsReached root best x → kept.extent ≤ℤ x (suc (goal_of root))
unfolding IsReached
still_reached root None found kept x e h = absurd h
still_reached root (Some best) found kept x (inl e) h = subst (λ (b : Best). b.extent ≤ℤ x (suc (goal_of root))) (sym e.1) (let l = e.0 in omega (arith, ints, l, h))
still_reached root (Some best) found kept x (inr e) h = subst (λ (b : Best). b.extent ≤ℤ x (suc (goal_of root))) (sym e.1) h

-- what a closed node holds is no better than the best
pruned_reached : (root : State) (best : Option Best) (node : State) (x : ℕ → ℤ) → IsNodeOf root node → IsOptimum node → HasNoBetter best node → Holds node x → IsReached root best x
unfolding IsReached
pruned_reached root None node x is optimum better holds = absurd better
pruned_reached root (Some best) node x is optimum better holds = moved_bound best.extent _ _ (held_goal root node x is holds) (beyond_bound node best.extent is.feasible optimum better holds.point holds.meets holds.one)

whole_reached : (root : State) (best : Option Best) (node : State) (kept : Best) (x : ℕ → ℤ) → IsNodeOf root node → IsWholeEnd best node kept → Holds node x → kept.extent ≤ℤ x (suc (goal_of root))
whole_reached root best node kept x is moves holds =
    kept_bound best (record { extent = whole_at moves.at (goal_of node); at = moves.at }) kept _ moves.lesser
    (moved_bound _ _ _ (held_goal root node x is holds)
    (whole_bound node (whole_at moves.at (goal_of node)) is.feasible moves.optimum (moves.whole.each (goal_of node) (goal_before node is.feasible)) holds.point holds.meets holds.one))

-- one of the two nodes of a branch holds what the node held
added_holds : (node : State) (row : Row) (term : Term) (only : row.terms ≡ Some term ∷ None ∷ None ∷ []) (there : HasColumn node.system.strips term.var) (feasible : IsDualFeasible node) (x : ℕ → ℤ) (holds : Holds node x)
    → row.least ≤ℤ (term.times *ℤ holds.point (suc (column_of node.system.strips term.var))) → Holds (added_state node row) x
added_holds node row term only there feasible x holds enough = record {
  point = extended node row term only there feasible holds.point holds.meets holds.one enough;
  meets = extended_meets node row term only there feasible holds.point holds.meets holds.one enough;
  one = same_there node row term only there feasible holds.point holds.meets holds.one enough 0 (omega arith) ∙ holds.one;
  same = λ j h. same_there node row term only there feasible holds.point holds.meets holds.one enough (suc j) (omega (arith, h)) ∙ holds.same j h;
}

one_holds : (node : State) (j : ℕ) (n : ℤ) (feasible : IsDualFeasible node) (x : ℕ → ℤ) → Holds node x
    → Holds (added_state node (at_most (variable_at node j) n)) x ⊎ Holds (added_state node (at_least (variable_at node j) (n +ℤ pos 1))) x
one_holds node j n feasible x holds =
    by_lt_z n (holds.point (suc (column_of node.system.strips (variable_at node j))))
    (λ l. inr (added_holds node (at_least (variable_at node j) (n +ℤ pos 1)) (record { var = variable_at node j; times = pos 1 }) refl there feasible x holds (from_next n _ l)))
    (λ g. inl (added_holds node (at_most (variable_at node j) n) (record { var = variable_at node j; times = negsuc 0 }) refl there feasible x holds (up_to n _ g)))
  where
    there : HasColumn node.system.strips (variable_at node j)
    there = variable_there node.system.strips (is_upwards node.goal) j

    from_next : (n z : ℤ) → n <ℤ z → (n +ℤ pos 1) ≤ℤ (pos 1 *ℤ z)
    from_next n z h = omega (arith, ints, h)

    turned_once : (y : ℤ) → negsuc 0 *ℤ y ≡ pos 0 -ℤ y
    turned_once (pos zero) = omega (arith, ints)
    turned_once (pos (suc k)) = omega (arith, ints)
    turned_once (negsuc k) = omega (arith, ints)

    up_to : (n z : ℤ) → z ≤ℤ n → neg_ℤ n ≤ℤ (negsuc 0 *ℤ z)
    up_to n z h = let t = turned_once z in omega (arith, ints, h, t)

covered_after : (root : State) (best : Option Best) (node : State) (rest : List State) (made : ℕ) (move : Move) (x : ℕ → ℤ) → IsMove best node move → IsNodeOf root node → IsCovered root best (node ∷ rest) x
    → IsCovered root (after best node rest made move).best (after best node rest made move).nodes x
unfolding IsCovered SomeHolds IsReached
covered_after root best node rest made (Pivot p q) x moves is (inl reached) = inl reached
covered_after root best node rest made (Pivot p q) x moves is (inr (inl holds)) = inr (inl (record { point = holds.point; meets = holds.meets; one = holds.one; same = holds.same }))
covered_after root best node rest made (Pivot p q) x moves is (inr (inr others)) = inr (inr others)
covered_after root best node rest made (Ray p) x moves is (inl reached) = inl reached
covered_after root best node rest made (Ray p) x moves is (inr (inl holds)) = absurd (ray_has_no_point_each node p holds.point moves holds.meets.solution holds.meets.positive holds.meets.columns)
covered_after root best node rest made (Ray p) x moves is (inr (inr others)) = inr others
covered_after root best node rest made (Whole kept) x moves is (inl reached) =
    inl (still_reached root best (record { extent = whole_at moves.at (goal_of node); at = moves.at }) kept x moves.lesser reached)
covered_after root best node rest made (Whole kept) x moves is (inr (inl holds)) = inl (whole_reached root best node kept x is moves holds)
covered_after root best node rest made (Whole kept) x moves is (inr (inr others)) = inr others
covered_after root best node rest made Pruned x moves is (inl reached) = inl reached
covered_after root best node rest made Pruned x moves is (inr (inl holds)) = inl (pruned_reached root best node x is moves.optimum moves.none holds)
covered_after root best node rest made Pruned x moves is (inr (inr others)) = inr others
covered_after root best node rest made (Branch j n) x moves is (inl reached) = inl reached
covered_after root best node rest made (Branch j n) x moves is (inr (inl holds)) =
    elim (one_holds node j n is.feasible x holds) [ inl first ↦ inr (inl first) | inr second ↦ inr (inr (inl second)) ]
covered_after root best node rest made (Branch j n) x moves is (inr (inr others)) = inr (inr (inr others))

-- what a search keeps
record IsKept (root : State) (at : Place) : Type 0 where
  nodes : AreNodesOf root at.nodes
  covered : (x : ℕ → ℤ) → IsWholePoint root.system x → IsCovered root at.best at.nodes x

kept_by_search : (root : State) (from : ℕ) → length root.basis ≡ length root.system.rows → IsDualFeasible root → (at : Place) → IsSearch (start_at root from) at → IsKept root at
unfolding AreNodesOf IsCovered SomeHolds
kept_by_search root from one_each feasible _ none = record {
  nodes = (record { feasible = feasible; one_each = one_each; goal = refl }, tt);
  covered = λ x whole. inr (inl (record { point = x; meets = whole.meets; one = whole.one; same = λ j h. refl }));
}
kept_by_search root from one_each feasible _ (more best node rest made move search moves) =
    let so = kept_by_search root from one_each feasible (place best (node ∷ rest) made) search in
    record {
      nodes = nodes_after root best node rest made move moves so.nodes;
      covered = λ x whole. covered_after root best node rest made move x moves so.nodes.0 (so.covered x whole);
    }

concluded : (root : State) (best : Option Best) → ((x : ℕ → ℤ) → IsWholePoint root.system x → IsCovered root best [] x) → IsLeastOf root best
unfolding IsCovered SomeHolds IsReached
concluded root None covered = λ x whole. elim (covered x whole) [ inl h ↦ absurd h | inr h ↦ absurd h ]
concluded root (Some best) covered = λ x whole. elim (covered x whole) [ inl h ↦ h | inr h ↦ absurd h ]

pub best_is_least_each : BestIsLeast
best_is_least_each root from at one_each feasible search closed =
    concluded root at.best (λ x whole. subst (λ nodes. IsCovered root at.best nodes x) closed ((kept_by_search root from one_each feasible at search).covered x whole))
