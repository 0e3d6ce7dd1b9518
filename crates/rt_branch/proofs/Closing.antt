-- A search that has no open node has closed its root by the best positions that it found at last.
use Rattle.std.proofs.Common.{◌≡◌, ℕ, ◌<◌, ℤ, pos, ◌-ℤ◌, ◌*ℤ◌, ◌≤ℤ◌, ◌<ℤ◌, List, [], ◌∷◌, Option, Some, None, sym, ap, subst, inl, inr, arith}
use Rattle.std.proofs.lemmas.Int.{ints}
use Rattle.rt_cells.proofs.Times.{times_le, times_sub}
use Rattle.rt_proofs.proofs.Products.{times_comm}
use Rattle.rt_solved.specs.Systems.{variables_of}
use Rattle.rt_tableau.specs.States.{State}
use Rattle.rt_tableau.proofs.StartLines.{column_below}
use Rattle.rt_simplex.specs.Choices.{goal_of}
use Rattle.rt_branch.specs.Values.{IsWholeValue, whole_at}
use Rattle.rt_branch.specs.declared.parts.Best.{Best}
use Rattle.rt_branch.specs.Searches.{Place, Move, place, start_at, IsLesser, IsNoLess, HasNoBetter, IsMove, after, IsSearch}
use Rattle.rt_branch.specs.Searches.Move.{Pivot, Ray, Whole, Pruned, Branch}
use Rattle.rt_branch.specs.Searches.IsSearch.{none, more}
use Rattle.rt_branch.specs.Closed.{IsClosed}
use Rattle.rt_branch.specs.Closed.IsClosed.{ray, bound, pivot, branch}
use Rattle.rt_branch.specs.Laws.{SearchesClose}
use Rattle.rt_branch.proofs.OneValue.{over_positive}

-- the first is no worse than the second
IsNoWorse : Option Best → Option Best → Type 0
IsNoWorse last None = Unit {0}
IsNoWorse None (Some best) = ⊥
IsNoWorse (Some last) (Some best) = last.extent ≤ℤ best.extent

no_worse_self : (best : Option Best) → IsNoWorse best best
unfolding IsNoWorse
no_worse_self None = tt
no_worse_self (Some best) = omega (arith, ints)

-- nothing better than the one, so nothing better than what is no worse
less_beyond : (node : State) (m n : ℤ) → m ≤ℤ n → IsNoLess node n → IsNoLess node m
less_beyond node m n h no_less = record {
  right = no_less.right;
  over = no_less.over;
  value = no_less.value;
  beyond = lower m n no_less.over no_less.right (over_positive node (goal_of node) no_less.right no_less.over no_less.value) h no_less.beyond;
}
  where
    lower : (m n o r : ℤ) → pos 0 <ℤ o → m ≤ℤ n → ((n -ℤ pos 1) *ℤ o) <ℤ r → ((m -ℤ pos 1) *ℤ o) <ℤ r
    lower m n o r p h g = omega (arith, ints, times_le o (m -ℤ pos 1) (n -ℤ pos 1) (omega (arith, ints, p)) (omega (arith, ints, h)), times_comm o (m -ℤ pos 1), times_comm o (n -ℤ pos 1), g)

whole_beyond : (node : State) (n : ℤ) → IsWholeValue node (goal_of node) n → IsNoLess node n
whole_beyond node n whole = record {
  right = whole.right;
  over = whole.over;
  value = whole.value;
  beyond = lower n whole.over whole.right (over_positive node (goal_of node) whole.right whole.over whole.value) whole.equal;
}
  where
    lower : (n o r : ℤ) → pos 0 <ℤ o → r ≡ n *ℤ o → ((n -ℤ pos 1) *ℤ o) <ℤ r
    lower n o r p e = omega (arith, ints, e, times_comm (n -ℤ pos 1) o, times_sub o n (pos 1), times_comm o n, p)

AllClosed : Option Best → List State → Type 0
AllClosed last [] = Unit {0}
AllClosed last (node ∷ rest) = IsClosed last node × AllClosed last rest

HasGoal : List State → Type 0
HasGoal [] = Unit {0}
HasGoal (node ∷ rest) = (goal_of node < variables_of node.system) × HasGoal rest

goal_after : (best : Option Best) (node : State) (rest : List State) (made : ℕ) (move : Move) → HasGoal (node ∷ rest) → HasGoal (after best node rest made move).nodes
unfolding HasGoal
goal_after best node rest made (Pivot p q) has = has
goal_after best node rest made (Ray p) has = has.1
goal_after best node rest made (Whole kept) has = has.1
goal_after best node rest made Pruned has = has.1
goal_after best node rest made (Branch j n) has = (has.0, (has.0, has.1))

goals_kept : (root : State) (from : ℕ) → goal_of root < variables_of root.system → (at : Place) → IsSearch (start_at root from) at → HasGoal at.nodes
unfolding HasGoal
goals_kept root from h _ none = (h, tt)
goals_kept root from h _ (more best node rest made move search moves) = goal_after best node rest made move (goals_kept root from h (place best (node ∷ rest) made) search)

-- what is kept is no worse than what was there, and than what was found
kept_before : (last best : Option Best) (found kept : Best) → IsLesser best found kept → IsNoWorse last (Some kept) → IsNoWorse last best
unfolding IsNoWorse
kept_before last None found kept e h = tt
kept_before None (Some best) found kept e h = h
kept_before (Some last) (Some best) found kept (inl e) h =
    let l = e.0 in let same = ap (λ (b : Best). b.extent) e.1 in omega (arith, ints, h, l, same)
kept_before (Some last) (Some best) found kept (inr e) h = let same = ap (λ (b : Best). b.extent) e.1 in omega (arith, ints, h, same)

kept_found : (best : Option Best) (found kept : Best) → IsLesser best found kept → kept.extent ≤ℤ found.extent
kept_found None found kept e = let same = ap (λ (b : Best). b.extent) e in omega (arith, ints, same)
kept_found (Some best) found kept (inl e) = let same = ap (λ (b : Best). b.extent) e.1 in omega (arith, ints, same)
kept_found (Some best) found kept (inr e) = let l = e.0 in let same = ap (λ (b : Best). b.extent) e.1 in omega (arith, ints, same, l)

closed_whole : (last : Option Best) (node : State) (kept : Best) (n : ℤ) → kept.extent ≤ℤ n → IsWholeValue node (goal_of node) n → IsNoWorse last (Some kept) → HasNoBetter last node
unfolding IsNoWorse
closed_whole None node kept n h whole worse = worse
closed_whole (Some last) node kept n h whole worse = less_beyond node last.extent n (omega (arith, ints, worse, h)) (whole_beyond node n whole)

closed_pruned : (last best : Option Best) (node : State) → HasNoBetter best node → IsNoWorse last best → HasNoBetter last node
unfolding IsNoWorse
closed_pruned last None node better worse = absurd better
closed_pruned None (Some best) node better worse = worse
closed_pruned (Some last) (Some best) node better worse = less_beyond node last.extent best.extent worse better

better_before : (last best : Option Best) (node : State) (rest : List State) (made : ℕ) (move : Move) → IsMove best node move → IsNoWorse last (after best node rest made move).best → IsNoWorse last best
better_before last best node rest made (Pivot p q) moves worse = worse
better_before last best node rest made (Ray p) moves worse = worse
better_before last best node rest made (Whole kept) moves worse = kept_before last best _ kept moves.lesser worse
better_before last best node rest made Pruned moves worse = worse
better_before last best node rest made (Branch j n) moves worse = worse

closed_before : (last best : Option Best) (node : State) (rest : List State) (made : ℕ) (move : Move) → IsMove best node move → goal_of node < variables_of node.system → IsNoWorse last (after best node rest made move).best
    → AllClosed last (after best node rest made move).nodes → AllClosed last (node ∷ rest)
unfolding AllClosed
closed_before last best node rest made (Pivot p q) moves there worse closed = (pivot node p q moves.0 closed.0, closed.1)
closed_before last best node rest made (Ray p) moves there worse closed = (ray node p moves, closed)
closed_before last best node rest made (Whole kept) moves there worse closed =
    (bound node moves.optimum (closed_whole last node kept (whole_at moves.at (goal_of node)) (kept_found best _ kept moves.lesser) (moves.whole.each (goal_of node) there) worse), closed)
closed_before last best node rest made Pruned moves there worse closed = (bound node moves.optimum (closed_pruned last best node moves.none worse), closed)
closed_before last best node rest made (Branch j n) moves there worse closed = (branch node j n moves.first closed.0 closed.1.0, closed.1.1)

closed_root : (root : State) (from : ℕ) → goal_of root < variables_of root.system → (last : Option Best) (at : Place) → IsSearch (start_at root from) at → IsNoWorse last at.best → AllClosed last at.nodes → IsClosed last root
unfolding AllClosed HasGoal
closed_root root from h last _ none worse closed = closed.0
closed_root root from h last _ (more best node rest made move search moves) worse closed =
    closed_root root from h last (place best (node ∷ rest) made) search (better_before last best node rest made move moves worse)
    (closed_before last best node rest made move moves (goals_kept root from h (place best (node ∷ rest) made) search).0 worse closed)

pub searches_close_each : SearchesClose
unfolding AllClosed
searches_close_each root from at there search empty =
    closed_root root from (column_below root.system.strips root.goal there.below) at.best at search (no_worse_self at.best) (subst (AllClosed at.best) (sym empty) tt)
