-- What a search keeps, from one move to the next.
use Rattle.std.proofs.Common.{◌≡◌, ℕ, ◌+◌, ◌-◌, ◌<◌, ◌≤◌, ℤ, pos, neg_ℤ, ◌+ℤ◌, List, [], ◌∷◌, ◌++◌, length, reverse, Option, None, FitsSigned, refl, sym, ap, subst, subst₂, ◌∙◌, inl, inr, length-append, arith}
use Rattle.std.proofs.lemmas.Bool.{cases_lt}
use Rattle.std.proofs.lemmas.Int.{ints}
use Rattle.std.proofs.lemmas.List.{length-set, length-reverse}
use Rattle.rt_rows.specs.declared.row.Var.{Var}
use Rattle.rt_rows.specs.declared.row.Row.{Row}
use Rattle.rt_rows.specs.Rows.{at_most, at_least}
use Rattle.rt_rows.specs.Known.{IsSmall}
use Rattle.rt_solved.specs.Systems.{columns_of}
use Rattle.rt_solved.specs.Tables.{basic_of}
use Rattle.rt_tableau.specs.States.{State, IsSmallTable, exchanged_state}
use Rattle.rt_tableau.specs.Added.{IsAddable, IsBranch, added_state}
use Rattle.rt_tableau.proofs.StartLines.{column_below}
use Rattle.rt_simplex.specs.Choices.{IsOptimum, IsRay, IsDualPivot, goal_of}
use Rattle.rt_simplex.specs.Feasible.{IsDualFeasible}
use Rattle.rt_simplex.specs.Runs.{IsStop}
use Rattle.rt_simplex.specs.declared.answers.SearchError.{SearchError}
use Rattle.rt_simplex.specs.declared.answers.SearchError.TheVariants.{Refuted, Overflow, Budget, OutOfMemory}
use Rattle.rt_simplex.proofs.Kept.{kept_by_pivot}
use Rattle.rt_simplex.proofs.AddedCosts.{added_rows_keep_feasible_each}
use Rattle.rt_simplex.proofs.Entering.{negative}
use Rattle.rt_simplex.proofs.Chosen.{stored, small_stored}
use Rattle.rt_rows.proofs.Products.{small_fits_64}
use mir.Syntax.{w64}
use Rattle.rt_branch.specs.declared.parts.Change.{Change}
use Rattle.rt_branch.specs.declared.parts.Change.TheVariants.{Exchanged, Added}
use Rattle.rt_branch.specs.declared.parts.Waiting.{Waiting}
use Rattle.rt_branch.specs.Trails.{LedTo, WasExchanged, WasAdded}
use Rattle.rt_branch.specs.declared.parts.Best.{Best}
use Rattle.rt_branch.specs.declared.parts.Path.{Path}
use Rattle.rt_branch.specs.Values.{IsFirstBroken, AreWhole, whole_at}
use Rattle.rt_branch.specs.Branches.{variable_at}
use Rattle.rt_branch.specs.Searches.{Move, IsMove, IsLesser, HasNoBetter, MayHaveBetter, IsSearch, place, after, start_at}
use Rattle.rt_branch.specs.Searches.Move.{Pivot, Ray, Whole, Pruned, Branch}
use Rattle.rt_branch.specs.Searches.IsSearch.{none, more}
use Rattle.rt_branch.specs.Ends.{IsSmallBest, IsBestOf, AreKept}
use Rattle.rt_branch.specs.Going.{Standing, with_pivot, most_of, IsWithin, IsNode, IsWaiting, Wait, trail_of, waiting_of, just_added, to_come, work_left, IsOpen, IsLeft, IsOver, CanGoBack, IsGoneBack, Stops, IsEnded}
use Rattle.rt_branch.proofs.Undone.{popped}
use Rattle.rt_branch.proofs.Pruning.{best_small, new_small}
use Rattle.rt_branch.proofs.Addable.{branches_are_addable_each}
use Rattle.rt_branch.proofs.Variables.{rows_are_branches_each}
use Rattle.rt_branch.specs.Wholes.{IsTheLeast}
use Rattle.rt_branch.proofs.TheLeast.{best_is_the_least_each}
use Rattle.rt_branch.proofs.Unmet.{down_not_met, up_not_met}

-- more columns are as many at most
pub node_within : (most wider : ℕ) (node : State) → most ≤ wider → IsNode most node → IsNode wider node
node_within most wider node h is = record { feasible = is.feasible; one_each = is.one_each; small = is.small; few = let f = is.few in omega (arith, f, h) }

pub wait_within : (most wider : ℕ) (trail : List Change) (node : State) (waiting : List Waiting) (nodes : List State) → most ≤ wider → Wait most trail node waiting nodes → Wait wider trail node waiting nodes
wait_within most wider trail node [] nodes h wait = wait
wait_within most wider trail node (w ∷ others) nodes h (older, parent, rest, is, e, wait) = (
  older,
  parent,
  rest,
  record { later = is.later; trail_is = is.trail_is; length_is = is.length_is; led = is.led; parent_is = node_within most wider parent h is.parent_is; fit = is.fit; branch = is.branch; unmet = is.unmet },
  e,
  wait_within most wider older parent others rest h wait,
)

-- a change more
pub wait_further : (most : ℕ) (change : Change) (trail : List Change) (before node : State) (waiting : List Waiting) (nodes : List State)
    → ((later : List Change) (parent : State) → LedTo later parent before → LedTo (change ∷ later) parent node) → Wait most trail before waiting nodes → Wait most (change ∷ trail) node waiting nodes
wait_further most change trail before node [] nodes step wait = wait
wait_further most change trail before node (w ∷ others) nodes step (older, parent, rest, is, e, wait) = (
  older,
  parent,
  rest,
  record {
    later = change ∷ is.later;
    trail_is = ap (λ xs. change ∷ xs) is.trail_is;
    length_is = is.length_is;
    led = step is.later parent is.led;
    parent_is = is.parent_is;
    fit = is.fit;
    branch = is.branch;
    unmet = is.unmet;
  },
  e,
  wait,
)

just_at_most : (trail : List Change) → just_added trail ≤ 1
just_at_most [] = omega arith
just_at_most (Exchanged p column ∷ trail) = omega arith
just_at_most (Added ∷ trail) = omega arith

ready : (trail : List Change) → just_added trail ≡ 0 → to_come trail ≡ 2
ready [] e = refl
ready (Exchanged p column ∷ trail) e = refl
ready (Added ∷ trail) e = absurd (omega (arith, e))

-- there's room for one column more
room_there : (at : Standing) (columns : ℕ) → IsWithin at → columns ≤ most_of at → columns + 1 < 4294967296
room_there at columns within h = let s = within.since in let w = within.within in let r = within.room in omega (arith, s, w, r, h)

-- a row was added
pub was_added : (most : ℕ) (node : State) (row : Row) → IsNode most node → WasAdded node (added_state node row)
was_added most node row is = record { row = row; is = refl; small = is.small; one_each = is.one_each }

pub row_node : (most : ℕ) (node : State) (row : Row) → IsNode most node → IsAddable node.system.strips row → IsSmallTable (added_state node row) → IsNode (most + 1) (added_state node row)
row_node most node row is fit small = record {
  feasible = added_rows_keep_feasible_each node row is.one_each fit is.feasible;
  one_each = length-append node.basis (columns_of node.system ∷ []) ∙ ap (λ n. n + 1) is.one_each ∙ sym (length-append node.system.rows (row ∷ []));
  small = small;
  few = let f = is.few in let l = length-append node.system.rows (row ∷ []) in omega (arith, f, l);
}

-- a pivot was made
pub was_exchanged : (most : ℕ) (node : State) (p q column : ℕ) → IsNode most node → IsDualPivot node p q → column ≡ basic_of node.basis p → WasExchanged p column node (exchanged_state node p q)
was_exchanged most node p q column is dual e = record { q = q; negative = negative node p q dual; was = sym e; is = refl; small = is.small; one_each = is.one_each }

pub pivot_node : (most : ℕ) (node : State) (p q : ℕ) → IsNode most node → IsDualPivot node p q → IsSmallTable (exchanged_state node p q) → IsNode most (exchanged_state node p q)
pivot_node most node p q is dual small = record {
  feasible = kept_by_pivot node p q is.feasible dual;
  one_each = length-set node.basis p q ∙ is.one_each;
  small = small;
  few = is.few;
}

-- a node that isn't stands any more
pub leave : (at : Standing) (path : Path) (node : State) (move : Move) (stands : IsOpen at path node) → IsMove path.best node move → after path.best node stands.rest at.made move ≡ place path.best stands.rest at.made → IsLeft at path node
leave at path node move stands moves e = record {
  within = stands.within;
  rest = stands.rest;
  reached = subst (IsSearch (start_at at.root at.from)) e (more path.best node stands.rest at.made move stands.reached moves);
  named = record { each = stands.node_is.feasible.rows };
  small_best = stands.small_best;
  wait = stands.wait;
}

pub leave_ray : (at : Standing) (path : Path) (node : State) (p : ℕ) → IsOpen at path node → IsRay node p → IsLeft at path node
leave_ray at path node p stands ray = leave at path node (Ray p) stands ray refl

pub leave_pruned : (at : Standing) (path : Path) (node : State) (j : ℕ) (n : ℤ) → IsOpen at path node → IsOptimum node → IsFirstBroken node j n → HasNoBetter path.best node → IsLeft at path node
leave_pruned at path node j n stands optimum first nothing = leave at path node Pruned stands (record { optimum = optimum; j = j; n = n; first = first; none = nothing }) refl

pub leave_whole : (at : Standing) (path : Path) (new : Option Best) (node : State) (values : List ℤ) (found : Best) → IsOpen at path node → IsOptimum node → AreWhole node values → IsBestOf node values found
    → AreKept path.best found new → IsLeft at (record { changes = path.changes; waiting = path.waiting; best = new }) node
leave_whole at path new node values found stands optimum whole is kept = record {
  within = stands.within;
  rest = stands.rest;
  reached = subst (λ b. IsSearch (start_at at.root at.from) (place b stands.rest at.made)) (sym kept.is)
      (more path.best node stands.rest at.made (Whole kept.kept) stands.reached (record { optimum = optimum; at = values; whole = whole; lesser = subst (λ b. IsLesser path.best b kept.kept) found_is kept.lesser }));
  named = record { each = stands.node_is.feasible.rows };
  small_best = new_small path.best new found stands.small_best
      (best_small node values found stands.node_is.small (column_below node.system.strips node.goal stands.node_is.feasible.goal.below) whole is) kept;
  wait = stands.wait;
}
  where
    found_is : found ≡ record { extent = whole_at values (goal_of node); at = values }
    found_is = λ i. record { extent = is.extent_is i; at = is.at_is i }

-- the next node that waits
next_of : (most : ℕ) (trail : List Change) (node : State) (waiting others : List Waiting) (w : Waiting) (nodes : List State) → waiting ≡ others ++ w ∷ [] → Wait most trail node (reverse waiting) nodes → Wait most trail node (w ∷ reverse others) nodes
next_of most trail node waiting others w nodes e wait = subst (λ xs. Wait most trail node xs nodes) (popped waiting others w e) wait

pub none_waits : (at : Standing) (path new : Path) (node : State) → IsLeft at path node → path.waiting.items ≡ [] → new.best ≡ path.best → IsOver at new
none_waits at path new node left e b = record {
  within = left.within;
  reached = subst (λ nodes. IsSearch (start_at at.root at.from) (place new.best nodes at.made)) (subst (λ xs. Wait (most_of at) (trail_of path) node (reverse xs) left.rest) e left.wait)
      (subst (λ best. IsSearch (start_at at.root at.from) (place best left.rest at.made)) (sym b) left.reached);
}

module _ (at : Standing) (path : Path) (node : State) (left : IsLeft at path node) (others : List Waiting) (w : Waiting) (is : path.waiting.items ≡ others ++ w ∷ []) where
  next : Wait (most_of at) (trail_of path) node (w ∷ reverse others) left.rest
  next = next_of (most_of at) (trail_of path) node path.waiting.items others w left.rest is left.wait

  pub can_go_back : CanGoBack w.length (trail_of path) node
  can_go_back = by_wait next
    where
      by_wait : Wait (most_of at) (trail_of path) node (w ∷ reverse others) left.rest → CanGoBack w.length (trail_of path) node
      by_wait (older, parent, rest, waits, e, wait) = record { older = older; parent = parent; later = waits.later; trail_is = waits.trail_is; length_is = waits.length_is; led = waits.led }

  module _ (trail : List Change) (before : State) (gone : IsGoneBack w.length (trail_of path) node trail before) where
    -- the table is the parent's again
    record IsParent (older : List Change) (parent : State) : Type 0 where
      trail_is : trail ≡ older
      parent_is : before ≡ parent

    is_parent : (older : List Change) (parent : State) → IsWaiting (most_of at) (trail_of path) node w older parent → IsParent older parent
    is_parent older parent waits = let told = gone older waits.later parent waits.trail_is waits.length_is waits.led in record { trail_is = told.0; parent_is = told.1 }

    pub row_fits : IsAddable before.system.strips w.row
    row_fits = by_wait next
      where
        by_wait : Wait (most_of at) (trail_of path) node (w ∷ reverse others) left.rest → IsAddable before.system.strips w.row
        by_wait (older, parent, rest, waits, e, wait) = subst (λ (s : State). IsAddable s.system.strips w.row) (sym (is_parent older parent waits).parent_is) waits.fit

    pub row_branches : IsBranch before w.row
    row_branches = by_wait next
      where
        by_wait : Wait (most_of at) (trail_of path) node (w ∷ reverse others) left.rest → IsBranch before w.row
        by_wait (older, parent, rest, waits, e, wait) = subst (λ s. IsBranch s w.row) (sym (is_parent older parent waits).parent_is) waits.branch

    pub columns_there : columns_of before.system + 1 < 4294967296
    columns_there = by_wait next
      where
        by_wait : Wait (most_of at) (trail_of path) node (w ∷ reverse others) left.rest → columns_of before.system + 1 < 4294967296
        by_wait (older, parent, rest, waits, e, wait) =
            subst (λ (s : State). columns_of s.system + 1 < 4294967296) (sym (is_parent older parent waits).parent_is) (room_there at (columns_of parent.system) left.within waits.parent_is.few)

    pub next_opens : (new : State) (path' : Path) → new ≡ added_state before w.row → IsSmallTable new → trail_of path' ≡ Added ∷ trail → path'.waiting.items ≡ others → path'.best ≡ path.best → IsOpen at path' new
    next_opens new path' new_is small trail_is others_are best_is = by_wait next
      where
        by_wait : Wait (most_of at) (trail_of path) node (w ∷ reverse others) left.rest → IsOpen at path' new
        by_wait (older, parent, rest, waits, e, wait) =
            let parent_is = is_parent older parent waits in
            let new_parent : new ≡ added_state parent w.row = new_is ∙ (λ i. added_state (parent_is.parent_is i) w.row) in
            let trail_older : trail_of path' ≡ Added ∷ older = trail_is ∙ ap (λ xs. Added ∷ xs) parent_is.trail_is in
            let small_added = subst IsSmallTable new_parent small in
            subst (IsOpen at path') (sym new_parent)
            (record {
              within = left.within;
              rest = rest;
              reached = subst₂ (λ b nodes. IsSearch (start_at at.root at.from) (place b nodes at.made)) (sym best_is) e left.reached;
              node_is = subst (λ xs. IsNode (most_of at + just_added xs) (added_state parent w.row)) (sym trail_older) (row_node (most_of at) parent w.row waits.parent_is waits.fit small_added);
              small_best = subst IsSmallBest (sym best_is) left.small_best;
              unready = λ k. waits.unmet small_added;
              wait = subst₂ (λ xs ys. Wait (most_of at) xs (added_state parent w.row) ys rest) (sym trail_older) (ap reverse (sym others_are))
                  (wait_further (most_of at) Added older parent (added_state parent w.row) (reverse others) rest (λ later grand led. (parent, was_added (most_of at) parent w.row waits.parent_is, led)) wait);
            })

-- one node less waits, and a row was added last
pub next_less : (limit made : ℕ) (path path' : Path) (w : Waiting) (trail : List Change) → path.waiting.items ≡ path'.waiting.items ++ w ∷ [] → trail_of path' ≡ Added ∷ trail → work_left limit made path' < work_left limit made path
next_less limit made path path' w trail e f =
    let l = ap length e ∙ length-append path'.waiting.items (w ∷ []) in
    let z : to_come (trail_of path') ≡ 0 = ap to_come f in
    omega (arith, l, z)

-- a pivot more
pub pivot_opens : (at : Standing) (path path' : Path) (node new : State) (p q column : ℕ) → IsOpen at path node → IsDualPivot node p q → at.made < at.limit → new ≡ exchanged_state node p q → IsSmallTable new
    → column ≡ basic_of node.basis p → trail_of path' ≡ Exchanged p column ∷ trail_of path → path'.waiting.items ≡ path.waiting.items → path'.best ≡ path.best → IsOpen (with_pivot at) path' new
pivot_opens at path path' node new p q column stands dual below new_is small was trail_is waiting_is best_is =
    subst (IsOpen (with_pivot at) path') (sym new_is)
    (record {
      within = record { since = let s = stands.within.since in omega (arith, s); within = omega (arith, below); room = stands.within.room };
      rest = stands.rest;
      reached = subst (λ b. IsSearch (start_at at.root at.from) (place b (exchanged_state node p q ∷ stands.rest) (at.made + 1))) (sym best_is)
          (more path.best node stands.rest at.made (Pivot p q) stands.reached (dual, small_new));
      node_is = subst (λ xs. IsNode (most_of (with_pivot at) + just_added xs) (exchanged_state node p q)) (sym trail_is)
          (node_within (most_of at + just_added (trail_of path)) (most_of (with_pivot at) + 0) (exchanged_state node p q)
          (let s = stands.within.since in let o = just_at_most (trail_of path) in omega (arith, s, o)) (pivot_node (most_of at + just_added (trail_of path)) node p q stands.node_is dual small_new));
      small_best = subst IsSmallBest (sym best_is) stands.small_best;
      unready = λ k. absurd (let z : just_added (trail_of path') ≡ 0 = ap just_added trail_is in omega (arith, k, z));
      wait = subst₂ (λ xs ys. Wait (most_of (with_pivot at)) xs (exchanged_state node p q) (reverse ys) stands.rest) (sym trail_is) (sym waiting_is)
          (wait_further (most_of (with_pivot at)) (Exchanged p column) (trail_of path) node (exchanged_state node p q) (waiting_of path) stands.rest
          (λ later parent led. (node, was_exchanged (most_of at + just_added (trail_of path)) node p q column stands.node_is dual was, led))
          (wait_within (most_of at) (most_of (with_pivot at)) (trail_of path) node (waiting_of path) stands.rest (let s = stands.within.since in omega (arith, s)) stands.wait));
    })
  where
    small_new : IsSmallTable (exchanged_state node p q)
    small_new = subst IsSmallTable new_is small

turned_back : (n : ℤ) → IsSmall (neg_ℤ n) → IsSmall n
turned_back n small = let low = small.low in let high = small.high in record { low = omega (arith, ints, low, high); high = omega (arith, ints, low, high) }

-- both nodes of a branch
module _ (at : Standing) (path : Path) (node : State) (j : ℕ) (n : ℤ) (stands : IsOpen at path node) (optimum : IsOptimum node) (first : IsFirstBroken node j n) where
  not_just : just_added (trail_of path) ≡ 0
  not_just =
      let o = just_at_most (trail_of path) in
      elim (cases_lt 0 (just_added (trail_of path))) [
        | inl l ↦ absurd (stands.unready (omega (arith, l, o)) optimum)
        | inr g ↦ omega (arith, g)
      ]

  node_here : IsNode (most_of at) node
  node_here = subst (λ k. IsNode k node) (let z = not_just in omega (arith, z)) stands.node_is

  down : Row
  down = at_most (variable_at node j) n

  pub down_fits : IsAddable node.system.strips (at_most (variable_at node j) n)
  down_fits = (branches_are_addable_each node j n stands.node_is.small first).0

  up_fits : IsAddable node.system.strips (at_least (variable_at node j) (n +ℤ pos 1))
  up_fits = (branches_are_addable_each node j n stands.node_is.small first).1

  next_small : IsSmall (n +ℤ pos 1)
  next_small = up_fits.least

  floor_small : IsSmall n
  floor_small = turned_back n down_fits.least

  pub sum_fits : FitsSigned w64 (stored n +ℤ pos 1)
  sum_fits = subst (λ z. FitsSigned w64 (z +ℤ pos 1)) (sym (small_stored n floor_small)) (small_fits_64 (n +ℤ pos 1) next_small)

  -- the rows as code makes them
  pub down_read : (v : Var) (row : Row) → row ≡ at_most v (stored n) → v ≡ variable_at node j → row ≡ at_most (variable_at node j) n
  down_read v row e f = e ∙ (λ i. at_most (f i) (small_stored n floor_small i))

  pub up_read : (v : Var) (row : Row) → row ≡ at_least v (stored (stored n +ℤ pos 1)) → v ≡ variable_at node j → row ≡ at_least (variable_at node j) (n +ℤ pos 1)
  up_read v row e f = e ∙ (λ i. at_least (f i) ((ap (λ z. stored (z +ℤ pos 1)) (small_stored n floor_small) ∙ small_stored (n +ℤ pos 1) next_small) i))

  pub down_branches : IsBranch node (at_most (variable_at node j) n)
  down_branches = (rows_are_branches_each node j n first).0

  pub node_columns : columns_of node.system + 1 < 4294967296
  node_columns = room_there at (columns_of node.system) stands.within node_here.few

  pub branch_opens : (path' : Path) (new : State) (w : Waiting) → MayHaveBetter path.best node → new ≡ added_state node (at_most (variable_at node j) n) → IsSmallTable new
      → w ≡ record { length = length path.changes.items; row = at_least (variable_at node j) (n +ℤ pos 1) } → trail_of path' ≡ Added ∷ trail_of path
      → path'.waiting.items ≡ path.waiting.items ++ w ∷ [] → path'.best ≡ path.best → IsOpen at path' new
  branch_opens path' new w may new_is small w_is trail_is waiting_is best_is =
      subst (IsOpen at path') (sym new_is)
      (record {
        within = stands.within;
        rest = up_node ∷ stands.rest;
        reached = subst (λ b. IsSearch (start_at at.root at.from) (place b (down_node ∷ up_node ∷ stands.rest) at.made)) (sym best_is)
            (more path.best node stands.rest at.made (Branch j n) stands.reached (record { optimum = optimum; first = first; may = may }));
        node_is = subst (λ xs. IsNode (most_of at + just_added xs) down_node) (sym trail_is) (row_node (most_of at) node (at_most (variable_at node j) n) node_here down_fits small_down);
        small_best = subst IsSmallBest (sym best_is) stands.small_best;
        unready = λ k. down_not_met node j n stands.node_is.feasible stands.node_is.one_each first small_down;
        wait = subst₂ (λ xs ys. Wait (most_of at) xs down_node ys (up_node ∷ stands.rest)) (sym trail_is) (sym (popped path'.waiting.items path.waiting.items w waiting_is))
            (subst (λ v. Wait (most_of at) (Added ∷ trail_of path) down_node (v ∷ waiting_of path) (up_node ∷ stands.rest)) (sym w_is)
            (trail_of path, node, stands.rest, waits, refl, subst (λ k. Wait k (trail_of path) node (waiting_of path) stands.rest) refl stands.wait));
      })
    where
      down_node : State
      down_node = added_state node (at_most (variable_at node j) n)

      up_node : State
      up_node = added_state node (at_least (variable_at node j) (n +ℤ pos 1))

      small_down : IsSmallTable (added_state node (at_most (variable_at node j) n))
      small_down = subst IsSmallTable new_is small

      waits : IsWaiting (most_of at) (Added ∷ trail_of path) (added_state node (at_most (variable_at node j) n)) (record { length = length path.changes.items; row = at_least (variable_at node j) (n +ℤ pos 1) }) (trail_of path) node
      waits = record {
        later = Added ∷ [];
        trail_is = refl;
        length_is = length-reverse path.changes.items;
        led = (node, was_added (most_of at) node (at_most (variable_at node j) n) node_here, refl);
        parent_is = node_here;
        fit = up_fits;
        branch = (rows_are_branches_each node j n first).1;
        unmet = up_not_met node j n stands.node_is.feasible stands.node_is.one_each first;
      }

  -- a node more waits, but a pivot comes next
  pub branch_less : (path' : Path) (w : Waiting) → trail_of path' ≡ Added ∷ trail_of path → path'.waiting.items ≡ path.waiting.items ++ w ∷ [] → work_left at.limit at.made path' < work_left at.limit at.made path
  branch_less path' w e f =
      let l = ap length f ∙ length-append path.waiting.items (w ∷ []) in
      let z : to_come (trail_of path') ≡ 0 = ap to_come e in
      let y = ready (trail_of path) not_just in
      omega (arith, l, z, y)

-- a pivot is below the limit, as code counts
pub below_limit : (at : Standing) (count pivots limit : ℕ) → IsWithin at → count ≡ pivots → pivots ≡ at.made → limit ≡ at.limit → (count ≡ limit → ⊥) → at.made < at.limit
below_limit at count pivots limit within e f g n = let w = within.within in omega (arith, w, e, f, g, n)

-- why a pivot isn't made
pub stop_told : (at : Standing) (path : Path) (node new : State) (made : ℕ) (error : SearchError) → IsOpen at path node → new ≡ node → made ≡ at.made → IsStop at.limit new made error → Stops at.root at.from at.limit made error
stop_told at path node new made (Refuted proof) stands e f stop = stop
stop_told at path node new made (Overflow basis p q i j) stands e f stop = record {
  best = path.best;
  nodes = node ∷ stands.rest;
  reached = subst (λ m. IsSearch (start_at at.root at.from) (place path.best (node ∷ stands.rest) m)) (sym f) stands.reached;
  ending_is = record { node = node; rest = stands.rest; first = refl; stop = subst (λ s. IsStop at.limit s made (Overflow basis p q i j)) e stop };
}
stop_told at path node new made (Budget pivots) stands e f stop = record {
  best = path.best;
  nodes = node ∷ stands.rest;
  reached = subst (λ m. IsSearch (start_at at.root at.from) (place path.best (node ∷ stands.rest) m)) (sym f) stands.reached;
  ending_is = record { node = node; rest = stands.rest; first = refl; stop = subst (λ s. IsStop at.limit s made (Budget pivots)) e stop };
}
stop_told at path node new made OutOfMemory stands e f stop = tt

-- where a search begins
pub begun : (root : State) (from limit : ℕ) (path : Path) → IsDualFeasible root → length root.basis ≡ length root.system.rows → IsSmallTable root → from ≤ limit → columns_of root.system + limit + 1 < 4294967296 + from
    → path.changes.items ≡ [] → path.waiting.items ≡ [] → path.best ≡ None → IsOpen (record { root = root; from = from; limit = limit; made = from }) path root
begun root from limit path feasible one_each small h few changes waiting best = record {
  within = record { since = omega arith; within = h; room = few };
  rest = [];
  reached = subst (λ b. IsSearch (start_at root from) (place b (root ∷ []) from)) (sym best) none;
  node_is = record { feasible = feasible; one_each = one_each; small = small; few = omega arith };
  small_best = subst IsSmallBest (sym best) tt;
  unready = λ k. absurd (let z : just_added (trail_of path) ≡ 0 = ap (λ xs. just_added (reverse xs)) changes in omega (arith, k, z));
  wait = subst (λ xs. Wait (columns_of root.system + (from - from)) (trail_of path) root (reverse xs) []) (sym waiting) refl;
}

-- where no node is open
pub ended : (at : Standing) (path : Path) → IsOver at path → IsEnded at.root at.from at.limit at.made path.best
ended at path over = record { best = path.best; nodes = []; reached = over.reached; ending_is = record { closed = refl; found = refl; within = over.within.within } }

pub found_least : (root : State) (from : ℕ) (at : Standing) (path : Path) → at.root ≡ root → at.from ≡ from → length root.basis ≡ length root.system.rows → IsSmallTable root → IsDualFeasible root → IsOver at path → IsTheLeast root path.best
found_least root from at path e f one_each small feasible over =
    best_is_the_least_each root from (place path.best [] at.made) one_each (record { table = small.table; whole = small.whole }) feasible (subst₂ (λ r n. IsSearch (start_at r n) (place path.best [] at.made)) e f over.reached) refl
