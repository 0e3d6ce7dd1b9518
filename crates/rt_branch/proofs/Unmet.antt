-- Where a branch's row is added to an optimum, its own right side is below 0: the point of the basis doesn't meet it.
use Rattle.std.proofs.Common.{◌≡◌, ℕ, zero, suc, ◌<◌, ◌≤◌, ◌⊎◌, ℤ, pos, negsuc, neg_ℤ, ◌+ℤ◌, ◌*ℤ◌, ◌≤ℤ◌, ◌<ℤ◌, [], ◌∷◌, ◌++◌, length, sym, ap, subst, ◌∙◌, inl, inr, length-append, arith}
use Rattle.std.proofs.Math.Seq.{get_or-append_seam}
use Rattle.std.proofs.lemmas.Bool.{cases_lt}
use Rattle.std.proofs.lemmas.Int.{ints}
use Rattle.std.proofs.lemmas.List.{get_or_append_left}
use Rattle.rt_rows.specs.declared.row.Row.{Row}
use Rattle.rt_rows.specs.Rows.{sum_of_terms, at_most, at_least}
use Rattle.rt_cells.proofs.Times.{times_le, times_lt}
use Rattle.rt_proofs.proofs.Products.{times_comm, times_assoc}
use Rattle.rt_solved.specs.Systems.{columns_of, column_of, own_column, row_at, no_row}
use Rattle.rt_solved.specs.Tables.{basic_of}
use Rattle.rt_solved.proofs.Proportional.{same_or_not}
use Rattle.rt_solved.proofs.Totals.{sign_out}
use Rattle.rt_tableau.specs.States.{State, IsSmallTable}
use Rattle.rt_tableau.specs.Added.{added_state}
use Rattle.rt_tableau.proofs.Sums.{with_own, own_there, others_there, sum_same}
use Rattle.rt_simplex.specs.Choices.{IsOptimum}
use Rattle.rt_simplex.specs.Feasible.{IsDualFeasible}
use Rattle.rt_simplex.proofs.BasisPoints.{IsSpare, spare_point, basic_value, optimum_point}
use Rattle.rt_branch.specs.Values.{IsBasicValue, IsFirstBroken}
use Rattle.rt_branch.specs.Branches.{is_upwards, variable_at}
use Rattle.rt_branch.proofs.OneValue.{over_positive}
use Rattle.rt_branch.proofs.Variables.{broken_basic, variable_column}
use Rattle.rt_branch.proofs.Grown.{solution_before}

-- a spare point of the state with the row, without the row's own column
module _ (node : State) (row : Row) (feasible : IsDualFeasible node) (one_each : length node.basis ≡ length node.system.rows) (x : ℕ → ℤ) (spare : IsSpare (added_state node row) x) where
  cut : ℕ → ℤ
  cut = with_own (suc (columns_of node.system)) x (pos 0)

  cut_same : (s : ℕ) → s ≤ columns_of node.system → cut s ≡ x s
  unfolding cut
  cut_same s h = others_there (suc (columns_of node.system)) x (pos 0) s (λ e. omega (arith, e, h))

  cut_off : (j : ℕ) → ((i : ℕ) → i < length node.system.rows → basic_of node.basis i ≡ j → ⊥) → (j ≡ columns_of node.system) ⊎ (j ≡ columns_of node.system → ⊥) → cut (suc j) ≡ pos 0
  unfolding cut
  cut_off j off (inl e) = ap (λ s. with_own (suc (columns_of node.system)) x (pos 0) (suc s)) e ∙ own_there (suc (columns_of node.system)) x (pos 0)
  cut_off j off (inr n) =
      others_there (suc (columns_of node.system)) x (pos 0) (suc j) (λ e. n (omega (arith, e)))
      ∙ spare.off j (λ i h e. elim (cases_lt i (length node.system.rows)) [
        | inl l ↦ off i l (sym (get_or_append_left node.basis (columns_of node.system ∷ []) 0 i (omega (arith, l, one_each))) ∙ e)
        | inr g ↦
            let l = length-append node.system.rows (row ∷ []) in
            let at : i ≡ length node.basis = omega (arith, g, h, l, one_each) in
            n (sym (sym (ap (basic_of (node.basis ++ columns_of node.system ∷ [])) at ∙ get_or-append_seam node.basis (columns_of node.system) [] 0) ∙ e))
      ])

  cut_spare : IsSpare node cut
  cut_spare = record {
    solution = record {
      each = λ d h. record {
        equal = (λ i. cut_same (suc (own_column node.system d)) (omega (arith, h)) i +ℤ (row_at node.system d).least *ℤ cut_same 0 (omega arith) i)
            ∙ ((solution_before node row x spare.solution).each d h).equal
            ∙ sym (sum_same node.system.strips cut x (row_at node.system d).terms (feasible.rows d h) (λ j l. cut_same (suc j) (omega (arith, l))));
      };
    };
    positive = subst (λ z. pos 0 <ℤ z) (sym (cut_same 0 (omega arith))) spare.positive;
    off = λ j off. cut_off j off (same_or_not j (columns_of node.system));
  }

  -- a basic column is worth what it is worth at the node
  pub value_before : (j : ℕ) (right over : ℤ) → IsBasicValue node j right over → over *ℤ x (suc j) ≡ right *ℤ x 0
  value_before j right over value =
      let there = subst (λ c. c < columns_of node.system) value.is (value.whole.solved.there value.i value.there) in
      ap (λ z. z *ℤ x (suc j)) value.over_is ∙ ap (λ z. value.table value.i (suc j) *ℤ z) (sym (cut_same (suc j) there))
      ∙ subst (λ c. value.table value.i (suc c) *ℤ cut (suc c) ≡ value.table value.i 0 *ℤ cut 0) value.is (basic_value node value.table cut value.whole.solved cut_spare value.i value.there)
      ∙ (λ i. sym value.right_is i *ℤ cut_same 0 (omega arith) i)

  -- the row's own column there
  pub own_before : x (suc (columns_of node.system)) +ℤ row.least *ℤ x 0 ≡ sum_of_terms (λ var. x (suc (column_of node.system.strips var))) row.terms
  own_before =
      subst (λ (r : Row). x (suc (columns_of node.system)) +ℤ r.least *ℤ x 0 ≡ sum_of_terms (λ var. x (suc (column_of node.system.strips var))) r.terms) (get_or-append_seam node.system.rows row [] no_row)
      (spare.solution.each (length node.system.rows) (let l = length-append node.system.rows (row ∷ []) in omega (arith, l))).equal

turn : (a b c : ℤ) → a *ℤ (b *ℤ c) ≡ (b *ℤ a) *ℤ c
turn a b c = sym (times_assoc a b c) ∙ ap (λ z. z *ℤ c) (times_comm a b)

-- at most the whole number, where it's more
not_below : (o r n y z : ℤ) → pos 0 <ℤ o → pos 0 <ℤ z → o *ℤ y ≡ r *ℤ z → (n *ℤ o) <ℤ r → y ≤ℤ (n *ℤ z) → ⊥
not_below o r n y z oh zh e from h =
    let scaled = times_le o y (n *ℤ z) (omega (arith, ints, oh)) h in
    let more = times_lt z (n *ℤ o) r (omega (arith, ints, zh)) from in
    omega (arith, ints, e, scaled, turn o n z, more, times_comm z r, times_comm z (n *ℤ o))

-- at least the next one, where it's less
not_above : (o r m y z : ℤ) → pos 0 <ℤ o → pos 0 <ℤ z → o *ℤ y ≡ r *ℤ z → r <ℤ (m *ℤ o) → (m *ℤ z) ≤ℤ y → ⊥
not_above o r m y z oh zh e to h =
    let scaled = times_le o (m *ℤ z) y (omega (arith, ints, oh)) h in
    let less = times_lt z r (m *ℤ o) (omega (arith, ints, zh)) to in
    omega (arith, ints, e, scaled, turn o m z, less, times_comm z r, times_comm z (m *ℤ o))

turned_once : (y : ℤ) → negsuc 0 *ℤ y ≡ neg_ℤ y
turned_once (pos zero) = omega (arith, ints)
turned_once (pos (suc k)) = omega (arith, ints)
turned_once (negsuc k) = omega (arith, ints)

module _ (node : State) (j : ℕ) (n : ℤ) (feasible : IsDualFeasible node) (one_each : length node.basis ≡ length node.system.rows) (first : IsFirstBroken node j n) where
  value : IsBasicValue node j first.broken.right first.broken.over
  value = broken_basic node j n first.broken.right first.broken.over first.broken.value first.broken.from first.broken.to

  positive : pos 0 <ℤ first.broken.over
  positive = over_positive node j first.broken.right first.broken.over first.broken.value

  column_is : column_of node.system.strips (variable_at node j) ≡ j
  column_is = variable_column node.system.strips (is_upwards node.goal) j first.there

  worth : (x : ℕ → ℤ) (row : Row) → IsSpare (added_state node row) x → first.broken.over *ℤ x (suc (column_of node.system.strips (variable_at node j))) ≡ first.broken.right *ℤ x 0
  worth x row spare = subst (λ c. first.broken.over *ℤ x (suc c) ≡ first.broken.right *ℤ x 0) (sym column_is) (value_before node row feasible one_each x spare j first.broken.right first.broken.over value)

  -- at an optimum the row's own column isn't below 0
  met : (row : Row) (small : IsSmallTable (added_state node row)) → IsOptimum (added_state node row)
      → pos 0 ≤ℤ (spare_point (added_state node row) small.table small.whole.solved).0 (suc (columns_of node.system))
  met row small ended =
      let spare = spare_point (added_state node row) small.table small.whole.solved in
      (optimum_point (added_state node row) small.table spare.0 small.whole ended spare.1).meets.columns (columns_of node.system)
      (let l = length-append node.system.rows (row ∷ []) in omega (arith, l))

  pub down_not_met : IsSmallTable (added_state node (at_most (variable_at node j) n)) → IsOptimum (added_state node (at_most (variable_at node j) n)) → ⊥
  down_not_met small ended =
      let row = at_most (variable_at node j) n in
      let spare = spare_point (added_state node row) small.table small.whole.solved in
      not_below first.broken.over first.broken.right n _ (spare.0 0) positive spare.1.positive (worth spare.0 row spare.1) first.broken.from
      (low _ n (spare.0 0) _ (own_before node row feasible one_each spare.0 spare.1) (met row small ended))
    where
      low : (a n z y : ℤ) → a +ℤ neg_ℤ n *ℤ z ≡ negsuc 0 *ℤ y +ℤ (pos 0 +ℤ (pos 0 +ℤ pos 0)) → pos 0 ≤ℤ a → y ≤ℤ (n *ℤ z)
      low a n z y e h = omega (arith, ints, e, h, turned_once y, sign_out n z)

  pub up_not_met : IsSmallTable (added_state node (at_least (variable_at node j) (n +ℤ pos 1))) → IsOptimum (added_state node (at_least (variable_at node j) (n +ℤ pos 1))) → ⊥
  up_not_met small ended =
      let row = at_least (variable_at node j) (n +ℤ pos 1) in
      let spare = spare_point (added_state node row) small.table small.whole.solved in
      not_above first.broken.over first.broken.right (n +ℤ pos 1) _ (spare.0 0) positive spare.1.positive (worth spare.0 row spare.1) first.broken.to
      (high _ ((n +ℤ pos 1) *ℤ spare.0 0) _ (own_before node row feasible one_each spare.0 spare.1) (met row small ended))
    where
      high : (a z y : ℤ) → a +ℤ z ≡ pos 1 *ℤ y +ℤ (pos 0 +ℤ (pos 0 +ℤ pos 0)) → pos 0 ≤ℤ a → z ≤ℤ y
      high a z y e h = omega (arith, ints, e, h)
