-- A table of whole numbers with the row of a branch has one of whole numbers too.
use Rattle.std.proofs.Common.{◌≡◌, ℕ, zero, suc, ◌<◌, ◌≤◌, ◌⊎◌, Bool, true, false, ◌==◌, if◌then◌else◌, ℤ, pos, negsuc, neg_ℤ, ◌+ℤ◌, ◌-ℤ◌, ◌*ℤ◌, ◌<ℤ◌, List, [], ◌∷◌, ◌++◌, length, refl, sym, ap, subst, subst₂, ◌∙◌, inl, inr, length-append, arith}
use Rattle.std.proofs.Math.Seq.{get_or-append_seam}
use Rattle.std.proofs.lemmas.Bool.{cases_lt, eqb-true, eq-eqb}
use Rattle.std.proofs.lemmas.Int.{ints}
use Rattle.std.proofs.lemmas.List.{get_or_append_left}
use Rattle.rt_cells.proofs.Times.{times_sum, times_sub}
use Rattle.rt_proofs.proofs.Products.{times_comm, times_assoc}
use Rattle.rt_rows.specs.declared.row.Row.{Row}
use Rattle.rt_rows.specs.Rows.{sum_of_terms}
use Rattle.rt_solved.specs.Lines.{worth, LiesOn, Divides, IsReduced}
use Rattle.rt_solved.specs.Systems.{columns_of, column_of, own_column, no_row, IsSplit, IsSolution}
use Rattle.rt_solved.specs.Tables.{IsSolvedFor, basic_of}
use Rattle.rt_solved.proofs.Totals.{total_same, total_combined, total_unit, worth_none, lies_on, worth_combined, unit, unit_there, unit_elsewhere}
use Rattle.rt_solved.proofs.Proportional.{times_cancel, same_or_not}
use Rattle.rt_tableau.specs.States.{State}
use Rattle.rt_tableau.specs.Added.{IsBranch, added_state}
use Rattle.rt_simplex.specs.Shares.{HasTable}
use Rattle.rt_tableau.proofs.Sums.{with_own, own_there, others_there}

-- a solution of all rows is one of those before
pub solution_before : (state : State) (row : Row) (x : ℕ → ℤ) → IsSolution (added_state state row).system x → IsSolution state.system x
solution_before state row x sol = record {
  each = λ d h. record {
    equal = subst
        (λ (r : Row). x (suc (own_column state.system d)) +ℤ r.least *ℤ x 0 ≡ sum_of_terms (λ var. x (suc (column_of state.system.strips var))) r.terms)
        (get_or_append_left state.system.rows (row ∷ []) no_row d h) (sol.each d (let e = length-append state.system.rows (row ∷ []) in omega (arith, e, h))).equal;
  };
}

module _ (state : State) (row : Row) (one_each : length state.basis ≡ length state.system.rows) (branch : IsBranch state row) where
  n : ℕ
  n = columns_of state.system

  k : ℕ
  k = length state.system.rows

  c : ℕ
  c = column_of state.system.strips branch.term.var

  t : ℤ
  t = branch.term.times

  -- the line of the basic variable
  line : ℕ → ℤ
  line = branch.table branch.i

  o : ℤ
  o = branch.table branch.i (suc (column_of state.system.strips branch.term.var))

  c_there : c < n
  unfolding c n
  c_there = subst (λ b. b < columns_of state.system) branch.basic (branch.whole.solved.there branch.i branch.there)

  o_positive : pos 0 <ℤ o
  unfolding o
  o_positive = subst (λ b. pos 0 <ℤ branch.table branch.i (suc b)) branch.basic (branch.whole.solved.positive branch.i branch.there)

  -- a line with nothing in the new column
  cut : (ℕ → ℤ) → ℕ → ℤ
  cut old = with_own (suc n) old (pos 0)

  cut_own : (old : ℕ → ℤ) → cut old (suc n) ≡ pos 0
  unfolding cut
  cut_own old = own_there (suc n) old (pos 0)

  cut_same : (old : ℕ → ℤ) (s : ℕ) → s ≤ n → cut old s ≡ old s
  unfolding cut
  cut_same old s h = others_there (suc n) old (pos 0) s (λ e. omega (arith, e, h))

  -- the added row as a line
  row_line : ℕ → ℤ
  row_line zero = neg_ℤ row.least
  row_line (suc j) = unit n j -ℤ t *ℤ unit c j

  -- the added row with the basic variable taken out
  new_line : ℕ → ℤ
  new_line s = t *ℤ cut line s +ℤ o *ℤ row_line s

  worth_cut : (old x : ℕ → ℤ) → worth (suc n) (cut old) x ≡ worth n old x
  worth_cut old x =
      closed _ _ _ _ _ (total_same n (λ j. cut old (suc j) *ℤ x (suc j)) (λ j. old (suc j) *ℤ x (suc j)) (λ j h. ap (λ z. z *ℤ x (suc j)) (cut_same old (suc j) (omega (arith, h)))))
      (none (cut old (suc n)) (x (suc n)) (cut_own old)) (ap (λ z. z *ℤ x 0) (cut_same old 0 (omega arith)))
    where
      closed : (a b l p q : ℤ) → a ≡ b → l ≡ pos 0 → p ≡ q → (a +ℤ l) -ℤ p ≡ b -ℤ q
      closed a b l p q e f g = omega (arith, ints, e, f, g)

      none : (a b : ℤ) → a ≡ pos 0 → a *ℤ b ≡ pos 0
      none a b e = let gone : pos 0 *ℤ b ≡ pos 0 = omega (arith, ints) in ap (λ z. z *ℤ b) e ∙ gone

  worth_row : (x : ℕ → ℤ) → worth (suc n) row_line x ≡ (x (suc n) +ℤ row.least *ℤ x 0) -ℤ t *ℤ x (suc c)
  unfolding row_line
  worth_row x =
      closed _ _ _ t _ _ row.least (x 0)
      (total_combined (suc n) (λ j. x (suc j) *ℤ unit n j) (λ j. x (suc j) *ℤ unit c j) (λ j. (unit n j -ℤ t *ℤ unit c j) *ℤ x (suc j)) (pos 1) (neg_ℤ t) (pos 1) (λ j h. spread t (unit n j) (unit c j) (x (suc j))))
      (total_unit (suc n) n (λ j. x (suc j)) (omega arith)) (total_unit (suc n) c (λ j. x (suc j)) (let h = c_there in omega (arith, h)))
    where
      turned : (a b : ℤ) → neg_ℤ a *ℤ b ≡ neg_ℤ (a *ℤ b)
      turned a b = omega (arith, ints, times_comm (neg_ℤ a) b, times_sub b (pos 0) a, as_less a, times_comm a b, ap (λ z. b *ℤ z) (as_less a))
        where
          as_less : (a : ℤ) → neg_ℤ a ≡ pos 0 -ℤ a
          as_less a = omega (arith, ints)

      spread : (t u v x : ℤ) → pos 1 *ℤ ((u -ℤ t *ℤ v) *ℤ x) ≡ pos 1 *ℤ (x *ℤ u) +ℤ neg_ℤ t *ℤ (x *ℤ v)
      spread t u v x =
          omega (arith, ints, times_comm (u -ℤ t *ℤ v) x, times_sub x u (t *ℤ v), turned t (x *ℤ v), times_comm x (t *ℤ v), times_assoc t v x, ap (λ z. t *ℤ z) (times_comm v x))

      closed : (h f g t a b l y : ℤ) → pos 1 *ℤ h ≡ pos 1 *ℤ f +ℤ neg_ℤ t *ℤ g → f ≡ a → g ≡ b → h -ℤ neg_ℤ l *ℤ y ≡ (a +ℤ l *ℤ y) -ℤ t *ℤ b
      closed h f g t a b l y e p q = omega (arith, ints, e, p, turned t g, turned l y, ap (λ z. t *ℤ z) q)

  worth_new : (x : ℕ → ℤ) → worth (suc n) new_line x ≡ t *ℤ worth n line x +ℤ o *ℤ ((x (suc n) +ℤ row.least *ℤ x 0) -ℤ t *ℤ x (suc c))
  unfolding new_line
  worth_new x =
      once _ _ (worth_combined (suc n) new_line (cut line) row_line x t o (pos 1) (λ s h. one_of (t *ℤ cut line s +ℤ o *ℤ row_line s))) ∙ (λ i. t *ℤ worth_cut line x i +ℤ o *ℤ worth_row x i)
    where
      one_of : (z : ℤ) → pos 1 *ℤ z ≡ z
      one_of z = omega (arith, ints)

      once : (a b : ℤ) → pos 1 *ℤ a ≡ b → a ≡ b
      once a b e = omega (arith, ints, e)

  grown : ℕ → ℕ → ℤ
  grown r = if r == k then new_line else cut (branch.table r)

  grown_last : new_line ≡ grown k
  unfolding grown
  grown_last = rw (eq-eqb k k refl) refl

  grown_before : (r : ℕ) → r < k → cut (branch.table r) ≡ grown r
  unfolding grown
  grown_before r h = by_test (r == k) refl
    where
      by_test : (b : Bool) → (r == k) ≡ b → cut (branch.table r) ≡ (if b then new_line else cut (branch.table r))
      by_test true e = let same = eqb-true r k e in absurd (omega (arith, h, same))
      by_test false e = refl

  there_before : (r : ℕ) → r < k → basic_of state.basis r < n
  unfolding k n
  there_before r h = branch.whole.solved.there r h

  -- a new line's number at an old column
  new_at : (j : ℕ) → j < n → new_line (suc j) ≡ t *ℤ line (suc j) +ℤ o *ℤ (pos 0 -ℤ t *ℤ unit c j)
  unfolding new_line row_line
  new_at j h = (λ i. t *ℤ cut_same line (suc j) (omega (arith, h)) i +ℤ o *ℤ (unit_elsewhere n j (λ e. omega (arith, e, h)) i -ℤ t *ℤ unit c j))

  new_own : new_line (suc n) ≡ o
  unfolding new_line row_line
  new_own = alone t o _ _ _ (cut_own line) (unit_there n) (unit_elsewhere c n (λ e. let h = c_there in omega (arith, e, h)))
    where
      alone : (t o z u v : ℤ) → z ≡ pos 0 → u ≡ pos 1 → v ≡ pos 0 → t *ℤ z +ℤ o *ℤ (u -ℤ t *ℤ v) ≡ o
      alone t o z u v e f g =
          let inner : u -ℤ t *ℤ v ≡ pos 1 = omega (arith, ints, f, ap (λ y. t *ℤ y) g) in
          omega (arith, ints, ap (λ y. t *ℤ y) e, ap (λ y. o *ℤ y) inner)

  basis' : List ℕ
  basis' = state.basis ++ columns_of state.system ∷ []

  basic_before : (r : ℕ) → r < k → basic_of basis' r ≡ basic_of state.basis r
  unfolding basis' k
  basic_before r h = get_or_append_left state.basis (columns_of state.system ∷ []) 0 r (omega (arith, h, one_each))

  basic_last : basic_of basis' k ≡ n
  unfolding basis' k n
  basic_last = ap (basic_of (state.basis ++ columns_of state.system ∷ [])) (sym one_each) ∙ get_or-append_seam state.basis (columns_of state.system) [] 0

  -- with another line's basic column
  new_clear : (r : ℕ) → r < k → new_line (suc (basic_of state.basis r)) ≡ pos 0
  unfolding k line o c
  new_clear r h = new_at (basic_of state.basis r) (there_before r h) ∙ by_row (same_or_not branch.i r)
    where
      at_own : (t z o u : ℤ) → z ≡ o → u ≡ pos 1 → t *ℤ z +ℤ o *ℤ (pos 0 -ℤ t *ℤ u) ≡ pos 0
      at_own t z o u e f =
          let inner : pos 0 -ℤ t *ℤ u ≡ pos 0 -ℤ t = omega (arith, ints, ap (λ y. t *ℤ y) f) in
          omega (arith, ints, ap (λ y. t *ℤ y) e, ap (λ y. o *ℤ y) inner, times_sub o (pos 0) t, times_comm o t)

      elsewhere : (t z o u : ℤ) → z ≡ pos 0 → u ≡ pos 0 → t *ℤ z +ℤ o *ℤ (pos 0 -ℤ t *ℤ u) ≡ pos 0
      elsewhere t z o u e f =
          let inner : pos 0 -ℤ t *ℤ u ≡ pos 0 = omega (arith, ints, ap (λ y. t *ℤ y) f) in
          omega (arith, ints, ap (λ y. t *ℤ y) e, ap (λ y. o *ℤ y) inner)

      no_sign : (z : ℤ) → pos 0 <ℤ z → z ≡ pos 0 → ⊥
      no_sign z p q = omega (arith, ints, p, q)

      by_row : (branch.i ≡ r) ⊎ (branch.i ≡ r → ⊥) → t *ℤ line (suc (basic_of state.basis r)) +ℤ o *ℤ (pos 0 -ℤ t *ℤ unit c (basic_of state.basis r)) ≡ pos 0
      by_row (inl e) =
          let same : basic_of state.basis r ≡ c = ap (basic_of state.basis) (sym e) ∙ branch.basic in
          at_own t _ o _ (ap (λ b. line (suc b)) same) (ap (unit c) same ∙ unit_there c)
      by_row (inr m) =
          let none = branch.whole.solved.alone branch.i r branch.there h m in
          elsewhere t _ o _ none (unit_elsewhere c (basic_of state.basis r) (λ e. no_sign o o_positive (ap (λ b. line (suc b)) e ∙ none)))

  old_positive : (r : ℕ) → r < k → pos 0 <ℤ branch.table r (suc (basic_of state.basis r))
  unfolding k
  old_positive r l = branch.whole.solved.positive r l

  old_alone : (r s : ℕ) → r < k → s < k → (r ≡ s → ⊥) → branch.table r (suc (basic_of state.basis s)) ≡ pos 0
  unfolding k
  old_alone r s l u m = branch.whole.solved.alone r s l u m

  there_grown : (r : ℕ) → r < suc k → basic_of basis' r < suc n
  there_grown r h =
      elim (cases_lt r k) [
        | inl l ↦ subst (λ b. b < suc n) (sym (basic_before r l)) (let b = there_before r l in omega (arith, b))
        | inr g ↦ subst (λ b. b < suc n) (sym (ap (basic_of basis') (same_row g) ∙ basic_last)) (omega arith)
      ]
    where
      same_row : k ≤ r → r ≡ k
      same_row g = omega (arith, g, h)

  positive_grown : (r : ℕ) → r < suc k → pos 0 <ℤ grown r (suc (basic_of basis' r))
  positive_grown r h =
      elim (cases_lt r k) [
        | inl l ↦
            subst₂ (λ b (new : ℕ → ℤ). pos 0 <ℤ new (suc b)) (sym (basic_before r l)) (grown_before r l)
            (subst (λ z. pos 0 <ℤ z) (sym (cut_same (branch.table r) (suc (basic_of state.basis r)) (let b = there_before r l in omega (arith, b)))) (old_positive r l))
        | inr g ↦ subst (λ d. pos 0 <ℤ grown d (suc (basic_of basis' d))) (sym (same_row g)) last
      ]
    where
      same_row : k ≤ r → r ≡ k
      same_row g = omega (arith, g, h)

      last : pos 0 <ℤ grown k (suc (basic_of basis' k))
      last = subst₂ (λ b (new : ℕ → ℤ). pos 0 <ℤ new (suc b)) (sym basic_last) grown_last (subst (λ z. pos 0 <ℤ z) (sym new_own) o_positive)

  alone_grown : (r s : ℕ) → r < suc k → s < suc k → (r ≡ s → ⊥) → grown r (suc (basic_of basis' s)) ≡ pos 0
  alone_grown r s h g m = by_case (cases_lt r k) (cases_lt s k)
    where
      by_case : (r < k) ⊎ (k ≤ r) → (s < k) ⊎ (k ≤ s) → grown r (suc (basic_of basis' s)) ≡ pos 0
      by_case (inl l) (inl u) =
          (λ i. sym (grown_before r l) i (suc (basic_before s u i))) ∙ cut_same (branch.table r) (suc (basic_of state.basis s)) (let b = there_before s u in omega (arith, b)) ∙ old_alone r s l u m
      by_case (inl l) (inr u) =
          let same : s ≡ k = omega (arith, u, g) in
          (λ i. sym (grown_before r l) i (suc ((ap (basic_of basis') same ∙ basic_last) i))) ∙ cut_own (branch.table r)
      by_case (inr l) (inl u) =
          let same : r ≡ k = omega (arith, l, h) in
          (λ i. (ap grown same ∙ sym grown_last) i (suc (basic_before s u i))) ∙ new_clear s u
      by_case (inr l) (inr u) = absurd (m (omega (arith, l, u, h, g)))

  split_last : (x : ℕ → ℤ) → IsSplit (added_state state row).system k x → (x (suc n) +ℤ row.least *ℤ x 0) -ℤ t *ℤ x (suc c) ≡ pos 0
  unfolding k n t c
  split_last x s =
      less _ _ _ (subst (λ (r : Row). x (suc (columns_of state.system)) +ℤ r.least *ℤ x 0 ≡ sum_of_terms (λ var. x (suc (column_of state.system.strips var))) r.terms) (get_or-append_seam state.system.rows row [] no_row) s.equal)
      (ap (sum_of_terms (λ var. x (suc (column_of state.system.strips var)))) branch.only)
    where
      less : (a b t : ℤ) → a ≡ b → b ≡ t +ℤ (pos 0 +ℤ (pos 0 +ℤ pos 0)) → a -ℤ t ≡ pos 0
      less a b t e f = omega (arith, ints, e, f)

  last_split : (x : ℕ → ℤ) → (x (suc n) +ℤ row.least *ℤ x 0) -ℤ t *ℤ x (suc c) ≡ pos 0 → IsSplit (added_state state row).system k x
  unfolding k n t c
  last_split x s = record {
    equal = subst (λ (r : Row). x (suc (columns_of state.system)) +ℤ r.least *ℤ x 0 ≡ sum_of_terms (λ var. x (suc (column_of state.system.strips var))) r.terms) (sym (get_or-append_seam state.system.rows row [] no_row))
        (more _ _ _ s (ap (sum_of_terms (λ var. x (suc (column_of state.system.strips var)))) branch.only));
  }
    where
      more : (a b t : ℤ) → a -ℤ t ≡ pos 0 → b ≡ t +ℤ (pos 0 +ℤ (pos 0 +ℤ pos 0)) → a ≡ b
      more a b t e f = omega (arith, ints, e, f)

  count_more : suc k ≡ length (state.system.rows ++ row ∷ [])
  unfolding k
  count_more = let e = length-append state.system.rows (row ∷ []) in omega (arith, e)

  columns_more : suc n ≡ columns_of (added_state state row).system
  unfolding n
  columns_more = let e = length-append state.system.rows (row ∷ []) in omega (arith, e)

  holds_grown : (x : ℕ → ℤ) → IsSolution (added_state state row).system x → (r : ℕ) → r < suc k → LiesOn (suc n) (grown r) x
  unfolding k n line
  holds_grown x sol r h =
      elim (cases_lt r k) [
        | inl l ↦ subst (λ (new : ℕ → ℤ). LiesOn (suc n) new x) (grown_before r l) (lies_on (suc n) (cut (branch.table r)) x (worth_cut (branch.table r) x ∙ on r l))
        | inr g ↦ subst (λ d. LiesOn (suc n) (grown d) x) (sym (same_row g)) (subst (λ (new : ℕ → ℤ). LiesOn (suc n) new x) grown_last (lies_on (suc n) new_line x (worth_new x ∙ none t o _ _ (on branch.i branch.there) last)))
      ]
    where
      same_row : k ≤ r → r ≡ k
      same_row g = omega (arith, g, h)

      on : (r : ℕ) → r < k → worth n (branch.table r) x ≡ pos 0
      on r l = worth_none n (branch.table r) x (branch.whole.solved.holds x (solution_before state row x sol) r l)

      last : (x (suc n) +ℤ row.least *ℤ x 0) -ℤ t *ℤ x (suc c) ≡ pos 0
      last = split_last x (sol.each k (let e = count_more in omega (arith, e)))

      none : (t o p q : ℤ) → p ≡ pos 0 → q ≡ pos 0 → t *ℤ p +ℤ o *ℤ q ≡ pos 0
      none t o p q e f = omega (arith, ints, ap (λ z. t *ℤ z) e, ap (λ z. o *ℤ z) f)

  enough_grown : (x : ℕ → ℤ) → ((r : ℕ) → r < suc k → LiesOn (suc n) (grown r) x) → IsSolution (added_state state row).system x
  unfolding k n line
  enough_grown x all = record { each = λ d h. by_case d h (cases_lt d k) }
    where
      on : (r : ℕ) → r < k → worth n (branch.table r) x ≡ pos 0
      on r l = sym (worth_cut (branch.table r) x) ∙ worth_none (suc n) (cut (branch.table r)) x (subst (λ (new : ℕ → ℤ). LiesOn (suc n) new x) (sym (grown_before r l)) (all r (omega (arith, l))))

      old : IsSolution state.system x
      old = branch.whole.solved.enough x (λ r l. lies_on n (branch.table r) x (on r l))

      last : (x (suc n) +ℤ row.least *ℤ x 0) -ℤ t *ℤ x (suc c) ≡ pos 0
      last =
          times_cancel o _ (pos 0) o_positive
          (rest t o _ _ (on branch.i branch.there) (sym (worth_new x) ∙ worth_none (suc n) new_line x (subst (λ (new : ℕ → ℤ). LiesOn (suc n) new x) (sym grown_last) (all k (omega arith)))))
        where
          rest : (t o p q : ℤ) → p ≡ pos 0 → t *ℤ p +ℤ o *ℤ q ≡ pos 0 → o *ℤ q ≡ o *ℤ pos 0
          rest t o p q e f = let z : o *ℤ pos 0 ≡ pos 0 = omega (arith, ints) in omega (arith, ints, ap (λ z. t *ℤ z) e, f, z)

      by_case : (d : ℕ) → d < length (state.system.rows ++ row ∷ []) → (d < k) ⊎ (k ≤ d) → IsSplit (added_state state row).system d x
      by_case d h (inl l) = record {
        equal = subst
            (λ (r : Row). x (suc (own_column state.system d)) +ℤ r.least *ℤ x 0 ≡ sum_of_terms (λ var. x (suc (column_of state.system.strips var))) r.terms)
            (sym (get_or_append_left state.system.rows (row ∷ []) no_row d l)) (old.each d l).equal;
      }
      by_case d h (inr g) = let e = count_more in let same : d ≡ k = omega (arith, e, h, g) in subst (λ r. IsSplit (added_state state row).system r x) (sym same) (last_split x last)

  reduced_cut : (r : ℕ) → r < k → IsReduced (suc n) (cut (branch.table r))
  unfolding k n
  reduced_cut r h = record {
    no_factor = λ d times all. (branch.whole.reduced r h).no_factor d times (λ s l. subst (λ z. Divides d (times *ℤ z)) (cut_same (branch.table r) s l) (all s (omega (arith, l))));
  }

  -- what divides the new line divides the variable's
  line_again : (d m t z o w f u v : ℤ) → (t ≡ pos 1) ⊎ (t ≡ negsuc 0) → f ≡ t *ℤ z +ℤ o *ℤ w → m *ℤ f ≡ d *ℤ u → m *ℤ o ≡ d *ℤ v → Divides d (m *ℤ z)
  line_again d m t z o w f u v (inl one) is e g = (u -ℤ v *ℤ w, told)
    where
      inner : f ≡ z +ℤ o *ℤ w
      inner = is ∙ omega (arith, ints, ap (λ y. y *ℤ z) one)

      told : m *ℤ z ≡ d *ℤ (u -ℤ v *ℤ w)
      told = omega (arith, ints, ap (λ y. m *ℤ y) inner, times_sum m z (o *ℤ w), times_assoc m o w, ap (λ y. y *ℤ w) g, times_assoc d v w, times_sub d u (v *ℤ w), e)
  line_again d m t z o w f u v (inr minus) is e g = (v *ℤ w -ℤ u, told)
    where
      turned : (y : ℤ) → negsuc 0 *ℤ y ≡ pos 0 -ℤ y
      turned (pos zero) = omega (arith, ints)
      turned (pos (suc k)) = omega (arith, ints)
      turned (negsuc k) = omega (arith, ints)

      inner : f ≡ o *ℤ w -ℤ z
      inner = is ∙ omega (arith, ints, ap (λ y. y *ℤ z) minus, turned z)

      told : m *ℤ z ≡ d *ℤ (v *ℤ w -ℤ u)
      told = omega (arith, ints, ap (λ y. m *ℤ y) inner, times_sub m (o *ℤ w) z, times_assoc m o w, ap (λ y. y *ℤ w) g, times_assoc d v w, times_sub d (v *ℤ w) u, e)

  unit_times : (t ≡ pos 1) ⊎ (t ≡ negsuc 0)
  unfolding t
  unit_times = elim branch.side [ inl s ↦ inr s.0 | inr s ↦ inl s.0 ]

  new_at_line : (s : ℕ) → s ≤ n → new_line s ≡ t *ℤ line s +ℤ o *ℤ row_line s
  unfolding new_line
  new_at_line s l = ap (λ z. t *ℤ z +ℤ o *ℤ row_line s) (cut_same line s l)

  reduced_new : IsReduced (suc n) new_line
  unfolding n line
  reduced_new = record {
    no_factor = λ d m all. (branch.whole.reduced branch.i branch.there).no_factor d m (λ s l. each d m all s l);
  }
    where
      each : (d m : ℤ) → ((s : ℕ) → s ≤ suc n → Divides d (m *ℤ new_line s)) → (s : ℕ) → s ≤ n → Divides d (m *ℤ branch.table branch.i s)
      each d m all s l =
          let here = all s (omega (arith, l)) in
          let own = all (suc n) (omega arith) in
          line_again d m t (branch.table branch.i s) o (row_line s) (new_line s) here.0 own.0 unit_times (new_at_line s l) here.1 (ap (λ z. m *ℤ z) (sym new_own) ∙ own.1)

  reduced_grown : (r : ℕ) → r < suc k → IsReduced (suc n) (grown r)
  reduced_grown r h =
      elim (cases_lt r k) [
        | inl l ↦ subst (IsReduced (suc n)) (grown_before r l) (reduced_cut r l)
        | inr g ↦ subst (λ d. IsReduced (suc n) (grown d)) (sym (same_row g)) (subst (IsReduced (suc n)) grown_last reduced_new)
      ]
    where
      same_row : k ≤ r → r ≡ k
      same_row g = omega (arith, g, h)

  pub grown_table : HasTable (added_state state row)
  unfolding basis'
  grown_table = record {
    table = grown;
    whole = record {
      solved = subst₂ (λ a b. IsSolvedFor a b (IsSolution (added_state state row).system) (basic_of (added_state state row).basis) grown) columns_more count_more
          (record { there = there_grown; positive = positive_grown; alone = alone_grown; holds = holds_grown; enough = enough_grown });
      reduced = λ r h. subst (λ m. IsReduced m (grown r)) columns_more (reduced_grown r (let e = count_more in omega (arith, e, h)));
    };
  }
