-- A tableau without its last row, in which its own column is basic.
use Rattle.std.proofs.Common.{◌≡◌, ℕ, suc, ◌+◌, ◌-◌, ◌*◌, ◌<◌, ◌≤◌, ℤ, pos, ◌+ℤ◌, ◌-ℤ◌, ◌*ℤ◌, ◌<ℤ◌, List, [], length, take, sym, ap, subst, subst₂, ◌∙◌, inl, inr, arith}
use Rattle.std.proofs.lemmas.Bool.{cases_lt}
use Rattle.std.proofs.lemmas.Int.{ints}
use Rattle.std.proofs.lemmas.List.{get_or-take, length-take-le}
use Rattle.rt_rows.specs.declared.row.Row.{Row}
use Rattle.rt_rows.specs.Rows.{sum_of_terms}
use Rattle.rt_cells.proofs.Times.{times_sum, times_sub}
use Rattle.rt_proofs.proofs.Products.{times_comm, times_assoc}
use Rattle.rt_solved.specs.Lines.{LiesOn, total}
use Rattle.rt_solved.specs.Systems.{System, column_of, columns_of, own_column, row_at, no_row, IsSplit, IsSolution}
use Rattle.rt_solved.specs.Tables.{IsSolvedFor, basic_of}
use Rattle.rt_solved.proofs.Totals.{total_combined, total_same}
use Rattle.rt_solved.proofs.Proportional.{times_cancel}
use Rattle.rt_tableau.specs.Numbers.{number_of}
use Rattle.rt_tableau.specs.States.{State}
use Rattle.rt_tableau.specs.Tables.{line_at, table_of, IsKeptLine, IsKept}
use Rattle.rt_tableau.specs.Dropped.{EndsInOwn, AreNamed}
use Rattle.rt_tableau.proofs.AddedRows.{lies_more, lies_less}
use Rattle.rt_tableau.proofs.Sums.{with_own, own_there, others_there, sum_same, sum_scaled}

one_of_two : (a b t : ℤ) → pos 1 *ℤ a ≡ t *ℤ b +ℤ pos 0 *ℤ b → a ≡ t *ℤ b
one_of_two a b t e = omega (arith, ints, e)

as_one_of_two : (l d v : ℤ) → pos 1 *ℤ (l *ℤ (d *ℤ v)) ≡ d *ℤ (l *ℤ v) +ℤ pos 0 *ℤ (l *ℤ v)
as_one_of_two l d v = omega (arith, ints, sym (times_assoc l d v), ap (λ z. z *ℤ v) (times_comm l d), times_assoc d l v)

-- the numbers of a line at so many times a point
total_scaled : (m : ℕ) (line x : ℕ → ℤ) (d : ℤ) → total m (λ j. line (suc j) *ℤ (d *ℤ x (suc j))) ≡ d *ℤ total m (λ j. line (suc j) *ℤ x (suc j))
total_scaled m line x d =
    one_of_two _ _ d
    (total_combined m (λ j. line (suc j) *ℤ x (suc j)) (λ j. line (suc j) *ℤ x (suc j)) (λ j. line (suc j) *ℤ (d *ℤ x (suc j))) d (pos 0) (pos 1) (λ j h. as_one_of_two (line (suc j)) d (x (suc j))))

-- a line on which a point lies has so many times the point too
lies_scaled : (m : ℕ) (line x : ℕ → ℤ) (d : ℤ) → LiesOn m line x → LiesOn m line (λ s. d *ℤ x s)
lies_scaled m line x d h = record { equal = total_scaled m line x d ∙ ap (λ z. d *ℤ z) h.equal ∙ turn d (line 0) (x 0) }
  where
    turn : (a b c : ℤ) → a *ℤ (b *ℤ c) ≡ b *ℤ (a *ℤ c)
    turn a b c = sym (times_assoc a b c) ∙ ap (λ z. z *ℤ c) (times_comm a b) ∙ times_assoc b a c

-- a point that is the same in the places of a line lies on it too
lies_same : (m : ℕ) (line x y : ℕ → ℤ) → ((s : ℕ) → s ≤ m → y s ≡ x s) → LiesOn m line x → LiesOn m line y
lies_same m line x y same h = record {
  equal = total_same m (λ j. line (suc j) *ℤ y (suc j)) (λ j. line (suc j) *ℤ x (suc j)) (λ j l. ap (λ z. line (suc j) *ℤ z) (same (suc j) (omega (arith, l)))) ∙ h.equal
      ∙ ap (λ z. line 0 *ℤ z) (sym (same 0 (omega arith)));
}

module _ (state : State) (lines : List (List ℤ)) (kept : IsKept state lines) (n : ℕ) (count : length state.system.rows ≡ suc n) (own : basic_of state.basis n ≡ own_column state.system n)
    (named : AreNamed state.system) where
  -- the system without the last row
  abbrev shorter : System
  shorter = record { strips = state.system.strips; rows = take n state.system.rows }

  row_same : (d : ℕ) → d < n → row_at shorter d ≡ row_at state.system d
  row_same d h = get_or-take n state.system.rows d no_row h

  there_before : (i : ℕ) → i < n → i < length state.system.rows
  there_before i h = omega (arith, h, count)

  there_last : n < length state.system.rows
  there_last = omega (arith, count)

  columns_are : columns_of state.system ≡ suc (own_column state.system n)
  columns_are = omega (arith, count)

  -- in the lines before the last row's own column stands 0
  no_own : (i : ℕ) → i < n → table_of lines i (suc (own_column state.system n)) ≡ pos 0
  no_own i h = subst (λ c. table_of lines i (suc c) ≡ pos 0) own (kept.solved.alone i n (there_before i h) there_last (λ e. omega (arith, e, h)))

  basic_before : (i : ℕ) → i < n → basic_of state.basis i < own_column state.system n
  basic_before i h =
      elim (cases_lt (basic_of state.basis i) (own_column state.system n)) [
        | inl l ↦ l
        | inr g ↦
            let t = kept.solved.there i (there_before i h) in
            let c = columns_are in
            let same : basic_of state.basis i ≡ own_column state.system n = omega (arith, t, g, c) in
            absurd (none _ (subst (λ c. table_of lines i (suc c) ≡ pos 0) (sym same) (no_own i h)) (kept.solved.positive i (there_before i h)))
      ]
    where
      none : (z : ℤ) → z ≡ pos 0 → pos 0 <ℤ z → ⊥
      none z e h = omega (arith, ints, e, h)

  -- a solution of the rows before, with what the last row's own column is worth there
  own_worth : (ℕ → ℤ) → ℤ
  own_worth x = sum_of_terms (λ var. x (suc (column_of state.system.strips var))) (row_at state.system n).terms -ℤ (row_at state.system n).least *ℤ x 0

  with_last : (ℕ → ℤ) → ℕ → ℤ
  with_last x = with_own (suc (own_column state.system n)) x (own_worth x)

  last_there : (x : ℕ → ℤ) → with_last x (suc (own_column state.system n)) ≡ own_worth x
  unfolding with_last
  last_there x = own_there (suc (own_column state.system n)) x (own_worth x)

  before_there : (x : ℕ → ℤ) (s : ℕ) → s ≤ own_column state.system n → with_last x s ≡ x s
  unfolding with_last
  before_there x s h = others_there (suc (own_column state.system n)) x (own_worth x) s (λ e. omega (arith, e, h))

  terms_same : (x : ℕ → ℤ) (d : ℕ) → d < length state.system.rows
      → sum_of_terms (λ var. with_last x (suc (column_of state.system.strips var))) (row_at state.system d).terms ≡ sum_of_terms (λ var. x (suc (column_of state.system.strips var))) (row_at state.system d).terms
  terms_same x d h = sum_same state.system.strips (with_last x) x (row_at state.system d).terms (named.each d h) (λ j l. before_there x (suc j) (omega (arith, l)))

  split_before : (x : ℕ → ℤ) → IsSolution shorter x → (d : ℕ) → d < n → IsSplit state.system d (with_last x)
  split_before x sol d h = record {
    equal = (λ i. before_there x (suc (own_column state.system d)) (omega (arith, h)) i +ℤ (row_at state.system d).least *ℤ before_there x 0 (omega arith) i)
        ∙ subst (λ (r : Row). x (suc (own_column state.system d)) +ℤ r.least *ℤ x 0 ≡ sum_of_terms (λ var. x (suc (column_of state.system.strips var))) r.terms) (row_same d h)
        (sol.each d (let l = length-take-le n state.system.rows (omega (arith, count)) in omega (arith, l, h))).equal
        ∙ sym (terms_same x d (there_before d h));
  }

  split_last : (x : ℕ → ℤ) → IsSplit state.system n (with_last x)
  unfolding own_worth
  split_last x = record {
    equal = (λ i. last_there x i +ℤ (row_at state.system n).least *ℤ before_there x 0 (omega arith) i) ∙ back _ _ ∙ sym (terms_same x n there_last);
  }
    where
      back : (a b : ℤ) → (a -ℤ b) +ℤ b ≡ a
      back a b = omega (arith, ints)

  whole_solution : (x : ℕ → ℤ) → IsSolution shorter x → IsSolution state.system (with_last x)
  whole_solution x sol = record {
    each = λ d h. elim (cases_lt d n) [
      | inl l ↦ split_before x sol d l
      | inr g ↦ let e : d ≡ n = omega (arith, g, h, count) in subst (λ k. IsSplit state.system k (with_last x)) (sym e) (split_last x)
    ];
  }

  holds_before : (x : ℕ → ℤ) → IsSolution shorter x → (i : ℕ) → i < n → LiesOn (own_column state.system n) (table_of lines i) x
  holds_before x sol i h =
      lies_same (own_column state.system n) (table_of lines i) (with_last x) x (λ s l. sym (before_there x s l))
      (lies_less (own_column state.system n) (table_of lines i) (with_last x) (no_own i h)
      (subst (λ m. LiesOn m (table_of lines i) (with_last x)) columns_are (kept.solved.holds (with_last x) (whole_solution x sol) i (there_before i h))))

  -- a point on the lines before, so many times that the last line can be met
  over : ℤ
  over = table_of lines n (suc (own_column state.system n))

  over_positive : pos 0 <ℤ over
  unfolding over
  over_positive = subst (λ c. pos 0 <ℤ table_of lines n (suc c)) own (kept.solved.positive n there_last)

  left_over : (ℕ → ℤ) → ℤ
  left_over x = table_of lines n 0 *ℤ x 0 -ℤ total (own_column state.system n) (λ j. table_of lines n (suc j) *ℤ x (suc j))

  on_last : (ℕ → ℤ) → ℕ → ℤ
  on_last x = with_own (suc (own_column state.system n)) (λ s. over *ℤ x s) (left_over x)

  on_last_own : (x : ℕ → ℤ) → on_last x (suc (own_column state.system n)) ≡ left_over x
  unfolding on_last
  on_last_own x = own_there (suc (own_column state.system n)) (λ s. over *ℤ x s) (left_over x)

  on_last_before : (x : ℕ → ℤ) (s : ℕ) → s ≤ own_column state.system n → on_last x s ≡ over *ℤ x s
  unfolding on_last
  on_last_before x s h = others_there (suc (own_column state.system n)) (λ s. over *ℤ x s) (left_over x) s (λ e. omega (arith, e, h))

  lies_on_last : (x : ℕ → ℤ) → LiesOn (suc (own_column state.system n)) (table_of lines n) (on_last x)
  unfolding left_over over
  lies_on_last x = record {
    equal = met _ (total (own_column state.system n) (λ j. table_of lines n (suc j) *ℤ x (suc j))) _ _ (table_of lines n 0) (x 0) _
        (total_same (own_column state.system n) (λ j. table_of lines n (suc j) *ℤ on_last x (suc j)) (λ j. table_of lines n (suc j) *ℤ (over *ℤ x (suc j)))
        (λ j l. ap (λ z. table_of lines n (suc j) *ℤ z) (on_last_before x (suc j) (omega (arith, l))))
        ∙ total_scaled (own_column state.system n) (table_of lines n) x over)
        (on_last_own x) (on_last_before x 0 (omega arith));
  }
    where
      met : (s t d y r z w : ℤ) → s ≡ d *ℤ t → y ≡ r *ℤ z -ℤ t → w ≡ d *ℤ z → s +ℤ d *ℤ y ≡ r *ℤ w
      met s t d y r z w e f g = omega (arith, ints, e, ap (λ q. d *ℤ q) f, times_sub d (r *ℤ z) t, ap (λ q. r *ℤ q) g, sym (times_assoc r d z), ap (λ q. q *ℤ z) (times_comm r d), times_assoc d r z)

  lies_on_before : (x : ℕ → ℤ) (i : ℕ) → i < n → LiesOn (own_column state.system n) (table_of lines i) x → LiesOn (suc (own_column state.system n)) (table_of lines i) (on_last x)
  lies_on_before x i h on =
      lies_more (own_column state.system n) (table_of lines i) (on_last x) (no_own i h)
      (lies_same (own_column state.system n) (table_of lines i) (λ s. over *ℤ x s) (on_last x) (on_last_before x) (lies_scaled (own_column state.system n) (table_of lines i) x over on))

  all_on : (x : ℕ → ℤ) → ((i : ℕ) → i < n → LiesOn (own_column state.system n) (table_of lines i) x) → IsSolution state.system (on_last x)
  all_on x all =
      kept.solved.enough (on_last x) (λ i h. subst (λ m. LiesOn m (table_of lines i) (on_last x)) (sym columns_are)
      (elim (cases_lt i n) [
        | inl l ↦ lies_on_before x i l (all i l)
        | inr g ↦ let e : i ≡ n = omega (arith, g, h, count) in subst (λ k. LiesOn (suc (own_column state.system n)) (table_of lines k) (on_last x)) (sym e) (lies_on_last x)
      ]))

  enough_before : (x : ℕ → ℤ) → ((i : ℕ) → i < n → LiesOn (own_column state.system n) (table_of lines i) x) → IsSolution shorter x
  enough_before x all = record { each = λ d h. each d (let l = length-take-le n state.system.rows (omega (arith, count)) in omega (arith, l, h)) }
    where
      each : (d : ℕ) → d < n → IsSplit shorter d x
      each d h = record {
        equal = subst (λ (r : Row). x (suc (own_column state.system d)) +ℤ r.least *ℤ x 0 ≡ sum_of_terms (λ var. x (suc (column_of state.system.strips var))) r.terms) (sym (row_same d h))
            (back over _ _ (row_at state.system d).least _ _ _ _ over_positive (on_last_before x (suc (own_column state.system d)) (omega (arith, h))) (on_last_before x 0 (omega arith))
            (sum_same state.system.strips (on_last x) (λ s. over *ℤ x s) (row_at state.system d).terms (named.each d (there_before d h)) (λ j l. on_last_before x (suc j) (omega (arith, l)))
            ∙ sum_scaled state.system.strips over x (row_at state.system d).terms)
            ((all_on x all).each d (there_before d h)).equal);
      }
        where
          back : (d a b l v w t u : ℤ) → pos 0 <ℤ d → a ≡ d *ℤ v → b ≡ d *ℤ w → t ≡ d *ℤ u → a +ℤ l *ℤ b ≡ t → v +ℤ l *ℤ w ≡ u
          back d a b l v w t u h e f g k = times_cancel d _ _ h (spread d l v w ∙ (λ i. sym e i +ℤ l *ℤ sym f i) ∙ k ∙ g)
            where
              spread : (d l v w : ℤ) → d *ℤ (v +ℤ l *ℤ w) ≡ d *ℤ v +ℤ l *ℤ (d *ℤ w)
              spread d l v w = omega (arith, ints, times_sum d v (l *ℤ w), sym (times_assoc d l w), ap (λ z. z *ℤ w) (times_comm d l), times_assoc l d w)

  solved_before : IsSolvedFor (own_column state.system n) n (IsSolution shorter) (basic_of state.basis) (table_of lines)
  solved_before = record {
    there = basic_before;
    positive = λ i h. kept.solved.positive i (there_before i h);
    alone = λ i k h g ne. kept.solved.alone i k (there_before i h) (there_before k g) ne;
    holds = holds_before;
    enough = enough_before;
  }

  basic_same : (i : ℕ) → i < n → basic_of (take n state.basis) i ≡ basic_of state.basis i
  basic_same i h = get_or-take n state.basis i 0 h

  line_same : (i : ℕ) → i < n → line_at (take n lines) i ≡ line_at lines i
  line_same i h = get_or-take n lines i [] h

  rows_left : length (take n state.system.rows) ≡ n
  rows_left = length-take-le n state.system.rows (omega (arith, count))

  solved_left : IsSolvedFor (own_column state.system n) n (IsSolution shorter) (basic_of (take n state.basis)) (table_of (take n lines))
  solved_left = record {
    there = λ i h. subst (λ c. c < own_column state.system n) (sym (basic_same i h)) (basic_before i h);
    positive = λ i h. subst₂ (λ line c. pos 0 <ℤ number_of line (suc c)) (sym (line_same i h)) (sym (basic_same i h)) (solved_before.positive i h);
    alone = λ i k h g ne. subst₂ (λ line c. number_of line (suc c) ≡ pos 0) (sym (line_same i h)) (sym (basic_same k g)) (solved_before.alone i k h g ne);
    holds = λ x sol i h. subst (λ line. LiesOn (own_column state.system n) (number_of line) x) (sym (line_same i h)) (holds_before x sol i h);
    enough = λ x all. enough_before x (λ i h. subst (λ line. LiesOn (own_column state.system n) (number_of line) x) (line_same i h) (all i h));
  }

  none_left : (i : ℕ) → i < n → (s : ℕ) → suc (own_column state.system n) ≤ s → number_of (line_at lines i) s ≡ pos 0
  none_left i h s g =
      elim (cases_lt (suc (own_column state.system n)) s) [
        | inl l ↦ (kept.each i (there_before i h)).none_behind s (let c = columns_are in omega (arith, l, c))
        | inr m ↦ let e : s ≡ suc (own_column state.system n) = omega (arith, g, m) in ap (number_of (line_at lines i)) e ∙ no_own i h
      ]

  kept_line : (i : ℕ) → i < n → IsKeptLine (suc (own_column state.system n)) (line_at (take n lines) i)
  kept_line i h =
      let was = kept.each i (there_before i h) in
      subst (IsKeptLine (suc (own_column state.system n))) (sym (line_same i h)) (record { none_behind = none_left i h; small = was.small; reduced = was.reduced })

  pub kept_left : IsKept (record { system = record { strips = state.system.strips; rows = take n state.system.rows }; goal = state.goal; basis = take n state.basis }) (take n lines)
  kept_left = record {
    one_each = length-take-le n lines (let e = kept.one_each in omega (arith, e, count)) ∙ sym rows_left;
    basis_each = length-take-le n state.basis (let e = kept.basis_each in omega (arith, e, count)) ∙ sym rows_left;
    fits = let e = rows_left in let f = kept.fits in omega (arith, e, f, count);
    goal_there = kept.goal_there;
    solved = subst (λ k. IsSolvedFor ((2 * state.system.strips + 2) + k) k (IsSolution shorter) (basic_of (take n state.basis)) (table_of (take n lines))) (sym rows_left) solved_left;
    each = λ i h. subst (λ k. IsKeptLine (suc ((2 * state.system.strips + 2) + k)) (line_at (take n lines) i)) (sym rows_left) (kept_line i (let e = rows_left in omega (arith, e, h)));
  }

-- as code makes it
pub kept_dropped : (state now : State) (lines next : List (List ℤ)) (rows : List Row) (basis : List ℕ) → state ≡ now → IsKept state lines → EndsInOwn now → AreNamed now.system
    → next ≡ take (length lines - 1) lines → rows ≡ take (length state.system.rows - 1) state.system.rows → basis ≡ take (length state.basis - 1) state.basis
    → IsKept (record { system = record { strips = state.system.strips; rows = rows }; goal = state.goal; basis = basis }) next
kept_dropped state now lines next rows basis e kept ends named f g h =
    let ends' : EndsInOwn state = subst EndsInOwn (sym e) ends in
    let n = ends'.last in
    let count : length state.system.rows - 1 ≡ n = let r = ends'.rows in omega (arith, r) in
    let of_lines : length lines - 1 ≡ n = let r = ends'.rows in let o = kept.one_each in omega (arith, r, o) in
    let of_basis : length state.basis - 1 ≡ n = let r = ends'.one_each in omega (arith, r) in
    subst (IsKept (record { system = record { strips = state.system.strips; rows = rows }; goal = state.goal; basis = basis })) (sym (f ∙ ap (λ k. take k lines) of_lines))
    (subst₂ (λ a b. IsKept (record { system = record { strips = state.system.strips; rows = a }; goal = state.goal; basis = b }) (take n lines))
    (sym (g ∙ ap (λ k. take k state.system.rows) count)) (sym (h ∙ ap (λ k. take k state.basis) of_basis))
    (kept_left state lines kept n ends'.rows ends'.own (subst (λ (s : State). AreNamed s.system) (sym e) named)))
