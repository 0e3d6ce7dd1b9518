-- A tableau with one row more.
use Rattle.std.proofs.Common.{◌≡◌, ℕ, zero, suc, ◌+◌, ◌<◌, ◌≤◌, ◌⊎◌, ℤ, pos, negsuc, neg_ℤ, ◌-ℤ◌, ◌+ℤ◌, ◌*ℤ◌, ◌<ℤ◌, List, [], ◌∷◌, ◌++◌, length, get_or, set, replicate, Option, Some, None, refl, sym, ap, subst, subst₂, ◌∙◌, inl, inr, to_z, of_z, length-append, arith}
use Rattle.std.proofs.Math.ListN.{get_or-eq_default}
use Rattle.std.proofs.Math.Seq.{get_or-append_seam}
use Rattle.std.proofs.lemmas.Bool.{cases_lt}
use Rattle.std.proofs.lemmas.Int.{ints}
use Rattle.std.proofs.lemmas.List.{get_or-set_same, get_or-set_other, length-replicate, length-set, get_or_append_left}
use Rattle.std.specs.Option.{MatchOption}
use Rattle.std.specs.Prelude.{unwrap_or}
use Rattle.rt_rows.specs.declared.row.Term.{Term}
use Rattle.rt_rows.specs.declared.row.Row.{Row}
use Rattle.rt_rows.specs.Rows.{sum_of_terms}
use Rattle.rt_rows.specs.Known.{IsSmall}
use Rattle.rt_cells.proofs.Times.{times_sum, times_sub}
use Rattle.rt_proofs.proofs.Products.{times_comm, times_assoc}
use Rattle.rt_solved.specs.Lines.{Divides, LiesOn, IsReduced, total, worth}
use Rattle.rt_solved.specs.Systems.{System, column_of, columns_of, own_column, row_at, no_row, IsSplit, IsSolution}
use Rattle.rt_solved.specs.Tables.{IsSolvedFor, basic_of}
use Rattle.rt_solved.proofs.Totals.{worth_none, lies_on, worth_combined, worth_swapped, unit, unit_there, unit_elsewhere, worth_unit, total_combined, sign_out}
use Rattle.rt_solved.proofs.Proportional.{proportional, same_or_not, times_cancel}
use Rattle.rt_solved.proofs.Factors.{reduced_once}
use Rattle.rt_tableau.specs.Numbers.{number_of, HaveNoFactor, IsPast}
use Rattle.rt_tableau.specs.States.{State}
use Rattle.rt_tableau.specs.Tables.{line_at, table_of, IsKeptLine, IsKept}
use Rattle.rt_tableau.specs.Added.{IsAddable, added_state, IsPastAdded, IsWorth, added_right, IsAddedLine, PassesAdded, IsAdded, IsNewRow}
use Rattle.rt_tableau.proofs.Pivoted.{reduced_numbers}
use Rattle.rt_tableau.proofs.StartLines.{zero_of, column_below}
use Rattle.rt_tableau.proofs.Updated.{there_where_positive}
use Rattle.rt_tableau.proofs.Combined.{small_read}
use Rattle.rt_tableau.proofs.NewLines.{line_read}
use Rattle.rt_tableau.specs.Costs.{IsFree, IsBasicIn}
use mir.Syntax.{w64}

-- numbers of an added row's line, also where its right side is past the limit
pub record AreAdded (own : ℕ) (least times over : ℤ) (rest : List ℤ) (numbers : ℕ → ℤ) : Type 0 where
  pub right : numbers 0 ≡ added_right least times over rest
  pub own_is : numbers (suc own) ≡ over
  pub others : (s : ℕ) → 0 < s → s < suc own → numbers s ≡ times *ℤ number_of rest s
  pub beyond : (s : ℕ) → suc own < s → numbers s ≡ pos 0

shuffled : (t f r0 x0 l o w v y s : ℤ) → w ≡ (s +ℤ o *ℤ y) -ℤ (neg_ℤ l *ℤ o +ℤ t *ℤ r0) *ℤ x0 → s ≡ t *ℤ f → (f -ℤ r0 *ℤ x0) +ℤ o *ℤ v ≡ pos 0 → w ≡ o *ℤ ((y +ℤ l *ℤ x0) -ℤ t *ℤ v)
shuffled t f r0 x0 l o w v y s e g h =
    let first : (neg_ℤ l *ℤ o +ℤ t *ℤ r0) *ℤ x0 ≡ t *ℤ (r0 *ℤ x0) -ℤ o *ℤ (l *ℤ x0) =
    sum_out (neg_ℤ l *ℤ o) (t *ℤ r0) x0 ∙ both _ _ _ _ (turned_out l o x0) (times_assoc t r0 x0) in
    let second : t *ℤ f ≡ t *ℤ (r0 *ℤ x0) -ℤ t *ℤ (o *ℤ v) = ap (λ z. t *ℤ z) (solve f (r0 *ℤ x0) (o *ℤ v) h) ∙ times_sub t (r0 *ℤ x0) (o *ℤ v) in
    let third : t *ℤ (o *ℤ v) ≡ o *ℤ (t *ℤ v) = sym (times_assoc t o v) ∙ ap (λ z. z *ℤ v) (times_comm t o) ∙ times_assoc o t v in
    finish _ _ _ _ _ _ _ _ _ _ _ e g first second third (times_sub o (y +ℤ l *ℤ x0) (t *ℤ v)) (times_sum o y (l *ℤ x0))
  where
    sum_out : (a b c : ℤ) → (a +ℤ b) *ℤ c ≡ a *ℤ c +ℤ b *ℤ c
    sum_out a b c = times_comm (a +ℤ b) c ∙ times_sum c a b ∙ (λ i. times_comm c a i +ℤ times_comm c b i)

    turned_out : (a b c : ℤ) → (neg_ℤ a *ℤ b) *ℤ c ≡ neg_ℤ (b *ℤ (a *ℤ c))
    turned_out a b c = ap (λ z. z *ℤ c) (sign_out a b ∙ ap neg_ℤ (times_comm a b)) ∙ sign_out (b *ℤ a) c ∙ ap neg_ℤ (times_assoc b a c)

    both : (p q a b : ℤ) → p ≡ neg_ℤ a → q ≡ b → p +ℤ q ≡ b -ℤ a
    both p q a b e f = omega (arith, ints, e, f)

    solve : (a b c : ℤ) → (a -ℤ b) +ℤ c ≡ pos 0 → a ≡ b -ℤ c
    solve a b c e = omega (arith, ints, e)

    finish : (w s oy r q olx tv u z p n : ℤ) → w ≡ (s +ℤ oy) -ℤ r → s ≡ q → r ≡ tv -ℤ olx → q ≡ tv -ℤ z → z ≡ u → p ≡ n -ℤ u → n ≡ oy +ℤ olx → w ≡ p
    finish w s oy r q olx tv u z p n e f g h i j k = omega (arith, ints, e, f, g, h, i, j, k)

module _ (state : State) (column : ℕ) (least times over : ℤ) (rest : List ℤ) (is : IsWorth state column rest over) (numbers : ℕ → ℤ) (are : AreAdded (columns_of state.system) least times over rest numbers) where
  -- what the line is worth at solutions of the other rows
  added_worth : (x : ℕ → ℤ) → IsSolution state.system x
      → worth (suc (columns_of state.system)) numbers x ≡ over *ℤ ((x (suc (columns_of state.system)) +ℤ least *ℤ x 0) -ℤ times *ℤ x (suc column))
  added_worth x sol =
      let sums : total (columns_of state.system) (λ j. numbers (suc j) *ℤ x (suc j)) ≡ times *ℤ total (columns_of state.system) (λ j. number_of rest (suc j) *ℤ x (suc j)) =
      from_one _ (total (columns_of state.system) (λ j. number_of rest (suc j) *ℤ x (suc j))) (total (columns_of state.system) (λ j. pos 0)) times (total_combined (columns_of state.system) (λ j. number_of rest (suc j) *ℤ x (suc j)) (λ j. pos 0) (λ j. numbers (suc j) *ℤ x (suc j)) times (pos 0) (pos 1)
      (λ j h. one_place (numbers (suc j)) times (number_of rest (suc j)) (x (suc j)) (are.others (suc j) (omega arith) (omega (arith, h))))) in
      shuffled times (total (columns_of state.system) (λ j. number_of rest (suc j) *ℤ x (suc j))) (number_of rest 0) (x 0) least over _ (x (suc column)) (x (suc (columns_of state.system))) _
      (λ i. (total (columns_of state.system) (λ j. numbers (suc j) *ℤ x (suc j)) +ℤ are.own_is i *ℤ x (suc (columns_of state.system))) -ℤ are.right i *ℤ x 0) sums (is.equal x sol)
    where
      from_one : (a b c t : ℤ) → pos 1 *ℤ a ≡ t *ℤ b +ℤ pos 0 *ℤ c → a ≡ t *ℤ b
      from_one a b c t e = omega (arith, ints, e)

      one_place : (n t r y : ℤ) → n ≡ t *ℤ r → pos 1 *ℤ (n *ℤ y) ≡ t *ℤ (r *ℤ y) +ℤ pos 0 *ℤ pos 0
      one_place n t r y e = omega (arith, ints, ap (λ z. z *ℤ y) e, times_assoc t r y)

divides_sum : (d a b : ℤ) → Divides d a → Divides d b → Divides d (a -ℤ b)
divides_sum d a b x y = (x.0 -ℤ y.0, (λ i. x.1 i -ℤ y.1 i) ∙ sym (times_sub d x.0 y.0))

divides_times : (d a c : ℤ) → Divides d a → Divides d (c *ℤ a)
divides_times d a c x = (c *ℤ x.0, ap (λ z. c *ℤ z) x.1 ∙ sym (times_assoc c d x.0) ∙ ap (λ z. z *ℤ x.0) (times_comm c d) ∙ times_assoc d c x.0)

divides_is : (d a b : ℤ) → a ≡ b → Divides d a → Divides d b
divides_is d a b e x = (x.0, sym e ∙ x.1)

divides_unit : (d k t z : ℤ) → (t ≡ pos 1) ⊎ (t ≡ negsuc 0) → Divides d (k *ℤ (t *ℤ z)) → Divides d (k *ℤ z)
divides_unit d k t z (inl e) x = divides_is d _ _ (ap (λ y. k *ℤ y) (ap (λ y. y *ℤ z) e ∙ one_time z)) x
  where
    one_time : (y : ℤ) → pos 1 *ℤ y ≡ y
    one_time y = omega (arith, ints)
divides_unit d k t z (inr e) x = divides_is d _ _ (ap (λ y. negsuc 0 *ℤ y) (ap (λ y. k *ℤ y) (ap (λ y. y *ℤ z) e ∙ turned_once z) ∙ turned_in k z) ∙ twice (k *ℤ z)) (divides_times d _ (negsuc 0) x)
  where
    turned_once : (y : ℤ) → negsuc 0 *ℤ y ≡ pos 0 -ℤ y
    turned_once (pos zero) = omega (arith, ints)
    turned_once (pos (suc n)) = omega (arith, ints)
    turned_once (negsuc n) = omega (arith, ints)

    turned_in : (a y : ℤ) → a *ℤ (pos 0 -ℤ y) ≡ pos 0 -ℤ a *ℤ y
    turned_in a y = omega (arith, ints, times_sub a (pos 0) y)

    twice : (y : ℤ) → negsuc 0 *ℤ (pos 0 -ℤ y) ≡ y
    twice y = turned_once (pos 0 -ℤ y) ∙ back y
      where
        back : (w : ℤ) → pos 0 -ℤ (pos 0 -ℤ w) ≡ w
        back w = omega (arith, ints)

rest_of : (k l o t r : ℤ) → k *ℤ (neg_ℤ l *ℤ o +ℤ t *ℤ r) -ℤ neg_ℤ l *ℤ (k *ℤ o) ≡ k *ℤ (t *ℤ r)
rest_of k l o t r =
    let moved : k *ℤ (neg_ℤ l *ℤ o) ≡ neg_ℤ l *ℤ (k *ℤ o) = sym (times_assoc k (neg_ℤ l) o) ∙ ap (λ z. z *ℤ o) (times_comm k (neg_ℤ l)) ∙ times_assoc (neg_ℤ l) k o in
    omega (arith, ints, times_sum k (neg_ℤ l *ℤ o) (t *ℤ r), moved)

-- the line has no factor left
added_no_factor : (state : State) (column : ℕ) (least times over : ℤ) (rest : List ℤ) (numbers : ℕ → ℤ) → IsWorth state column rest over → (times ≡ pos 1) ⊎ (times ≡ negsuc 0)
    → AreAdded (columns_of state.system) least times over rest numbers → HaveNoFactor numbers
added_no_factor state column least times over rest numbers is unit_times are = record { none = λ d k all. is.no_factor d k (own d k all) (each d k all) }
  where
    own : (d k : ℤ) → ((s : ℕ) → Divides d (k *ℤ numbers s)) → Divides d (k *ℤ over)
    own d k all = divides_is d _ _ (ap (λ z. k *ℤ z) are.own_is) (all (suc (columns_of state.system)))

    each : (d k : ℤ) → ((s : ℕ) → Divides d (k *ℤ numbers s)) → (s : ℕ) → Divides d (k *ℤ number_of rest s)
    each d k all zero =
        divides_unit d k times (number_of rest 0) unit_times
        (divides_is d _ _ (rest_of k least over times (number_of rest 0))
        (divides_sum d _ _ (divides_is d _ _ (ap (λ z. k *ℤ z) are.right) (all 0)) (divides_times d (k *ℤ over) (neg_ℤ least) (own d k all))))
    each d k all (suc j) =
        elim (cases_lt (suc j) (suc (columns_of state.system))) [
          | inl l ↦ divides_unit d k times (number_of rest (suc j)) unit_times (divides_is d _ _ (ap (λ z. k *ℤ z) (are.others (suc j) (omega arith) l)) (all (suc j)))
          | inr g ↦ (pos 0, none k d (number_of rest (suc j)) (is.none_behind (suc j) (omega (arith, g))))
        ]
      where
        none : (a b z : ℤ) → z ≡ pos 0 → a *ℤ z ≡ b *ℤ pos 0
        none a b z e = omega (arith, ints, ap (λ y. a *ℤ y) e)

pub lies_more : (m : ℕ) (line x : ℕ → ℤ) → line (suc m) ≡ pos 0 → LiesOn m line x → LiesOn (suc m) line x
lies_more m line x e h = record { equal = more _ _ _ _ e h.equal }
  where
    more : (t l y r : ℤ) → l ≡ pos 0 → t ≡ r → t +ℤ l *ℤ y ≡ r
    more t l y r e f = omega (arith, ints, f, ap (λ z. z *ℤ y) e)

pub lies_less : (m : ℕ) (line x : ℕ → ℤ) → line (suc m) ≡ pos 0 → LiesOn (suc m) line x → LiesOn m line x
lies_less m line x e h = record { equal = less _ _ _ _ e h.equal }
  where
    less : (t l y r : ℤ) → l ≡ pos 0 → t +ℤ l *ℤ y ≡ r → t ≡ r
    less t l y r e f = omega (arith, ints, f, ap (λ z. z *ℤ y) e)

split_worth : (o y l t v w s : ℤ) → w ≡ o *ℤ ((y +ℤ l) -ℤ t *ℤ v) → y +ℤ l ≡ s → s ≡ t *ℤ v → w ≡ pos 0
split_worth o y l t v w s e f g = e ∙ ap (λ z. o *ℤ z) (none (y +ℤ l) s (t *ℤ v) f g) ∙ times_none o
  where
    none : (a b c : ℤ) → a ≡ b → b ≡ c → a -ℤ c ≡ pos 0
    none a b c e f = omega (arith, ints, e, f)

    times_none : (z : ℤ) → z *ℤ pos 0 ≡ pos 0
    times_none z = omega (arith, ints)

worth_split : (o y l t v w s : ℤ) → pos 0 <ℤ o → w ≡ o *ℤ ((y +ℤ l) -ℤ t *ℤ v) → w ≡ pos 0 → s ≡ t *ℤ v → y +ℤ l ≡ s
worth_split o y l t v w s h e f g = back _ _ _ (times_cancel o _ (pos 0) h (sym e ∙ f ∙ sym (times_none o))) g
  where
    back : (a b c : ℤ) → a -ℤ c ≡ pos 0 → b ≡ c → a ≡ b
    back a b c e f = omega (arith, ints, e, f)

    times_none : (z : ℤ) → z *ℤ pos 0 ≡ pos 0
    times_none z = omega (arith, ints)

module _ (state : State) (lines : List (List ℤ)) (row : Row) (column : ℕ) (times over : ℤ) (rest : List ℤ) (numbers : ℕ → ℤ) (kept : IsKept state lines) (is : IsWorth state column rest over)
    (sum : (x : ℕ → ℤ) → sum_of_terms (λ var. x (suc (column_of state.system.strips var))) row.terms ≡ times *ℤ x (suc column)) (are : AreAdded (columns_of state.system) row.least times over rest numbers) where
  n : ℕ
  n = columns_of state.system

  k : ℕ
  k = length state.system.rows

  pick : (r : ℕ) → (r < k) ⊎ (k ≤ r) → ℕ → ℤ
  pick r (inl h) = table_of lines r
  pick r (inr h) = numbers

  pub extended : ℕ → ℕ → ℤ
  extended r = pick r (cases_lt r k)

  extended_before : (r : ℕ) → r < length state.system.rows → table_of lines r ≡ extended r
  unfolding extended pick k
  extended_before r h = by_case (cases_lt r (length state.system.rows))
    where
      by_case : (a : (r < length state.system.rows) ⊎ (length state.system.rows ≤ r)) → table_of lines r ≡ pick r a
      by_case (inl l) = refl
      by_case (inr g) = absurd (omega (arith, g, h))

  extended_behind : (r : ℕ) → length state.system.rows ≤ r → numbers ≡ extended r
  unfolding extended pick k
  extended_behind r h = by_case (cases_lt r (length state.system.rows))
    where
      by_case : (a : (r < length state.system.rows) ⊎ (length state.system.rows ≤ r)) → numbers ≡ pick r a
      by_case (inl l) = absurd (omega (arith, l, h))
      by_case (inr g) = refl

  basis' : List ℕ
  basis' = state.basis ++ columns_of state.system ∷ []

  basic_before : (r : ℕ) → r < length state.system.rows → basic_of basis' r ≡ basic_of state.basis r
  unfolding basis'
  basic_before r h = get_or_append_left state.basis (columns_of state.system ∷ []) 0 r (omega (arith, h, kept.basis_each))

  basic_last : basic_of basis' (length state.system.rows) ≡ columns_of state.system
  unfolding basis'
  basic_last = ap (λ r. basic_of (state.basis ++ columns_of state.system ∷ []) r) (sym kept.basis_each) ∙ get_or-append_seam state.basis (columns_of state.system) [] 0

  system' : System
  system' = record { strips = state.system.strips; rows = state.system.rows ++ row ∷ [] }

  row_before : (d : ℕ) → d < length state.system.rows → row_at system' d ≡ row_at state.system d
  unfolding system'
  row_before d h = get_or_append_left state.system.rows (row ∷ []) no_row d h

  row_last : row_at system' (length state.system.rows) ≡ row
  unfolding system'
  row_last = get_or-append_seam state.system.rows row [] no_row

  split_before : (x : ℕ → ℤ) (d : ℕ) → d < length state.system.rows → IsSplit system' d x → IsSplit state.system d x
  unfolding system'
  split_before x d h s = record { equal = subst (λ r. x (suc (own_column state.system d)) +ℤ r.least *ℤ x 0 ≡ sum_of_terms (λ var. x (suc (column_of state.system.strips var))) r.terms) (row_before d h) s.equal }

  split_after : (x : ℕ → ℤ) (d : ℕ) → d < length state.system.rows → IsSplit state.system d x → IsSplit system' d x
  unfolding system'
  split_after x d h s = record { equal = subst (λ r. x (suc (own_column state.system d)) +ℤ r.least *ℤ x 0 ≡ sum_of_terms (λ var. x (suc (column_of state.system.strips var))) r.terms) (sym (row_before d h)) s.equal }

  old_solution : (x : ℕ → ℤ) → IsSolution system' x → IsSolution state.system x
  unfolding system'
  old_solution x sol = record { each = λ d h. split_before x d h (sol.each d (omega (arith, h, length-append state.system.rows (row ∷ [])))) }

  last_split : (x : ℕ → ℤ) → IsSolution system' x → x (suc (columns_of state.system)) +ℤ row.least *ℤ x 0 ≡ times *ℤ x (suc column)
  unfolding system'
  last_split x sol =
      subst (λ r. x (suc (columns_of state.system)) +ℤ r.least *ℤ x 0 ≡ sum_of_terms (λ var. x (suc (column_of state.system.strips var))) r.terms) row_last
      (sol.each (length state.system.rows) (omega (arith, length-append state.system.rows (row ∷ [])))).equal ∙ sum x

  no_own : (r : ℕ) → r < length state.system.rows → table_of lines r (suc (columns_of state.system)) ≡ pos 0
  no_own r h = (kept.each r h).none_behind (suc (columns_of state.system)) (omega arith)

  holds_added : (x : ℕ → ℤ) → IsSolution system' x → (i : ℕ) → i < suc (length state.system.rows) → LiesOn (suc (columns_of state.system)) (extended i) x
  holds_added x sol i h = by_case (cases_lt i (length state.system.rows))
    where
      by_case : (i < length state.system.rows) ⊎ (length state.system.rows ≤ i) → LiesOn (suc (columns_of state.system)) (extended i) x
      by_case (inl l) =
          subst (λ line. LiesOn (suc (columns_of state.system)) line x) (extended_before i l)
          (lies_more (columns_of state.system) (table_of lines i) x (no_own i l) (kept.solved.holds x (old_solution x sol) i l))
      by_case (inr g) =
          subst (λ line. LiesOn (suc (columns_of state.system)) line x) (extended_behind i g)
          (lies_on (suc (columns_of state.system)) numbers x
          (split_worth over (x (suc (columns_of state.system))) (row.least *ℤ x 0) times (x (suc column)) _ _ (added_worth state column row.least times over rest is numbers are x (old_solution x sol)) (last_split x sol) refl))

  enough_added : (x : ℕ → ℤ) → ((i : ℕ) → i < suc (length state.system.rows) → LiesOn (suc (columns_of state.system)) (extended i) x) → IsSolution system' x
  unfolding system'
  enough_added x all = record { each = λ d h. by_case d h (cases_lt d (length state.system.rows)) }
    where
      old : IsSolution state.system x
      old =
          kept.solved.enough x (λ i h. lies_less (columns_of state.system) (table_of lines i) x (no_own i h)
          (subst (λ line. LiesOn (suc (columns_of state.system)) line x) (sym (extended_before i h)) (all i (omega (arith, h)))))

      last : LiesOn (suc (columns_of state.system)) numbers x
      last = subst (λ line. LiesOn (suc (columns_of state.system)) line x) (sym (extended_behind (length state.system.rows) (omega arith))) (all (length state.system.rows) (omega arith))

      last_equal : x (suc (columns_of state.system)) +ℤ row.least *ℤ x 0 ≡ sum_of_terms (λ var. x (suc (column_of state.system.strips var))) row.terms
      last_equal =
          worth_split over (x (suc (columns_of state.system))) (row.least *ℤ x 0) times (x (suc column)) _ _ is.positive (added_worth state column row.least times over rest is numbers are x old)
          (worth_none (suc (columns_of state.system)) numbers x last) (sum x)

      at_last : (d : ℕ) → d ≡ length state.system.rows → IsSplit system' d x
      at_last d e =
          subst (λ t. IsSplit system' t x) (sym e)
          (record { equal = subst (λ r. x (suc (columns_of state.system)) +ℤ r.least *ℤ x 0 ≡ sum_of_terms (λ var. x (suc (column_of state.system.strips var))) r.terms) (sym row_last) last_equal })

      by_case : (d : ℕ) → d < length (state.system.rows ++ row ∷ []) → (d < length state.system.rows) ⊎ (length state.system.rows ≤ d) → IsSplit system' d x
      by_case d h (inl l) = split_after x d l (old.each d l)
      by_case d h (inr g) = at_last d (omega (arith, h, g, length-append state.system.rows (row ∷ [])))

  there_added : (i : ℕ) → i < suc (length state.system.rows) → basic_of basis' i < suc (columns_of state.system)
  there_added i h = by_case (cases_lt i (length state.system.rows))
    where
      at_last : i ≡ length state.system.rows → basic_of basis' i < suc (columns_of state.system)
      at_last e = subst (λ c. c < suc (columns_of state.system)) (sym (ap (basic_of basis') e ∙ basic_last)) (omega arith)

      by_case : (i < length state.system.rows) ⊎ (length state.system.rows ≤ i) → basic_of basis' i < suc (columns_of state.system)
      by_case (inl l) = subst (λ c. c < suc (columns_of state.system)) (sym (basic_before i l)) (let t = kept.solved.there i l in omega (arith, t))
      by_case (inr g) = at_last (omega (arith, h, g))

  positive_added : (i : ℕ) → i < suc (length state.system.rows) → pos 0 <ℤ extended i (suc (basic_of basis' i))
  positive_added i h = by_case (cases_lt i (length state.system.rows))
    where
      at_last : i ≡ length state.system.rows → pos 0 <ℤ extended i (suc (basic_of basis' i))
      at_last e =
          subst (λ line. pos 0 <ℤ line (suc (basic_of basis' i))) (extended_behind i (omega (arith, e)))
          (subst (λ c. pos 0 <ℤ numbers (suc c)) (sym (ap (basic_of basis') e ∙ basic_last)) (subst (λ z. pos 0 <ℤ z) (sym are.own_is) is.positive))

      by_case : (i < length state.system.rows) ⊎ (length state.system.rows ≤ i) → pos 0 <ℤ extended i (suc (basic_of basis' i))
      by_case (inl l) =
          subst (λ line. pos 0 <ℤ line (suc (basic_of basis' i))) (extended_before i l) (subst (λ c. pos 0 <ℤ table_of lines i (suc c)) (sym (basic_before i l)) (kept.solved.positive i l))
      by_case (inr g) = at_last (omega (arith, h, g))

  alone_added : (i j : ℕ) → i < suc (length state.system.rows) → j < suc (length state.system.rows) → (i ≡ j → ⊥) → extended i (suc (basic_of basis' j)) ≡ pos 0
  alone_added i j h g n = by_case (cases_lt i (length state.system.rows)) (cases_lt j (length state.system.rows))
    where
      old_last : i < length state.system.rows → j ≡ length state.system.rows → extended i (suc (basic_of basis' j)) ≡ pos 0
      old_last l e = (λ t. sym (extended_before i l) t (suc (basic_of basis' j))) ∙ ap (λ c. table_of lines i (suc c)) (ap (basic_of basis') e ∙ basic_last) ∙ no_own i l

      none : (z y : ℤ) → z ≡ times *ℤ y → y ≡ pos 0 → z ≡ pos 0
      none z y e f = e ∙ ap (λ t. times *ℤ t) f ∙ times_none times
        where
          times_none : (t : ℤ) → t *ℤ pos 0 ≡ pos 0
          times_none t = omega (arith, ints)

      last_old : length state.system.rows ≤ i → j < length state.system.rows → extended i (suc (basic_of basis' j)) ≡ pos 0
      last_old m l =
          (λ t. sym (extended_behind i m) t (suc (basic_of basis' j))) ∙ ap (λ c. numbers (suc c)) (basic_before j l)
          ∙ none _ _ (are.others (suc (basic_of state.basis j)) (omega arith) (let t = kept.solved.there j l in omega (arith, t))) (is.clear j l)

      by_case : (i < length state.system.rows) ⊎ (length state.system.rows ≤ i) → (j < length state.system.rows) ⊎ (length state.system.rows ≤ j) → extended i (suc (basic_of basis' j)) ≡ pos 0
      by_case (inl l) (inl m) = (λ t. sym (extended_before i l) t (suc (basic_of basis' j))) ∙ ap (λ c. table_of lines i (suc c)) (basic_before j m) ∙ kept.solved.alone i j l m n
      by_case (inl l) (inr m) = old_last l (omega (arith, m, g))
      by_case (inr l) (inl m) = last_old l m
      by_case (inr l) (inr m) = absurd (n (omega (arith, l, m, h, g)))

  pub columns_more : suc (columns_of state.system) ≡ columns_of (added_state state row).system
  columns_more = let e = length-append state.system.rows (row ∷ []) in omega (arith, e)

  pub count_more : suc (length state.system.rows) ≡ length (added_state state row).system.rows
  count_more = let e = length-append state.system.rows (row ∷ []) in omega (arith, e)

  -- the table with the row's line is solved
  pub added_solved : IsSolvedFor (columns_of (added_state state row).system) (length (added_state state row).system.rows) (IsSolution (added_state state row).system) (basic_of (added_state state row).basis) extended
  unfolding system' basis'
  added_solved =
      subst₂ (λ a b. IsSolvedFor a b (IsSolution (added_state state row).system) (basic_of (added_state state row).basis) extended) columns_more count_more
      (record { there = there_added; positive = positive_added; alone = alone_added; holds = holds_added; enough = enough_added })

  pub extended_last : numbers ≡ extended (length state.system.rows)
  extended_last = extended_behind (length state.system.rows) (omega arith)

  pub table_kept : (line : List ℤ) → number_of line ≡ numbers → (r : ℕ) → r < suc (length state.system.rows) → table_of (lines ++ line ∷ []) r ≡ extended r
  table_kept line e r h = by_case (cases_lt r (length state.system.rows))
    where
      at_last : r ≡ length state.system.rows → table_of (lines ++ line ∷ []) r ≡ extended r
      at_last f =
          ap (table_of (lines ++ line ∷ [])) (f ∙ sym kept.one_each) ∙ ap number_of (get_or-append_seam lines line [] []) ∙ e ∙ extended_behind r (omega (arith, f))

      by_case : (r < length state.system.rows) ⊎ (length state.system.rows ≤ r) → table_of (lines ++ line ∷ []) r ≡ extended r
      by_case (inl l) = ap number_of (get_or_append_left lines (line ∷ []) [] r (omega (arith, l, kept.one_each))) ∙ extended_before r l
      by_case (inr g) = at_last (omega (arith, h, g))

-- tables of equal lines are solved alike
solved_alike : (m count : ℕ) (solution : (ℕ → ℤ) → Type 0) (basis : ℕ → ℕ) (table other : ℕ → ℕ → ℤ) → ((i : ℕ) → i < count → other i ≡ table i) → IsSolvedFor m count solution basis table → IsSolvedFor m count solution basis other
solved_alike m count solution basis table other same solved = record {
  there = solved.there;
  positive = λ i h. subst (λ line. pos 0 <ℤ line (suc (basis i))) (sym (same i h)) (solved.positive i h);
  alone = λ i k h g n. subst (λ line. line (suc (basis k)) ≡ pos 0) (sym (same i h)) (solved.alone i k h g n);
  holds = λ x sol i h. subst (λ line. LiesOn m line x) (sym (same i h)) (solved.holds x sol i h);
  enough = λ x all. solved.enough x (λ i h. subst (λ line. LiesOn m line x) (same i h) (all i h));
}

-- the line that is kept
line_are : (own : ℕ) (least times over : ℤ) (rest line : List ℤ) → IsAddedLine own least times over rest line → AreAdded own least times over rest (number_of line)
line_are own least times over rest line is = record {
  right = is.right;
  own_is = is.own_is;
  others = is.others;
  beyond = λ s h. get_or-eq_default line (pos 0) (omega (arith, h, is.long));
}

-- the numbers of a line that isn't made
past_numbers : ℤ → ℤ → ℤ → List ℤ → ℕ → ℕ → ℤ
past_numbers least times over rest own zero = added_right least times over rest
past_numbers least times over rest own (suc j) = times *ℤ number_of rest (suc j) +ℤ over *ℤ unit own j

past_are : (own : ℕ) (least times over : ℤ) (rest : List ℤ) → ((s : ℕ) → suc own ≤ s → number_of rest s ≡ pos 0) → AreAdded own least times over rest (past_numbers least times over rest own)
unfolding past_numbers
past_are own least times over rest none_behind = record {
  right = refl;
  own_is = alone times over _ _ (none_behind (suc own) (omega arith)) (unit_there own);
  others = λ s h l. other s h l;
  beyond = λ s h. behind s h;
}
  where
    alone : (t o z u : ℤ) → z ≡ pos 0 → u ≡ pos 1 → t *ℤ z +ℤ o *ℤ u ≡ o
    alone t o z u e f = omega (arith, ints, ap (λ y. t *ℤ y) e, ap (λ y. o *ℤ y) f)

    kept_as : (t o z u : ℤ) → u ≡ pos 0 → t *ℤ z +ℤ o *ℤ u ≡ t *ℤ z
    kept_as t o z u f = omega (arith, ints, ap (λ y. o *ℤ y) f)

    none : (t o z u : ℤ) → z ≡ pos 0 → u ≡ pos 0 → t *ℤ z +ℤ o *ℤ u ≡ pos 0
    none t o z u e f = omega (arith, ints, ap (λ y. t *ℤ y) e, ap (λ y. o *ℤ y) f)

    other : (s : ℕ) → 0 < s → s < suc own → past_numbers least times over rest own s ≡ times *ℤ number_of rest s
    other zero h l = absurd (omega (arith, h))
    other (suc j) h l = kept_as times over (number_of rest (suc j)) (unit own j) (unit_elsewhere own j (λ e. omega (arith, l, e)))

    behind : (s : ℕ) → suc own < s → past_numbers least times over rest own s ≡ pos 0
    behind zero h = absurd (omega (arith, h))
    behind (suc j) h = none times over _ _ (none_behind (suc j) (omega (arith, h))) (unit_elsewhere own j (λ e. omega (arith, h, e)))

one_term : (a b c d : ℤ) → a +ℤ (pos 0 +ℤ (pos 0 +ℤ pos 0)) ≡ a
one_term a b c d = omega (arith, ints)

sum_of_one : (strips : ℕ) (row : Row) (fit : IsAddable strips row) (x : ℕ → ℤ) → sum_of_terms (λ var. x (suc (column_of strips var))) row.terms ≡ fit.term.times *ℤ x (suc (column_of strips fit.term.var))
sum_of_one strips row fit x = ap (sum_of_terms (λ var. x (suc (column_of strips var)))) fit.only ∙ one_term (fit.term.times *ℤ x (suc (column_of strips fit.term.var))) (pos 0) (pos 0) (pos 0)

-- the tableau with the row
pub kept_added : (state : State) (lines : List (List ℤ)) (row : Row) (fit : IsAddable state.system.strips row) (line : List ℤ) → columns_of state.system + 1 < 4294967296 → IsKept state lines
    → IsAdded state (column_of state.system.strips fit.term.var) row.least fit.term.times line → IsKept (added_state state row) (lines ++ line ∷ [])
kept_added state lines row fit line few kept is = record {
  one_each = length-append lines (line ∷ []) ∙ ap (λ n. n + 1) kept.one_each ∙ sym (length-append state.system.rows (row ∷ []));
  basis_each = length-append state.basis (columns_of state.system ∷ []) ∙ ap (λ n. n + 1) kept.basis_each ∙ sym (length-append state.system.rows (row ∷ []));
  fits = fits_more few;
  goal_there = kept.goal_there;
  solved = solved_alike _ _ _ _ _ _ (λ i h. table_kept state lines row column times is.over is.rest (number_of line) kept is.worth_is sum are line refl i (omega (arith, h, more)))
      (added_solved state lines row column times is.over is.rest (number_of line) kept is.worth_is sum are);
  each = λ i h. each i (omega (arith, h, more)) (cases_lt i (length state.system.rows));
}
  where
    column : ℕ
    column = column_of state.system.strips fit.term.var

    times : ℤ
    times = fit.term.times

    sum : (x : ℕ → ℤ) → sum_of_terms (λ var. x (suc (column_of state.system.strips var))) row.terms ≡ fit.term.times *ℤ x (suc (column_of state.system.strips fit.term.var))
    sum x = sum_of_one state.system.strips row fit x

    are : AreAdded (columns_of state.system) row.least fit.term.times is.over is.rest (number_of line)
    are = line_are (columns_of state.system) row.least fit.term.times is.over is.rest line is.is

    more : length (state.system.rows ++ row ∷ []) ≡ length state.system.rows + 1
    more = length-append state.system.rows (row ∷ [])

    fits_more : columns_of state.system + 1 < 4294967296 → columns_of (added_state state row).system < 4294967296
    fits_more h = let e = length-append state.system.rows (row ∷ []) in omega (arith, h, e)

    none_line : (s : ℕ) → suc (columns_of (added_state state row).system) ≤ s → number_of line s ≡ pos 0
    none_line s h = get_or-eq_default line (pos 0) (let e = length-append state.system.rows (row ∷ []) in let l = is.is.long in omega (arith, e, l, h))

    kept_line : IsKeptLine (suc (columns_of (added_state state row).system)) line
    kept_line = record { none_behind = none_line; small = is.is.small; reduced = added_no_factor state (column_of state.system.strips fit.term.var) row.least fit.term.times is.over is.rest (number_of line) is.worth_is fit.unit are }

    further : (i : ℕ) → i < length state.system.rows → (s : ℕ) → suc (columns_of (added_state state row).system) ≤ s → number_of (line_at lines i) s ≡ pos 0
    further i h s g = (kept.each i h).none_behind s (let e = length-append state.system.rows (row ∷ []) in omega (arith, e, g))

    each : (i : ℕ) → i < length state.system.rows + 1 → (i < length state.system.rows) ⊎ (length state.system.rows ≤ i) → IsKeptLine (suc (columns_of (added_state state row).system)) (line_at (lines ++ line ∷ []) i)
    each i h (inl l) =
        subst (IsKeptLine (suc (columns_of (added_state state row).system))) (sym (get_or_append_left lines (line ∷ []) [] i (omega (arith, l, kept.one_each))))
        (record { none_behind = further i l; small = (kept.each i l).small; reduced = (kept.each i l).reduced })
    each i h (inr g) = at_last i (omega (arith, h, g))
      where
        at_last : (i : ℕ) → i ≡ length state.system.rows → IsKeptLine (suc (columns_of (added_state state row).system)) (line_at (lines ++ line ∷ []) i)
        at_last i e =
            subst (IsKeptLine (suc (columns_of (added_state state row).system))) (sym (ap (line_at (lines ++ line ∷ [])) (e ∙ sym kept.one_each) ∙ get_or-append_seam lines line [] [])) kept_line

-- a row whose right side is past the limit
pub past_added : (state : State) (lines : List (List ℤ)) (row : Row) (fit : IsAddable state.system.strips row) → IsKept state lines
    → PassesAdded state (column_of state.system.strips fit.term.var) row.least fit.term.times → IsPastAdded state row
past_added state lines row fit kept is = record {
  table = extended state lines row column times is.over is.rest numbers kept is.worth_is sum are;
  solved = added_solved state lines row column times is.over is.rest numbers kept is.worth_is sum are;
  reduced = subst (IsReduced (columns_of (added_state state row).system)) (extended_last state lines row column times is.over is.rest numbers kept is.worth_is sum are)
      (reduced_numbers (columns_of (added_state state row).system) numbers (added_no_factor state column row.least times is.over is.rest numbers is.worth_is fit.unit are) (λ s h. are.beyond s (wider s h)));
  past = subst (λ line. IsPast (line 0)) (extended_last state lines row column times is.over is.rest numbers kept is.worth_is sum are) past;
}
  where
    column : ℕ
    column = column_of state.system.strips fit.term.var

    times : ℤ
    times = fit.term.times

    numbers : ℕ → ℤ
    numbers = past_numbers row.least fit.term.times is.over is.rest (columns_of state.system)

    sum : (x : ℕ → ℤ) → sum_of_terms (λ var. x (suc (column_of state.system.strips var))) row.terms ≡ fit.term.times *ℤ x (suc (column_of state.system.strips fit.term.var))
    sum x = sum_of_one state.system.strips row fit x

    are : AreAdded (columns_of state.system) row.least fit.term.times is.over is.rest (past_numbers row.least fit.term.times is.over is.rest (columns_of state.system))
    are = past_are (columns_of state.system) row.least fit.term.times is.over is.rest is.worth_is.none_behind

    past : IsPast (past_numbers row.least fit.term.times is.over is.rest (columns_of state.system) 0)
    past = past_at is.past
      where
        past_at : IsPast (added_right row.least fit.term.times is.over is.rest) → IsPast (past_numbers row.least fit.term.times is.over is.rest (columns_of state.system) 0)
        past_at h = subst IsPast (sym are.right) h

    wider : (s : ℕ) → columns_of (added_state state row).system < s → suc (columns_of state.system) < s
    wider s h = let e = length-append state.system.rows (row ∷ []) in omega (arith, e, h)

-- whichever table has its right side past the limit, that of the row's line is
pub past_whole_right : (state : State) (lines : List (List ℤ)) (row : Row) (fit : IsAddable state.system.strips row) → IsKept state lines → (over : ℤ) (rest : List ℤ)
    → IsWorth state (column_of state.system.strips fit.term.var) rest over → IsPastAdded state row → IsPast (added_right row.least fit.term.times over rest)
past_whole_right state lines row fit kept over rest is passes =
    subst IsPast
    (same_by (extended state lines row (column_of state.system.strips fit.term.var) fit.term.times over rest numbers kept is sum are)
    (extended_last state lines row (column_of state.system.strips fit.term.var) fit.term.times over rest numbers kept is sum are)
    (added_solved state lines row (column_of state.system.strips fit.term.var) fit.term.times over rest numbers kept is sum are)
    ∙ are.right)
    passes.past
  where
    numbers : ℕ → ℤ
    numbers = past_numbers row.least fit.term.times over rest (columns_of state.system)

    sum : (x : ℕ → ℤ) → sum_of_terms (λ var. x (suc (column_of state.system.strips var))) row.terms ≡ fit.term.times *ℤ x (suc (column_of state.system.strips fit.term.var))
    sum x = sum_of_one state.system.strips row fit x

    are : AreAdded (columns_of state.system) row.least fit.term.times over rest numbers
    are = past_are (columns_of state.system) row.least fit.term.times over rest is.none_behind

    wider : (s : ℕ) → columns_of (added_state state row).system < s → suc (columns_of state.system) < s
    wider s h = let e = length-append state.system.rows (row ∷ []) in omega (arith, e, h)

    last : length state.system.rows < length (added_state state row).system.rows
    last = let e = length-append state.system.rows (row ∷ []) in omega (arith, e)

    same_by : (t : ℕ → ℕ → ℤ) → numbers ≡ t (length state.system.rows)
        → IsSolvedFor (columns_of (added_state state row).system) (length (added_state state row).system.rows) (IsSolution (added_state state row).system) (basic_of (added_state state row).basis) t
        → passes.table (length state.system.rows) 0 ≡ numbers 0
    same_by t e solved =
        let after = added_state state row in
        let k = length state.system.rows in
        let reduced = subst (IsReduced (columns_of after.system)) e
        (reduced_numbers (columns_of after.system) numbers (added_no_factor state (column_of state.system.strips fit.term.var) row.least fit.term.times over rest numbers is fit.unit are) (λ s h. are.beyond s (wider s h))) in
        reduced_once (columns_of after.system) (passes.table k) (t k) (passes.table k (suc (basic_of after.basis k))) (t k (suc (basic_of after.basis k))) passes.reduced reduced (passes.solved.positive k last)
        (solved.positive k last)
        (λ s l. proportional (columns_of after.system) (length after.system.rows) (IsSolution after.system) (basic_of after.basis) passes.table t passes.solved solved k s last l) 0 (omega arith)
        ∙ (λ j. sym e j 0)

-- a basic column is told by its line
pub worth_basic : (state : State) (lines : List (List ℤ)) (column i : ℕ) → IsKept state lines → i < length state.system.rows → basic_of state.basis i ≡ column
    → IsWorth state column (set (line_at lines i) (suc column) (pos 0)) (table_of lines i (suc column))
worth_basic state lines column i kept h e = record {
  positive = positive;
  small_over = (kept.each i h).small.each (suc column);
  small = record { each = λ s. small_at s (same_or_not s (suc column)) };
  none_behind = λ s g. get_or-set_other (line_at lines i) (suc column) s (pos 0) (pos 0) (λ f. omega (arith, f, g, below)) ∙ (kept.each i h).none_behind s g;
  equal = λ x sol. equal x (worth_none (columns_of state.system) (table_of lines i) x (kept.solved.holds x sol i h));
  clear = λ k l. clear k l (same_or_not k i);
  no_factor = λ d k over all. (kept.each i h).reduced.none d k (λ s. divides d k over all s (same_or_not s (suc column)));
}
  where
    positive : pos 0 <ℤ table_of lines i (suc column)
    positive = subst (λ c. pos 0 <ℤ table_of lines i (suc c)) e (kept.solved.positive i h)

    within : suc column < length (line_at lines i)
    within = there_where_positive (line_at lines i) (suc column) positive

    below : column < columns_of state.system
    below = subst (λ c. c < columns_of state.system) e (kept.solved.there i h)

    nothing_small : IsSmall (pos 0)
    nothing_small = record { low = omega (arith, ints); high = omega (arith, ints) }

    small_at : (s : ℕ) → (s ≡ suc column) ⊎ (s ≡ suc column → ⊥) → IsSmall (number_of (set (line_at lines i) (suc column) (pos 0)) s)
    small_at s (inl f) = subst IsSmall (sym (ap (number_of (set (line_at lines i) (suc column) (pos 0))) f ∙ get_or-set_same (line_at lines i) (suc column) (pos 0) (pos 0) within)) nothing_small
    small_at s (inr n) = subst IsSmall (sym (get_or-set_other (line_at lines i) (suc column) s (pos 0) (pos 0) n)) ((kept.each i h).small.each s)

    parts : (s : ℕ) → (s ≡ suc column) ⊎ (s ≡ suc column → ⊥)
        → pos 1 *ℤ number_of (line_at lines i) s ≡ pos 1 *ℤ number_of (set (line_at lines i) (suc column) (pos 0)) s +ℤ table_of lines i (suc column) *ℤ unit (suc column) s
    parts s (inl f) =
        here _ _ _ _ (ap (number_of (line_at lines i)) f) (ap (number_of (set (line_at lines i) (suc column) (pos 0))) f ∙ get_or-set_same (line_at lines i) (suc column) (pos 0) (pos 0) within)
        (ap (unit (suc column)) f ∙ unit_there (suc column))
      where
        here : (a b o u : ℤ) → a ≡ o → b ≡ pos 0 → u ≡ pos 1 → pos 1 *ℤ a ≡ pos 1 *ℤ b +ℤ o *ℤ u
        here a b o u p q r = omega (arith, ints, p, q, ap (λ z. o *ℤ z) r)
    parts s (inr n) =
        there _ _ _ _ (get_or-set_other (line_at lines i) (suc column) s (pos 0) (pos 0) n) (unit_elsewhere (suc column) s (λ f. n (sym f)))
      where
        there : (a b o u : ℤ) → b ≡ a → u ≡ pos 0 → pos 1 *ℤ a ≡ pos 1 *ℤ b +ℤ o *ℤ u
        there a b o u p q = omega (arith, ints, p, ap (λ z. o *ℤ z) q)

    equal : (x : ℕ → ℤ) → worth (columns_of state.system) (table_of lines i) x ≡ pos 0
        → worth (columns_of state.system) (number_of (set (line_at lines i) (suc column) (pos 0))) x +ℤ table_of lines i (suc column) *ℤ x (suc column) ≡ pos 0
    equal x none =
        finish _ _ _ _ _
        (worth_combined (columns_of state.system) (table_of lines i) (number_of (set (line_at lines i) (suc column) (pos 0))) (unit (suc column)) x (pos 1) (table_of lines i (suc column)) (pos 1)
        (λ s l. parts s (same_or_not s (suc column)))) none (worth_swapped (columns_of state.system) (unit (suc column)) x ∙ worth_unit (columns_of state.system) column x below)
      where
        finish : (a b o u y : ℤ) → pos 1 *ℤ a ≡ pos 1 *ℤ b +ℤ o *ℤ u → a ≡ pos 0 → u ≡ y → b +ℤ o *ℤ y ≡ pos 0
        finish a b o u y p q r = omega (arith, ints, p, q, ap (λ z. o *ℤ z) r)

    clear : (k : ℕ) → k < length state.system.rows → (k ≡ i) ⊎ (k ≡ i → ⊥) → number_of (set (line_at lines i) (suc column) (pos 0)) (suc (basic_of state.basis k)) ≡ pos 0
    clear k l (inl f) =
        ap (λ c. number_of (set (line_at lines i) (suc column) (pos 0)) (suc c)) (ap (basic_of state.basis) f ∙ e) ∙ get_or-set_same (line_at lines i) (suc column) (pos 0) (pos 0) within
    clear k l (inr n) = by_same (same_or_not (suc (basic_of state.basis k)) (suc column))
      where
        by_same : (suc (basic_of state.basis k) ≡ suc column) ⊎ (suc (basic_of state.basis k) ≡ suc column → ⊥) → number_of (set (line_at lines i) (suc column) (pos 0)) (suc (basic_of state.basis k)) ≡ pos 0
        by_same (inl f) = ap (number_of (set (line_at lines i) (suc column) (pos 0))) f ∙ get_or-set_same (line_at lines i) (suc column) (pos 0) (pos 0) within
        by_same (inr m) = get_or-set_other (line_at lines i) (suc column) (suc (basic_of state.basis k)) (pos 0) (pos 0) m ∙ kept.solved.alone i k h l (λ f. n (sym f))

    divides : (d k : ℤ) → Divides d (k *ℤ table_of lines i (suc column)) → ((s : ℕ) → Divides d (k *ℤ number_of (set (line_at lines i) (suc column) (pos 0)) s)) → (s : ℕ)
        → (s ≡ suc column) ⊎ (s ≡ suc column → ⊥) → Divides d (k *ℤ number_of (line_at lines i) s)
    divides d k over all s (inl f) = divides_is d _ _ (ap (λ t. k *ℤ number_of (line_at lines i) t) (sym f)) over
    divides d k over all s (inr n) = divides_is d _ _ (ap (λ z. k *ℤ z) (get_or-set_other (line_at lines i) (suc column) s (pos 0) (pos 0) n)) (all s)

-- a column that isn't basic is told by itself
pub worth_free : (state : State) (lines : List (List ℤ)) (column : ℕ) → IsKept state lines → column < columns_of state.system → ((i : ℕ) → i < length state.system.rows → basic_of state.basis i ≡ column → ⊥)
    → IsWorth state column (set (replicate (column + 2) (pos 0)) (suc column) (negsuc 0)) (pos 1)
worth_free state lines column kept below free = record {
  positive = omega (arith, ints);
  small_over = record { low = omega (arith, ints); high = omega (arith, ints) };
  small = record { each = λ s. small_at s (same_or_not s (suc column)) };
  none_behind = λ s g. get_or-eq_default (set (replicate (column + 2) (pos 0)) (suc column) (negsuc 0)) (pos 0)
      (let l = long (length-set (replicate (column + 2) (pos 0)) (suc column) (negsuc 0) ∙ length-replicate (column + 2) (pos 0)) in omega (arith, l, g));
  equal = λ x sol. finish _ _ _
      (worth_combined (columns_of state.system) (number_of (set (replicate (column + 2) (pos 0)) (suc column) (negsuc 0))) (unit (suc column)) (unit (suc column)) x (negsuc 0) (pos 0) (pos 1) (λ s l. parts s (same_or_not s (suc column))))
      (worth_swapped (columns_of state.system) (unit (suc column)) x ∙ worth_unit (columns_of state.system) column x below);
  clear = λ k l. get_or-set_other (replicate (column + 2) (pos 0)) (suc column) (suc (basic_of state.basis k)) (negsuc 0) (pos 0) (λ f. free k l (omega (arith, f))) ∙ zero_of (column + 2) (suc (basic_of state.basis k));
  no_factor = λ d k over all. divides_is d _ _ (one_of k) over;
}
  where
    within : suc column < length (replicate (column + 2) (pos 0))
    within = let e = length-replicate (column + 2) (pos 0) in omega (arith, e)

    long : length (set (replicate (column + 2) (pos 0)) (suc column) (negsuc 0)) ≡ column + 2 → length (set (replicate (column + 2) (pos 0)) (suc column) (negsuc 0)) ≤ suc (columns_of state.system)
    long e = omega (arith, e, below)

    one_of : (z : ℤ) → z *ℤ pos 1 ≡ z
    one_of z = omega (arith, ints)

    small_at : (s : ℕ) → (s ≡ suc column) ⊎ (s ≡ suc column → ⊥) → IsSmall (number_of (set (replicate (column + 2) (pos 0)) (suc column) (negsuc 0)) s)
    small_at s (inl f) =
        subst IsSmall (sym (ap (number_of (set (replicate (column + 2) (pos 0)) (suc column) (negsuc 0))) f ∙ get_or-set_same (replicate (column + 2) (pos 0)) (suc column) (negsuc 0) (pos 0) within))
        (record { low = omega (arith, ints); high = omega (arith, ints) })
    small_at s (inr n) =
        subst IsSmall (sym (get_or-set_other (replicate (column + 2) (pos 0)) (suc column) s (negsuc 0) (pos 0) n ∙ zero_of (column + 2) s)) (record { low = omega (arith, ints); high = omega (arith, ints) })

    parts : (s : ℕ) → (s ≡ suc column) ⊎ (s ≡ suc column → ⊥)
        → pos 1 *ℤ number_of (set (replicate (column + 2) (pos 0)) (suc column) (negsuc 0)) s ≡ negsuc 0 *ℤ unit (suc column) s +ℤ pos 0 *ℤ unit (suc column) s
    parts s (inl f) =
        here _ _ (ap (number_of (set (replicate (column + 2) (pos 0)) (suc column) (negsuc 0))) f ∙ get_or-set_same (replicate (column + 2) (pos 0)) (suc column) (negsuc 0) (pos 0) within)
        (ap (unit (suc column)) f ∙ unit_there (suc column))
      where
        here : (a u : ℤ) → a ≡ negsuc 0 → u ≡ pos 1 → pos 1 *ℤ a ≡ negsuc 0 *ℤ u +ℤ pos 0 *ℤ u
        here a u p q = omega (arith, ints, p, ap (λ z. negsuc 0 *ℤ z) q)
    parts s (inr n) =
        there _ _ (get_or-set_other (replicate (column + 2) (pos 0)) (suc column) s (negsuc 0) (pos 0) n ∙ zero_of (column + 2) s) (unit_elsewhere (suc column) s (λ f. n (sym f)))
      where
        there : (a u : ℤ) → a ≡ pos 0 → u ≡ pos 0 → pos 1 *ℤ a ≡ negsuc 0 *ℤ u +ℤ pos 0 *ℤ u
        there a u p q = omega (arith, ints, p, ap (λ z. negsuc 0 *ℤ z) q)

    finish : (a u y : ℤ) → pos 1 *ℤ a ≡ negsuc 0 *ℤ u +ℤ pos 0 *ℤ u → u ≡ y → a +ℤ pos 1 *ℤ y ≡ pos 0
    finish a u y p q = omega (arith, ints, p, q, turned u)
      where
        turned : (z : ℤ) → negsuc 0 *ℤ z ≡ pos 0 -ℤ z
        turned (pos zero) = omega (arith, ints)
        turned (pos (suc m)) = omega (arith, ints)
        turned (negsuc m) = omega (arith, ints)

-- as code makes it
pub kept_row : (state now : State) (lines next : List (List ℤ)) (row : Row) (line : List ℤ) (rows first : List Row) (basis second : List ℕ) (own : ℕ) → state ≡ now → IsKept state lines → columns_of now.system + 1 < 4294967296
    → IsNewRow now row line → next ≡ lines ++ line ∷ [] → first ≡ state.system.rows → rows ≡ first ++ row ∷ [] → second ≡ state.basis → own ≡ columns_of now.system → basis ≡ second ++ own ∷ []
    → IsKept (record { system = record { strips = state.system.strips; rows = rows }; goal = state.goal; basis = basis }) next
kept_row state now lines next row line rows first basis second own e kept few is f g h k l m =
    let is' : IsNewRow state row line = subst (λ s. IsNewRow s row line) (sym e) is in
    let rows_are : rows ≡ state.system.rows ++ row ∷ [] = h ∙ ap (λ xs. xs ++ row ∷ []) g in
    let basis_is : basis ≡ state.basis ++ columns_of state.system ∷ [] = m ∙ (λ i. k i ++ (l ∙ ap (λ s. columns_of s.system) (sym e)) i ∷ []) in
    subst (λ xs. IsKept (record { system = record { strips = state.system.strips; rows = rows }; goal = state.goal; basis = basis }) xs) (sym f)
    (subst₂ (λ a b. IsKept (record { system = record { strips = state.system.strips; rows = a }; goal = state.goal; basis = b }) (lines ++ line ∷ [])) (sym rows_are) (sym basis_is)
    (kept_added state lines row is'.fit line (subst (λ s. columns_of s.system + 1 < 4294967296) (sym e) few) kept is'.is))

-- what the line of a row tells, whichever way its variable is told
pub row_told : (state now : State) (lines : List (List ℤ)) (row : Row) (fit : IsAddable now.system.strips row) (column own : ℕ) (times over : ℤ) (rest : List ℤ) (found : Option (List ℤ)) → state ≡ now → IsKept state lines
    → IsWorth state column rest over → column ≡ column_of now.system.strips fit.term.var → times ≡ fit.term.times → own ≡ columns_of now.system
    → MatchOption found (IsPast (added_right row.least times over rest)) (λ line. IsAddedLine own row.least times over rest line) → MatchOption found (IsPastAdded now row) (λ line. IsNewRow now row line)
row_told state now lines row fit column own times over rest None e kept is f g h told =
    let worth_now : IsWorth now (column_of now.system.strips fit.term.var) rest over = subst₂ (λ s c. IsWorth s c rest over) e f is in
    past_added now lines row fit (subst (λ s. IsKept s lines) e kept) (record { rest = rest; over = over; worth_is = worth_now; past = subst (λ t. IsPast (added_right row.least t over rest)) g told })
row_told state now lines row fit column own times over rest (Some line) e kept is f g h told =
    let worth_now : IsWorth now (column_of now.system.strips fit.term.var) rest over = subst₂ (λ s c. IsWorth s c rest over) e f is in
    record { fit = fit; is = record { rest = rest; over = over; worth_is = worth_now; is = subst₂ (λ n t. IsAddedLine n row.least t over rest line) h g told } }

-- the term that code reads is the row's
pub term_is : (row : Row) (strips : ℕ) (fit : IsAddable strips row) (term : Term) (d : Option Term) → get_or row.terms 0 d ≡ Some term → term ≡ fit.term
term_is row strips fit term d e = some_once term fit.term (sym e ∙ ap (λ xs. get_or xs 0 d) fit.only)
  where
    some_once : (a b : Term) → Some a ≡ Some b → a ≡ b
    some_once a b h = ap (λ o. unwrap_or o a) h

next : (n : ℕ) → n + 1 ≡ suc n
next n = omega arith

-- what a basic column is worth, as code reads it
pub worth_read : (state : State) (lines : List (List ℤ)) (found slice rest second : List ℤ) (basis : List ℕ) (column i : ℕ) (r : ℤ) → IsKept state lines → basis ≡ state.basis → IsBasicIn basis column i
    → found ≡ get_or lines i found → slice ≡ found → rest ≡ set slice (column + 1) (pos 0) → second ≡ rest → r ≡ number_of slice (column + 1) → IsWorth state column second (to_z w64 (of_z w64 r))
worth_read state lines found slice rest second basis column i r kept b basic e f g h k =
    let basic' : IsBasicIn state.basis column i = subst (λ xs. IsBasicIn xs column i) b basic in
    let here : i < length state.system.rows = subst (λ n. i < n) kept.basis_each basic'.there in
    let line : line_at lines i ≡ slice = line_read lines i found slice (subst (λ n. i < n) (sym kept.one_each) here) e f in
    let rest_is : second ≡ set (line_at lines i) (suc column) (pos 0) = h ∙ g ∙ (λ t. set (sym line t) (next column t) (pos 0)) in
    let over_is : to_z w64 (of_z w64 r) ≡ table_of lines i (suc column) =
    small_read (table_of lines i (suc column)) r ((kept.each i here).small.each (suc column)) (k ∙ (λ t. number_of (sym line t) (next column t))) in
    subst₂ (λ xs z. IsWorth state column xs z) (sym rest_is) (sym over_is) (worth_basic state lines column i kept here basic'.is)

-- what a column that isn't basic is worth
pub free_read : (state : State) (lines : List (List ℤ)) (rest second : List ℤ) (basis : List ℕ) (column : ℕ) → IsKept state lines → basis ≡ state.basis → IsFree basis column → column < columns_of state.system
    → rest ≡ set (replicate (column + 2) (pos 0)) (column + 1) (negsuc 0) → second ≡ rest → IsWorth state column second (pos 1)
free_read state lines rest second basis column kept b free below g h =
    subst (λ xs. IsWorth state column xs (pos 1)) (sym (h ∙ g ∙ ap (λ n. set (replicate (column + 2) (pos 0)) n (negsuc 0)) (next column)))
    (worth_free state lines column kept below (λ i l. subst (λ xs. IsFree xs column) b free i (subst (λ n. i < n) (sym kept.basis_each) l)))

-- the column of an added row's variable
pub column_read : (state now : State) (row : Row) (fit : IsAddable now.system.strips row) (term : Term) (d : Option Term) (column : ℕ) → state ≡ now → get_or row.terms 0 d ≡ Some term
    → column ≡ column_of state.system.strips term.var → column ≡ column_of now.system.strips fit.term.var
column_read state now row fit term d column e f g = g ∙ (λ i. column_of (e i).system.strips (term_is row now.system.strips fit term d f i).var)

pub column_within : (now : State) (row : Row) (fit : IsAddable now.system.strips row) (column : ℕ) → column ≡ column_of now.system.strips fit.term.var → column < columns_of now.system
column_within now row fit column e = let b = column_below now.system.strips fit.term.var fit.column.below in omega (arith, b, e)
