-- A tableau after a pivot, and where a pivot stops.
use Rattle.std.proofs.Common.{◌≡◌, ℕ, zero, suc, ◌<◌, ◌≤◌, ℤ, pos, negsuc, neg_ℤ, ◌+ℤ◌, ◌*ℤ◌, ◌≤ℤ◌, ◌<ℤ◌, List, length, ◌⊎◌, refl, sym, ap, subst, subst₂, ◌∙◌, inl, inr, arith}
use Rattle.std.proofs.lemmas.Bool.{cases_lt}
use Rattle.std.proofs.lemmas.Int.{ints}
use Rattle.std.proofs.lemmas.List.{length-set}
use Rattle.rt_solved.specs.Lines.{Divides, IsReduced}
use Rattle.rt_solved.specs.Systems.{columns_of, IsSolution}
use Rattle.rt_solved.specs.Tables.{IsExchanged, basic_of}
use Rattle.rt_solved.proofs.Proportional.{proportional, same_or_not}
use Rattle.rt_solved.proofs.Exchanges.{exchange_solves_each, turned_zero}
use Rattle.rt_tableau.specs.Numbers.{number_of, HaveNoFactor}
use Rattle.rt_tableau.specs.States.{State, IsNegative, exchanged_state, IsSmallLine, IsFirstPast, PassesFirst}
use Rattle.rt_tableau.specs.Tables.{line_at, table_of, IsKeptLine, IsKept, IsReady, IsNewLine, AreNew, IsStop}
use Rattle.rt_tableau.proofs.NewLines.{some_factor, no_number}

no_sign : (p q : ℤ) → pos 0 <ℤ p → q <ℤ pos 0 → p ≡ q → ⊥
no_sign p q h g e = omega (arith, ints, h, g, e)

negative_times : (a b : ℤ) → pos 0 <ℤ a → b <ℤ pos 0 → (a *ℤ b) <ℤ pos 0
negative_times (pos zero) b h g = absurd (omega (arith, ints, h))
negative_times (pos (suc a)) (pos b) h g = absurd (omega (arith, ints, g))
negative_times (pos (suc a)) (negsuc b) h g = omega (arith, ints)
negative_times (negsuc a) b h g = absurd (omega (arith, ints, h))

not_negative_times : (a b : ℤ) → pos 0 <ℤ a → pos 0 ≤ℤ b → pos 0 ≤ℤ (a *ℤ b)
not_negative_times (pos a) (pos b) h g = omega (arith, ints)
not_negative_times (pos a) (negsuc b) h g = absurd (omega (arith, ints, g))
not_negative_times (negsuc a) b h g = absurd (omega (arith, ints, h))

-- proportional numbers have one sign
same_sign : (a b x y : ℤ) → pos 0 <ℤ a → pos 0 <ℤ b → a *ℤ x ≡ b *ℤ y → y <ℤ pos 0 → x <ℤ pos 0
same_sign a b (pos n) y h g e l =
    let low = negative_times b y g l in
    let high = not_negative_times a (pos n) h (omega (arith, ints)) in
    absurd (omega (arith, ints, low, high, e))
same_sign a b (negsuc n) y h g e l = omega (arith, ints)

pub ready : (state : State) (lines : List (List ℤ)) (p q : ℕ) → IsKept state lines → IsNegative state p q → IsReady lines state.basis (columns_of state.system) p q
ready state lines p q kept at = record {
  row = there p at.row;
  one_each = kept.basis_each ∙ sym kept.one_each;
  few = kept.fits;
  column = at.column;
  each = λ i h. kept.each i (back i h);
  there = λ i h. kept.solved.there i (back i h);
  negative = same_sign _ _ _ _ (at.solved.positive p at.row) (kept.solved.positive p at.row)
      (proportional (columns_of state.system) (length state.system.rows) (IsSolution state.system) (basic_of state.basis) at.table (table_of lines) at.solved kept.solved p (suc q) at.row (let c = at.column in omega (arith, c)))
      at.negative;
  positive = λ i h. kept.solved.positive i (back i h);
  apart = λ i h n. kept.solved.alone p i at.row (back i h) (λ e. n (sym e));
}
  where
    there : (i : ℕ) → i < length state.system.rows → i < length lines
    there i h = subst (λ n. i < n) (sym kept.one_each) h

    back : (i : ℕ) → i < length lines → i < length state.system.rows
    back i h = subst (λ n. i < n) kept.one_each h

times_none : (k : ℤ) → k *ℤ pos 0 ≡ pos 0
times_none k = omega (arith, ints)

-- without a factor among all numbers there is none among those of the columns, where the rest are 0
pub reduced_numbers : (columns : ℕ) (numbers : ℕ → ℤ) → HaveNoFactor numbers → ((s : ℕ) → columns < s → numbers s ≡ pos 0) → IsReduced columns numbers
reduced_numbers columns numbers none beyond = record { no_factor = λ d k all. none.none d k (λ s. each d k all s (cases_lt columns s)) }
  where
    each : (d k : ℤ) → ((s : ℕ) → s ≤ columns → Divides d (k *ℤ numbers s)) → (s : ℕ) → (columns < s) ⊎ (s ≤ columns) → Divides d (k *ℤ numbers s)
    each d k all s (inl h) = (pos 0, ap (λ z. k *ℤ z) (beyond s h) ∙ times_none k ∙ sym (times_none d))
    each d k all s (inr h) = all s h

pub reduced_line : (columns : ℕ) (line : List ℤ) → IsKeptLine (suc columns) line → IsReduced columns (number_of line)
reduced_line columns line kept = reduced_numbers columns (number_of line) kept.reduced (λ s h. kept.none_behind s (omega (arith, h)))

-- new lines are those of an exchanged table
pub new_exchanged : (table : ℕ → ℕ → ℤ) (count columns p q : ℕ) (lines : List (List ℤ)) → p < count → AreNew table count columns p q lines → IsExchanged columns count p q table (table_of lines)
new_exchanged table count columns p q lines h new = record {
  turned = λ s. (new.each p h).new.turned refl s;
  others = λ i l n. let o = (new.each i l).new.other n in (pos o.0, some_factor o.0 o.1, o.2);
}

pub kept_after : (state : State) (lines new : List (List ℤ)) (p q : ℕ) → IsKept state lines → IsNegative state p q → AreNew (table_of lines) (length lines) (columns_of state.system) p q new
    → IsKept (exchanged_state state p q) new
kept_after state lines new p q kept at are = record {
  one_each = are.one_each ∙ kept.one_each;
  basis_each = length-set state.basis p q ∙ kept.basis_each;
  fits = kept.fits;
  goal_there = kept.goal_there;
  solved = exchange_solves_each state.system state.basis p q (table_of lines) (table_of new) kept.basis_each kept.solved at.row at.column (ready state lines p q kept at).negative
      (subst (λ n. IsExchanged (columns_of state.system) n p q (table_of lines) (table_of new)) kept.one_each
      (new_exchanged (table_of lines) (length lines) (columns_of state.system) p q new (ready state lines p q kept at).row are));
  each = λ i h. (are.each i (subst (λ n. i < n) (sym kept.one_each) h)).kept;
}

-- the exchanged table where only the lines before number i are reduced, and that one
module _ (table : ℕ → ℕ → ℤ) (p q i : ℕ) (before : List (List ℤ)) (numbers : ℕ → ℤ) where
  rest : (r : ℕ) → (r ≡ p) ⊎ (r ≡ p → ⊥) → ℕ → ℤ
  rest r (inl e) s = neg_ℤ (table p s)
  rest r (inr n) s = neg_ℤ (table p (suc q)) *ℤ table r s +ℤ table r (suc q) *ℤ table p s

  choose : (r : ℕ) → (r < i) ⊎ (i ≤ r) → (i < r) ⊎ (r ≤ i) → ℕ → ℤ
  choose r (inl l) b = table_of before r
  choose r (inr g) (inl l) = rest r (same_or_not r p)
  choose r (inr g) (inr h) = numbers

  mixed : ℕ → ℕ → ℤ
  mixed r = choose r (cases_lt r i) (cases_lt i r)

  mixed_before : (r : ℕ) → r < i → table_of before r ≡ mixed r
  unfolding mixed choose
  mixed_before r h = by_case (cases_lt r i)
    where
      by_case : (a : (r < i) ⊎ (i ≤ r)) → table_of before r ≡ choose r a (cases_lt i r)
      by_case (inl l) = refl
      by_case (inr g) = absurd (omega (arith, g, h))

  mixed_at : numbers ≡ mixed i
  unfolding mixed choose
  mixed_at = by_case (cases_lt i i) (cases_lt i i)
    where
      by_case : (a : (i < i) ⊎ (i ≤ i)) (b : (i < i) ⊎ (i ≤ i)) → numbers ≡ choose i a b
      by_case (inl l) b = absurd (omega (arith, l))
      by_case (inr g) (inl l) = absurd (omega (arith, l))
      by_case (inr g) (inr h) = refl

  module _ (count columns : ℕ) (new : AreNew table i columns p q before) (is : IsNewLine table p q i numbers) where
    turned_by : (a : (p < i) ⊎ (i ≤ p)) (b : (i < p) ⊎ (p ≤ i)) (s : ℕ) → choose p a b s ≡ neg_ℤ (table p s)
    unfolding choose rest
    turned_by (inl l) b s = (new.each p l).new.turned refl s
    turned_by (inr g) (inl l) s = by_same (same_or_not p p)
      where
        by_same : (c : (p ≡ p) ⊎ (p ≡ p → ⊥)) → rest p c s ≡ neg_ℤ (table p s)
        by_same (inl e) = refl
        by_same (inr n) = absurd (n refl)
    turned_by (inr g) (inr h) s = is.turned (omega (arith, g, h)) s

    others_by : (r : ℕ) → (r ≡ p → ⊥) → (a : (r < i) ⊎ (i ≤ r)) (b : (i < r) ⊎ (r ≤ i)) → (factor : ℤ) × (pos 0 <ℤ factor)
        × ((s : ℕ) → factor *ℤ choose r a b s ≡ neg_ℤ (table p (suc q)) *ℤ table r s +ℤ table r (suc q) *ℤ table p s)
    unfolding choose rest
    others_by r n (inl l) b = let o = (new.each r l).new.other n in (pos o.0, some_factor o.0 o.1, o.2)
    others_by r n (inr g) (inl l) = (pos 1, omega (arith, ints), by_same (same_or_not r p))
      where
        one_time : (z : ℤ) → pos 1 *ℤ z ≡ z
        one_time z = omega (arith, ints)

        by_same : (c : (r ≡ p) ⊎ (r ≡ p → ⊥)) (s : ℕ) → pos 1 *ℤ rest r c s ≡ neg_ℤ (table p (suc q)) *ℤ table r s +ℤ table r (suc q) *ℤ table p s
        by_same (inl e) s = absurd (n e)
        by_same (inr m) s = one_time _
    others_by r n (inr g) (inr h) = at_row (omega (arith, g, h))
      where
        at_row : r ≡ i → (factor : ℤ) × (pos 0 <ℤ factor) × ((s : ℕ) → factor *ℤ numbers s ≡ neg_ℤ (table p (suc q)) *ℤ table r s +ℤ table r (suc q) *ℤ table p s)
        at_row e =
            let o = is.other (λ f. n (e ∙ f)) in
            (pos o.0, some_factor o.0 o.1, λ s. o.2 s ∙ ap (λ t. neg_ℤ (table p (suc q)) *ℤ table t s +ℤ table t (suc q) *ℤ table p s) (sym e))

    mixed_exchanged : IsExchanged columns count p q table mixed
    unfolding mixed
    mixed_exchanged = record { turned = turned_by (cases_lt p i) (cases_lt i p); others = λ r h n. others_by r n (cases_lt r i) (cases_lt i r) }

-- a pivot that stops tells the first place past the limit
pub passes : (state : State) (lines : List (List ℤ)) (p q : ℕ) (at : ℕ × ℕ) → IsKept state lines → IsNegative state p q → IsStop (table_of lines) (length lines) (columns_of state.system) p q at
    → PassesFirst state p q at.0 at.1
passes state lines p q at kept negative stop = record {
  table = new;
  solved = exchange_solves_each state.system state.basis p q (table_of lines) new kept.basis_each kept.solved negative.row negative.column (ready state lines p q kept negative).negative
      (mixed_exchanged (table_of lines) p q at.0 stop.lines stop.past.numbers (length state.system.rows) columns stop.before stop.past.new);
  row = here;
  reduced_before = λ r h. subst (IsReduced columns) (mixed_before (table_of lines) p q at.0 stop.lines stop.past.numbers r h) (reduced_line columns (line_at stop.lines r) (stop.before.each r h).kept);
  small_before = λ r h. subst (IsSmallLine columns) (mixed_before (table_of lines) p q at.0 stop.lines stop.past.numbers r h) (record { each = λ s l. (stop.before.each r h).kept.small.each s });
  reduced = subst (IsReduced columns) (mixed_at (table_of lines) p q at.0 stop.lines stop.past.numbers) (reduced_numbers columns stop.past.numbers stop.past.new.reduced beyond);
  first = subst (λ line. IsFirstPast columns line at.1) (mixed_at (table_of lines) p q at.0 stop.lines stop.past.numbers) stop.past.first;
}
  where
    columns : ℕ
    columns = columns_of state.system

    new : ℕ → ℕ → ℤ
    new = mixed (table_of lines) p q at.0 stop.lines stop.past.numbers

    here : at.0 < length state.system.rows
    here = subst (λ n. at.0 < n) kept.one_each stop.there

    beyond : (s : ℕ) → columns_of state.system < s → stop.past.numbers s ≡ pos 0
    beyond s h = by_row (same_or_not at.0 p)
      where
        none : (r : ℕ) → r < length state.system.rows → table_of lines r s ≡ pos 0
        none r l = (kept.each r l).none_behind s (omega (arith, h))

        by_row : (at.0 ≡ p) ⊎ (at.0 ≡ p → ⊥) → stop.past.numbers s ≡ pos 0
        by_row (inl e) = turned_zero _ _ (stop.past.new.turned e s) (none p negative.row)
        by_row (inr n) = let o = stop.past.new.other n in no_number o.0 _ _ _ _ _ o.1 (none at.0 here) (none p negative.row) (o.2 s)

-- the same as code has it, of a tableau behind a reference
pub ready_at : (state now : State) (lines first : List (List ℤ)) (second : List ℕ) (columns p q : ℕ) → state ≡ now → IsKept state lines → IsNegative now p q → first ≡ lines → second ≡ state.basis
    → columns ≡ columns_of now.system → IsReady first second columns p q
ready_at state now lines first second columns p q e kept at f g h =
    subst (λ n. IsReady first second n p q) (sym (h ∙ ap (λ s. columns_of s.system) (sym e)))
    (subst₂ (λ a b. IsReady a b (columns_of state.system) p q) (sym f) (sym g) (ready state lines p q kept (subst (λ s. IsNegative s p q) (sym e) at)))

pub kept_at : (state now : State) (lines first new : List (List ℤ)) (columns p q : ℕ) → state ≡ now → IsKept state lines → IsNegative now p q → first ≡ lines
    → columns ≡ columns_of now.system → AreNew (table_of first) (length first) columns p q new → IsKept (exchanged_state state p q) new
kept_at state now lines first new columns p q e kept at f h are =
    kept_after state lines new p q kept (subst (λ s. IsNegative s p q) (sym e) at)
    (subst (λ n. AreNew (table_of lines) (length lines) n p q new) (h ∙ ap (λ s. columns_of s.system) (sym e)) (subst (λ a. AreNew (table_of a) (length a) columns p q new) f are))

pub passes_at : (state now : State) (lines first : List (List ℤ)) (columns p q : ℕ) (at : ℕ × ℕ) → state ≡ now → IsKept state lines → IsNegative now p q → first ≡ lines
    → columns ≡ columns_of now.system → IsStop (table_of first) (length first) columns p q at → PassesFirst now p q at.0 at.1
passes_at state now lines first columns p q at e kept negative f h stop =
    subst (λ s. PassesFirst s p q at.0 at.1) e
    (passes state lines p q at kept (subst (λ s. IsNegative s p q) (sym e) negative)
    (subst (λ n. IsStop (table_of lines) (length lines) n p q at) (h ∙ ap (λ s. columns_of s.system) (sym e)) (subst (λ a. IsStop (table_of a) (length a) columns p q at) f stop)))
