-- The lines that rows begin with are solved for the rows' own columns.
use Rattle.std.proofs.Common.{◌≡◌, ℕ, zero, suc, ◌+◌, ◌*◌, ◌<◌, ◌⊎◌, ℤ, pos, negsuc, neg_ℤ, ◌-ℤ◌, ◌+ℤ◌, ◌*ℤ◌, ◌<ℤ◌, List, length, get_or, set, replicate, Option, Some, None, refl, sym, ap, subst, ◌∙◌, inl, inr, arith}
use Rattle.std.proofs.Math.ListN.{get_or-eq_default}
use Rattle.std.proofs.lemmas.Bool.{cases_lt}
use Rattle.std.proofs.lemmas.Int.{ints}
use Rattle.std.proofs.lemmas.Option.{slice_get-get_or}
use Rattle.std.specs.Prelude.{slice_get}
use Rattle.std.proofs.lemmas.List.{get_or-set_same, get_or-set_other, get_or-replicate, length-replicate, length-set}
use Rattle.rt_rows.specs.declared.row.Var.{Var}
use Rattle.rt_rows.specs.declared.row.Var.TheVariants.{L, R, B, T, Width, Height, Axis}
use Rattle.rt_rows.specs.declared.row.Term.{Term}
use Rattle.rt_rows.specs.declared.row.Row.{Row}
use Rattle.rt_rows.specs.Rows.{term_value, sum_of_terms}
use Rattle.rt_rows.specs.Known.{IsSmall}
use Rattle.rt_rows.proofs.Products.{three_terms}
use Rattle.rt_cells.proofs.Times.{times_sub}
use Rattle.rt_solved.specs.Lines.{LiesOn, worth}
use Rattle.rt_solved.specs.Systems.{System, column_of, no_row, IsSolution}
use Rattle.rt_solved.specs.Tables.{basic_of}
use Rattle.rt_solved.proofs.Totals.{worth_none, lies_on, worth_combined, worth_swapped, unit, unit_there, unit_elsewhere, worth_unit, worth_right, sign_out}
use Rattle.rt_solved.proofs.Proportional.{same_or_not}
use Rattle.rt_tableau.specs.Numbers.{number_of, AreSmall, HaveNoFactor}
use Rattle.rt_tableau.specs.Starts.{strips_with, strips_of_term, strips_of_row, strips_of, term_at, with_term, start_line, IsSmallFactor, AreApart, IsTableRow, HasColumn, columns_from, AreStarts}
use Rattle.rt_tableau.specs.Tables.{line_at, table_of, IsKept}
use Rattle.rt_tableau.proofs.Starting.{columns_length, column_is, row_within}

-- a column of a strip that is there stands before the rows' own
pub column_below : (strips : ℕ) (var : Var) → strips_with var < strips + 1 → column_of strips var < 2 * strips + 2
column_below strips (L i) h = omega (arith, h)
column_below strips (R i) h = omega (arith, h)
column_below strips (B i) h = omega (arith, h)
column_below strips (T i) h = omega (arith, h)
column_below strips Width h = omega arith
column_below strips Height h = omega arith
column_below strips Axis h = omega arith

one_more : (z v u : ℤ) → u ≡ pos 1 → z ≡ pos 0 → v ≡ z +ℤ v *ℤ u
one_more z v u e f = omega (arith, ints, f, ap (λ t. v *ℤ t) e)

as_before : (z v u : ℤ) → u ≡ pos 0 → z ≡ z +ℤ v *ℤ u
as_before z v u e = omega (arith, ints, ap (λ t. v *ℤ t) e)

-- a number that is put where there was none
put_at : (line : List ℤ) (s : ℕ) (v : ℤ) (t : ℕ) → s < length line → number_of line s ≡ pos 0 → number_of (set line s v) t ≡ number_of line t +ℤ v *ℤ unit s t
put_at line s v t h none = by_same (same_or_not t s)
  where
    by_same : (t ≡ s) ⊎ (t ≡ s → ⊥) → number_of (set line s v) t ≡ number_of line t +ℤ v *ℤ unit s t
    by_same (inl e) =
        ap (number_of (set line s v)) e ∙ get_or-set_same line s v (pos 0) h ∙ one_more (number_of line t) v (unit s t) (ap (unit s) e ∙ unit_there s) (ap (number_of line) e ∙ none)
    by_same (inr n) = get_or-set_other line s t v (pos 0) n ∙ as_before (number_of line t) v (unit s t) (unit_elsewhere s t (λ e. n (sym e)))

combined_one : (a b v u : ℤ) → a ≡ b +ℤ v *ℤ u → pos 1 *ℤ a ≡ pos 1 *ℤ b +ℤ v *ℤ u
combined_one a b v u e = omega (arith, ints, e)

from_one : (a b c v u : ℤ) → pos 1 *ℤ a ≡ pos 1 *ℤ b +ℤ v *ℤ u → u ≡ c → a ≡ b +ℤ v *ℤ c
from_one a b c v u e f = omega (arith, ints, e, ap (λ t. v *ℤ t) f)

-- what it adds to the line's worth
worth_put : (m : ℕ) (line : List ℤ) (s : ℕ) (v : ℤ) (x : ℕ → ℤ) (c : ℤ) → s < length line → number_of line s ≡ pos 0 → worth m x (unit s) ≡ c
    → worth m (number_of (set line s v)) x ≡ worth m (number_of line) x +ℤ v *ℤ c
worth_put m line s v x c h none e =
    from_one _ _ c v _
    (worth_combined m (number_of (set line s v)) (number_of line) (unit s) x (pos 1) v (pos 1) (λ t l. combined_one _ _ v (unit s t) (put_at line s v t h none)))
    (worth_swapped m (unit s) x ∙ e)

-- a line that is partly made: its own column isn't put yet
record IsPart (m strips own : ℕ) (line : List ℤ) (sum : (ℕ → ℤ) → ℤ) : Type 0 where
  long : length line ≡ own + 2
  small : AreSmall line
  behind : (s : ℕ) → 2 * strips + 2 < s → number_of line s ≡ pos 0
  worth_is : (x : ℕ → ℤ) → worth m (number_of line) x ≡ sum x

-- the term's column isn't put yet
IsClear : ℕ → List ℤ → Option Term → Type 0
IsClear strips line None = Unit {0}
IsClear strips line (Some term) = number_of line (suc (column_of strips term.var)) ≡ pos 0

negative_small : (z : ℤ) → IsSmall z → IsSmall (neg_ℤ z)
negative_small (pos zero) h = h
negative_small (pos (suc n)) h = let k = h.high in record { low = omega (arith, ints, k); high = omega (arith, ints) }
negative_small (negsuc n) h = let k = h.low in record { low = omega (arith, ints); high = omega (arith, ints, k) }

small_put : (line : List ℤ) (s : ℕ) (v : ℤ) → s < length line → AreSmall line → IsSmall v → AreSmall (set line s v)
small_put line s v h small is = record { each = λ t. by_same t (same_or_not t s) }
  where
    by_same : (t : ℕ) → (t ≡ s) ⊎ (t ≡ s → ⊥) → IsSmall (number_of (set line s v) t)
    by_same t (inl e) = subst IsSmall (sym (ap (number_of (set line s v)) e ∙ get_or-set_same line s v (pos 0) h)) is
    by_same t (inr n) = subst IsSmall (sym (get_or-set_other line s t v (pos 0) n)) (small.each t)

nothing_small : IsSmall (pos 0)
nothing_small = record { low = omega (arith, ints); high = omega (arith, ints) }

one_small : IsSmall (pos 1)
one_small = record { low = omega (arith, ints); high = omega (arith, ints) }

pub zero_of : (n s : ℕ) → number_of (replicate n (pos 0)) s ≡ pos 0
zero_of n s =
    elim (cases_lt s n) [
      | inl l ↦ get_or-replicate n s (pos 0) (pos 0) l
      | inr g ↦ get_or-eq_default (replicate n (pos 0)) (pos 0) (omega (arith, g, length-replicate n (pos 0)))
    ]

none_from : (a b : ℤ) → pos 1 *ℤ a ≡ pos 0 *ℤ b +ℤ pos 0 *ℤ b → a ≡ pos 0
none_from a b e = omega (arith, ints, e)

none_as : (a b : ℤ) → a ≡ pos 0 → pos 1 *ℤ a ≡ pos 0 *ℤ b +ℤ pos 0 *ℤ b
none_as a b e = omega (arith, ints, e)

zeros_worth : (m n : ℕ) (x : ℕ → ℤ) → worth m (number_of (replicate n (pos 0))) x ≡ pos 0
zeros_worth m n x =
    none_from _ (worth m x x) (worth_combined m (number_of (replicate n (pos 0))) x x x (pos 0) (pos 0) (pos 1) (λ s h. none_as _ (x s) (zero_of n s)))

least_worth : (w l x r : ℤ) → w ≡ pos 0 → r ≡ pos 0 -ℤ x → w +ℤ neg_ℤ l *ℤ r ≡ l *ℤ x
least_worth w l x r e f = omega (arith, ints, e, sign_out l r, ap (λ t. l *ℤ t) f, times_sub l (pos 0) x)

-- the least value alone
part_least : (m strips own : ℕ) (least : ℤ) → IsSmall least → IsPart m strips own (set (replicate (own + 2) (pos 0)) 0 (neg_ℤ least)) (λ x. least *ℤ x 0)
part_least m strips own least small = record {
  long = length-set (replicate (own + 2) (pos 0)) 0 (neg_ℤ least) ∙ length-replicate (own + 2) (pos 0);
  small = small_put (replicate (own + 2) (pos 0)) 0 (neg_ℤ least) some (record { each = λ s. subst IsSmall (sym (zero_of (own + 2) s)) nothing_small }) (negative_small least small);
  behind = λ s h. get_or-set_other (replicate (own + 2) (pos 0)) 0 s (neg_ℤ least) (pos 0) (λ e. omega (arith, h, e)) ∙ zero_of (own + 2) s;
  worth_is = λ x.
      worth_put m (replicate (own + 2) (pos 0)) 0 (neg_ℤ least) x (pos 0 -ℤ x 0) some (zero_of (own + 2) 0) (worth_right m x) ∙ least_worth _ least (x 0) _ (zeros_worth m (own + 2) x) refl;
}
  where
    some : 0 < length (replicate (own + 2) (pos 0))
    some = subst (λ n. 0 < n) (sym (length-replicate (own + 2) (pos 0))) (omega arith)

clear_least : (strips own : ℕ) (least : ℤ) (t : Option Term) → IsClear strips (set (replicate (own + 2) (pos 0)) 0 (neg_ℤ least)) t
unfolding IsClear
clear_least strips own least None = _
clear_least strips own least (Some term) = get_or-set_other (replicate (own + 2) (pos 0)) 0 (suc (column_of strips term.var)) (neg_ℤ least) (pos 0) (λ e. omega (arith, e)) ∙ zero_of (own + 2) _

turned_term : (w s t x : ℤ) → w ≡ s → w +ℤ neg_ℤ t *ℤ x ≡ s -ℤ t *ℤ x
turned_term w s t x e = omega (arith, ints, e, sign_out t x)

less_nothing : (w s : ℤ) → w ≡ s → w ≡ s -ℤ pos 0
less_nothing w s e = omega (arith, ints, e)

-- one term more
part_term : (m strips own : ℕ) (line : List ℤ) (sum : (ℕ → ℤ) → ℤ) (t : Option Term) → 2 * strips + 1 < own → own < m → IsPart m strips own line sum → IsSmallFactor t → strips_of_term t < strips + 1 → IsClear strips line t
    → IsPart m strips own (with_term strips line t) (λ x. sum x -ℤ term_value (λ var. x (suc (column_of strips var))) t)
unfolding IsClear
part_term m strips own line sum None h g part small there clear = record { long = part.long; small = part.small; behind = part.behind; worth_is = λ x. less_nothing _ _ (part.worth_is x) }
part_term m strips own line sum (Some term) h g part small there clear = record {
  long = length-set line (suc (column_of strips term.var)) (neg_ℤ term.times) ∙ part.long;
  small = small_put line (suc (column_of strips term.var)) (neg_ℤ term.times) within part.small (negative_small term.times small);
  behind = λ s k. get_or-set_other line (suc (column_of strips term.var)) s (neg_ℤ term.times) (pos 0) (λ e. omega (arith, k, e, below)) ∙ part.behind s k;
  worth_is = λ x.
      worth_put m line (suc (column_of strips term.var)) (neg_ℤ term.times) x (x (suc (column_of strips term.var))) within clear (worth_unit m (column_of strips term.var) x (omega (arith, below, h, g)))
      ∙ turned_term _ (sum x) term.times (x (suc (column_of strips term.var))) (part.worth_is x);
}
  where
    below : column_of strips term.var < 2 * strips + 2
    below = column_below strips term.var there

    within : suc (column_of strips term.var) < length line
    within = omega (arith, below, h, part.long)

-- another column stays clear
clear_term : (strips : ℕ) (line : List ℤ) (t u : Option Term) → AreApart strips t u → IsClear strips line u → IsClear strips (with_term strips line t) u
unfolding IsClear
clear_term strips line None u apart clear = clear
clear_term strips line (Some term) None apart clear = _
clear_term strips line (Some term) (Some other) apart clear =
    get_or-set_other line (suc (column_of strips term.var)) (suc (column_of strips other.var)) (neg_ℤ term.times) (pos 0) (λ e. apart (omega (arith, e))) ∙ clear

-- the line of a row
pub record IsStart (m strips own : ℕ) (row : Row) (line : List ℤ) : Type 0 where
  pub long : length line ≡ own + 2
  pub small : AreSmall line
  pub one : number_of line (suc own) ≡ pos 1
  pub behind : (s : ℕ) → 2 * strips + 2 < s → (s ≡ suc own → ⊥) → number_of line s ≡ pos 0
  pub worth_is : (x : ℕ → ℤ) → worth m (number_of line) x
      ≡ (((row.least *ℤ x 0 -ℤ term_value (λ var. x (suc (column_of strips var))) (term_at 0 row)) -ℤ term_value (λ var. x (suc (column_of strips var))) (term_at 1 row))
      -ℤ term_value (λ var. x (suc (column_of strips var))) (term_at 2 row)) +ℤ pos 1 *ℤ x (suc own)

finished : (m strips own : ℕ) (row : Row) (line : List ℤ) → 2 * strips + 1 < own → own < m
    → IsPart m strips own line (λ x. ((row.least *ℤ x 0 -ℤ term_value (λ var. x (suc (column_of strips var))) (term_at 0 row)) -ℤ term_value (λ var. x (suc (column_of strips var))) (term_at 1 row))
    -ℤ term_value (λ var. x (suc (column_of strips var))) (term_at 2 row)) → IsStart m strips own row (set line (suc own) (pos 1))
finished m strips own row line h g part = record {
  long = length-set line (suc own) (pos 1) ∙ part.long;
  small = small_put line (suc own) (pos 1) within part.small one_small;
  one = get_or-set_same line (suc own) (pos 1) (pos 0) within;
  behind = λ s k n. get_or-set_other line (suc own) s (pos 1) (pos 0) n ∙ part.behind s k;
  worth_is = λ x.
      worth_put m line (suc own) (pos 1) x (x (suc own)) within (part.behind (suc own) (omega (arith, h))) (worth_unit m own x g) ∙ ap (λ z. z +ℤ pos 1 *ℤ x (suc own)) (part.worth_is x);
}
  where
    within : suc own < length line
    within = omega (arith, part.long)

pub started : (m strips own : ℕ) (row : Row) → 2 * strips + 1 < own → own < m → IsTableRow strips row → strips_of_term (term_at 0 row) < strips + 1 → strips_of_term (term_at 1 row) < strips + 1
    → strips_of_term (term_at 2 row) < strips + 1 → IsStart m strips own row (start_line strips own row)
started m strips own row h g fit below_first below_second below_third =
    let zeroth = set (replicate (own + 2) (pos 0)) 0 (neg_ℤ row.least) in
    let first = with_term strips zeroth (term_at 0 row) in
    let second = with_term strips first (term_at 1 row) in
    let clear = clear_least strips own row.least in
    let part = part_term m strips own zeroth _ (term_at 0 row) h g (part_least m strips own row.least fit.least) fit.first below_first (clear (term_at 0 row)) in
    let part' = part_term m strips own first _ (term_at 1 row) h g part fit.second below_second (clear_term strips zeroth (term_at 0 row) (term_at 1 row) fit.first_second (clear (term_at 1 row))) in
    let part'' =
    part_term m strips own second _ (term_at 2 row) h g part' fit.third below_third
    (clear_term strips first (term_at 1 row) (term_at 2 row) fit.second_third (clear_term strips zeroth (term_at 0 row) (term_at 2 row) fit.first_third (clear (term_at 2 row)))) in
    finished m strips own row (with_term strips second (term_at 2 row)) h g part''

one_of : (k z : ℤ) → z ≡ pos 1 → k *ℤ z ≡ k
one_of k z e = omega (arith, ints, ap (λ t. k *ℤ t) e)

start_reduced : (m strips own : ℕ) (row : Row) (line : List ℤ) → IsStart m strips own row line → HaveNoFactor (number_of line)
start_reduced m strips own row line is = record { none = λ d k all. let t = all (suc own) in (t.0, sym (one_of k (number_of line (suc own)) is.one) ∙ t.1) }

split_none : (w l a b c x s : ℤ) → w ≡ (((l -ℤ a) -ℤ b) -ℤ c) +ℤ pos 1 *ℤ x → s ≡ (a +ℤ b) +ℤ c → x +ℤ l ≡ s → w ≡ pos 0
split_none w l a b c x s e f g = omega (arith, ints, e, f, g)

none_split : (w l a b c x s : ℤ) → w ≡ (((l -ℤ a) -ℤ b) -ℤ c) +ℤ pos 1 *ℤ x → s ≡ (a +ℤ b) +ℤ c → w ≡ pos 0 → x +ℤ l ≡ s
none_split w l a b c x s e f g = omega (arith, ints, e, f, g)

module _ (strips : ℕ) (rows : List Row) (lines : List (List ℤ)) (are : AreStarts strips (2 * strips + 2) rows lines) (fit : (d : ℕ) → d < length rows → IsTableRow strips (get_or rows d no_row))
    (there : strips_of rows < strips + 1) where
  system : System
  system = record { strips = strips; rows = rows }

  m : ℕ
  m = (2 * strips + 2) + length rows

  start : (d : ℕ) → d < length rows → IsStart m strips ((2 * strips + 2) + d) (get_or rows d no_row) (line_at lines d)
  unfolding m
  start d h =
      let row = get_or rows d no_row in
      let within : strips_of_row row < strips + 1 = omega (arith, there, row_within rows d no_row h) in
      subst (IsStart ((2 * strips + 2) + length rows) strips ((2 * strips + 2) + d) row) (sym (are.each d h).is)
      (started ((2 * strips + 2) + length rows) strips ((2 * strips + 2) + d) row (omega arith) (omega (arith, h)) (fit d h) (omega (arith, within)) (omega (arith, within)) (omega (arith, within)))

  basis : List ℕ
  basis = columns_from (2 * strips + 2) (length rows)

  basic : (i : ℕ) → i < length rows → basic_of basis i ≡ (2 * strips + 2) + i
  unfolding basis
  basic i h = column_is (2 * strips + 2) (length rows) i h

  positive_start : (i : ℕ) → i < length rows → pos 0 <ℤ table_of lines i (suc (basic_of basis i))
  positive_start i h =
      subst (λ n. pos 0 <ℤ table_of lines i (suc n)) (sym (basic i h)) (subst (λ z. pos 0 <ℤ z) (sym (start i h).one) (omega (arith, ints)))

  alone_start : (i k : ℕ) → i < length rows → k < length rows → (i ≡ k → ⊥) → table_of lines i (suc (basic_of basis k)) ≡ pos 0
  alone_start i k h g n =
      ap (λ c. table_of lines i (suc c)) (basic k g) ∙ (start i h).behind (suc ((2 * strips + 2) + k)) (omega arith) (λ e. n (omega (arith, e)))

  holds_start : (x : ℕ → ℤ) → IsSolution system x → (i : ℕ) → i < length rows → LiesOn m (table_of lines i) x
  unfolding system
  holds_start x sol i h =
      let row = get_or rows i no_row in
      lies_on m (table_of lines i) x
      (split_none _ (row.least *ℤ x 0) _ _ _ (x (suc ((2 * strips + 2) + i))) (sum_of_terms (λ var. x (suc (column_of strips var))) row.terms) ((start i h).worth_is x)
      (three_terms (λ var. x (suc (column_of strips var))) row.terms None (are.each i h).three) (sol.each i h).equal)

  enough_start : (x : ℕ → ℤ) → ((i : ℕ) → i < length rows → LiesOn m (table_of lines i) x) → IsSolution system x
  unfolding system
  enough_start x all = record {
    each = λ d h.
        let row = get_or rows d no_row in
        record {
          equal = none_split _ (row.least *ℤ x 0) _ _ _ (x (suc ((2 * strips + 2) + d))) (sum_of_terms (λ var. x (suc (column_of strips var))) row.terms) ((start d h).worth_is x)
              (three_terms (λ var. x (suc (column_of strips var))) row.terms None (are.each d h).three) (worth_none m (table_of lines d) x (all d h));
        };
  }

  pub kept_start : (goal : Var) → HasColumn strips goal → (2 * strips + 2) + length rows < 4294967296
      → IsKept (record { system = record { strips = strips; rows = rows }; goal = goal; basis = columns_from (2 * strips + 2) (length rows) }) lines
  unfolding system m basis
  kept_start goal column fits = record {
    one_each = are.one_each;
    basis_each = columns_length (2 * strips + 2) (length rows);
    fits = fits;
    goal_there = column;
    solved = record {
      there = λ i h. subst (λ n. n < (2 * strips + 2) + length rows) (sym (basic i h)) (omega (arith, h));
      positive = positive_start;
      alone = alone_start;
      holds = holds_start;
      enough = enough_start;
    };
    each = λ i h. record {
      none_behind = λ s g. get_or-eq_default (line_at lines i) (pos 0) (let l = (start i h).long in omega (arith, l, h, g));
      small = (start i h).small;
      reduced = start_reduced ((2 * strips + 2) + length rows) strips ((2 * strips + 2) + i) (get_or rows i no_row) (line_at lines i) (start i h);
    };
  }

-- as code makes it
pub kept_made : (strips : ℕ) (rows copy : List Row) (goal : Var) (basis : List ℕ) (lines : List (List ℤ)) → strips ≡ strips_of rows → copy ≡ rows → basis ≡ columns_from (2 * strips + 2) (length rows)
    → AreStarts strips (2 * strips + 2) rows lines → ((d : ℕ) (row : Row) → slice_get rows d ≡ Some row → IsTableRow (strips_of rows) row) → HasColumn (strips_of rows) goal
    → (2 * strips_of rows + 2) + length rows < 4294967296 → IsKept (record { system = record { strips = strips; rows = copy }; goal = goal; basis = basis }) lines
kept_made strips rows copy goal basis lines e f g are fit column fits =
    subst (λ xs. IsKept (record { system = record { strips = strips; rows = xs }; goal = goal; basis = basis }) lines) (sym f)
    (subst (λ b. IsKept (record { system = record { strips = strips; rows = rows }; goal = goal; basis = b }) lines) (sym g)
    (kept_start strips rows lines are (λ d h. subst (λ n. IsTableRow n (get_or rows d no_row)) (sym e) (fit d (get_or rows d no_row) (slice_get-get_or rows d no_row h))) (omega (arith, e)) goal
    (subst (λ n. HasColumn n goal) (sym e) column) (omega (arith, e, fits))))
