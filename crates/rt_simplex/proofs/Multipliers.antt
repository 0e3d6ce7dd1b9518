-- What a line has in the rows' own columns are the multiples of the rows that it's made of.
use Rattle.std.proofs.Common.{◌≡◌, ℕ, zero, suc, ◌+◌, ◌<◌, Bool, true, false, ◌==◌, ◌*◌, ℤ, pos, ◌+ℤ◌, ◌-ℤ◌, ◌*ℤ◌, List, [], ◌∷◌, length, Option, Some, None, refl, sym, ap, ◌∙◌, arith}
use Rattle.std.proofs.lemmas.Bool.{eqb-true, eqb-false}
use Rattle.std.proofs.lemmas.Int.{ints}
use Rattle.rt_cells.proofs.Times.{times_sub}
use Rattle.rt_rows.specs.declared.row.Term.{Term}
use Rattle.rt_rows.specs.Rows.{sum_of_terms}
use Rattle.rt_proofs.specs.Forms.{only_if}
use Rattle.rt_proofs.specs.Rows.{terms_of}
use Rattle.rt_solved.specs.Lines.{total, worth}
use Rattle.rt_solved.specs.Systems.{System, IsSolution, column_of, columns_of, variables_of, own_column, row_at}
use Rattle.rt_solved.proofs.Totals.{total_same, unit, unit_there, unit_elsewhere, total_unit}
use Rattle.rt_tableau.proofs.StartLines.{column_below}
use Rattle.rt_tableau.specs.Starts.{HaveColumns}
use Rattle.rt_tableau.proofs.Sums.{sum_same}
use Rattle.rt_simplex.specs.Combinations.{times_of}

-- so many numbers of the one, and behind them those of the other
pub joined : ℕ → (ℕ → ℤ) → (ℕ → ℤ) → ℕ → ℤ
joined zero f g s = g s
joined (suc n) f g zero = f zero
joined (suc n) f g (suc s) = joined n (λ k. f (suc k)) g s

joined_before : (n : ℕ) (f g : ℕ → ℤ) (s : ℕ) → s < n → joined n f g s ≡ f s
unfolding joined
joined_before zero f g s h = absurd (omega (arith, h))
joined_before (suc n) f g zero h = refl
joined_before (suc n) f g (suc s) h = joined_before n (λ k. f (suc k)) g s (omega (arith, h))

joined_behind : (n : ℕ) (f g : ℕ → ℤ) (s d : ℕ) → s ≡ n + d → joined n f g s ≡ g d
unfolding joined
joined_behind zero f g s d e = let same : s ≡ d = omega (arith, e) in ap g same
joined_behind (suc n) f g zero d e = absurd (omega (arith, e))
joined_behind (suc n) f g (suc s) d e = joined_behind n (λ k. f (suc k)) g s d (omega (arith, e))

-- a sum in two parts
total_split : (n k : ℕ) (f : ℕ → ℤ) → total (n + k) f ≡ total n f +ℤ total k (λ d. f (n + d))
total_split n zero f = let e : n + 0 ≡ n = omega arith in ap (λ i. total i f) e ∙ nothing_more (total n f)
  where
    nothing_more : (z : ℤ) → z ≡ z +ℤ pos 0
    nothing_more z = omega (arith, ints)
total_split n (suc k) f = let e : n + suc k ≡ suc (n + k) = omega arith in ap (λ i. total i f) e ∙ regrouped _ _ _ _ (total_split n k f)
  where
    regrouped : (a b c d : ℤ) → a ≡ b +ℤ c → a +ℤ d ≡ b +ℤ (c +ℤ d)
    regrouped a b c d e = omega (arith, ints, e)

-- the terms at 1 in a column and 0 elsewhere
sum_unit : (strips j : ℕ) (terms : List (Option Term)) → sum_of_terms (λ var. unit (suc j) (suc (column_of strips var))) terms ≡ times_of strips j (terms_of terms)
sum_unit strips j [] = refl
sum_unit strips j (None ∷ terms) = nothing_first _ _ (sum_unit strips j terms)
  where
    nothing_first : (a b : ℤ) → a ≡ b → pos 0 +ℤ a ≡ b
    nothing_first a b e = omega (arith, ints, e)
sum_unit strips j (Some term ∷ terms) = λ i. one (column_of strips term.var == j) refl i +ℤ sum_unit strips j terms i
  where
    one_time : (a u : ℤ) → u ≡ pos 1 → a *ℤ u ≡ a
    one_time a u e = omega (arith, ints, ap (λ z. a *ℤ z) e)

    no_time : (a u : ℤ) → u ≡ pos 0 → a *ℤ u ≡ pos 0
    no_time a u e = omega (arith, ints, ap (λ z. a *ℤ z) e)

    one : (b : Bool) → (column_of strips term.var == j) ≡ b → term.times *ℤ unit j (column_of strips term.var) ≡ only_if b term.times
    one true e = one_time term.times (unit j (column_of strips term.var)) (ap (unit j) (eqb-true (column_of strips term.var) j e) ∙ unit_there j)
    one false e = no_time term.times (unit j (column_of strips term.var)) (unit_elsewhere j (column_of strips term.var) (λ f. eqb-false (column_of strips term.var) j e (sym f)))

-- the terms at 0
sum_none : (terms : List (Option Term)) → sum_of_terms (λ var. pos 0) terms ≡ pos 0
sum_none [] = refl
sum_none (None ∷ terms) = ap (λ z. pos 0 +ℤ z) (sum_none terms)
sum_none (Some term ∷ terms) = none term.times _ (sum_none terms)
  where
    none : (a b : ℤ) → b ≡ pos 0 → a *ℤ pos 0 +ℤ b ≡ pos 0
    none a b e = omega (arith, ints, e)

module _ (system : System) (have : (d : ℕ) → d < length system.rows → HaveColumns system.strips (row_at system d).terms) where
  -- what a row's own column is worth where the variables are worth this
  own_worth : (ℕ → ℤ) → ℕ → ℤ
  own_worth y d = sum_of_terms (λ var. y (suc (column_of system.strips var))) (row_at system d).terms -ℤ (row_at system d).least *ℤ y 0

  -- the solution with these values of the variables
  spread : (ℕ → ℤ) → ℕ → ℤ
  spread y = joined (suc (variables_of system)) y (own_worth y)

  spread_before : (y : ℕ → ℤ) (s : ℕ) → s < suc (variables_of system) → spread y s ≡ y s
  unfolding spread
  spread_before y s h = joined_before (suc (variables_of system)) y (own_worth y) s h

  spread_own : (y : ℕ → ℤ) (d : ℕ) → spread y (suc (own_column system d)) ≡ own_worth y d
  unfolding spread
  spread_own y d = joined_behind (suc (variables_of system)) y (own_worth y) (suc (own_column system d)) d (omega arith)

  spread_solves : (y : ℕ → ℤ) → IsSolution system (spread y)
  unfolding own_worth
  spread_solves y = record {
    each = λ d h. record {
      equal =
          (λ i. spread_own y d i +ℤ (row_at system d).least *ℤ spread_before y 0 (omega arith) i) ∙ back _ _
          ∙ sum_same system.strips y (spread y) (row_at system d).terms (have d h) (λ j l. sym (spread_before y (suc j) (omega (arith, l))));
    };
  }
    where
      back : (a b : ℤ) → (a -ℤ b) +ℤ b ≡ a
      back a b = omega (arith, ints)

  module _ (line : ℕ → ℤ) (holds : (x : ℕ → ℤ) → IsSolution system x → worth (columns_of system) line x ≡ pos 0) where
    -- at such a solution the line is worth this, which is 0
    spread_worth : (y : ℕ → ℤ)
        → (total (variables_of system) (λ j. line (suc j) *ℤ y (suc j)) +ℤ total (length system.rows) (λ d. line (suc (own_column system d)) *ℤ own_worth y d)) -ℤ line 0 *ℤ y 0 ≡ pos 0
    spread_worth y = (λ i. (sums i) -ℤ line 0 *ℤ sym (spread_before y 0 (omega arith)) i) ∙ holds (spread y) (spread_solves y)
      where
        sums : total (variables_of system) (λ j. line (suc j) *ℤ y (suc j)) +ℤ total (length system.rows) (λ d. line (suc (own_column system d)) *ℤ own_worth y d) ≡ total (columns_of system) (λ j. line (suc j) *ℤ spread y (suc j))
        sums =
            sym (total_split (variables_of system) (length system.rows) (λ j. line (suc j) *ℤ spread y (suc j))
            ∙ (λ i. total_same (variables_of system) (λ j. line (suc j) *ℤ spread y (suc j)) (λ j. line (suc j) *ℤ y (suc j)) (λ j h. ap (λ z. line (suc j) *ℤ z) (spread_before y (suc j) (omega (arith, h)))) i
            +ℤ total_same (length system.rows) (λ d. line (suc (own_column system d)) *ℤ spread y (suc (own_column system d))) (λ d. line (suc (own_column system d)) *ℤ own_worth y d)
            (λ d h. ap (λ z. line (suc (own_column system d)) *ℤ z) (spread_own y d)) i))

    -- so many times the rows, together, have a variable as often as the line has it, with the other sign
    pub own_columns : (j : ℕ) → j < variables_of system
        → line (suc j) +ℤ total (length system.rows) (λ d. line (suc (own_column system d)) *ℤ times_of system.strips j (terms_of (row_at system d).terms)) ≡ pos 0
    unfolding own_worth
    own_columns j h =
        (λ i. sym (total_unit (variables_of system) j (λ k. line (suc k)) h) i
        +ℤ total_same (length system.rows) (λ d. line (suc (own_column system d)) *ℤ times_of system.strips j (terms_of (row_at system d).terms)) (λ d. line (suc (own_column system d)) *ℤ own_worth (unit (suc j)) d)
        (λ d l. ap (λ z. line (suc (own_column system d)) *ℤ z) (own d)) i)
        ∙ less_none _ (line 0) ∙ spread_worth (unit (suc j))
      where
        less_none : (a b : ℤ) → a ≡ a -ℤ b *ℤ pos 0
        less_none a b = omega (arith, ints)

        own : (d : ℕ) → times_of system.strips j (terms_of (row_at system d).terms) ≡ sum_of_terms (λ var. unit (suc j) (suc (column_of system.strips var))) (row_at system d).terms -ℤ (row_at system d).least *ℤ pos 0
        own d = sym (sum_unit system.strips j (row_at system d).terms) ∙ less_none _ (row_at system d).least

    -- and their least values together are the line's right side, with the other sign
    pub own_right : line 0 +ℤ total (length system.rows) (λ d. line (suc (own_column system d)) *ℤ (row_at system d).least) ≡ pos 0
    unfolding own_worth
    own_right = ended _ _ _ (line 0) zeros turned (spread_worth (unit 0))
      where
        zeros : total (variables_of system) (λ j. line (suc j) *ℤ pos 0) ≡ pos 0
        zeros = none (variables_of system)
          where
            none : (n : ℕ) → total n (λ j. line (suc j) *ℤ pos 0) ≡ pos 0
            none zero = refl
            none (suc n) = one (total n (λ j. line (suc j) *ℤ pos 0)) (line (suc n)) (none n)
              where
                one : (a b : ℤ) → a ≡ pos 0 → a +ℤ b *ℤ pos 0 ≡ pos 0
                one a b e = omega (arith, ints, e)

        turned : total (length system.rows) (λ d. line (suc (own_column system d)) *ℤ own_worth (unit 0) d) ≡ pos 0 -ℤ total (length system.rows) (λ d. line (suc (own_column system d)) *ℤ (row_at system d).least)
        turned = each (length system.rows)
          where
            one : (a b s l p : ℤ) → a ≡ pos 0 -ℤ b → s ≡ pos 0 → a +ℤ p *ℤ (s -ℤ l *ℤ pos 1) ≡ pos 0 -ℤ (b +ℤ p *ℤ l)
            one a b s l p e f = let once : l *ℤ pos 1 ≡ l = omega (arith, ints) in omega (arith, ints, e, f, times_sub p s (l *ℤ pos 1), ap (λ z. p *ℤ z) f, ap (λ z. p *ℤ z) once)

            each : (n : ℕ) → total n (λ d. line (suc (own_column system d)) *ℤ own_worth (unit 0) d) ≡ pos 0 -ℤ total n (λ d. line (suc (own_column system d)) *ℤ (row_at system d).least)
            each zero = omega (arith, ints)
            each (suc n) = one _ _ _ (row_at system n).least (line (suc (own_column system n))) (each n) (sum_none (row_at system n).terms)

        ended : (a b c r : ℤ) → a ≡ pos 0 → b ≡ pos 0 -ℤ c → (a +ℤ b) -ℤ r *ℤ pos 1 ≡ pos 0 → r +ℤ c ≡ pos 0
        ended a b c r e f g = omega (arith, ints, e, f, g)
