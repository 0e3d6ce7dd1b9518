-- What is chosen among the first rows.
use Rattle.std.proofs.Common.{◌≡◌, ℕ, ◌+◌, ◌<◌, ◌≤◌, ℤ, pos, ◌≤ℤ◌, ◌<ℤ◌, length, Option, Some, None, to_z, of_z, refl, sym, subst, ◌∙◌, inl, inr, arith}
use Rattle.std.specs.Option.{MatchOption}
use Rattle.std.proofs.lemmas.Bool.{cases_lt}
use Rattle.std.proofs.lemmas.Int.{ints}
use Rattle.rt_solved.specs.Systems.{columns_of}
use Rattle.rt_solved.specs.Tables.{IsWhole, basic_of}
use Rattle.rt_solved.proofs.Factors.{one_table_each}
use Rattle.rt_tableau.specs.States.{State, IsWholeEntry, number_at}
use Rattle.rt_tableau.proofs.Excluding.{number_within}
use mir.Syntax.{w64}
use Rattle.rt_rows.specs.Known.{IsSmall}
use Rattle.rt_tableau.proofs.Combined.{small_read}
use Rattle.rt_simplex.specs.Choices.{IsBelow, HasNoRow, IsFirstRow}

-- a whole entry is that of any whole table
pub read_in : (state : State) (table : ℕ → ℕ → ℤ) (i j : ℕ) (entry : ℤ) → IsWhole state.system state.basis table → i < length state.system.rows → j ≤ columns_of state.system → IsWholeEntry state i j entry
    → entry ≡ table i (number_at (columns_of state.system) j)
read_in state table i j entry whole h g is = is.is ∙ one_table_each state.system state.basis is.table table is.whole whole i (number_at (columns_of state.system) j) h (number_within (columns_of state.system) j g)

-- an entry that isn't below 0
pub not_below : (state : State) (i j : ℕ) (entry : ℤ) → i < length state.system.rows → j ≤ columns_of state.system → IsWholeEntry state i j entry → pos 0 ≤ℤ entry → IsBelow state i j → ⊥
not_below state i j entry h g is k below = clash entry below.entry (read_in state is.table i j below.entry is.whole h g below.is ∙ sym is.is) k below.below
  where
    clash : (a b : ℤ) → b ≡ a → pos 0 ≤ℤ a → b <ℤ pos 0 → ⊥
    clash a b e h g = omega (arith, ints, e, h, g)

module _ (state : State) (i : ℕ) where
  none_more : HasNoRow state i → (IsBelow state i (columns_of state.system) → ⊥) → HasNoRow state (i + 1)
  none_more so not = record { none = none_next }
    where
      none_next : (k : ℕ) → k < i + 1 → IsBelow state k (columns_of state.system) → ⊥
      none_next k l below =
          elim (cases_lt k i) [
            | inl m ↦ so.none k m below
            | inr m ↦ not (subst (λ n. IsBelow state n (columns_of state.system)) (omega (arith, l, m)) below)
          ]

  first_more : (p : ℕ) → IsFirstRow state i p → (IsBelow state i (columns_of state.system) → basic_of state.basis p ≤ basic_of state.basis i) → IsFirstRow state (i + 1) p
  first_more p so here = record { there = let t = so.there in omega (arith, t); below = so.below; least = least_next }
    where
      least_next : (k : ℕ) → k < i + 1 → IsBelow state k (columns_of state.system) → basic_of state.basis p ≤ basic_of state.basis k
      least_next k l below =
          elim (cases_lt k i) [
            | inl m ↦ so.least k m below
            | inr m ↦
                let same : k ≡ i = omega (arith, l, m) in
                subst (λ n. basic_of state.basis p ≤ basic_of state.basis n) (sym same) (here (subst (λ n. IsBelow state n (columns_of state.system)) same below))
          ]

  -- a row whose right side isn't below 0 changes nothing
  pub row_passed : (right : ℤ) (found : Option ℕ) → i < length state.system.rows → IsWholeEntry state i (columns_of state.system) right → pos 0 ≤ℤ right
      → MatchOption found (HasNoRow state i) (IsFirstRow state i) → MatchOption found (HasNoRow state (i + 1)) (IsFirstRow state (i + 1))
  row_passed right None h is k so = none_more so (not_below state i (columns_of state.system) right h (omega arith) is k)
  row_passed right (Some p) h is k so = first_more p so (λ below. absurd (not_below state i (columns_of state.system) right h (omega arith) is k below))

  -- the row that was found stays
  pub row_kept : (p : ℕ) → IsFirstRow state i p → basic_of state.basis p ≤ basic_of state.basis i → IsFirstRow state (i + 1) p
  row_kept p so h = first_more p so (λ below. h)

  -- the row is the first one, or has a lesser basic column
  pub row_taken : (right : ℤ) → IsWholeEntry state i (columns_of state.system) right → right <ℤ pos 0 → ((k : ℕ) → k < i → IsBelow state k (columns_of state.system) → basic_of state.basis i ≤ basic_of state.basis k)
      → IsFirstRow state (i + 1) i
  row_taken right is h least = record { there = omega arith; below = record { entry = right; is = is; below = h }; least = least_next }
    where
      least_next : (k : ℕ) → k < i + 1 → IsBelow state k (columns_of state.system) → basic_of state.basis i ≤ basic_of state.basis k
      least_next k l below =
          elim (cases_lt k i) [
            | inl m ↦ least k m below
            | inr m ↦ let same : k ≡ i = omega (arith, l, m) in subst (λ n. basic_of state.basis i ≤ basic_of state.basis n) (sym same) (omega arith)
          ]

-- the same as code reads it
abbrev pub stored : ℤ → ℤ
stored z = to_z w64 (of_z w64 z)

pub small_stored : (z : ℤ) → IsSmall z → stored z ≡ z
small_stored z h = small_read z z h refl

pub row_passed_as_read : (state : State) (i : ℕ) (right : ℤ) (place : ℕ) (found : Option ℕ) → i < length state.system.rows → place ≡ columns_of state.system → IsWholeEntry state i place right → IsSmall right
    → pos 0 ≤ℤ stored right → MatchOption found (HasNoRow state i) (IsFirstRow state i) → MatchOption found (HasNoRow state (i + 1)) (IsFirstRow state (i + 1))
row_passed_as_read state i right place found h e is small k so =
    row_passed state i right found h (subst (λ n. IsWholeEntry state i n right) e is) (subst (λ z. pos 0 ≤ℤ z) (small_stored right small) k) so

pub row_begun : (state : State) (i : ℕ) (right : ℤ) (place : ℕ) → place ≡ columns_of state.system → IsWholeEntry state i place right → IsSmall right → stored right <ℤ pos 0 → HasNoRow state i → IsFirstRow state (i + 1) i
row_begun state i right place e is small k so =
    row_taken state i right (subst (λ n. IsWholeEntry state i n right) e is) (subst (λ z. z <ℤ pos 0) (small_stored right small) k) (λ n l below. absurd (so.none n l below))
