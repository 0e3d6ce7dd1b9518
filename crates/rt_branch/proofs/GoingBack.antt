-- A change is undone by another exchange, or by dropping the last row.
use Rattle.std.proofs.Common.{◌≡◌, ℕ, suc, ◌-◌, ◌<◌, ◌⊎◌, Bool, true, false, ◌==◌, if◌then◌else◌, ℤ, pos, neg_ℤ, ◌+ℤ◌, ◌*ℤ◌, ◌<ℤ◌, List, [], ◌∷◌, ◌++◌, length, get_or, set, take, refl, sym, ap, subst, subst₂, ◌∙◌, inl, inr, length-append, arith}
use Rattle.std.proofs.Math.Seq.{get_or-append_seam, take-append_seam}
use Rattle.std.proofs.lemmas.Bool.{eqb-true, eq-eqb}
use Rattle.std.proofs.lemmas.Int.{ints}
use Rattle.std.proofs.lemmas.List.{get_or-set_same, get_or-set_other, length-set, ext_get_or}
use Rattle.rt_rows.specs.declared.row.Row.{Row}
use Rattle.rt_solved.specs.Systems.{columns_of}
use Rattle.rt_solved.specs.Tables.{IsExchanged, basic_of}
use Rattle.rt_solved.proofs.Proportional.{same_or_not}
use Rattle.rt_solved.proofs.Exchanges.{exchange_solves_each}
use Rattle.rt_tableau.specs.States.{State, IsNegative, IsSmallTable, exchanged_state}
use Rattle.rt_tableau.specs.Added.{added_state}
use Rattle.rt_tableau.specs.Dropped.{dropped_state, EndsInOwn}
use Rattle.rt_branch.specs.declared.parts.Change.{Change}
use Rattle.rt_branch.specs.Trails.{WasExchanged, WasAdded, LedTo}
use Rattle.rt_branch.specs.declared.parts.Change.TheVariants.{Exchanged, Added}
use Rattle.rt_branch.specs.Laws.{ChangesAreUndone, TrailsJoin}

-- the exchanged table, with no factor left out
exchanged_table : (p q : ℕ) → (ℕ → ℕ → ℤ) → ℕ → ℕ → ℤ
exchanged_table p q table i s = if i == p then neg_ℤ (table p s) else neg_ℤ (table p (suc q)) *ℤ table i s +ℤ table i (suc q) *ℤ table p s

turned_row : (p q : ℕ) (table : ℕ → ℕ → ℤ) (s : ℕ) → exchanged_table p q table p s ≡ neg_ℤ (table p s)
unfolding exchanged_table
turned_row p q table s = rw (eq-eqb p p refl) refl

other_row : (p q : ℕ) (table : ℕ → ℕ → ℤ) (i s : ℕ) → (i ≡ p → ⊥) → exchanged_table p q table i s ≡ neg_ℤ (table p (suc q)) *ℤ table i s +ℤ table i (suc q) *ℤ table p s
unfolding exchanged_table
other_row p q table i s n = by_test (i == p) refl
  where
    by_test : (b : Bool) → (i == p) ≡ b → (if b then neg_ℤ (table p s) else neg_ℤ (table p (suc q)) *ℤ table i s +ℤ table i (suc q) *ℤ table p s) ≡ neg_ℤ (table p (suc q)) *ℤ table i s +ℤ table i (suc q) *ℤ table p s
    by_test true e = absurd (n (eqb-true i p e))
    by_test false e = refl

is_exchanged : (columns count p q : ℕ) (table : ℕ → ℕ → ℤ) → IsExchanged columns count p q table (exchanged_table p q table)
is_exchanged columns count p q table = record {
  turned = turned_row p q table;
  others = λ i h n. (pos 1, omega (arith, ints), λ s. once (exchanged_table p q table i s) _ (other_row p q table i s n));
}
  where
    once : (a b : ℤ) → a ≡ b → pos 1 *ℤ a ≡ b
    once a b e = omega (arith, ints, e)

-- a list in which a place is set, and set again to what stood there
set_back : (basis : List ℕ) (p q : ℕ) → p < length basis → set (set basis p q) p (basic_of basis p) ≡ basis
set_back basis p q h = ext_get_or 0 (set (set basis p q) p (basic_of basis p)) basis (length-set (set basis p q) p (basic_of basis p) ∙ length-set basis p q) (λ k l. each k (same_or_not k p))
  where
    each : (k : ℕ) → (k ≡ p) ⊎ (k ≡ p → ⊥) → get_or (set (set basis p q) p (basic_of basis p)) k 0 ≡ get_or basis k 0
    each k (inl e) =
        ap (λ n. get_or (set (set basis p q) p (basic_of basis p)) n 0) e ∙ get_or-set_same (set basis p q) p (basic_of basis p) 0 (let t = length-set basis p q in omega (arith, t, h)) ∙ ap (λ n. get_or basis n 0) (sym e)
    each k (inr n) = get_or-set_other (set basis p q) p k (basic_of basis p) 0 n ∙ get_or-set_other basis p k q 0 n

-- the state after the exchange back
restored : (before : State) (p q : ℕ) → p < length before.basis → exchanged_state (exchanged_state before p q) p (basic_of before.basis p) ≡ before
restored before p q h = λ i. record { system = before.system; goal = before.goal; basis = set_back before.basis p q h i }

-- the exchange back is at an entry below 0
negative_back : (before : State) (p q : ℕ) → length before.basis ≡ length before.system.rows → IsNegative before p q → IsNegative (exchanged_state before p q) p (basic_of before.basis p)
negative_back before p q e negative = record {
  row = negative.row;
  column = negative.solved.there p negative.row;
  table = exchanged_table p q negative.table;
  solved = exchange_solves_each before.system before.basis p q negative.table (exchanged_table p q negative.table) e negative.solved negative.row negative.column negative.negative
      (is_exchanged (columns_of before.system) (length before.system.rows) p q negative.table);
  negative = below _ (negative.table p (suc (basic_of before.basis p))) (turned_row p q negative.table (suc (basic_of before.basis p))) (negative.solved.positive p negative.row);
}
  where
    below : (n t : ℤ) → n ≡ neg_ℤ t → pos 0 <ℤ t → n <ℤ pos 0
    below n t e h = omega (arith, ints, e, h)

exchange_undone : (p column : ℕ) (changes : List Change) (earlier state before : State) → WasExchanged p column before state → LedTo changes earlier before
    → IsNegative state p column × IsSmallTable (exchanged_state state p column) × LedTo changes earlier (exchanged_state state p column)
exchange_undone p column changes earlier state before was led =
    let back : exchanged_state state p column ≡ before =
    (λ i. exchanged_state (was.is i) p (sym was.was i)) ∙ restored before p was.q (let e = was.one_each in let h = was.negative.row in omega (arith, e, h)) in (
      subst₂ (λ s c. IsNegative s p c) (sym was.is) was.was (negative_back before p was.q was.one_each was.negative),
      subst IsSmallTable (sym back) was.small,
      subst (LedTo changes earlier) (sym back) led,
    )

-- a list without the last of it
without_last : {A : Type 0} (xs : List A) (x : A) → take (length (xs ++ x ∷ []) - 1) (xs ++ x ∷ []) ≡ xs
without_last xs x =
    let e : length (xs ++ x ∷ []) - 1 ≡ length xs = let l = length-append xs (x ∷ []) in omega (arith, l) in
    ap (λ n. take n (xs ++ x ∷ [])) e ∙ take-append_seam xs (x ∷ [])

dropped : (before : State) (row : Row) → dropped_state (added_state before row) ≡ before
dropped before row = λ i. record {
  system = record { strips = before.system.strips; rows = without_last before.system.rows row i };
  goal = before.goal;
  basis = without_last before.basis (columns_of before.system) i;
}

ends_in_own : (before : State) (row : Row) → length before.basis ≡ length before.system.rows → EndsInOwn (added_state before row)
ends_in_own before row e = record {
  last = length before.system.rows;
  rows = let l = length-append before.system.rows (row ∷ []) in omega (arith, l);
  one_each = let l = length-append before.basis (columns_of before.system ∷ []) in omega (arith, l, e);
  own = ap (basic_of (before.basis ++ columns_of before.system ∷ [])) (sym e) ∙ get_or-append_seam before.basis (columns_of before.system) [] 0;
}

row_undone : (changes : List Change) (earlier state before : State) → WasAdded before state → LedTo changes earlier before → EndsInOwn state × IsSmallTable (dropped_state state) × LedTo changes earlier (dropped_state state)
row_undone changes earlier state before was led =
    let back : dropped_state state ≡ before = ap dropped_state was.is ∙ dropped before was.row in
    (subst EndsInOwn (sym was.is) (ends_in_own before was.row was.one_each), subst IsSmallTable (sym back) was.small, subst (LedTo changes earlier) (sym back) led)

pub changes_are_undone_each : ChangesAreUndone
changes_are_undone_each (Exchanged p column) changes earlier state (before, was, led) = exchange_undone p column changes earlier state before was led
changes_are_undone_each Added changes earlier state (before, was, led) = row_undone changes earlier state before was led

pub trails_join_each : TrailsJoin
trails_join_each [] older earlier middle state first second = subst (LedTo older earlier) second first
trails_join_each (Exchanged p column ∷ later) older earlier middle state first (before, was, led) = (before, was, trails_join_each later older earlier middle before first led)
trails_join_each (Added ∷ later) older earlier middle state first (before, was, led) = (before, was, trails_join_each later older earlier middle before first led)
