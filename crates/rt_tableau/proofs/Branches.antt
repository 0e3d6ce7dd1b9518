-- The row of a branch at a basic variable is never past the limit.
use Rattle.std.proofs.Common.{◌≡◌, zero, suc, ◌≤◌, ◌⊎◌, ℤ, pos, negsuc, neg_ℤ, ◌+ℤ◌, ◌-ℤ◌, ◌*ℤ◌, ◌≤ℤ◌, ◌<ℤ◌, true, false, List, [], ◌∷◌, get_or, set, Some, None, sym, ap, subst, ◌∙◌, inl, inr, arith}
use Rattle.std.specs.Prelude.{unwrap_or}
use Rattle.std.proofs.lemmas.Int.{ints}
use Rattle.std.proofs.lemmas.List.{get_or-set_other}
use Rattle.rt_rows.specs.declared.row.Term.{Term}
use Rattle.rt_rows.specs.declared.row.Row.{Row}
use Rattle.rt_rows.specs.Known.{IsSmall}
use Rattle.rt_proofs.proofs.Values.{sum_times}
use Rattle.rt_solved.specs.Systems.{column_of, columns_of}
use Rattle.rt_solved.specs.Tables.{basic_of}
use Rattle.rt_solved.proofs.Totals.{sign_out}
use Rattle.rt_solved.proofs.Factors.{one_table_each}
use Rattle.rt_tableau.specs.Numbers.{number_of, IsPast}
use Rattle.rt_tableau.specs.States.{State}
use Rattle.rt_tableau.specs.Tables.{line_at, table_of, IsKept}
use Rattle.rt_tableau.specs.Added.{IsAddable, IsBranch, IsPastAdded}
use Rattle.rt_tableau.proofs.Told.{whole_kept}
use Rattle.rt_tableau.proofs.AddedRows.{worth_basic, past_whole_right}

within : (r d : ℤ) → (pos 0 -ℤ d) ≤ℤ r → r ≤ℤ pos 0 → IsSmall d → IsPast r → ⊥
within (pos n) d h g small past = omega (arith, ints, g, past)
within (negsuc n) d h g small past = omega (arith, ints, h, past, small.high)

-- the right side of either row
right_within : (d f n least times : ℤ) → (n *ℤ d) ≤ℤ f → f <ℤ ((n +ℤ pos 1) *ℤ d) → ((times ≡ negsuc 0) × (least ≡ neg_ℤ n)) ⊎ ((times ≡ pos 1) × (least ≡ n +ℤ pos 1)) → IsSmall d
    → IsPast (neg_ℤ least *ℤ d +ℤ times *ℤ f) → ⊥
right_within d f n least times from to (inl (e, g)) small past =
    within (n *ℤ d -ℤ f) d (omega (arith, ints, to, sum_times n (pos 1) d, one_time d)) (omega (arith, ints, from)) small
    (subst IsPast ((λ i. neg_ℤ (g i) *ℤ d +ℤ e i *ℤ f) ∙ (λ i. twice n i *ℤ d +ℤ turned_once f i) ∙ less (n *ℤ d) f) past)
  where
    twice : (z : ℤ) → neg_ℤ (neg_ℤ z) ≡ z
    twice z = omega (arith, ints)

    turned_once : (y : ℤ) → negsuc 0 *ℤ y ≡ pos 0 -ℤ y
    turned_once (pos zero) = omega (arith, ints)
    turned_once (pos (suc k)) = omega (arith, ints)
    turned_once (negsuc k) = omega (arith, ints)

    less : (a b : ℤ) → a +ℤ (pos 0 -ℤ b) ≡ a -ℤ b
    less a b = omega (arith, ints)

    one_time : (z : ℤ) → pos 1 *ℤ z ≡ z
    one_time z = omega (arith, ints)
right_within d f n least times from to (inr (e, g)) small past =
    within (f -ℤ (n +ℤ pos 1) *ℤ d) d (omega (arith, ints, from, sum_times n (pos 1) d, one_time d)) (omega (arith, ints, to)) small
    (subst IsPast ((λ i. neg_ℤ (g i) *ℤ d +ℤ e i *ℤ f) ∙ (λ i. sign_out (n +ℤ pos 1) d i +ℤ one_time f i) ∙ more ((n +ℤ pos 1) *ℤ d) f) past)
  where
    one_time : (z : ℤ) → pos 1 *ℤ z ≡ z
    one_time z = omega (arith, ints)

    more : (a b : ℤ) → neg_ℤ a +ℤ b ≡ b -ℤ a
    more a b = omega (arith, ints)

one_term : (a b : Term) → Some a ∷ None ∷ None ∷ [] ≡ Some b ∷ None ∷ None ∷ [] → a ≡ b
one_term a b e = ap (λ xs. unwrap_or (get_or xs 0 None) a) e

pub branch_fits : (state : State) (lines : List (List ℤ)) (row : Row) (fit : IsAddable state.system.strips row) → IsKept state lines → IsBranch state row → IsPastAdded state row → ⊥
branch_fits state lines row fit kept branch passes =
    let term = one_term fit.term branch.term (sym fit.only ∙ branch.only) in
    let basic : basic_of state.basis branch.i ≡ column_of state.system.strips fit.term.var = branch.basic ∙ ap (λ (t : Term). column_of state.system.strips t.var) (sym term) in
    let column = column_of state.system.strips fit.term.var in
    let here : suc (basic_of state.basis branch.i) ≤ columns_of state.system = let t = kept.solved.there branch.i branch.there in omega (arith, t) in
    let over : table_of lines branch.i (suc column) ≡ branch.table branch.i (suc (basic_of state.basis branch.i)) =
    ap (λ c. table_of lines branch.i (suc c)) (sym basic)
    ∙ one_table_each state.system state.basis (table_of lines) branch.table (whole_kept state lines kept) branch.whole branch.i (suc (basic_of state.basis branch.i)) branch.there here in
    let right : number_of (set (line_at lines branch.i) (suc column) (pos 0)) 0 ≡ branch.table branch.i 0 =
    get_or-set_other (line_at lines branch.i) (suc column) 0 (pos 0) (pos 0) (λ e. omega (arith, e))
    ∙ one_table_each state.system state.basis (table_of lines) branch.table (whole_kept state lines kept) branch.whole branch.i 0 branch.there (omega arith) in
    let past = past_whole_right state lines row fit kept (table_of lines branch.i (suc column)) (set (line_at lines branch.i) (suc column) (pos 0)) (worth_basic state lines column branch.i kept branch.there basic) passes in
    right_within (branch.table branch.i (suc (basic_of state.basis branch.i))) (branch.table branch.i 0) branch.floor row.least branch.term.times branch.from branch.to branch.side
    (subst IsSmall over ((kept.each branch.i branch.there).small.each (suc column)))
    (subst IsPast (λ i. neg_ℤ row.least *ℤ over i +ℤ (term i).times *ℤ right i) past)

pub branch_added : (state now : State) (lines : List (List ℤ)) (row : Row) → state ≡ now → IsAddable now.system.strips row → IsKept state lines → IsPastAdded now row → IsBranch now row → false ≡ true
branch_added state now lines row e fit kept passes branch = absurd (branch_fits now lines row fit (subst (λ s. IsKept s lines) e kept) branch passes)
