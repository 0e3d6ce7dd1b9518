-- A first place past the limit and a table of small entries exclude each other.
use Rattle.std.proofs.Common.{◌≡◌, ℕ, suc, ◌≤◌, ◌⊎◌, length, sym, subst, inl, inr, arith}
use Rattle.rt_rows.specs.Known.{IsSmall}
use Rattle.rt_solved.specs.Systems.{columns_of, IsSolution}
use Rattle.rt_solved.specs.Tables.{basic_of}
use Rattle.rt_solved.proofs.Proportional.{proportional, same_or_not}
use Rattle.rt_solved.proofs.Factors.{reduced_once}
use Rattle.rt_tableau.specs.States.{number_at, exchanged_state}
use Rattle.rt_tableau.specs.Laws.{OverflowExcludes}
use Rattle.rt_tableau.proofs.Firsts.{not_both}
use Rattle.rt_tableau.proofs.NewLines.{right_at, column_at}

pub number_within : (columns j : ℕ) → j ≤ columns → number_at columns j ≤ columns
number_within columns j h = by_case (same_or_not j columns)
  where
    by_case : (j ≡ columns) ⊎ (j ≡ columns → ⊥) → number_at columns j ≤ columns
    by_case (inl e) = subst (λ k. number_at columns k ≤ columns) (sym e) (subst (λ s. s ≤ columns) (sym (right_at columns)) (omega arith))
    by_case (inr n) = subst (λ s. s ≤ columns) (sym (column_at columns j (omega (arith, h, n)))) (omega (arith, h, n))

pub excludes : OverflowExcludes
excludes state p q i j passes small =
    let after = exchanged_state state p q in
    let columns = columns_of state.system in
    let s = number_at columns j in
    let within : s ≤ columns = number_within columns j passes.first.there in
    let same = reduced_once columns (passes.table i) (small.table i) (passes.table i (suc (basic_of after.basis i))) (small.table i (suc (basic_of after.basis i))) passes.reduced (small.whole.reduced i passes.row)
    (passes.solved.positive i passes.row) (small.whole.solved.positive i passes.row)
    (λ t l. proportional columns (length state.system.rows) (IsSolution state.system) (basic_of after.basis) passes.table small.table passes.solved small.whole.solved i t passes.row l) s within in
    not_both (passes.table i s) passes.first.past (subst IsSmall (sym same) ((small.small i passes.row).each s within))
