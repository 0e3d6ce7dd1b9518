-- Reduced lines that are proportional are equal, and their denominators are least.
use Rattle.std.proofs.Common.{◌≡◌, ℕ, zero, suc, ◌≤◌, ℤ, pos, negsuc, ◌*ℤ◌, ◌≤ℤ◌, ◌<ℤ◌, length, sym, ap, ◌∙◌, arith}
use Rattle.std.proofs.lemmas.Int.{ints}
use Rattle.rt_cells.proofs.Lines.{antisymmetric}
use Rattle.rt_solved.specs.Lines.{Divides, IsReduced}
use Rattle.rt_solved.specs.Systems.{columns_of, IsSolution}
use Rattle.rt_solved.specs.Tables.{basic_of}
use Rattle.rt_solved.specs.Laws.{OneTable, DenominatorsAreLeast}
use Rattle.rt_solved.proofs.Proportional.{proportional, times_cancel}

some_time : (d : ℤ) (t : ℕ) → pos 0 <ℤ d → d ≤ℤ (d *ℤ pos (suc t))
some_time (pos e) t h = omega (arith, ints, h)
some_time (negsuc e) t h = absurd (omega (arith, ints, h))

no_time : (d : ℤ) (t : ℕ) → pos 0 <ℤ d → (d *ℤ negsuc t) <ℤ pos 0
no_time (pos zero) t h = absurd (omega (arith, ints, h))
no_time (pos (suc e)) t h = omega (arith, ints)
no_time (negsuc e) t h = absurd (omega (arith, ints, h))

-- what divides a positive number is no greater
pub divisor_at_most : (d n : ℤ) → pos 0 <ℤ d → pos 0 <ℤ n → Divides d n → d ≤ℤ n
divisor_at_most d n h g (pos zero, e) = absurd (omega (arith, ints, g, e))
divisor_at_most d n h g (pos (suc t), e) = let k = some_time d t h in omega (arith, ints, k, e)
divisor_at_most d n h g (negsuc t, e) = let k = no_time d t h in absurd (omega (arith, ints, k, e, g))

-- reduced lines with positive numbers at a place by which they are proportional are equal
pub reduced_once : (m : ℕ) (line other : ℕ → ℤ) (d e : ℤ) → IsReduced m line → IsReduced m other → pos 0 <ℤ d → pos 0 <ℤ e
    → ((s : ℕ) → s ≤ m → d *ℤ other s ≡ e *ℤ line s) → (s : ℕ) → s ≤ m → line s ≡ other s
reduced_once m line other d e first second h g same s below =
    let there : Divides d e = first.no_factor d e (λ t l. (other t, sym (same t l))) in
    let back : Divides e d = second.no_factor e d (λ t l. (line t, same t l)) in
    let equal : d ≡ e = antisymmetric d e (divisor_at_most d e h g there) (divisor_at_most e d g h back) in
    times_cancel d (line s) (other s) h (ap (λ z. z *ℤ line s) equal ∙ sym (same s below))

pub one_table_each : OneTable
one_table_each system basis table other whole whole' i s h below =
    reduced_once (columns_of system) (table i) (other i) (table i (suc (basic_of basis i))) (other i (suc (basic_of basis i))) (whole.reduced i h) (whole'.reduced i h)
    (whole.solved.positive i h) (whole'.solved.positive i h)
    (λ t l. proportional (columns_of system) (length system.rows) (IsSolution system) (basic_of basis) table other whole.solved whole'.solved i t h l) s below

pub least_each : DenominatorsAreLeast
least_each system basis table whole i k h g all =
    divisor_at_most (table i (suc (basic_of basis i))) k (whole.solved.positive i h) g ((whole.reduced i h).no_factor (table i (suc (basic_of basis i))) k all)
