-- Runs of lines with the same places.
use Rattle.std.proofs.Common.{◌≡◌, ℤ, pos, ◌-ℤ◌, ◌≤ℤ◌, arith}
use Rattle.std.proofs.lemmas.Int.{ints, by_lt_z}
use Rattle.rt_cells.specs.Line.{Within, IsRun}
use Rattle.rt_cells.proofs.Lines.{antisymmetric}

-- a run of one line is a run of another with the same places
pub run_along : (line line' : ℤ → Type 0) → ((x : ℤ) → line x → line' x) → ((x : ℤ) → line' x → line x) → (l r : ℤ) → IsRun line l r → IsRun line' l r
run_along line line' there back l r run = record {
  nonempty = run.nonempty;
  inside = λ x h. there x (run.inside x h);
  before = λ h. run.before (back _ h);
  after = λ h. run.after (back _ h);
}

starts_no_later : (line : ℤ → Type 0) (l r l' r' x : ℤ) → IsRun line l r → IsRun line l' r' → Within l r x → Within l' r' x → l' ≤ℤ l
starts_no_later line l r l' r' x run run' h g =
    by_lt_z l l'
    (λ k. absurd (run'.before (run.inside (l' -ℤ pos 1) (record { from = omega (arith, ints); to = omega (arith, ints, h.to, g.from) }))))
    (λ k. k)

ends_no_earlier : (line : ℤ → Type 0) (l r l' r' x : ℤ) → IsRun line l r → IsRun line l' r' → Within l r x → Within l' r' x → r ≤ℤ r'
ends_no_earlier line l r l' r' x run run' h g =
    by_lt_z r' r
    (λ k. absurd (run'.after (run.inside r' (record { from = omega (arith, ints, h.from, g.to); to = k }))))
    (λ k. k)

-- two runs of a line with a common place are one
pub one_run : (line : ℤ → Type 0) (l r l' r' x : ℤ) → IsRun line l r → IsRun line l' r' → Within l r x → Within l' r' x → (l ≡ l') × (r ≡ r')
one_run line l r l' r' x run run' h g = (
  antisymmetric l l' (starts_no_later line l' r' l r x run' run g h) (starts_no_later line l r l' r' x run run' h g),
  antisymmetric r r' (ends_no_earlier line l r l' r' x run run' h g) (ends_no_earlier line l' r' l r x run' run g h),
)
