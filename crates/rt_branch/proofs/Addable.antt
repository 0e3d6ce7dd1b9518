-- Where entries are small, so are the numbers of a branch's rows.
use Rattle.std.proofs.Common.{◌^◌, ℤ, pos, neg_ℤ, ◌+ℤ◌, ◌*ℤ◌, ◌≤ℤ◌, ◌<ℤ◌, refl, sym, subst, ◌∙◌, inl, inr, arith}
use Rattle.std.proofs.lemmas.Int.{ints}
use Rattle.rt_cells.proofs.Times.{times_le}
use Rattle.rt_rows.specs.Known.{IsSmall}
use Rattle.rt_solved.proofs.Factors.{one_table_each}
use Rattle.rt_solved.proofs.Totals.{sign_out}
use Rattle.rt_tableau.specs.Starts.{HasColumn}
use Rattle.rt_branch.specs.Values.{IsBasicValue}
use Rattle.rt_branch.specs.Branches.{is_upwards, variable_at}
use Rattle.rt_branch.specs.Laws.{BranchesAreAddable}
use Rattle.rt_branch.proofs.OneValue.{over_positive, less_by}
use Rattle.rt_branch.proofs.Variables.{broken_basic}
use Rattle.rt_branch.proofs.Covered.{variable_there}

-- so many times a number that isn't below 0 is no less than it
module _ (n o r b : ℤ) (positive : pos 0 <ℤ o) (from : (n *ℤ o) <ℤ r) (to : r <ℤ ((n +ℤ pos 1) *ℤ o)) (low : neg_ℤ b ≤ℤ r) (high : r ≤ℤ b) (bound : pos 0 ≤ℤ b) where
  grows : b ≤ℤ (b *ℤ o)
  grows = once b _ (times_le b (pos 1) o bound (omega (arith, ints, positive)))
    where
      once : (a c : ℤ) → (a *ℤ pos 1) ≤ℤ c → a ≤ℤ c
      once a c h = omega (arith, ints, h)

  pub below_bound : n <ℤ b
  below_bound = less_by n b o positive (omega (arith, ints, from, high, grows))

  pub above_bound : neg_ℤ b <ℤ (n +ℤ pos 1)
  above_bound = less_by (neg_ℤ b) (n +ℤ pos 1) o positive (omega (arith, ints, to, low, grows, sign_out b o))

small_bounds : (n : ℤ) → n <ℤ pos (10 ^ 18) → neg_ℤ (pos (10 ^ 18)) <ℤ (n +ℤ pos 1) → IsSmall (neg_ℤ n) × IsSmall (n +ℤ pos 1)
small_bounds n h g = (record { low = omega (arith, ints, h); high = omega (arith, ints, g) }, record { low = omega (arith, ints, g); high = omega (arith, ints, h) })

pub branches_are_addable_each : BranchesAreAddable
branches_are_addable_each node j n small first = (
  record { term = record { var = variable_at node j; times = _ }; only = refl; unit = inr refl; column = there; least = both.0 },
  record { term = record { var = variable_at node j; times = _ }; only = refl; unit = inl refl; column = there; least = both.1 },
)
  where
    there : HasColumn node.system.strips (variable_at node j)
    there = variable_there node.system.strips (is_upwards node.goal) j

    value : IsBasicValue node j first.broken.right first.broken.over
    value = broken_basic node j n first.broken.right first.broken.over first.broken.value first.broken.from first.broken.to

    right_small : IsSmall first.broken.right
    right_small =
        subst IsSmall (sym (value.right_is ∙ one_table_each node.system node.basis value.table small.table value.whole small.whole value.i 0 value.there (omega arith)))
        ((small.small value.i value.there).each 0 (omega arith))

    both : IsSmall (neg_ℤ n) × IsSmall (n +ℤ pos 1)
    both =
        let positive = over_positive node j first.broken.right first.broken.over first.broken.value in
        small_bounds n
        (below_bound n first.broken.over first.broken.right (pos (10 ^ 18)) positive first.broken.from first.broken.to right_small.low right_small.high (omega (arith, ints)))
        (above_bound n first.broken.over first.broken.right (pos (10 ^ 18)) positive first.broken.from first.broken.to right_small.low right_small.high (omega (arith, ints)))
