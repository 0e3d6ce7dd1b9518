-- A column has one value at the point of a basis.
use Rattle.std.proofs.Common.{◌≡◌, ℕ, suc, ◌<◌, ◌≤◌, ℤ, pos, ◌+ℤ◌, ◌*ℤ◌, ◌≤ℤ◌, ◌<ℤ◌, sym, ap, subst, subst₂, ◌∙◌, inl, inr, arith}
use Rattle.std.proofs.lemmas.Int.{ints, by_lt_z}
use Rattle.rt_cells.proofs.Times.{times_le}
use Rattle.rt_proofs.proofs.Products.{times_comm}
use Rattle.rt_solved.specs.Systems.{columns_of}
use Rattle.rt_solved.proofs.Proportional.{times_cancel}
use Rattle.rt_solved.proofs.Factors.{one_table_each}
use Rattle.rt_tableau.specs.States.{State}
use Rattle.rt_simplex.proofs.Determined.{one_row}
use Rattle.rt_branch.specs.Values.{IsBasicValue, IsValue, IsWholeValue, IsBrokenValue}

-- a basic column is one of the table's
pub basic_there : (state : State) (j : ℕ) (right over : ℤ) → IsBasicValue state j right over → suc j ≤ columns_of state.system
basic_there state j right over a = let t = subst (λ c. c < columns_of state.system) a.is (a.whole.solved.there a.i a.there) in omega (arith, t)

pub one_value : (state : State) (j : ℕ) (right over other under : ℤ) → IsValue state j right over → IsValue state j other under → (right ≡ other) × (over ≡ under)
one_value state j right over other under (inl a) (inl b) =
    let same = one_row state a.table a.i b.i a.whole a.there b.there (a.is ∙ sym b.is) in (
      a.right_is ∙ one_table_each state.system state.basis a.table b.table a.whole b.whole a.i 0 a.there (omega arith) ∙ ap (λ k. b.table k 0) same ∙ sym b.right_is,
      a.over_is ∙ one_table_each state.system state.basis a.table b.table a.whole b.whole a.i (suc j) a.there (basic_there state j right over a) ∙ ap (λ k. b.table k (suc j)) same ∙ sym b.over_is,
    )
one_value state j right over other under (inl a) (inr b) = absurd (b.off a.i a.there a.is)
one_value state j right over other under (inr a) (inl b) = absurd (a.off b.i b.there b.is)
one_value state j right over other under (inr a) (inr b) = (a.right_is ∙ sym b.right_is, a.over_is ∙ sym b.over_is)

-- what it's divided by is above 0
pub over_positive : (state : State) (j : ℕ) (right over : ℤ) → IsValue state j right over → pos 0 <ℤ over
over_positive state j right over (inl a) = subst (λ z. pos 0 <ℤ z) (ap (λ c. a.table a.i (suc c)) a.is ∙ sym a.over_is) (a.whole.solved.positive a.i a.there)
over_positive state j right over (inr a) = one over a.over_is
  where
    one : (z : ℤ) → z ≡ pos 1 → pos 0 <ℤ z
    one z e = omega (arith, ints, e)

-- a number is less where so many times it is less
pub less_by : (m n o : ℤ) → pos 0 <ℤ o → (m *ℤ o) <ℤ (n *ℤ o) → m <ℤ n
less_by m n o h g = by_lt_z m n (λ l. l) (λ k. absurd (clash (m *ℤ o) (n *ℤ o) (o *ℤ m) (o *ℤ n) (times_comm m o) (times_comm n o) (times_le o n m (omega (arith, ints, h)) k) g))
  where
    clash : (a b c d : ℤ) → a ≡ c → b ≡ d → d ≤ℤ c → a <ℤ b → ⊥
    clash a b c d e f k l = omega (arith, ints, e, f, k, l)

between : (a b c : ℤ) → a <ℤ b → b <ℤ c → a <ℤ c
between a b c h g = omega (arith, ints, h, g)

from_equal : (a b c : ℤ) → a <ℤ b → b ≡ c → a <ℤ c
from_equal a b c h e = omega (arith, ints, h, e)

pub whole_once : (state : State) (j : ℕ) (m n : ℤ) → IsWholeValue state j m → IsWholeValue state j n → m ≡ n
whole_once state j m n first second =
    let same = one_value state j first.right first.over second.right second.over first.value second.value in
    times_cancel first.over m n (over_positive state j first.right first.over first.value)
    (times_comm first.over m ∙ sym first.equal ∙ same.0 ∙ second.equal ∙ ap (λ z. n *ℤ z) (sym same.1) ∙ times_comm n first.over)

below_next : (state : State) (j : ℕ) (m n : ℤ) → IsBrokenValue state j m → IsBrokenValue state j n → m <ℤ (n +ℤ pos 1)
below_next state j m n first second =
    let same = one_value state j first.right first.over second.right second.over first.value second.value in
    less_by m (n +ℤ pos 1) first.over (over_positive state j first.right first.over first.value)
    (between _ _ _ first.from (subst₂ (λ r o. r <ℤ ((n +ℤ pos 1) *ℤ o)) (sym same.0) (sym same.1) second.to))

pub broken_once : (state : State) (j : ℕ) (m n : ℤ) → IsBrokenValue state j m → IsBrokenValue state j n → m ≡ n
broken_once state j m n first second = meet m n (below_next state j m n first second) (below_next state j n m second first)
  where
    meet : (m n : ℤ) → m <ℤ (n +ℤ pos 1) → n <ℤ (m +ℤ pos 1) → m ≡ n
    meet m n h g = omega (arith, ints, h, g)

-- what is whole doesn't lie between
pub whole_not_broken : (state : State) (j : ℕ) (n m : ℤ) → IsWholeValue state j n → IsBrokenValue state j m → ⊥
whole_not_broken state j n m whole broken =
    let same = one_value state j broken.right broken.over whole.right whole.over broken.value whole.value in
    let equal : broken.right ≡ n *ℤ broken.over = same.0 ∙ whole.equal ∙ ap (λ z. n *ℤ z) (sym same.1) in
    let positive = over_positive state j broken.right broken.over broken.value in
    clash m n (less_by m n broken.over positive (from_equal _ _ _ broken.from equal)) (less_by n (m +ℤ pos 1) broken.over positive (subst (λ z. z <ℤ ((m +ℤ pos 1) *ℤ broken.over)) equal broken.to))
  where
    clash : (m n : ℤ) → m <ℤ n → n <ℤ (m +ℤ pos 1) → ⊥
    clash m n h g = omega (arith, ints, h, g)
