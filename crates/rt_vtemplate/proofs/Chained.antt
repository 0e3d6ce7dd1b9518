-- Chains of strips that cover the same columns.
use Rattle.std.proofs.Common.{◌≡◌, ℕ, ◌+◌, ◌<◌, ◌≤◌, inl, inr, ℤ, length, refl, sym, subst, arith}
use Rattle.std.proofs.lemmas.Bool.{cases_eq}
use Rattle.rt_rows.specs.declared.row.Var.{Var}
use Rattle.rt_strips.specs.StripsOf.{AreStrips}
use Rattle.rt_strips.proofs.Placed.{strip_below}
use Rattle.rt_strips.proofs.Chains.{stands_later}
use Rattle.rt_view.specs.declared.job.Job.{Job}
use Rattle.rt_view.specs.Job.{strips_of}
use Rattle.rt_template.specs.Vertical.{CoversBoth, IsChain}
use Rattle.rt_vtemplate.specs.Whole.{StandsThere, IsLowest, IsHighest}

-- what holds from one number up to another, and of that one
pub range_more : (P : ℕ → Type 0) (low n : ℕ) → ((k : ℕ) → low ≤ k → k < n → P k) → P n → (k : ℕ) → low ≤ k → k < n + 1 → P k
range_more P low n below here k h g = elim (cases_eq k n) [ inl e ↦ subst P (sym e) here | inr other ↦ below k h (sooner k g other) ]
  where
    sooner : (k : ℕ) → k < n + 1 → (k ≡ n → ⊥) → k < n
    sooner k h other = omega arith

module _ (job : Job) (columns : Var → ℤ) (x u : ℤ) where
  -- the last strip of a chain covers the columns, and so does the first
  pub last_covers : (i j : ℕ) → IsChain job columns x u i j → CoversBoth job columns x u j
  last_covers i j (IsChain.one c) = c
  last_covers i j (IsChain.onward k _ chain s c) = c

  pub first_covers : (i j : ℕ) → IsChain job columns x u i j → CoversBoth job columns x u i
  first_covers i j (IsChain.one c) = c
  first_covers i j (IsChain.onward k _ chain s c) = first_covers i k chain

  -- a chain of one strip
  pub chain_of_one : (i j : ℕ) → i ≡ j → CoversBoth job columns x u j → IsChain job columns x u i j
  chain_of_one i j e c = subst (λ k. IsChain job columns x u k j) (sym e) (IsChain.one c)

  -- a chain with one strip more
  pub chain_longer : (i k j : ℕ) → IsChain job columns x u i k → StandsThere job columns x u k j k → CoversBoth job columns x u j → IsChain job columns x u i j
  chain_longer i k j chain s c = IsChain.onward k j chain s.stands c

  module _ (are : AreStrips (strips_of job)) where
    later_than : (i k j : ℕ) → i ≤ k → k < j → i ≤ j
    later_than i k j h g = omega arith

    -- numbers rise along a chain
    rises : (i j : ℕ) → IsChain job columns x u i j → i ≤ j
    rises i j (IsChain.one c) = omega arith
    rises i j (IsChain.onward k _ chain s c) = later_than i k j (rises i k chain) (stands_later (strips_of job) are k j s)

    -- no strip under the last one is reached
    pub no_chain : (i j end : ℕ) → j ≤ end → (i ≡ j → ⊥)
        → ((k : ℕ) → i ≤ k → k < end → StandsThere job columns x u k j k → ¬ IsChain job columns x u i k) → ¬ IsChain job columns x u i j
    no_chain i j end over other none (IsChain.one c) = other refl
    no_chain i j end over other none (IsChain.onward k _ chain s c) =
        none k (rises i k chain) (within k (stands_later (strips_of job) are k j s)) (record { covers = last_covers i k chain; stands = s }) chain
      where
        within : (k : ℕ) → k < j → k < end
        within k h = omega arith

    -- none of the strips with smaller numbers is under the first one
    pub is_lowest : (i end : ℕ) → i ≤ end → ((k : ℕ) → k < end → ¬ StandsThere job columns x u k i k) → IsLowest job columns x u i
    is_lowest i end over none = record {
      none = λ k c s. none k (within k (stands_later (strips_of job) are k i s)) (record { covers = c; stands = s });
    }
      where
        within : (k : ℕ) → k < i → k < end
        within k h = omega arith

    -- none of those with greater numbers is on the last one
    pub is_highest : (j end : ℕ) → length job.view.strips.list ≤ end → ((k : ℕ) → j ≤ k → k < end → ¬ StandsThere job columns x u j k k) → IsHighest job columns x u j
    is_highest j end over none = record {
      none = λ k c s.
          none k (behind k (stands_later (strips_of job) are j k s)) (within k (strip_below job.view.strips.list k c.strip)) (record { covers = c; stands = s });
    }
      where
        behind : (k : ℕ) → j < k → j ≤ k
        behind k h = omega arith

        within : (k : ℕ) → k < length job.view.strips.list → k < end
        within k h = omega arith

  -- a strip under the first one, or on the last one
  pub not_lowest : (i k : ℕ) → StandsThere job columns x u k i k → ¬ IsLowest job columns x u i
  not_lowest i k s l = l.none k s.covers s.stands

  pub not_highest : (j k : ℕ) → StandsThere job columns x u j k k → ¬ IsHighest job columns x u j
  not_highest j k s h = h.none k s.covers s.stands
