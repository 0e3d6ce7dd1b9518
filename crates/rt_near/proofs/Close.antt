-- Which entries of a list in order are close.
use Rattle.std.proofs.Common.{◌≡◌, ℕ, ◌<◌, ◌≤◌, ℤ, pos, ◌-ℤ◌, ◌≤ℤ◌, ◌<ℤ◌, List, length, sym, subst, inl, inr, arith}
use Rattle.std.proofs.lemmas.Bool.{cases_eq}
use Rattle.std.proofs.lemmas.Int.{ints, clamps}
use Rattle.rt_cells.specs.Line.{gap_of}
use Rattle.rt_near.specs.declared.entry.Entry.{Entry}
use Rattle.rt_near.specs.Near.{IsInterval}
use Rattle.rt_near.specs.Entries.{entry_at, no_entry, IsUpTo, AreInOrder, AreIntervals}
use Rattle.rt_near.specs.Pairs.{ComesWithin, IsClose}

near_before : (low high low' high' low'' high'' reach : ℤ) → low' <ℤ high' → low ≤ℤ low' → low' ≤ℤ low'' → gap_of low high low'' high'' <ℤ reach → gap_of low high low' high' <ℤ reach
near_before low high low' high' low'' high'' reach a b c h = omega (arith, ints, clamps)

same_between : (a b c : ℕ) → a ≤ b → b ≤ c → a ≡ c → a ≡ b
same_between a b c h g e = omega (arith, h, g, e)

-- of two later entries the nearer one is close where the farther one is
pub close_before : (a b c : Entry) → IsInterval b.at → IsUpTo a b → IsUpTo b c → IsClose a c → IsClose a b
close_before a b c some up up' close =
    let group = same_between a.at.group b.at.group c.at.group up.groups up'.groups close.one_group in
    let group' : b.at.group ≡ c.at.group = omega (arith, group, close.one_group) in
    record {
      one_group = group;
      near = near_before a.at.low a.at.high b.at.low b.at.high c.at.low c.at.high a.reach some.some (up.lows group) (up'.lows group') close.near;
    }

module _ (entries : List Entry) (order : AreInOrder entries) (intervals : AreIntervals entries) where
  -- where one isn't close no later one is
  pub none_behind : (place next : ℕ) → place < next → (¬ IsClose (entry_at entries place) (entry_at entries next)) → (other : ℕ) → next ≤ other → other < length entries
      → ¬ IsClose (entry_at entries place) (entry_at entries other)
  none_behind place next h n other g below close =
      elim (cases_eq next other) [
        | inl e ↦ n (subst (λ k. IsClose (entry_at entries place) (entry_at entries k)) (sym e) close)
        | inr m ↦ n (close_before (entry_at entries place) (entry_at entries next) (entry_at entries other) (intervals.each next (omega (arith, g, below)))
            (order.in_order place next no_entry h (omega (arith, g, below))) (order.in_order next other no_entry (omega (arith, g, m)) below) close)
      ]
