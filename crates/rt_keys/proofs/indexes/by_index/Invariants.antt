use Rattle.std.proofs.Common.{◌≡◌, ℕ, nat_eq, drop}
use Rattle.indexmap.specs.IndexMap.{get}
use Rattle.toml.specs.View.{items_view}
use Rattle.rt_keys.specs.Indexes.{indexed, indexed_from}
use Rattle.std.specs.Option.{option_or}
use Rattle.rt_keys.proofs.indexes.by_index.Given as goal

abbrev pub invariant-loop-i : goal.invariant-loop-i
invariant-loop-i l =
    (q : ℕ) → option_or (get nat_eq l.numbers q) (indexed_from l.i q (items_view (drop l.i l.values))) ≡ indexed q (items_view l.values)
