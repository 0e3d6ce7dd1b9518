use Rattle.std.proofs.Common.{◌≡◌, ℕ, List, drop, bytes_eq}
use Rattle.indexmap.specs.IndexMap.{get_by}
use Rattle.toml.specs.View.{items_view}
use Rattle.rt_keys.specs.Names.{named, named_from}
use Rattle.std.specs.Option.{option_or}
use Rattle.rt_keys.proofs.finding.names.Given as goal

abbrev pub invariant-loop-i : goal.invariant-loop-i
invariant-loop-i l =
    (q : List ℕ) → option_or (get_by (λ k. bytes_eq q k.now) l.numbers) (named_from l.i q (items_view (drop l.i l.values))) ≡ named q (items_view l.values)
