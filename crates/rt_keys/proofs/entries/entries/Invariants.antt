use Rattle.std.proofs.Common.{◌≡◌, ◌++◌, [], drop}
use Rattle.toml.specs.View.{items_view}
use Rattle.rt_keys.specs.Document.{entries_of}
use Rattle.rt_keys.specs.Faults.{each}
use Rattle.rt_keys.proofs.entries.entries.Given as goal

abbrev pub invariant-loop-value : goal.invariant-loop-value
invariant-loop-value g l = record {
  rest_at_fault : each (g.E.Entry.fault l.rule) (g.E.Entry.gives l.rule) [] (items_view l.values) ≡ each (g.E.Entry.fault l.rule) (g.E.Entry.gives l.rule) l.found (items_view (drop l.value-index l.values));
  rest_given : entries_of (g.E.Entry.gives l.rule) (items_view l.values) ≡ l.found ++ entries_of (g.E.Entry.gives l.rule) (items_view (drop l.value-index l.values));
}
