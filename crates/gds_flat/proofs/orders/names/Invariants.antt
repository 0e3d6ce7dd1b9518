use Rattle.std.proofs.Common.{◌≡◌, ℕ, List, drop, bytes_eq}
use Rattle.indexmap.specs.IndexMap.{get_by}
use Rattle.gds_flat.specs.Reach.{place_named, place_from}
use Rattle.gds_flat.proofs.Naming.{or_of}
use Rattle.gds_flat.proofs.orders.names.Given as goal

abbrev pub invariant-loop-i : goal.invariant-loop-i
invariant-loop-i l =
    (q : List ℕ) → or_of (get_by (λ k. bytes_eq q k.now) l.places) (place_from l.i q (drop l.i l.structures)) ≡ place_named q l.structures
