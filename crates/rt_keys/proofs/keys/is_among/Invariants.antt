use Rattle.std.proofs.Common.{◌≡◌, map, drop, bytes_eq, Bor, List, ℕ}
use Rattle.std.specs.List.{list_any}
use Rattle.rt_keys.proofs.keys.is_among.Given as goal

abbrev pub invariant-loop-name : goal.invariant-loop-name
invariant-loop-name l =
    list_any (bytes_eq l.key) (map {A = Bor (List ℕ)} {B = List ℕ} (λ s. s.now) l.named) ≡ list_any (bytes_eq l.key) (map {A = Bor (List ℕ)} {B = List ℕ} (λ s. s.now) (drop l.name-index l.named))
