use Rattle.std.proofs.Common.{◌≡◌, map, Bor, List, ℕ}
use Rattle.toml.specs.View.{members_view}
use Rattle.rt_keys.specs.Faults.{others}
use Rattle.rt_keys.proofs.keys.others.Given as goal

abbrev pub invariant-loop-key : goal.invariant-loop-key
invariant-loop-key l =
    (goal.iterator-loop-key).can_next l.key-iterator ×
    (goal.iterator-loop-key).is_finite l.key-iterator ×
    (others (map {A = Bor (List ℕ)} {B = List ℕ} (λ s. s.now) l.named) (members_view l.table.entries) ≡ others (map {A = Bor (List ℕ)} {B = List ℕ} (λ s. s.now) l.named) (members_view l.key-iterator))
