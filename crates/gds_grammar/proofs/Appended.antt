-- Records behind others.
use Rattle.std.proofs.Common.{◌≡◌, ℕ, ◌+◌, List, [], ◌∷◌, ◌++◌, length, Option, subst, arith}
use Rattle.std.specs.List.{fold}
use Rattle.std.proofs.lemmas.List.{length-append}
use Rattle.gds_records.specs.Records.{Item, spelled, flat}
use Rattle.gds_grammar.specs.Conditions.{kind_after, InContext, Placed}

-- they are placed where they stand one after the other
pub placed_append : (place : ℕ) (items more : List Item) → Placed place items → Placed (place + length (flat items)) more → Placed place (items ++ more)
placed_append place [] more p q = subst (λ (n : ℕ). Placed n more) (omega arith) q
placed_append place (i ∷ items) more p q =
    let same : place + length (flat (i ∷ items)) ≡ (place + length (spelled i)) + length (flat items) = omega (arith, length-append (spelled i) (flat items)) in
    (p.0, placed_append (place + length (spelled i)) items more p.1 (subst (λ (n : ℕ). Placed n more) same q))

-- and each is in its context
pub context_append : (kind : Option ℕ) (items more : List Item) → InContext kind items → InContext (fold kind_after kind items) more → InContext kind (items ++ more)
context_append kind [] more p q = q
context_append kind (i ∷ items) more p q = (p.0, p.1, p.2, context_append (kind_after kind i) items more p.3 q)
