-- Numbers that are paired with themselves.
use Rattle.std.proofs.Common.{ℕ, ◌+◌, ◌<◌, ◌≤◌, List, [], ◌∷◌, ◌++◌, inl, inr, sym, subst, arith}
use Rattle.std.specs.Prelude.{Contains}
use Rattle.std.proofs.lemmas.Bool.{cases_eq}
use Rattle.std.proofs.lemmas.List.Elements.{Contains-append_left, Contains-push}
use Rattle.rt_between.specs.Pairing.{AreEachAdded}

none_below : (k : ℕ) → k < 0 → ⊥
none_below k h = omega arith

-- none of them, and one more
pub none_added : (pairs : List (ℕ × ℕ)) → AreEachAdded 0 pairs pairs
none_added pairs = record { kept = λ pair c. c; own = λ i h. absurd (none_below i h) }

pub one_added : (n : ℕ) (before after : List (ℕ × ℕ)) → AreEachAdded n before after → AreEachAdded (n + 1) before (after ++ (n, n) ∷ [])
one_added n before after are = record {
  kept = λ pair c. Contains-append_left after ((n, n) ∷ []) pair (are.kept pair c);
  own = λ i h. elim (cases_eq i n) [
    | inl e ↦ subst (λ (k : ℕ). Contains (after ++ (n, n) ∷ []) (k, k)) (sym e) (Contains-push after (n, n))
    | inr o ↦ Contains-append_left after ((n, n) ∷ []) (i, i) (are.own i (omega (arith, h, o)))
  ];
}

-- when all have been paired
pub all_added : (n count : ℕ) (before after : List (ℕ × ℕ)) → count ≤ n → AreEachAdded n before after → AreEachAdded count before after
all_added n count before after h are = record { kept = are.kept; own = λ i g. are.own i (omega (arith, g, h)) }
