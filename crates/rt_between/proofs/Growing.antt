-- Lists that grow by offered names.
use Rattle.std.proofs.Common.{◌≡◌, ℕ, ◌+◌, ◌≤◌, List, ◌++◌, length, sym, subst, ◌∙◌, arith, inl, inr, Result, Ok, Err, OnOk}
use Rattle.std.specs.Prelude.{Contains}
use Rattle.std.proofs.lemmas.Bool.{cases_eq}
use Rattle.std.proofs.lemmas.List.{get_or_default}
use Rattle.std.proofs.lemmas.List.Elements.{Contains-append_left, Contains-append_right}
use Rattle.rt_rows.specs.declared.name.Name.{Name}
use Rattle.rt_between.specs.Offers.{pair_at, AreOffered, AreOfferedBy, AreOfferedFor}

-- those for one more
pub more_offered : (names_of : ℕ → List Name) (n : ℕ) (before after : List Name) → AreOffered names_of n before after → AreOffered names_of (n + 1) before (after ++ names_of n)
more_offered names_of n before after are = record {
  kept = λ name c. Contains-append_left after (names_of n) name (are.kept name c);
  offered = λ k h name c. elim (cases_eq k n) [
    | inl e ↦ Contains-append_right after (names_of n) name (subst (λ m. Contains (names_of m) name) e c)
    | inr o ↦ Contains-append_left after (names_of n) name (are.offered k (omega (arith, h, o)) name c)
  ];
}

-- when all have been seen
pub all_offered : (names_of : ℕ → List Name) (n count : ℕ) (before after : List Name) → count ≤ n → AreOffered names_of n before after → AreOffered names_of count before after
all_offered names_of n count before after h are = record {
  kept = are.kept;
  offered = λ k g name c. are.offered k (omega (arith, g, h)) name c;
}

-- those of one more rule
pub more_rules : (wanted : ℕ → Name → Type 0) (n : ℕ) (before between after : List Name) → AreOfferedFor wanted n before between → AreOfferedBy (wanted n) between after
    → AreOfferedFor wanted (n + 1) before after
more_rules wanted n before between after are more = record {
  kept = λ name c. more.kept name (are.kept name c);
  offered = λ k h name w. elim (cases_eq k n) [
    | inl e ↦ more.offered name (subst (λ m. wanted m name) e w)
    | inr o ↦ more.kept name (are.offered k (omega (arith, h, o)) name w)
  ];
}

-- when all have been seen
pub all_rules : (wanted : ℕ → Name → Type 0) (n count : ℕ) (before after : List Name) → count ≤ n → AreOfferedFor wanted n before after → AreOfferedFor wanted count before after
all_rules wanted n count before after h are = record {
  kept = are.kept;
  offered = λ k g name w. are.offered k (omega (arith, g, h)) name w;
}

-- the names of a pair that was seen are there
pub offered_at : (names_of : ℕ × ℕ → List Name) (pairs : List (ℕ × ℕ)) (before after : List Name) → AreOffered (λ k. names_of (pair_at pairs k)) (length pairs) before after
    → (pair : ℕ × ℕ) (name : Name) → Contains pairs pair → Contains (names_of pair) name → Contains after name
offered_at names_of pairs before after offered pair name there c =
    let e : pair_at pairs there.0 ≡ pair = get_or_default pairs there.0 (0, 0) pair there.1 ∙ there.2 in
    offered.offered there.0 there.1 name (subst (λ (p : ℕ × ℕ). Contains (names_of p) name) (sym e) c)

-- what follows of what an answer gives, it gives too
pub then_given : {X E P Q : Type 0} (r : Result X E) → (P → Q) → OnOk r P → OnOk r Q
then_given (Ok x) f h = f h
then_given (Err e) f h = h
