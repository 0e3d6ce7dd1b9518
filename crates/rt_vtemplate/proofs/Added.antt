-- Lists of names as they grow.
use Rattle.std.proofs.Common.{◌≡◌, ℕ, ◌+◌, ◌<◌, ◌⊎◌, inl, inr, List, [], ◌∷◌, ◌++◌, Contains, subst, arith}
use Rattle.std.proofs.lemmas.Bool.{cases_eq}
use Rattle.std.proofs.lemmas.List.Elements.{Contains-append_left, Contains-push, Contains-push_cases}
use Rattle.rt_rows.specs.declared.name.Name.{Name}
use Rattle.rt_vtemplate.specs.Added.{AreAdded, IsOfFirst}

-- nothing is added of a kind that no name is of
pub added_none : (kind : Name → Type 0) (names : List Name) → ((name : Name) → kind name → ⊥) → AreAdded kind names names
added_none kind names none = record { exact = λ name. (inl, λ (s : Contains names name ⊎ kind name). elim s [ inl c ↦ c | inr k ↦ absurd (none name k) ]) }

-- a kind of one name
pub added_one : (kind : Name → Type 0) (before : List Name) (name : Name) → kind name → ((other : Name) → kind other → name ≡ other)
    → AreAdded kind before (before ++ name ∷ [])
added_one kind before name is only = record {
  exact = λ other. (
    λ c. elim (Contains-push_cases before name other c) [ inl d ↦ inl d | inr e ↦ inr (subst kind e is) ],
    λ (s : Contains before other ⊎ kind other). elim s [
      | inl d ↦ Contains-append_left before (name ∷ []) other d
      | inr k ↦ subst (λ n. Contains (before ++ name ∷ []) n) (only other k) (Contains-push before name)
    ],
  );
}

-- one kind after the other
pub added_then : (first second both : Name → Type 0) (a b c : List Name) → AreAdded first a b → AreAdded second b c
    → ((name : Name) → first name → both name) → ((name : Name) → second name → both name) → ((name : Name) → both name → first name ⊎ second name)
    → AreAdded both a c
added_then first second both a b c f g l r s = record {
  exact = λ name. (
    λ h. elim ((g.exact name).0 h) [
      | inl d ↦ elim ((f.exact name).0 d) [ inl e ↦ inl e | inr k ↦ inr (l name k) ]
      | inr k ↦ inr (r name k)
    ],
    λ (h : Contains a name ⊎ both name). elim h [
      | inl d ↦ (g.exact name).1 (inl ((f.exact name).1 (inl d)))
      | inr k ↦ elim (s name k) [
        | inl m ↦ (g.exact name).1 (inl ((f.exact name).1 (inr m)))
        | inr m ↦ (g.exact name).1 (inr m)
      ]
    ],
  );
}

-- the same kind by other words
pub added_as : (kind other : Name → Type 0) (a b : List Name) → AreAdded kind a b → ((name : Name) → kind name → other name) → ((name : Name) → other name → kind name)
    → AreAdded other a b
added_as kind other a b f l r = record {
  exact = λ name. (
    λ h. elim ((f.exact name).0 h) [ inl d ↦ inl d | inr k ↦ inr (l name k) ],
    λ (h : Contains a name ⊎ other name). elim h [ inl d ↦ (f.exact name).1 (inl d) | inr k ↦ (f.exact name).1 (inr (r name k)) ],
  );
}

none_below : (k : ℕ) → k < 0 → ⊥
none_below k l = omega arith

-- of one more number
pub added_more : (kind : ℕ → Name → Type 0) (n : ℕ) (a b c : List Name) → AreAdded (IsOfFirst kind n) a b → AreAdded (kind n) b c → AreAdded (IsOfFirst kind (n + 1)) a c
added_more kind n a b c f g =
    added_then (IsOfFirst kind n) (kind n) (IsOfFirst kind (n + 1)) a b c f g
    (λ name k. record { number = k.number; below = later k.number k.below; of_kind = k.of_kind })
    (λ name k. record { number = n; below = omega arith; of_kind = k })
    (λ name k. elim (cases_eq k.number n) [
      | inl e ↦ inr (subst (λ m. kind m name) e k.of_kind)
      | inr other ↦ inl (record { number = k.number; below = sooner k.number k.below other; of_kind = k.of_kind })
    ])
  where
    later : (k : ℕ) → k < n → k < n + 1
    later k h = omega arith

    sooner : (k : ℕ) → k < n + 1 → (k ≡ n → ⊥) → k < n
    sooner k h other = omega arith
