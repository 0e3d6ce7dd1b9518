-- Names that are added one after the other.
use Rattle.std.proofs.Common.{◌≡◌, ◌⊎◌, List, [], ◌∷◌, ◌++◌, sym, subst, inl, inr}
use Rattle.std.specs.List.{Contains}
use Rattle.std.proofs.lemmas.List.Elements.{Contains-append_left, Contains-push, Contains-push_cases}
use Rattle.rt_rows.specs.declared.name.Name.{Name}
use Rattle.rt_columns.specs.Adding.{Adds}

-- nothing is added where nothing is wanted
pub adds_none : (W : Name → Type 0) (names : List Name) → ((name : Name) → ¬ W name) → Adds W names names
adds_none W names none = record { exact = λ name. (λ h. inl h, λ h. elim h [ inl a ↦ a | inr w ↦ absurd (none name w) ]) }

-- one name is added
pub adds_one : (W : Name → Type 0) (before after : List Name) (one : Name) → after ≡ before ++ one ∷ [] → W one → ((name : Name) → W name → name ≡ one) → Adds W before after
adds_one W before after one e w only = subst (Adds W before) (sym e) (record {
  exact = λ name. (
    λ h. elim (Contains-push_cases before one name h) [ inl a ↦ inl a | inr s ↦ inr (subst W s w) ],
    λ h. elim h [
      | inl a ↦ Contains-append_left before (one ∷ []) name a
      | inr a ↦ subst (Contains (before ++ one ∷ [])) (sym (only name a)) (Contains-push before one)
    ],
  );
})

-- two additions, one after the other, are one of what either wants
pub adds_both : (W V U : Name → Type 0) (before between after : List Name) → Adds W before between → Adds V between after
    → ((name : Name) → W name → U name) → ((name : Name) → V name → U name) → ((name : Name) → U name → W name ⊎ V name) → Adds U before after
adds_both W V U before between after first second one two either = record {
  exact = λ name. (
    λ h. elim ((second.exact name).0 h) [
      | inl a ↦ elim ((first.exact name).0 a) [ inl b ↦ inl b | inr w ↦ inr (one name w) ]
      | inr v ↦ inr (two name v)
    ],
    λ h. elim h [
      | inl a ↦ (second.exact name).1 (inl ((first.exact name).1 (inl a)))
      | inr u ↦ elim (either name u) [ inl w ↦ (second.exact name).1 (inl ((first.exact name).1 (inr w))) | inr v ↦ (second.exact name).1 (inr v) ]
    ],
  );
}

-- what is wanted may be said in another way
pub adds_as : (W U : Name → Type 0) (before after : List Name) → Adds W before after → ((name : Name) → W name → U name) → ((name : Name) → U name → W name) → Adds U before after
adds_as W U before after adds to back = record {
  exact = λ name. (
    λ h. elim ((adds.exact name).0 h) [ inl a ↦ inl a | inr w ↦ inr (to name w) ],
    λ h. (adds.exact name).1 (elim h [ inl a ↦ inl a | inr u ↦ inr (back name u) ]),
  );
}

-- three additions, one after the other
pub adds_three : (U V W : Name → Type 0) (first second third fourth : List Name) → Adds U first second → Adds V second third → Adds W third fourth
    → Adds (λ name. U name ⊎ (V name ⊎ W name)) first fourth
adds_three U V W first second third fourth a b c =
    adds_both U (λ name. V name ⊎ W name) (λ name. U name ⊎ (V name ⊎ W name)) first second fourth a
    (adds_both V W (λ name. V name ⊎ W name) second third fourth b c (λ name h. inl h) (λ name h. inr h) (λ name h. h))
    (λ name h. inl h) (λ name h. inr h) (λ name h. h)
