-- Pairs that are joined one after another, and the groups that are left.
use Rattle.std.proofs.Common.{◌≡◌, ℕ, ◌+◌, ◌<◌, List, [], ◌∷◌, ◌++◌, length, get_or, take, Contains, sym, ap, subst, ◌∙◌, refl, arith, inl, inr}
use Rattle.std.proofs.lemmas.List.{take_more}
use Rattle.std.proofs.lemmas.List.Elements.{Contains-push, Contains-push_cases, Contains-append_left}
use Rattle.rt_links.specs.Links.AreLinked.{here, onward}
use Rattle.rt_links.proofs.Walks.{linked_both, linked_back, linked_alike}
use Rattle.rt_groups.specs.Groups.{IsPair, AreLinkedBy, AreGroups}
use Rattle.rt_groups.specs.Parents.{IsParent, AreKin, AreSingle, AreParentsOf, AreAsBefore, IsStep, AreJoined, AreFlat}
use Rattle.rt_groups.proofs.Kin.{one_step, linked_over, kin_to_parent}

none_in_nothing : (x : ℕ × ℕ) → Contains [] x → ⊥
none_in_nothing x (k, l, e) = omega (arith, l)

-- before the first pair each item is kin to itself alone
pub single_parents : (count : ℕ) (parents : List ℕ) → AreSingle count parents → AreParentsOf [] parents
single_parents count parents single = record {
  same = λ i j. (
    λ w. linked_over (IsParent parents) (IsPair [])
        (λ u v n. subst (AreLinkedBy [] u) (sym (single.own u (omega (arith, n.there, single.counted))) ∙ n.parent) here) i j w,
    λ w. linked_over (IsPair []) (IsParent parents) (λ u v c. absurd (none_in_nothing (u, v) c)) i j w,
  );
}

module _ (xs : List (ℕ × ℕ)) (a b : ℕ) (before after : List ℕ) (are : AreParentsOf xs before) (h : AreJoined a b before after) where
  abbrev more : List (ℕ × ℕ)
  more = xs ++ (a, b) ∷ []

  to_pairs : (u v : ℕ) → IsStep before a b u v → AreLinkedBy more u v
  to_pairs u v (inl n) =
      linked_alike (IsPair xs) (IsPair more) (λ s t c. Contains-append_left xs ((a, b) ∷ []) (s, t) c) u v ((are.same u v).0 (one_step (IsParent before) u v n))
  to_pairs u v (inr (e, f)) =
      one_step (IsPair more) u v
      (subst (λ s. Contains more (s, v)) (sym e) (subst (λ t. Contains more (a, t)) (sym f) (Contains-push xs (a, b))))

  to_kin : (u v : ℕ) → IsPair more u v → AreKin after u v
  to_kin u v c = elim (Contains-push_cases xs (a, b) (u, v) c) [
    | inl old ↦ h.kept u v ((are.same u v).1 (one_step (IsPair xs) u v old))
    | inr e ↦ subst (λ (p : ℕ × ℕ). AreKin after p.0 p.1) e h.joined
  ]

  -- one pair more
  pub pair_joined : AreParentsOf (xs ++ (a, b) ∷ []) after
  pair_joined = record {
    same = λ i j. (
      λ w. linked_over (IsStep before a b) (IsPair more) to_pairs i j (h.no_other i j w),
      λ w. linked_over (IsPair more) (IsParent after) to_kin i j w,
    );
  }

-- pair number n of the list more
pub pair_more : (pairs : List (ℕ × ℕ)) (n : ℕ) (d : ℕ × ℕ) (before after : List ℕ) → n < length pairs → AreParentsOf (take n pairs) before
    → AreJoined (get_or pairs n d).0 (get_or pairs n d).1 before after → AreParentsOf (take (n + 1) pairs) after
pair_more pairs n d before after l are h =
    subst (λ xs. AreParentsOf xs after) (sym (take_more pairs n d l)) (pair_joined (take n pairs) (get_or pairs n d).0 (get_or pairs n d).1 before after are h)

-- in flat parents kin have one parent
one_parent : (parents : List ℕ) → AreFlat (length parents) parents → (i j : ℕ) → AreKin parents i j → get_or parents i 0 ≡ get_or parents j 0
one_parent parents is i j here = refl
one_parent parents is i j (onward k _ w (inl n)) =
    one_parent parents is i k w ∙ (sym (is.flat k n.there) ∙ ap (λ t. get_or parents t 0) n.parent)
one_parent parents is i j (onward k _ w (inr n)) =
    one_parent parents is i k w ∙ (ap (λ t. get_or parents t 0) (sym n.parent) ∙ is.flat j n.there)

-- flat parents are groups
pub flat_groups : (count : ℕ) (pairs : List (ℕ × ℕ)) (parents flat : List ℕ) → length parents ≡ count → AreParentsOf pairs parents → AreAsBefore parents flat
    → AreFlat (length parents) flat → AreGroups count pairs flat
flat_groups count pairs parents flat counted are alike is =
    let all : AreFlat (length flat) flat = subst (λ n. AreFlat n flat) (sym alike.counted) is in
    let as_many : length flat ≡ count = alike.counted ∙ counted in
    record {
      counted = as_many;
      below = λ i l. let d = alike.down.down i (omega (arith, l, as_many)) in omega (arith, l, d);
      same = λ i j l m. (
        λ e. (are.same i j).0 ((alike.same i j).1
            (linked_both (IsParent flat) i (get_or flat i 0) j (kin_to_parent flat i (omega (arith, l, as_many)))
            (subst (λ t. AreKin flat t j) (sym e) (linked_back (IsParent flat) j (get_or flat j 0) (kin_to_parent flat j (omega (arith, m, as_many))))))),
        λ w. one_parent flat all i j ((alike.same i j).0 ((are.same i j).1 w)),
      );
    }
