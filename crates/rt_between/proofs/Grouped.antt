-- Intervals of two groups, in one group.
use Rattle.std.proofs.Common.{◌≡◌, ℕ, ◌<◌, ℤ, pos, ◌<ℤ◌, ◌⊎◌, inl, inr, Bool, true, false, ◌||◌, ◌==◌, cond, List, [], ◌∷◌, length, map, get_or, refl, sym, ap, subst, subst₂, ◌∙◌, arith}
use Rattle.std.specs.Prelude.{All, Contains}
use Rattle.std.proofs.lemmas.Bool.{cases_order}
use Rattle.std.proofs.lemmas.List.{get_or-map, length-map}
use Rattle.std.proofs.lemmas.List.Elements.{All-weaker, All-contains_itself}
use Rattle.rt_cells.specs.Line.{gap_of}
use Rattle.rt_cells.proofs.Lines.{gap_back}
use Rattle.rt_near.specs.declared.near.Sides.{Sides}
use Rattle.rt_near.specs.Near.{IsInterval, no_sides, AreNear, ListsNearPairs}
use Rattle.rt_between.specs.Pairing.{is_of_two, grouped_side, IsOfEither, AreNearOfTwo, ArePaired, HoldNearOfTwo}

same_test : (m n : ℕ) → m ≡ n → (m == n) ≡ true
same_test m n h = grind (arith, h)

either_first : (b : Bool) → (true || b) ≡ true
either_first b = refl

either_second : (a : Bool) → (a || true) ≡ true
either_second true = refl
either_second false = refl

of_two : (first second group : ℕ) → (group ≡ first) ⊎ (group ≡ second) → is_of_two first second group ≡ true
of_two first second group (inl e) = ap (λ b. b || (group == second)) (same_test group first e)
of_two first second group (inr e) = ap (λ b. (group == first) || b) (same_test group second e) ∙ either_second (group == first)

-- intervals of one group are near, by what is read of them
pub near_sides : (sides : List Sides) (reaches : List ℤ) (i j : ℕ) (p q : Sides) → get_or sides i no_sides ≡ p → get_or sides j no_sides ≡ q → i < j → j < length sides
    → p.group ≡ q.group → p.group < length reaches → gap_of p.low p.high q.low q.high <ℤ get_or reaches p.group (pos 0) → AreNear sides reaches i j
near_sides sides reaches i j p q e f h g one group near = record {
  ordered = h;
  there = g;
  one_group = subst₂ (λ (s t : Sides). s.group ≡ t.group) (sym e) (sym f) one;
  group = subst (λ (s : Sides). s.group < length reaches) (sym e) group;
  near = subst₂ (λ (s t : Sides). gap_of s.low s.high t.low t.high <ℤ get_or reaches s.group (pos 0)) (sym e) (sym f) near;
}

module _ (sides : List Sides) (first second : ℕ) (reach : ℤ) where
  abbrev pub grouped : List Sides
  grouped = map (grouped_side first second) sides

  -- each of them has a place
  pub all_grouped : All IsInterval sides → All IsInterval grouped
  all_grouped all k d h =
      let l : k < length sides = omega (arith, h, length-map sides (grouped_side first second)) in
      subst IsInterval (sym (get_or-map (grouped_side first second) sides k no_sides d l)) (record { some = (all k no_sides l).some })

  in_group : (i : ℕ) → IsOfEither sides first second reach i
      → get_or grouped i no_sides ≡ record { group = 0; low = (get_or sides i no_sides).low; high = (get_or sides i no_sides).high }
  in_group i e =
      get_or-map (grouped_side first second) sides i no_sides no_sides e.there
      ∙ ap (λ (b : Bool). to_side b) (of_two first second (get_or sides i no_sides).group e.of_either)
    where
      to_side : Bool → Sides
      to_side b = record { group = cond b 0 1; low = (get_or sides i no_sides).low; high = (get_or sides i no_sides).high }

  -- two that are near are near in the one group
  near_grouped : (i j : ℕ) → i < j → AreNearOfTwo sides first second reach i j → AreNear grouped (reach ∷ []) i j
  near_grouped i j h n =
      near_sides grouped (reach ∷ []) i j _ _ (in_group i n.one) (in_group j n.other) h
      (omega (arith, n.other.there, length-map sides (grouped_side first second))) refl (omega arith) n.near

  turned : (i j : ℕ) → AreNearOfTwo sides first second reach i j → AreNearOfTwo sides first second reach j i
  turned i j n = record {
    one = n.other;
    other = n.one;
    near = gap_back (get_or sides i no_sides).low (get_or sides i no_sides).high (get_or sides j no_sides).low (get_or sides j no_sides).high _ n.near;
  }

  paired : (pairs : List (ℕ × ℕ)) → ListsNearPairs grouped (reach ∷ []) pairs → (p : ℕ × ℕ) → Contains pairs p → ArePaired sides first second reach p
  paired pairs lists p c =
      let n = (lists.exact p.0 p.1).0 c in
      record {
        first_there = omega (arith, n.ordered, n.there, length-map sides (grouped_side first second));
        second_there = omega (arith, n.there, length-map sides (grouped_side first second));
      }

  -- so the near pairs of the one group hold those of the two
  pub hold_of_two : (pairs : List (ℕ × ℕ)) → ListsNearPairs grouped (reach ∷ []) pairs → HoldNearOfTwo sides first second reach pairs
  hold_of_two pairs lists = record {
    there = All-weaker (Contains pairs) (ArePaired sides first second reach) (paired pairs lists) pairs (All-contains_itself pairs);
    every = λ i j other n. elim (cases_order i j) [
      | inl e ↦ absurd (other e)
      | inr (inl h) ↦ inl ((lists.exact i j).1 (near_grouped i j h n))
      | inr (inr h) ↦ inr ((lists.exact j i).1 (near_grouped j i h (turned i j n)))
    ];
  }
