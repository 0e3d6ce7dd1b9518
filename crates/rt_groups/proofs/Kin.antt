-- Items that are kin, and changes of parents that keep them so.
use Rattle.std.proofs.Common.{◌≡◌, ℕ, ◌<◌, ◌≤◌, List, length, get_or, slice_set, sym, ap, subst, ◌∙◌, refl, arith, inl, inr}
use Rattle.std.proofs.lemmas.Bool.{cases_eq}
use Rattle.std.proofs.lemmas.Grind.{get_or-set_at}
use Rattle.std.proofs.lemmas.List.{length-set, get_or-set_other}
use Rattle.rt_links.specs.Links.{AreLinked}
use Rattle.rt_links.specs.Links.AreLinked.{here, onward}
use Rattle.rt_links.proofs.Walks.{linked_both, linked_back, linked_alike}
use Rattle.rt_groups.specs.Parents.{IsParent, AreKin, PointDown, AreSingle, AreAsBefore, IsStep, AreJoined}

-- one step
pub one_step : {V : Type 0} (Join : V → V → Type 0) (u v : V) → Join u v → AreLinked Join u v
one_step {V} Join u v next = onward u v here (inl next)

-- a walk over pairs that are linked in another way
pub linked_over : {V : Type 0} (Join Join' : V → V → Type 0) → ((u v : V) → Join u v → AreLinked Join' u v) → (u v : V) → AreLinked Join u v → AreLinked Join' u v
linked_over {V} Join Join' to u v here = here
linked_over {V} Join Join' to u v (onward p _ b (inl next)) = linked_both Join' u p v (linked_over Join Join' to u p b) (to p v next)
linked_over {V} Join Join' to u v (onward p _ b (inr next)) =
    linked_both Join' u p v (linked_over Join Join' to u p b) (linked_back Join' v p (to v p next))

kin_both : (parents : List ℕ) (i j k : ℕ) → AreKin parents i j → AreKin parents j k → AreKin parents i k
kin_both parents i j k a b = linked_both (IsParent parents) i j k a b

-- an item is kin to its parent
pub kin_to_parent : (parents : List ℕ) (i : ℕ) → i < length parents → AreKin parents i (get_or parents i 0)
kin_to_parent parents i l = one_step (IsParent parents) i (get_or parents i 0) (record { there = l; parent = refl })

-- item i is kin to the parent of an item that it is kin to, by the parents after a change
pub kin_onward : (before after : List ℕ) (i at : ℕ) → at < length before → AreAsBefore before after → AreKin before i at → AreKin after i (get_or after at 0)
kin_onward before after i at l h w = kin_both after i at (get_or after at 0) ((h.same i at).0 w) (kin_to_parent after at (omega (arith, l, h.counted)))

-- items that are their own parents
pub single_down : (count : ℕ) (parents : List ℕ) → AreSingle count parents → PointDown parents
single_down count parents single = record { down = λ i l. let own = single.own i (omega (arith, l, single.counted)) in omega (arith, own) }

-- the same parents
pub as_itself : (parents : List ℕ) → PointDown parents → AreAsBefore parents parents
as_itself parents is = record { counted = refl; down = is; same = λ i j. (λ w. w, λ w. w); own = λ i l e. e }

-- one change after another
pub as_before_both : (a b c : List ℕ) → AreAsBefore a b → AreAsBefore b c → AreAsBefore a c
as_before_both a b c h k = record {
  counted = k.counted ∙ h.counted;
  down = k.down;
  same = λ i j. (λ w. (k.same i j).0 ((h.same i j).0 w), λ w. (h.same i j).1 ((k.same i j).1 w));
  own = λ i l e. k.own i (omega (arith, l, h.counted)) (h.own i l e);
}

-- item i gets the parent of its parent
module _ (parents : List ℕ) (i : ℕ) (there : i < length parents) (is : PointDown parents) where
  abbrev above : ℕ
  above = get_or parents i 0

  abbrev top : ℕ
  top = get_or parents above 0

  abbrev halved : List ℕ
  halved = slice_set parents i top

  counted : length halved ≡ length parents
  counted = length-set parents i top

  above_below : above ≤ i
  above_below = is.down i there

  above_there : above < length parents
  above_there = omega (arith, above_below, there)

  top_below : top ≤ above
  top_below = is.down above above_there

  at_item : (k : ℕ) → k ≡ i → get_or halved k 0 ≡ top
  at_item k e = get_or-set_at parents i k top 0 e there

  at_other : (k : ℕ) → (k ≡ i → ⊥) → get_or halved k 0 ≡ get_or parents k 0
  at_other k other = get_or-set_other parents i k top 0 other

  halved_step : (u v : ℕ) → IsParent parents u v → AreKin halved u v
  halved_step u v n = elim (cases_eq u i) [
    | inl e ↦
        let to_above : v ≡ above = sym (n.parent) ∙ ap (λ k. get_or parents k 0) e in
        elim (cases_eq v i) [
          | inl own ↦ subst (AreKin halved u) (e ∙ sym own) here
          | inr other ↦
              onward top v (one_step (IsParent halved) u top (record { there = omega (arith, counted, n.there); parent = at_item u e }))
              (inr (record { there = omega (arith, counted, to_above, above_there); parent = at_other v other ∙ ap (λ k. get_or parents k 0) to_above }))
        ]
    | inr other ↦ one_step (IsParent halved) u v (record { there = omega (arith, counted, n.there); parent = at_other u other ∙ n.parent })
  ]

  unhalved_step : (u v : ℕ) → IsParent halved u v → AreKin parents u v
  unhalved_step u v n = elim (cases_eq u i) [
    | inl e ↦
        let to_top : v ≡ top = sym (n.parent) ∙ at_item u e in
        onward above v (one_step (IsParent parents) u above (record { there = omega (arith, counted, n.there); parent = ap (λ k. get_or parents k 0) e }))
        (inl (record { there = above_there; parent = sym to_top }))
    | inr other ↦ one_step (IsParent parents) u v (record { there = omega (arith, counted, n.there); parent = sym (at_other u other) ∙ n.parent })
  ]

  halved_down : (k : ℕ) → k < length halved → get_or halved k 0 ≤ k
  halved_down k l = elim (cases_eq k i) [
    | inl e ↦ let f = at_item k e in omega (arith, e, f, top_below, above_below)
    | inr other ↦ let f = at_other k other in let d = is.down k (omega (arith, l, counted)) in omega (arith, f, d)
  ]

  halved_own : (k : ℕ) → k < length parents → get_or parents k 0 ≡ k → get_or halved k 0 ≡ k
  halved_own k l own = elim (cases_eq k i) [
    | inl e ↦
        let up : above ≡ k = ap (λ j. get_or parents j 0) (sym e) ∙ own in
        at_item k e ∙ (ap (λ j. get_or parents j 0) up ∙ own)
    | inr other ↦ at_other k other ∙ own
  ]

  -- the same items are kin
  pub halving : AreAsBefore parents (slice_set parents i (get_or parents (get_or parents i 0) 0))
  halving = record {
    counted = counted;
    down = record { down = halved_down };
    same = λ a b. (linked_over (IsParent parents) (IsParent halved) halved_step a b, linked_over (IsParent halved) (IsParent parents) unhalved_step a b);
    own = halved_own;
  }

-- an item that is its own parent gets another parent
module _ (parents : List ℕ) (high low : ℕ) (there : high < length parents) (below : low ≤ high) (own : get_or parents high 0 ≡ high) (is : PointDown parents) where
  abbrev linked : List ℕ
  linked = slice_set parents high low

  as_many : length linked ≡ length parents
  as_many = length-set parents high low

  at_high : (k : ℕ) → k ≡ high → get_or linked k 0 ≡ low
  at_high k e = get_or-set_at parents high k low 0 e there

  elsewhere : (k : ℕ) → (k ≡ high → ⊥) → get_or linked k 0 ≡ get_or parents k 0
  elsewhere k other = get_or-set_other parents high k low 0 other

  kept_step : (u v : ℕ) → IsParent parents u v → AreKin linked u v
  kept_step u v n = elim (cases_eq u high) [
    | inl e ↦ subst (AreKin linked u) (e ∙ (sym own ∙ (ap (λ k. get_or parents k 0) (sym e) ∙ n.parent))) here
    | inr other ↦ one_step (IsParent linked) u v (record { there = omega (arith, as_many, n.there); parent = elsewhere u other ∙ n.parent })
  ]

  other_step : (u v : ℕ) → IsParent linked u v → AreLinked (IsStep parents high low) u v
  other_step u v n = elim (cases_eq u high) [
    | inl e ↦ one_step (IsStep parents high low) u v (inr (e, sym (n.parent) ∙ at_high u e))
    | inr other ↦
        one_step (IsStep parents high low) u v (inl (record { there = omega (arith, as_many, n.there); parent = sym (elsewhere u other) ∙ n.parent }))
  ]

  linked_down : (k : ℕ) → k < length linked → get_or linked k 0 ≤ k
  linked_down k l = elim (cases_eq k high) [
    | inl e ↦ let f = at_high k e in omega (arith, e, f, below)
    | inr other ↦ let f = elsewhere k other in let d = is.down k (omega (arith, l, as_many)) in omega (arith, f, d)
  ]

  pub linking : AreJoined high low parents (slice_set parents high low)
  linking = record {
    counted = as_many;
    down = record { down = linked_down };
    kept = λ a b. linked_over (IsParent parents) (IsParent linked) kept_step a b;
    joined = one_step (IsParent linked) high low (record { there = omega (arith, as_many, there); parent = at_high high refl });
    no_other = λ a b. linked_over (IsParent linked) (IsStep parents high low) other_step a b;
  }

turned_step : (before : List ℕ) (x y u v : ℕ) → IsStep before x y u v → AreLinked (IsStep before y x) u v
turned_step before x y u v (inl n) = one_step (IsStep before y x) u v (inl n)
turned_step before x y u v (inr (e, f)) = onward u v here (inr (inr (f, e)))

-- the same two items, the other one first
pub joined_turned : (before after : List ℕ) (x y : ℕ) → AreJoined x y before after → AreJoined y x before after
joined_turned before after x y h = record {
  counted = h.counted;
  down = h.down;
  kept = h.kept;
  joined = linked_back (IsParent after) x y h.joined;
  no_other = λ i j w. linked_over (IsStep before x y) (IsStep before y x) (turned_step before x y) i j (h.no_other i j w);
}

-- items that are kin to two that are joined are joined
module _ (before mid after : List ℕ) (x y a b : ℕ) (alike : AreAsBefore before mid) (h : AreJoined x y mid after) (to_x : AreKin mid a x) (to_y : AreKin mid b y) where
  stepping : (u v : ℕ) → AreKin mid u v → AreLinked (IsStep before a b) u v
  stepping u v w = linked_alike (IsParent before) (IsStep before a b) (λ s t n. inl n) u v ((alike.same u v).1 w)

  joining_step : (u v : ℕ) → IsStep mid x y u v → AreLinked (IsStep before a b) u v
  joining_step u v (inl n) = stepping u v (one_step (IsParent mid) u v n)
  joining_step u v (inr (e, f)) =
      subst (λ s. AreLinked (IsStep before a b) s v) (sym e)
      (subst (λ t. AreLinked (IsStep before a b) x t) (sym f)
      (linked_both (IsStep before a b) x a y (linked_back (IsStep before a b) a x (stepping a x to_x))
      (linked_both (IsStep before a b) a b y (one_step (IsStep before a b) a b (inr (refl, refl))) (stepping b y to_y))))

  pub joined_of : AreJoined a b before after
  joined_of = record {
    counted = h.counted ∙ alike.counted;
    down = h.down;
    kept = λ i j w. h.kept i j ((alike.same i j).0 w);
    joined = kin_both after a x b (h.kept a x to_x) (kin_both after x y b h.joined (linked_back (IsParent after) b y (h.kept b y to_y)));
    no_other = λ i j w. linked_over (IsStep mid x y) (IsStep before a b) joining_step i j (h.no_other i j w);
  }
