-- Names of cuts, of enclosures and of distances between masks.
use Rattle.std.proofs.Common.{◌≡◌, ◌≢◌, ℕ, ◌+◌, ◌<◌, ◌≤◌, ℤ, pos, ◌-ℤ◌, ◌≤ℤ◌, ◌<ℤ◌, ◌⊎◌, inl, inr, Bool, true, false, List, [], ◌∷◌, ◌++◌, length, get_or, sym, ap, subst, subst₂, ◌∙◌, arith, refl, Option, Some}
use Rattle.std.specs.Prelude.{Contains, IsSomeAnd, All}
use Rattle.std.specs.Bool.{MatchBool}
use Rattle.std.proofs.lemmas.Int.{ints, clamps}
use Rattle.std.proofs.lemmas.Bool.{cases_eq}
use Rattle.std.proofs.lemmas.List.{get_or_default, length-map}
use Rattle.std.proofs.lemmas.Option.{slice_get-get_or}
use Rattle.std.proofs.lemmas.List.Elements.{All-from_get_or, Contains-append_left, Contains-push, Contains-push_cases}
use Rattle.rt_cells.specs.Line.{gap_of}
use Rattle.rt_near.specs.declared.near.Sides.{Sides}
use Rattle.rt_near.specs.Near.{IsInterval, no_sides}
use Rattle.rt_rows.specs.declared.positions.Positions.{Positions}
use Rattle.rt_rows.specs.Places.{places}
use Rattle.rt_rows.specs.declared.name.Name.{Name}
use Rattle.rt_rows.specs.declared.name.Name.TheVariants.{Zero, Size, Off, Inb, Int}
use Rattle.rt_rows.specs.declared.row.Var.{Var}
use Rattle.rt_rows.specs.declared.row.Var.TheVariants.{L, R}
use Rattle.rt_tech.specs.declared.table.Apart.{Apart as Distance}
use Rattle.rt_rules.specs.Pairs.{apart_at}
use Rattle.rt_strips.specs.Placed.{placed, mask_of, bottom_of, top_of}
use Rattle.rt_strips.specs.StripsOf.{AreStrips}
use Rattle.rt_strips.proofs.Placed.{strip_below}
use Rattle.rt_view.specs.declared.job.Job.{Job}
use Rattle.rt_view.specs.Job.{strips_of}
use Rattle.rt_template.specs.Between.{apart_number, AreKeptApart, AreOnTwoSides}
use Rattle.rt_template.specs.Vertical.{HaveColumns, columns_apart, IsOffAbove, RowUpwards, HasUpwards}
use Rattle.rt_template.proofs.Sides.{there_apart, there_enclose}
use Rattle.rt_between.specs.Offers.{AreOffered, AreOfferedBy, AreOfferedFor}
use Rattle.rt_between.specs.Pairing.{IsOfEither, AreNearOfTwo, HoldNearOfTwo, HoldHosts}
use Rattle.rt_between.proofs.Growing.{offered_at}
use Rattle.rt_vtemplate.specs.Apart.{StripsAreHigher, StripsAreWithin}
use Rattle.rt_vtemplate.specs.Between.{IsOfDistance, IsOfEnclosure, IsBetween, names_of_cut, names_off, names_off_at, names_in, names_in_at, HoldBetween, AreThoseAdded, AreBetweenAdded}
use Rattle.rt_vtemplate.specs.Steps.{AreColumnsOf}

within : (l r l' r' n : ℤ) → pos 0 <ℤ n → (l' -ℤ r) <ℤ n → (l -ℤ r') <ℤ n → gap_of l r l' r' <ℤ n
within l r l' r' n some first second = omega (arith, ints, clamps)

some_within : (l r l' r' n : ℤ) → gap_of l r l' r' <ℤ n → pos 0 <ℤ n
some_within l r l' r' n h = omega (arith, ints, clamps)

first_within : (l r l' r' n : ℤ) → gap_of l r l' r' <ℤ n → (l' -ℤ r) <ℤ n
first_within l r l' r' n h = omega (arith, ints, clamps)

second_within : (l r l' r' n : ℤ) → gap_of l r l' r' <ℤ n → (l -ℤ r') <ℤ n
second_within l r l' r' n h = omega (arith, ints, clamps)

no_row : (b t : ℤ) → b <ℤ t → t ≤ℤ b → ⊥
no_row b t h g = omega (arith, ints)

-- none of the offered names was looked at, one more that the template has, one that it lacks, and all of them
module _ (job : Job) (columns : Var → ℤ) (offered before : List Name) where
  pub those_none : AreThoseAdded job columns offered 0 before before
  those_none = record { kept = λ name c. c; each = λ name c. inl c; every = λ k h. absurd (none k h) }
    where
      none : (k : ℕ) → k < 0 → ⊥
      none k h = omega arith

  pub those_more : (n : ℕ) (after : List Name) (d : Name) → n < length offered → HasUpwards job columns (get_or offered n d) → AreThoseAdded job columns offered n before after
      → AreThoseAdded job columns offered (n + 1) before (after ++ get_or offered n d ∷ [])
  those_more n after d l has are = record {
    kept = λ name c. Contains-append_left after (get_or offered n d ∷ []) name (are.kept name c);
    each = λ name c. elim (Contains-push_cases after (get_or offered n d) name c) [
      | inl h ↦ are.each name h
      | inr e ↦ inr (subst (HasUpwards job columns) e has)
    ];
    every = λ k h a. elim (cases_eq k n) [
      | inl e ↦ subst (Contains (after ++ get_or offered n d ∷ [])) (get_or_default offered n d Zero l ∙ ap (λ m. get_or offered m Zero) (sym e)) (Contains-push after (get_or offered n d))
      | inr o ↦ Contains-append_left after (get_or offered n d ∷ []) _ (are.every k (omega (arith, h, o)) a)
    ];
  }

  pub those_less : (n : ℕ) (after : List Name) (d : Name) → n < length offered → (¬ HasUpwards job columns (get_or offered n d)) → AreThoseAdded job columns offered n before after
      → AreThoseAdded job columns offered (n + 1) before after
  those_less n after d l lacks are = record {
    kept = are.kept;
    each = are.each;
    every = λ k h a. elim (cases_eq k n) [
      | inl e ↦ absurd (lacks (subst (HasUpwards job columns) (ap (λ m. get_or offered m Zero) e ∙ sym (get_or_default offered n d Zero l)) a))
      | inr o ↦ are.every k (omega (arith, h, o)) a
    ];
  }

  pub those_all : (n count : ℕ) (after : List Name) → count ≤ n → AreThoseAdded job columns offered n before after → AreThoseAdded job columns offered count before after
  those_all n count after h are = record { kept = are.kept; each = are.each; every = λ k g a. are.every k (omega (arith, g, h)) a }

  has_distance : (q : ℕ) (name : Name) → IsOfDistance job columns q name → HasUpwards job columns name
  has_distance q name (IsOfDistance.off i j k) = (_, RowUpwards.off q i j k)

  has_enclosure : (q : ℕ) (name : Name) → IsOfEnclosure job q name → HasUpwards job columns name
  has_enclosure q name (IsOfEnclosure.bottom i h k) = (_, RowUpwards.inb q i h k)
  has_enclosure q name (IsOfEnclosure.top i h k) = (_, RowUpwards.int q i h k)

  has_between : (name : Name) → IsBetween job columns name → HasUpwards job columns name
  has_between name (IsBetween.size i c) = (_, RowUpwards.size i c)
  has_between name (IsBetween.distance q _ d) = has_distance q name d
  has_between name (IsBetween.enclosure q _ e) = has_enclosure q name e

  -- where the offered names hold all of cuts, distances and enclosures, all of these are added
  pub between_added : (after : List Name) → HoldBetween job columns offered → AreThoseAdded job columns offered (length offered) before after → AreBetweenAdded job columns before after
  between_added after hold are = record {
    kept = are.kept;
    each = are.each;
    every = λ name b.
        let c = hold.every name b in
        let e = get_or_default offered c.0 Zero name c.1 ∙ c.2 in
        subst (Contains after) e (are.every c.0 c.1 (subst (HasUpwards job columns) (sym e) (has_between name b)));
  }

module _ (job : Job) (columns : Var → ℤ) where
  -- of two on the sides of a distance, of which the second is higher, the columns tell whether it is off the first
  pub off_told : (q i j : ℕ) (v : Bool) → AreOnTwoSides job q i j → StripsAreHigher job i j
      → MatchBool v (StripsAreWithin job columns (apart_number job.target q) i j) (¬ StripsAreWithin job columns (apart_number job.target q) i j)
      → MatchBool v (IsOffAbove job columns q i j) (¬ IsOffAbove job columns q i j)
  off_told q i j true s h w = record { sides = s; above = h.above; near = within (columns (L i)) (columns (R i)) (columns (L j)) (columns (R j)) _ w.some w.first.behind w.second.behind }
  off_told q i j false s h n = λ off. n (record {
    some = some_within (columns (L i)) (columns (R i)) (columns (L j)) (columns (R j)) _ off.near;
    first = record { behind = first_within (columns (L i)) (columns (R i)) (columns (L j)) (columns (R j)) _ off.near };
    second = record { behind = second_within (columns (L i)) (columns (R i)) (columns (L j)) (columns (R j)) _ off.near };
  })

  -- of two of which the second isn't higher it isn't off the first
  pub off_higher : (q i j : ℕ) → (¬ StripsAreHigher job i j) → ¬ IsOffAbove job columns q i j
  off_higher q i j n off = n (record { above = off.above })

  module _ (are_strips : AreStrips (strips_of job)) (sides : List Sides) (are : AreColumnsOf job columns (length job.view.strips.list) sides) where
    below : (i : ℕ) → i < length (strips_of job) → i < length job.view.strips.list
    below i h = strip_below job.view.strips.list i (record { below_count = h })

    either : (first second : ℕ) (reach : ℤ) (i : ℕ) → i < length (strips_of job) → (mask_of (strips_of job) i ≡ first) ⊎ (mask_of (strips_of job) i ≡ second)
        → IsOfEither sides first second reach i
    either first second reach i h of = record {
      there = omega (arith, are.one_each, below i h);
      of_either = subst (λ (s : Sides). (s.group ≡ first) ⊎ (s.group ≡ second)) (sym (are.each i (below i h))) of;
    }

    near_of : (first second : ℕ) (reach : ℤ) (i j : ℕ) → i < length (strips_of job) → j < length (strips_of job)
        → (mask_of (strips_of job) i ≡ first) ⊎ (mask_of (strips_of job) i ≡ second) → (mask_of (strips_of job) j ≡ first) ⊎ (mask_of (strips_of job) j ≡ second)
        → columns_apart job columns i j <ℤ reach → AreNearOfTwo sides first second reach i j
    near_of first second reach i j h g one other near = record {
      one = either first second reach i h one;
      other = either first second reach j g other;
      near = subst₂ (λ (s t : Sides). gap_of s.low s.high t.low t.high <ℤ reach) (sym (are.each i (below i h))) (sym (are.each j (below j g))) near;
    }

    kept_near : (apart : Distance) (reach : ℤ) (i j : ℕ) → AreKeptApart job apart i j ⊎ AreKeptApart job apart j i → columns_apart job columns i j <ℤ reach
        → (i < length (strips_of job)) × AreNearOfTwo sides apart.a apart.b reach i j
    kept_near apart reach i j (inl k) near =
        (k.first.of_mask.below, near_of apart.a apart.b reach i j k.first.of_mask.below k.second.below (inl k.first.of_mask.of_mask) (inr k.second.of_mask) near)
    kept_near apart reach i j (inr k) near =
        (k.second.below, near_of apart.a apart.b reach i j k.second.below k.first.of_mask.below (inr k.second.of_mask) (inl k.first.of_mask.of_mask) near)

    off_near : (q i j : ℕ) (apart : Distance) → apart_at job.source q ≡ Some apart → IsOffAbove job columns q i j
        → (i ≢ j) × AreNearOfTwo sides apart.a apart.b (apart_number job.target q) i j
    off_near q i j apart e off =
        let on = subst (λ (o : Option Distance). IsSomeAnd o (λ a. AreKeptApart job a i j ⊎ AreKeptApart job a j i)) e off.sides in
        let near = kept_near apart (apart_number job.target q) i j on off.near in (
          λ (same : i ≡ j). no_row (bottom_of (strips_of job) i) (top_of (strips_of job) i)
              (are_strips.strips_are.nonempty i (record { below_count = near.0 })).upwards
              (subst (λ k. top_of (strips_of job) i ≤ℤ bottom_of (strips_of job) k) (sym same) off.above),
          near.1,
        )

    -- the pairs that are near in the columns tell the names of a distance
    pub distance_offered : (q : ℕ) (apart : Distance) (pairs : List (ℕ × ℕ)) (before after : List Name) → apart_at job.source q ≡ Some apart
        → HoldNearOfTwo sides apart.a apart.b (apart_number job.target q) pairs → AreOffered (names_off_at q pairs) (length pairs) before after
        → AreOfferedBy (IsOfDistance job columns q) before after
    distance_offered q apart pairs before after e hold offered = record { kept = offered.kept; offered = each }
      where
        each : (name : Name) → IsOfDistance job columns q name → Contains after name
        each name (IsOfDistance.off i j off) =
            let near = off_near q i j apart e off in
            elim (hold.every i j near.0 near.1) [
              | inl there ↦ offered_at (names_off q) pairs before after offered (i, j) (Off q i j) there (0, omega arith, refl)
              | inr there ↦ offered_at (names_off q) pairs before after offered (j, i) (Off q i j) there (1, omega arith, refl)
            ]

-- the pairs of hosts tell the names of an enclosure
pub enclosure_offered : (job : Job) (q : ℕ) (pairs : List (ℕ × ℕ)) (before after : List Name) → HoldHosts job q pairs
    → AreOffered (names_in_at q pairs) (length pairs) before after → AreOfferedBy (IsOfEnclosure job q) before after
enclosure_offered job q pairs before after hold offered = record { kept = offered.kept; offered = each }
  where
    each : (name : Name) → IsOfEnclosure job q name → Contains after name
    each name (IsOfEnclosure.bottom i h k) =
        elim (hold.every i h k.host) [
          | inl there ↦ offered_at (names_in q) pairs before after offered (i, h) (Inb q i h) there (0, omega arith, refl)
          | inr there ↦ offered_at (names_in q) pairs before after offered (h, i) (Inb q i h) there (1, omega arith, refl)
        ]
    each name (IsOfEnclosure.top i h k) =
        elim (hold.every i h k.host) [
          | inl there ↦ offered_at (names_in q) pairs before after offered (i, h) (Int q i h) there (2, omega arith, refl)
          | inr there ↦ offered_at (names_in q) pairs before after offered (h, i) (Int q i h) there (3, omega arith, refl)
        ]

-- the names of cuts, of distances and of enclosures, one kind after the other
pub hold_between : (job : Job) (columns : Var → ℤ) (count : ℕ) (a b c d : List Name) → length (strips_of job) ≤ count → AreOffered names_of_cut count a b
    → AreOfferedFor (IsOfDistance job columns) (length job.source.aparts) b c → AreOfferedFor (IsOfEnclosure job) (length job.source.encloses) c d → HoldBetween job columns d
hold_between job columns count a b c d counted cuts distances enclosures = record { every = each }
  where
    each : (name : Name) → IsBetween job columns name → Contains d name
    each name (IsBetween.size i k) = enclosures.kept (Size i) (distances.kept (Size i) (cuts.offered i (omega (arith, counted, k.strip.below_count)) (Size i) (0, omega arith, refl)))
    each name (IsBetween.distance q _ (IsOfDistance.off i j k)) = enclosures.kept (Off q i j) (distances.offered q (there_apart job q i j k.sides) (Off q i j) (IsOfDistance.off i j k))
    each name (IsBetween.enclosure q _ (IsOfEnclosure.bottom i h k)) = enclosures.offered q (there_enclose job q i h k.host) (Inb q i h) (IsOfEnclosure.bottom i h k)
    each name (IsBetween.enclosure q _ (IsOfEnclosure.top i h k)) = enclosures.offered q (there_enclose job q i h k.host) (Int q i h) (IsOfEnclosure.top i h k)

-- each strip has a column
pub all_intervals : (job : Job) (columns : Positions) → HaveColumns job columns → (sides : List Sides) → AreColumnsOf job (places columns) (length job.view.strips.list) sides
    → All IsInterval sides
all_intervals job columns have sides are = All-from_get_or IsInterval sides no_sides (λ k h.
    let below : k < length job.view.strips.list = omega (arith, h, are.one_each) in
    let there : k < length (strips_of job) = omega (arith, below, length-map job.view.strips.list placed) in
    subst IsInterval (sym (are.each k below)) (record { some = have.apart k (record { below_count = there }) }))

-- the names of the distance of a number
pub distance_added : (job : Job) (columns : Var → ℤ) → AreStrips (strips_of job) → (sides : List Sides) → AreColumnsOf job columns (length job.view.strips.list) sides
    → (q : ℕ) (aparts : List Distance) (d : Distance) (number : ℤ) (pairs : List (ℕ × ℕ)) (before after : List Name) → aparts ≡ job.source.aparts → q < length job.source.aparts
    → number ≡ apart_number job.target q → HoldNearOfTwo sides (get_or aparts q d).a (get_or aparts q d).b number pairs
    → AreOffered (names_off_at q pairs) (length pairs) before after → AreOfferedBy (IsOfDistance job columns q) before after
distance_added job columns are_strips sides are q aparts d number pairs before after list there number_is hold offered =
    let by_number : HoldNearOfTwo sides (get_or aparts q d).a (get_or aparts q d).b (apart_number job.target q) pairs =
    subst (λ (n : ℤ). HoldNearOfTwo sides (get_or aparts q d).a (get_or aparts q d).b n pairs) number_is hold in
    let own : HoldNearOfTwo sides (get_or job.source.aparts q d).a (get_or job.source.aparts q d).b (apart_number job.target q) pairs =
    subst (λ (all : List Distance). HoldNearOfTwo sides (get_or all q d).a (get_or all q d).b (apart_number job.target q) pairs) list by_number in
    distance_offered job columns are_strips sides are q (get_or job.source.aparts q d) pairs before after (slice_get-get_or job.source.aparts q d there) own offered
