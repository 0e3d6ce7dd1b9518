-- Which strips are climbed from which, filled in meeting by meeting.
use Rattle.std.proofs.Common.{◌≡◌, ℕ, ◌+◌, ◌*◌, ◌<◌, ◌≤◌, ◌==◌, ◌⊎◌, ℤ, ◌<ℤ◌, Bool, true, false, List, length, map, get_or, set, refl, sym, ap, subst, ◌∙◌, arith, inl, inr}
use Rattle.std.specs.Bool.{MatchBool}
use Rattle.std.proofs.lemmas.Int.{ints}
use Rattle.std.proofs.lemmas.Bool.{cases_eq, cases_order}
use Rattle.std.proofs.lemmas.Bool.Decides.{nat_tests}
use Rattle.std.proofs.lemmas.List.{get_or_default}
use Rattle.rt_strips.specs.declared.listing.Strip.{Strip}
use Rattle.rt_strips.specs.declared.meeting.Meeting.{Meeting}
use Rattle.rt_strips.specs.Placed.{Placed, placed, mask_of, left_of, bottom_of, top_of}
use Rattle.rt_strips.specs.Standing.{StandsOn, IsClimbed}
use Rattle.rt_strips.specs.Standing.IsClimbed.{step, onward}
use Rattle.rt_strips.specs.StripsOf.{AreStrips}
use Rattle.rt_strips.specs.Meetings.{AreMeetingsOf}
use Rattle.rt_strips.specs.Table.{bit_of, IsSet, IsJoined, IsJoinedFor, AreRowsOf}
use Rattle.rt_strips.specs.Table.IsJoinedFor.{stands, stands_not}
use Rattle.rt_strips.proofs.Marks.{standing_seam}

-- what the first so many meetings tell has been filled in
pub record AreClimbsSoFar (strips : List Placed) (found : List Meeting) (width n : ℕ) (words : List ℕ) : Type 0 where
  pub rows : length words ≡ length strips * width
  pub sound : (i j : ℕ) → i < length strips → j < length strips → IsSet width words i j → IsClimbed strips i j
  pub direct : (k : ℕ) (d : Meeting) → k < n → k < length found → StandsOn strips (get_or found k d).below (get_or found k d).above
      → IsSet width words (get_or found k d).below (get_or found k d).above
  pub along : (k : ℕ) (d : Meeting) → k < n → k < length found → StandsOn strips (get_or found k d).below (get_or found k d).above
      → (i : ℕ) → IsClimbed strips i (get_or found k d).below → IsSet width words i (get_or found k d).above

-- a climb begins at a strip
pub starts_at_strip : (strips : List Placed) (i j : ℕ) → IsClimbed strips i j → i < length strips
starts_at_strip strips i j (step _ s) = s.strips_of_one_mask.first.below_count
starts_at_strip strips i j (onward k _ c s) = starts_at_strip strips i k c

no_order : (a b : ℕ) (t u v : ℤ) (l l' : ℤ) (m n : ℕ) → m ≡ n → t ≡ u → v <ℤ t
    → (n < m) ⊎ ((n ≡ m) × ((u <ℤ v) ⊎ ((u ≡ v) × (l <ℤ l')))) → ⊥
no_order a b t u v l l' m n e f h (inl g) = omega (arith, e, g)
no_order a b t u v l l' m n e f h (inr (_, inl g)) = omega (arith, ints, f, h, g)
no_order a b t u v l l' m n e f h (inr (_, inr (g, _))) = omega (arith, ints, f, h, g)

same_height : (t u v : ℤ) → t ≡ u → u ≡ v → v <ℤ t → ⊥
same_height t u v e f h = omega (arith, ints)

-- a strip comes before one that stands on it
pub stands_later : (strips : List Placed) → AreStrips strips → (i j : ℕ) → StandsOn strips i j → i < j
stands_later strips are i j s =
    let one = s.strips_of_one_mask in
    let high = (are.strips_are.nonempty i one.first).upwards in
    elim (cases_order i j) [
      | inl e ↦ absurd (same_height (top_of strips i) (bottom_of strips j) (bottom_of strips i) s.adjoin (ap (bottom_of strips) (sym e)) high)
      | inr (inl l) ↦ l
      | inr (inr l) ↦ absurd (no_order i j (top_of strips i) (bottom_of strips j) (bottom_of strips i) (left_of strips j) (left_of strips i) (mask_of strips i) (mask_of strips j)
          one.one_mask s.adjoin high (are.strips_are.in_order j i l one.first))
    ]

module _ (strips : List Placed) (are : AreStrips strips) (found : List Meeting) (all : AreMeetingsOf strips found) (width n : ℕ) (wide : length strips < width * 64)
    (d : Meeting) (there : n < length found) (before : List ℕ) (so_far : AreClimbsSoFar strips found width n before) where
  abbrev below : ℕ
  below = (get_or found n d).below

  abbrev above : ℕ
  above = (get_or found n d).above

  -- a strip under the lower strip of the meeting was met before
  earlier : (i : ℕ) → below < above → StandsOn strips i below → (k : ℕ) × (k < n) × (k < length found) × (get_or found k (record { below = i; above = below }) ≡ record { below = i; above = below })
  earlier i order s =
      let m : Meeting = record { below = i; above = below } in
      let c = all.every i below (standing_seam strips i below s) in
      (c.0, before_now c.0 c.1 (ap (λ (t : Meeting). t.above) (get_or_default found c.0 d m c.1 ∙ c.2)), c.1, c.2)
    where
      not_below_itself : (b a : ℕ) → a ≡ b → b < a → ⊥
      not_below_itself b a e h = omega (arith, e, h)

      not_above : (a c b : ℕ) → a ≤ c → c ≡ b → b < a → ⊥
      not_above a c b h e g = omega (arith, h, e, g)

      before_now : (k : ℕ) → k < length found → (get_or found k d).above ≡ below → k < n
      before_now k l e =
          elim (cases_order k n) [
            | inl same ↦ absurd (not_below_itself below above (ap (λ i. (get_or found i d).above) (sym same) ∙ e) order)
            | inr (inl h) ↦ h
            | inr (inr h) ↦ absurd (not_above (get_or found n d).above (get_or found k d).above below (all.upwards n k d h l) e order)
          ]

  -- so the row of the lower strip is full
  full_below : (i : ℕ) → below < above → IsClimbed strips i below → IsSet width before i below
  full_below i order (step _ s) =
      let t = earlier i order s in
      let m : Meeting = record { below = i; above = below } in
      subst (λ (t : Meeting). IsSet width before t.below t.above) t.3 (so_far.direct t.0 m t.1 t.2 (subst (λ (t : Meeting). StandsOn strips t.below t.above) (sym t.3) s))
  full_below i order (onward k _ c s) =
      let t = earlier k order s in
      let m : Meeting = record { below = k; above = below } in
      subst (λ (t : Meeting). IsSet width before i t.above) t.3 (so_far.along t.0 m t.1 t.2 (subst (λ (t : Meeting). StandsOn strips t.below t.above) (sym t.3) s)
      i (subst (λ (t : Meeting). IsClimbed strips i t.below) (sym t.3) c))

  within : (i : ℕ) → i < length strips → i < width * 64
  within i h = omega (arith, h, wide)

  same_meeting : (k : ℕ) (e : Meeting) → k ≡ n → get_or found n d ≡ get_or found k e
  same_meeting k e same = get_or_default found n d e there ∙ ap (λ i. get_or found i e) (sym same)

  module _ (after : List ℕ) (s : StandsOn strips below above) (join : IsJoined width below above before after) where
    order : below < above
    order = stands_later strips are below above s

    sound_after : (i j : ℕ) → i < length strips → j < length strips → IsSet width after i j → IsClimbed strips i j
    sound_after i j h g set =
        elim (cases_eq j above) [
          | inl e ↦ subst (IsClimbed strips i) (sym e) (sound_above i h (subst (λ k. IsSet width after i k) e set))
          | inr other ↦ so_far.sound i j h g (join.others i j (within i h) other set)
        ]
      where
        sound_above : (i : ℕ) → i < length strips → IsSet width after i above → IsClimbed strips i above
        sound_above i h set =
            elim (join.comes_from i (within i h) set) [
              | inl t ↦ so_far.sound i above h s.strips_of_one_mask.second.below_count t
              | inr (inl t) ↦ onward below above (so_far.sound i below h s.strips_of_one_mask.first.below_count t) s
              | inr (inr e) ↦ subst (λ k. IsClimbed strips k above) (sym e) (step above s)
            ]

    joined_more : AreClimbsSoFar strips found width (n + 1) after
    joined_more = record {
      rows = join.same_length ∙ so_far.rows;
      sound = sound_after;
      direct = λ k e h l t. elim (cases_eq k n) [
        | inl same ↦ subst (λ (m : Meeting). IsSet width after m.below m.above) (same_meeting k e same) join.here
        | inr other ↦ join.kept _ _ (within _ t.strips_of_one_mask.first.below_count) (so_far.direct k e (omega (arith, h, other)) l t)
      ];
      along = λ k e h l t i c. elim (cases_eq k n) [
        | inl same ↦ subst (λ (m : Meeting). IsSet width after i m.above) (same_meeting k e same)
            (join.taken i (within i (starts_at_strip strips i _ c)) (full_below i order (subst (λ (m : Meeting). IsClimbed strips i m.below) (sym (same_meeting k e same)) c)))
        | inr other ↦ join.kept i _ (within i (starts_at_strip strips i _ c)) (so_far.along k e (omega (arith, h, other)) l t i c)
      ];
    }

  left_more : (¬ StandsOn strips below above) → AreClimbsSoFar strips found width (n + 1) before
  left_more none = record {
    rows = so_far.rows;
    sound = so_far.sound;
    direct = λ k e h l t. elim (cases_eq k n) [
      | inl same ↦ absurd (none (subst (λ (m : Meeting). StandsOn strips m.below m.above) (sym (same_meeting k e same)) t))
      | inr other ↦ so_far.direct k e (omega (arith, h, other)) l t
    ];
    along = λ k e h l t i c. elim (cases_eq k n) [
      | inl same ↦ absurd (none (subst (λ (m : Meeting). StandsOn strips m.below m.above) (sym (same_meeting k e same)) t))
      | inr other ↦ so_far.along k e (omega (arith, h, other)) l t i c
    ];
  }

  -- one more meeting is filled in
  pub climbs_more : (after : List ℕ) → IsJoinedFor strips width (get_or found n d) before after → AreClimbsSoFar strips found width (n + 1) after
  climbs_more after (stands s join) = joined_more after s join
  climbs_more after (stands_not none is) = subst (AreClimbsSoFar strips found width (n + 1)) (sym is) (left_more none)

-- where all meetings are filled in, the rows are exact
pub all_climbs : (strips : List Placed) (found : List Meeting) (width n : ℕ) (words : List ℕ) → AreMeetingsOf strips found → length found ≤ n → AreClimbsSoFar strips found width n words
    → AreRowsOf strips width words
all_climbs strips found width n words all over so_far = record { rows = so_far.rows; exact = λ i j h g. by_bit i j h g (bit_of width words i j == 1) refl }
  where
    climbed_set : (i j : ℕ) → IsClimbed strips i j → IsSet width words i j
    climbed_set i j (step _ s) =
        let m : Meeting = record { below = i; above = j } in
        let c = all.every i j (standing_seam strips i j s) in
        subst (λ (t : Meeting). IsSet width words t.below t.above) c.2
        (so_far.direct c.0 m (omega (arith, c.1, over)) c.1 (subst (λ (t : Meeting). StandsOn strips t.below t.above) (sym c.2) s))
    climbed_set i j (onward k _ climb s) =
        let m : Meeting = record { below = k; above = j } in
        let c = all.every k j (standing_seam strips k j s) in
        subst (λ (t : Meeting). IsSet width words i t.above) c.2
        (so_far.along c.0 m (omega (arith, c.1, over)) c.1 (subst (λ (t : Meeting). StandsOn strips t.below t.above) (sym c.2) s) i
        (subst (λ (t : Meeting). IsClimbed strips i t.below) (sym c.2) climb))

    bit_is_one : (b : ℕ) → (b == 1) ≡ true → b ≡ 1
    bit_is_one b e = grind (arith, nat_tests)

    bit_is_none : (b : ℕ) → (b == 1) ≡ false → b ≡ 1 → ⊥
    bit_is_none b e f = grind (arith, nat_tests)

    by_bit : (i j : ℕ) → i < length strips → j < length strips → (v : Bool) → (bit_of width words i j == 1) ≡ v → MatchBool v (IsClimbed strips i j) (¬ IsClimbed strips i j)
    by_bit i j h g true e = so_far.sound i j h g (record { set = bit_is_one (bit_of width words i j) e })
    by_bit i j h g false e = λ c. bit_is_none (bit_of width words i j) e (climbed_set i j c).set

-- a meeting's upper strip stands behind the lower one
pub meeting_order : (strips : List Strip) → AreStrips (map placed strips) → (m : Meeting) → StandsOn (map placed strips) m.below m.above → m.below < m.above
meeting_order strips are m s = stands_later (map placed strips) are m.below m.above s
