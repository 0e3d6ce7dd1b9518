-- Strips that touch others, marked meeting by meeting; and those that touch none, one by one.
use Rattle.std.proofs.Common.{◌≡◌, ℕ, zero, suc, ◌+◌, ◌<◌, ◌≤◌, ℤ, ◌≤ℤ◌, ◌<ℤ◌, ◌⊎◌, Bool, true, false, List, [], ◌∷◌, ◌++◌, length, map, get_or, set, refl, sym, ap, subst, ◌∙◌, arith, inl, inr}
use Rattle.std.specs.Prelude.{Contains}
use Rattle.std.specs.Bool.{MatchBool}
use Rattle.std.specs.Int.{int_max, int_min}
use Rattle.std.proofs.lemmas.Int.{ints, clamps}
use Rattle.std.proofs.lemmas.Bool.{cases_eq}
use Rattle.std.proofs.lemmas.List.{length-set, get_or-set_same, get_or-set_other, get_or_default, append_assoc, map_push, length-map}
use Rattle.std.proofs.lemmas.List.Elements.{All-push, All-weaker, Contains-append_left, Contains-push}
use Rattle.std.proofs.lemmas.List.Quantifiers.{all_pairs_push}
use Rattle.rt_cells.specs.Rectangles.{Rectangle, Covers}
use Rattle.rt_strips.specs.declared.listing.Strip.{Strip}
use Rattle.rt_strips.specs.declared.meeting.Meeting.{Meeting}
use Rattle.rt_strips.specs.declared.tally.Tally.{Tally}
use Rattle.rt_strips.specs.Placed.{Placed, placed, strip_at, mask_of, left_of, right_of}
use Rattle.rt_strips.specs.Standing.{IsStrip, StandsOn, Touch}
use Rattle.rt_strips.specs.StripsOf.{AreStripsOf, AreStrips}
use Rattle.rt_strips.specs.Seams.{IsSeam}
use Rattle.rt_strips.specs.OneMask.{AreAllStrips}
use Rattle.rt_strips.specs.Meetings.{AreMeetingsOf}
use Rattle.rt_strips.specs.Untouched.{IsInPiece, IsTouched, AreMarks, AreMarkedFor, AddsUntouched}
use Rattle.rt_strips.specs.Untouched.AreMarkedFor.{both_marked, not_marked}
use Rattle.rt_strips.specs.Tallies.{at_mask, IsTallyOf, AddsStrips, AddsOne}
use Rattle.rt_strips.proofs.Appended.{only_on, at_number, one_mask_strips}
use Rattle.rt_strips.proofs.Untouched.{pieces_strips, pieces_on_mask}
use Rattle.rt_strips.proofs.Family.{box_of, are_strips}
use Rattle.rt_strips.proofs.PieceStrips.{in_piece_along}
use Rattle.rt_strips.proofs.Roles.{adds_along}

-- a strip that stands on another meets it
pub standing_seam : (strips : List Placed) (i j : ℕ) → StandsOn strips i j → IsSeam strips i j
standing_seam strips i j s = record { one_mask = s.strips_of_one_mask; adjoin = s.adjoin; first = ends.0; second = ends.1 }
  where
    columns : (l r l' r' : ℤ) → int_max l l' <ℤ int_min r r' → (l ≤ℤ r') × (l' ≤ℤ r)
    columns l r l' r' h = (omega (arith, ints, clamps), omega (arith, ints, clamps))

    ends : (left_of strips i ≤ℤ right_of strips j) × (left_of strips j ≤ℤ right_of strips i)
    ends = columns (left_of strips i) (right_of strips i) (left_of strips j) (right_of strips j) s.over.common

-- the first so many meetings are marked
pub record AreMarksSoFar (strips : List Placed) (found : List Meeting) (n : ℕ) (marks : List Bool) : Type 0 where
  pub count : length marks ≡ length strips
  pub each : (i : ℕ) → i < length strips → get_or marks i false ≡ true → IsTouched strips i
  pub marked : (k : ℕ) (d : Meeting) → k < n → k < length found → StandsOn strips (get_or found k d).below (get_or found k d).above
      → (get_or marks (get_or found k d).below false ≡ true) × (get_or marks (get_or found k d).above false ≡ true)

set_here : (marks : List Bool) (i : ℕ) → get_or marks i false ≡ true → get_or (set marks i true) i false ≡ true
set_here [] i h = h
set_here (b ∷ marks) zero h = refl
set_here (b ∷ marks) (suc i) h = set_here marks i h

set_stays : (marks : List Bool) (i a : ℕ) → get_or marks i false ≡ true → get_or (set marks a true) i false ≡ true
set_stays marks i a h =
    elim (cases_eq i a) [
      | inl e ↦ subst (λ n. get_or (set marks n true) i false ≡ true) e (set_here marks i h)
      | inr n ↦ get_or-set_other marks a i true false n ∙ h
    ]

set_from : (marks : List Bool) (i a : ℕ) → get_or (set marks a true) i false ≡ true → (i ≡ a) ⊎ (get_or marks i false ≡ true)
set_from marks i a h =
    elim (cases_eq i a) [
      | inl e ↦ inl e
      | inr n ↦ inr (sym (get_or-set_other marks a i true false n) ∙ h)
    ]

module _ (strips : List Placed) (found : List Meeting) (n : ℕ) (d : Meeting) (below : n < length found) (before : List Bool) (so_far : AreMarksSoFar strips found n before) where
  touched_now : (meeting : Meeting) → StandsOn strips meeting.below meeting.above → (i : ℕ) → i < length strips
      → get_or (set (set before meeting.below true) meeting.above true) i false ≡ true → IsTouched strips i
  touched_now meeting s i h e =
      elim (set_from (set before meeting.below true) i meeting.above e) [
        | inl a ↦ record { other = meeting.below; touch = inr (subst (λ k. StandsOn strips meeting.below k) (sym a) s) }
        | inr f ↦ elim (set_from before i meeting.below f) [
          | inl b ↦ record { other = meeting.above; touch = inl (subst (λ k. StandsOn strips k meeting.above) (sym b) s) }
          | inr g ↦ so_far.each i h g
        ]
      ]

  stays : (a b i : ℕ) → get_or before i false ≡ true → get_or (set (set before a true) b true) i false ≡ true
  stays a b i h = set_stays (set before a true) i b (set_stays before i a h)

  same_meeting : (k : ℕ) (e : Meeting) → k ≡ n → get_or found n d ≡ get_or found k e
  same_meeting k e same = get_or_default found n d e below ∙ ap (λ i. get_or found i e) (sym same)

  both_now : (s : StandsOn strips (get_or found n d).below (get_or found n d).above)
      → AreMarksSoFar strips found (n + 1) (set (set before (get_or found n d).below true) (get_or found n d).above true)
  both_now s =
      let a = (get_or found n d).below in
      let b = (get_or found n d).above in
      let low : get_or (set (set before a true) b true) a false ≡ true =
      set_stays (set before a true) a b (get_or-set_same before a true false (subst (λ l. a < l) (sym so_far.count) s.strips_of_one_mask.first.below_count)) in
      let high : get_or (set (set before a true) b true) b false ≡ true =
      get_or-set_same (set before a true) b true false (subst (λ l. b < l) (sym (length-set before a true ∙ so_far.count)) s.strips_of_one_mask.second.below_count) in
      record {
        count = length-set (set before a true) b true ∙ length-set before a true ∙ so_far.count;
        each = touched_now (get_or found n d) s;
        marked = λ k e h l t. elim (cases_eq k n) [
          | inl same ↦ subst (λ (m : Meeting). (get_or (set (set before a true) b true) m.below false ≡ true) × (get_or (set (set before a true) b true) m.above false ≡ true))
              (same_meeting k e same) (low, high)
          | inr other ↦
              let u = so_far.marked k e (omega (arith, h, other)) l t in
              (stays a b (get_or found k e).below u.0, stays a b (get_or found k e).above u.1)
        ];
      }

  none_now : (¬ StandsOn strips (get_or found n d).below (get_or found n d).above) → AreMarksSoFar strips found (n + 1) before
  none_now none = record {
    count = so_far.count;
    each = so_far.each;
    marked = λ k e h l t. elim (cases_eq k n) [
      | inl same ↦ absurd (none (subst (λ (m : Meeting). StandsOn strips m.below m.above) (sym (same_meeting k e same)) t))
      | inr other ↦ so_far.marked k e (omega (arith, h, other)) l t
    ];
  }

  -- one more meeting is marked
  pub marked_more : (after : List Bool) → AreMarkedFor strips (get_or found n d) before after → AreMarksSoFar strips found (n + 1) after
  marked_more after (both_marked s is) = subst (AreMarksSoFar strips found (n + 1)) (sym is) (both_now s)
  marked_more after (not_marked none is) = subst (AreMarksSoFar strips found (n + 1)) (sym is) (none_now none)

-- all meetings are marked
pub all_marked : (strips : List Placed) (found : List Meeting) (n : ℕ) (marks : List Bool) → AreMeetingsOf strips found → length found ≤ n → AreMarksSoFar strips found n marks → AreMarks strips marks
all_marked strips found n marks are all so_far = record { count = so_far.count; each = λ i h. by_mark i h (get_or marks i false) refl }
  where
    pair_marked : (i j : ℕ) → StandsOn strips i j → (get_or marks i false ≡ true) × (get_or marks j false ≡ true)
    pair_marked i j s =
        let m : Meeting = record { below = i; above = j } in
        let c = are.every i j (standing_seam strips i j s) in
        subst (λ (t : Meeting). (get_or marks t.below false ≡ true) × (get_or marks t.above false ≡ true)) c.2
        (so_far.marked c.0 m (omega (arith, c.1, all)) c.1 (subst (λ (t : Meeting). StandsOn strips t.below t.above) (sym c.2) s))

    mark_of : (i j : ℕ) → Touch strips i j → get_or marks i false ≡ true
    mark_of i j (inl s) = (pair_marked i j s).0
    mark_of i j (inr s) = (pair_marked j i s).1

    unmarked : (v : Bool) → v ≡ false → v ≡ true → ⊥
    unmarked v e f = cc

    by_mark : (i : ℕ) → i < length strips → (v : Bool) → get_or marks i false ≡ v → MatchBool v (IsTouched strips i) (¬ IsTouched strips i)
    by_mark i h true e = so_far.each i h e
    by_mark i h false e = λ t. unmarked (get_or marks i false) e (mark_of i t.other t.touch)

-- one that touches none is added
pub untouched_added : (strips : List Placed) (i most : ℕ) (before between after : Tally) → (¬ IsTouched strips i) → AddsUntouched strips i most before between
    → AddsOne (strip_at strips i) most between after → AddsUntouched strips (i + 1) most before after
untouched_added strips i most before between after none adds one =
    let ns = adds.numbers in
    record {
      numbers = ns ++ i ∷ [];
      are_untouched = record {
        below = All-push (λ k. k < i + 1) ns i (All-weaker (λ k. k < i) (λ k. k < i + 1) (λ k h. omega (arith, h)) ns adds.are_untouched.below) (omega arith);
        untouched = All-push (λ k. ¬ IsTouched strips k) ns i adds.are_untouched.untouched none;
        every = λ k h lone. elim (cases_eq k i) [
          | inl e ↦ subst (λ n. Contains (ns ++ i ∷ []) n) (sym e) (Contains-push ns i)
          | inr other ↦ Contains-append_left ns (i ∷ []) k (adds.are_untouched.every k (omega (arith, h, other)) lone)
        ];
        rising = all_pairs_push (λ a b. a < b) ns i adds.are_untouched.rising adds.are_untouched.below;
      };
      added = λ earlier t.
          subst (λ (l : List Placed). IsTallyOf most l after) (append_assoc earlier (map (strip_at strips) ns) (strip_at strips i ∷ []) ∙ ap (λ l. earlier ++ l) (sym (map_push (strip_at strips) ns i)))
          (one.added (earlier ++ map (strip_at strips) ns) (adds.added earlier t));
    }

-- the strips of a mask that touch no other are the pieces that are rectangles
pub pieces_added : (areas : List Rectangle) (strips : List Placed) (mask most : ℕ) (before after : Tally) → strips ≡ map (at_mask mask) areas → AreAllStrips (Covers areas) areas
    → AddsUntouched strips (length strips) most before after → AddsStrips (IsInPiece (Covers areas)) mask most before after
pieces_added areas strips mask most before after is are adds =
    let on = subst (AreStripsOf (only_on mask (Covers areas)) (suc mask)) (sym is) (one_mask_strips mask (Covers areas) areas are) in
    let of_one : (i : ℕ) → IsStrip strips i → mask_of strips i ≡ mask = λ i h. mask_at i (subst (λ (l : List Placed). IsStrip l i) is h) in
    adds_along (IsInPiece (only_on mask (Covers areas) mask)) (IsInPiece (Covers areas))
    (in_piece_along (only_on mask (Covers areas) mask) (Covers areas) (λ x y c. c.1) (λ x y c. (refl, c)))
    (in_piece_along (Covers areas) (only_on mask (Covers areas) mask) (λ x y c. (refl, c)) (λ x y c. c.1))
    mask most before after
    (record {
      all = map (box_of strips) adds.numbers;
      all_strips = pieces_strips (only_on mask (Covers areas)) mask strips on of_one adds.numbers adds.are_untouched;
      added = λ earlier t. subst (λ (l : List Placed). IsTallyOf most (earlier ++ l) after) (pieces_on_mask (only_on mask (Covers areas)) mask strips on of_one adds.numbers adds.are_untouched) (adds.added earlier t);
    })
  where
    mask_at : (i : ℕ) → IsStrip (map (at_mask mask) areas) i → mask_of strips i ≡ mask
    mask_at i h = ap (λ (l : List Placed). mask_of l i) is ∙ ap (λ (p : Placed). p.mask) (at_number mask (Covers areas) areas are i h).1

-- a strip that isn't marked touches no other
pub not_marked_is_untouched : (strips : List Placed) (marks : List Bool) (i : ℕ) → AreMarks strips marks → i < length strips → get_or marks i false ≡ false → ¬ IsTouched strips i
not_marked_is_untouched strips marks i are h e = subst (λ v. MatchBool v (IsTouched strips i) (¬ IsTouched strips i)) e (are.each i h)

-- the rectangles of a mask are the strips of what they cover
pub pieces_are_strips : (areas : List Rectangle) (strips : List Placed) (mask : ℕ) → strips ≡ map (at_mask mask) areas → AreAllStrips (Covers areas) areas → AreStrips strips
pieces_are_strips areas strips mask is are =
    are_strips (only_on mask (Covers areas)) (suc mask) strips (subst (AreStripsOf (only_on mask (Covers areas)) (suc mask)) (sym is) (one_mask_strips mask (Covers areas) areas are))

-- the same of the strips that the code holds
pub strips_added : (areas : List Rectangle) (strips : List Strip) (mask most : ℕ) (before after : Tally) → map placed strips ≡ map (at_mask mask) areas → AreAllStrips (Covers areas) areas
    → AddsUntouched (map placed strips) (length strips) most before after → AddsStrips (IsInPiece (Covers areas)) mask most before after
strips_added areas strips mask most before after is are adds =
    pieces_added areas (map placed strips) mask most before after is are (subst (λ n. AddsUntouched (map placed strips) n most before after) (sym (length-map strips placed)) adds)
