-- A walk along the tops and the bottoms of strips finds all their meetings.
use Rattle.std.proofs.Common.{◌≡◌, ℕ, ◌+◌, ◌<◌, ◌≤◌, ◌⊎◌, List, [], ◌∷◌, ◌++◌, length, get_or, refl, sym, ap, subst, subst₂, ◌∙◌, arith, inl, inr}
use Rattle.std.specs.Prelude.{All, AllPairs, Contains}
use Rattle.std.proofs.lemmas.Bool.{cases_eq, cases_order}
use Rattle.std.proofs.lemmas.List.{get_or_read, get_or_default}
use Rattle.std.proofs.lemmas.List.Elements.{All-push, All-contains, Contains-append_left, Contains-push}
use Rattle.std.proofs.lemmas.List.Quantifiers.{all_pairs_push}
use Rattle.std.specs.List.Sorted.{IsPermutation}
use Rattle.std.proofs.lemmas.List.Sorted.{Contains-permutation, IsPermutation-sym}
use Rattle.rt_strips.specs.declared.meeting.Edge.{Edge}
use Rattle.rt_strips.specs.declared.meeting.Meeting.{Meeting}
use Rattle.rt_strips.specs.declared.meeting.Side.{Side}
use Rattle.rt_strips.specs.declared.meeting.Side.TheVariants.{Top, Bottom}
use Rattle.rt_strips.specs.Placed.{Placed, strip_at}
use Rattle.rt_strips.specs.Standing.{IsStrip}
use Rattle.rt_strips.specs.Seams.{IsSeam}
use Rattle.rt_strips.specs.Meetings.{edge_of, AreEdgesOf, IsEdgeBefore, EndsNoLater, Meet, meeting_of, IsMeeting, GoUpwards, AreMeetings, IsNoted, AreMeetingsOf}
use Rattle.rt_strips.specs.Meetings.IsNoted.{noted, passed_over}
use Rattle.rt_strips.proofs.Edges.{passed, passed_back}

-- the meetings of the first i edges of the one list, and those of the first j of the other, have been found
pub record AreMeetingsSoFar (ends begins : List Edge) (i j : ℕ) (found : List Meeting) : Type 0 where
  pub each : All (IsMeeting ends begins) found
  pub every : (p q : ℕ) (d : Edge) → p < length ends → q < length begins → (p < i) ⊎ (q < j) → Meet (get_or ends p d) (get_or begins q d)
      → Contains found (meeting_of (get_or ends p d) (get_or begins q d))
  pub upwards : GoUpwards found
  pub below_next : (q : ℕ) (d : Edge) → j ≤ q → q < length begins → All (λ (m : Meeting). m.above ≤ (get_or begins q d).strip) found

module _ (ends begins : List Edge) (numbered : AllPairs (λ (a b : Edge). a.strip ≤ b.strip) begins) where
  numbers_rise : (j q : ℕ) (d : Edge) → j ≤ q → q < length begins → (get_or begins j d).strip ≤ (get_or begins q d).strip
  numbers_rise j q d h g =
      elim (cases_eq j q) [
        | inl e ↦ subst (λ k. (get_or begins j d).strip ≤ (get_or begins k d).strip) e (omega arith)
        | inr n ↦ numbered j q d (omega (arith, h, n)) g
      ]

  -- the meeting of the two next edges is found too
  pub record IsNextNoted (i j : ℕ) (a b : Edge) (found : List Meeting) : Type 0 where
    pub so_far : AreMeetingsSoFar ends begins i j found
    pub next : Meet a b → Contains found (meeting_of a b)

  noted_more : (i j : ℕ) (a b : Edge) (found : List Meeting) → i < length ends → j < length begins → a ≡ get_or ends i a → b ≡ get_or begins j b
      → AreMeetingsSoFar ends begins i j found → Meet a b → IsNextNoted i j a b (found ++ meeting_of a b ∷ [])
  noted_more i j a b found h g e f before m = record {
    so_far = record {
      each = All-push (IsMeeting ends begins) found (meeting_of a b) before.each
          (record { lower = a; upper = b; ends_there = (i, h, sym e); begins_there = (j, g, sym f); meet = m; meeting_is = refl });
      every = λ p q d l k some n. Contains-append_left found (meeting_of a b ∷ []) _ (before.every p q d l k some n);
      upwards = all_pairs_push (λ (x y : Meeting). x.above ≤ y.above) found (meeting_of a b) before.upwards
          (subst (λ (t : Edge). All (λ (x : Meeting). x.above ≤ t.strip) found) (sym f) (before.below_next j b (omega arith) g));
      below_next = λ q d l k. All-push (λ (x : Meeting). x.above ≤ (get_or begins q d).strip) found (meeting_of a b) (before.below_next q d l k)
          (subst (λ (t : Edge). t.strip ≤ (get_or begins q d).strip) (sym (get_or_read begins j b g f d)) (numbers_rise j q d l k));
    };
    next = λ _. Contains-push found (meeting_of a b);
  }

  pub next_noted : (i j : ℕ) (a b : Edge) (found found' : List Meeting) → i < length ends → j < length begins → a ≡ get_or ends i a → b ≡ get_or begins j b
      → AreMeetingsSoFar ends begins i j found → IsNoted a b found found' → IsNextNoted i j a b found'
  next_noted i j a b found found' h g e f before (noted m is) = subst (IsNextNoted i j a b) (sym is) (noted_more i j a b found h g e f before m)
  next_noted i j a b found found' h g e f before (passed_over n is) = subst (IsNextNoted i j a b) (sym is) (record { so_far = before; next = λ m. absurd (n m) })

  module _ (i j : ℕ) (a b : Edge) (h : i < length ends) (g : j < length begins) (e : a ≡ get_or ends i a) (f : b ≡ get_or begins j b)
      (found : List Meeting) (next : IsNextNoted i j a b found) where
    -- the meetings of the lower edge are all found
    lower_done : AllPairs IsEdgeBefore begins → EndsNoLater a b → (q : ℕ) (d : Edge) → q < length begins → Meet (get_or ends i d) (get_or begins q d)
        → Contains found (meeting_of (get_or ends i d) (get_or begins q d))
    lower_done order no_later q d k m =
        elim (cases_order q j) [
          | inl s ↦ subst₂ (λ (x y : Edge). Contains found (meeting_of x y)) (get_or_read ends i a h e d) (get_or_read begins j b g f d ∙ ap (λ n. get_or begins n d) (sym s))
              (next.next (subst₂ Meet (sym (get_or_read ends i a h e d)) (ap (λ n. get_or begins n d) s ∙ sym (get_or_read begins j b g f d)) m))
          | inr (inl l) ↦ next.so_far.every i q d h k (inr l) m
          | inr (inr l) ↦ absurd (passed (get_or ends i d) (get_or begins j d) (get_or begins q d)
              (subst₂ EndsNoLater (get_or_read ends i a h e d) (get_or_read begins j b g f d) no_later) (order j q d l k) m)
        ]

    -- the meetings of the upper edge are all found
    upper_done : AllPairs IsEdgeBefore ends → EndsNoLater b a → (p : ℕ) (d : Edge) → p < length ends → Meet (get_or ends p d) (get_or begins j d)
        → Contains found (meeting_of (get_or ends p d) (get_or begins j d))
    upper_done order no_later p d k m =
        elim (cases_order p i) [
          | inl s ↦ subst₂ (λ (x y : Edge). Contains found (meeting_of x y)) (get_or_read ends i a h e d ∙ ap (λ n. get_or ends n d) (sym s)) (get_or_read begins j b g f d)
              (next.next (subst₂ Meet (ap (λ n. get_or ends n d) s ∙ sym (get_or_read ends i a h e d)) (sym (get_or_read begins j b g f d)) m))
          | inr (inl l) ↦ next.so_far.every p j d k g (inl l) m
          | inr (inr l) ↦ absurd (passed_back (get_or ends i d) (get_or begins j d) (get_or ends p d)
              (subst₂ EndsNoLater (get_or_read begins j b g f d) (get_or_read ends i a h e d) no_later) (order i p d l k) m)
        ]

    every_lower : AllPairs IsEdgeBefore begins → EndsNoLater a b → (p q : ℕ) (d : Edge) → p < length ends → q < length begins → (p < i + 1) ⊎ (q < j)
        → Meet (get_or ends p d) (get_or begins q d) → Contains found (meeting_of (get_or ends p d) (get_or begins q d))
    every_lower order no_later p q d l k (inr t) m = next.so_far.every p q d l k (inr t) m
    every_lower order no_later p q d l k (inl t) m =
        elim (cases_eq p i) [
          | inl s ↦ subst (λ n. Contains found (meeting_of (get_or ends n d) (get_or begins q d))) (sym s)
              (lower_done order no_later q d k (subst (λ n. Meet (get_or ends n d) (get_or begins q d)) s m))
          | inr n ↦ next.so_far.every p q d l k (inl (omega (arith, t, n))) m
        ]

    every_upper : AllPairs IsEdgeBefore ends → EndsNoLater b a → (p q : ℕ) (d : Edge) → p < length ends → q < length begins → (p < i) ⊎ (q < j + 1)
        → Meet (get_or ends p d) (get_or begins q d) → Contains found (meeting_of (get_or ends p d) (get_or begins q d))
    every_upper order no_later p q d l k (inl t) m = next.so_far.every p q d l k (inl t) m
    every_upper order no_later p q d l k (inr t) m =
        elim (cases_eq q j) [
          | inl s ↦ subst (λ n. Contains found (meeting_of (get_or ends p d) (get_or begins n d))) (sym s)
              (upper_done order no_later p d l (subst (λ n. Meet (get_or ends p d) (get_or begins n d)) s m))
          | inr n ↦ next.so_far.every p q d l k (inr (omega (arith, t, n))) m
        ]

    -- so the walk goes on behind the lower edge
    pub past_lower : AllPairs IsEdgeBefore begins → EndsNoLater a b → AreMeetingsSoFar ends begins (i + 1) j found
    past_lower order no_later = record {
      each = next.so_far.each;
      every = every_lower order no_later;
      upwards = next.so_far.upwards;
      below_next = next.so_far.below_next;
    }

    -- or behind the upper one
    pub past_upper : AllPairs IsEdgeBefore ends → EndsNoLater b a → AreMeetingsSoFar ends begins i (j + 1) found
    past_upper order no_later = record {
      each = next.so_far.each;
      every = every_upper order no_later;
      upwards = next.so_far.upwards;
      below_next = λ q d l k. next.so_far.below_next q d (omega (arith, l)) k;
    }

-- a step of the walk, behind the lower edge
pub step_lower : (ends begins : List Edge) → AllPairs (λ (a b : Edge). a.strip ≤ b.strip) begins → AllPairs IsEdgeBefore begins → (i j : ℕ) (d e : Edge) (found found' : List Meeting)
    → i < length ends → j < length begins → AreMeetingsSoFar ends begins i j found → IsNoted (get_or ends i d) (get_or begins j e) found found'
    → EndsNoLater (get_or ends i d) (get_or begins j e) → AreMeetingsSoFar ends begins (i + 1) j found'
step_lower ends begins numbered order i j d e found found' h g before note no_later =
    let s = get_or_default ends i d (get_or ends i d) h in
    let t = get_or_default begins j e (get_or begins j e) g in
    past_lower ends begins numbered i j (get_or ends i d) (get_or begins j e) h g s t found'
    (next_noted ends begins numbered i j (get_or ends i d) (get_or begins j e) found found' h g s t before note) order no_later

-- and behind the upper one
pub step_upper : (ends begins : List Edge) → AllPairs (λ (a b : Edge). a.strip ≤ b.strip) begins → AllPairs IsEdgeBefore ends → (i j : ℕ) (d e : Edge) (found found' : List Meeting)
    → i < length ends → j < length begins → AreMeetingsSoFar ends begins i j found → IsNoted (get_or ends i d) (get_or begins j e) found found'
    → EndsNoLater (get_or begins j e) (get_or ends i d) → AreMeetingsSoFar ends begins i (j + 1) found'
step_upper ends begins numbered order i j d e found found' h g before note no_later =
    let s = get_or_default ends i d (get_or ends i d) h in
    let t = get_or_default begins j e (get_or begins j e) g in
    past_upper ends begins numbered i j (get_or ends i d) (get_or begins j e) h g s t found'
    (next_noted ends begins numbered i j (get_or ends i d) (get_or begins j e) found found' h g s t before note) order no_later

some_end : (p q i j m n : ℕ) → p < m → q < n → (m ≤ i) ⊎ (n ≤ j) → (p < i) ⊎ (q < j)
some_end p q i j m n h g (inl l) = inl (omega (arith, h, l))
some_end p q i j m n h g (inr l) = inr (omega (arith, g, l))

-- at the end of either list all are found
pub at_end : (ends begins : List Edge) (i j : ℕ) (found : List Meeting) → AreMeetingsSoFar ends begins i j found → (length ends ≤ i) ⊎ (length begins ≤ j)
    → AreMeetings ends begins found
at_end ends begins i j found so_far over = record {
  each = so_far.each;
  every = λ a b c d m.
      subst₂ (λ (x y : Edge). Contains found (meeting_of x y)) c.2 (get_or_default begins d.0 a b d.1 ∙ d.2)
      (so_far.every c.0 d.0 a c.1 d.1 (some_end c.0 d.0 i j (length ends) (length begins) c.1 d.1 over)
      (subst₂ Meet (sym c.2) (sym (get_or_default begins d.0 a b d.1 ∙ d.2)) m));
  upwards = so_far.upwards;
}

-- an edge of a list is that of a strip
of_strip : (side : Side) (strips : List Placed) (edges : List Edge) → AreEdgesOf side strips edges → (e : Edge) → Contains edges e
    → (i : ℕ) × IsStrip strips i × (e ≡ edge_of side (strip_at strips i) i)
of_strip side strips edges of e c =
    let below : c.0 < length strips = subst (λ n. c.0 < n) of.count c.1 in
    (c.0, record { below_count = below }, sym c.2 ∙ of.each c.0 e below)

-- and the other way round
strip_edge : (side : Side) (strips : List Placed) (edges : List Edge) → AreEdgesOf side strips edges → (i : ℕ) → IsStrip strips i
    → Contains edges (edge_of side (strip_at strips i) i)
strip_edge side strips edges of i h =
    (i, subst (λ n. i < n) (sym of.count) h.below_count, of.each i (edge_of side (strip_at strips i) i) h.below_count)

seam_of : (strips : List Placed) (i j : ℕ) → IsStrip strips i → IsStrip strips j → Meet (edge_of Top (strip_at strips i) i) (edge_of Bottom (strip_at strips j) j) → IsSeam strips i j
seam_of strips i j h g m = record { one_mask = record { first = h; second = g; one_mask = m.one_mask }; adjoin = m.one_row; first = m.first; second = m.second }

meet_of : (strips : List Placed) (i j : ℕ) → IsSeam strips i j → Meet (edge_of Top (strip_at strips i) i) (edge_of Bottom (strip_at strips j) j)
meet_of strips i j s = record { one_mask = s.one_mask.one_mask; one_row = s.adjoin; first = s.first; second = s.second }

-- the meetings of tops and bottoms are at the seams
pub are_meetings_of : (strips : List Placed) (tops ends begins : List Edge) (found : List Meeting) → AreEdgesOf Top strips tops → IsPermutation tops ends → AreEdgesOf Bottom strips begins
    → AreMeetings ends begins found → AreMeetingsOf strips found
are_meetings_of strips tops ends begins found of_tops moved of_bottoms are = record {
  each = λ m c.
      let k = All-contains (IsMeeting ends begins) found m are.each c in
      let s = of_strip Top strips tops of_tops k.lower (Contains-permutation ends tops k.lower (IsPermutation-sym tops ends moved) k.ends_there) in
      let t = of_strip Bottom strips begins of_bottoms k.upper k.begins_there in
      subst₂ (IsSeam strips) (sym (ap (λ (n : Meeting). n.below) k.meeting_is ∙ ap (λ (e : Edge). e.strip) s.2)) (sym (ap (λ (n : Meeting). n.above) k.meeting_is ∙ ap (λ (e : Edge). e.strip) t.2))
      (seam_of strips s.0 t.0 s.1 t.1 (subst₂ Meet s.2 t.2 k.meet));
  every = λ i j s.
      are.every (edge_of Top (strip_at strips i) i) (edge_of Bottom (strip_at strips j) j)
      (Contains-permutation tops ends _ moved (strip_edge Top strips tops of_tops i s.one_mask.first))
      (strip_edge Bottom strips begins of_bottoms j s.one_mask.second) (meet_of strips i j s);
  upwards = are.upwards;
}

-- the meetings that were found are those that the code reads
pub still_found : (strips : List Placed) (found items : List Meeting) → items ≡ found → AreMeetingsOf strips found → AreMeetingsOf strips items
still_found strips found items e are = subst (AreMeetingsOf strips) (sym e) are
