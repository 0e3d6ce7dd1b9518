-- The marks of a walk: after a structure is reached, and after it is done.
use Rattle.std.proofs.Common.{◌≡◌, ◌≢◌, ℕ, ◌<◌, List, [], ◌∷◌, ◌++◌, length, Some, Contains, slice_get, sym, ◌∙◌, ◌⊎◌, ⊎_elim, arith}
use Rattle.std.proofs.Math.ListN.{set, length-set}
use Rattle.std.proofs.lemmas.Option.{slice_get_within}
use Rattle.std.proofs.lemmas.List.Elements.{All-push, Contains-append_left, Contains-push, Contains-push_cases}
use Rattle.rt_cells.proofs.Entries.{get_end, get_before, before_or_end}
use Rattle.gds_stream.specs.declared.library.Structure.{Structure}
use Rattle.gds_flat.specs.declared.walk.Mark.{Mark}
use Rattle.gds_flat.specs.declared.walk.Mark.TheVariants.{Unseen, Open, Done}
use Rattle.gds_flat.specs.Walking.{IsFirst, AreMarked}
use Rattle.gds_flat.proofs.Entries.{set_entry, set_here, set_kept, places_differ}

-- a structure is reached
pub mark_open : (library : List Structure) (opened : List ℕ) (marks : List Mark) (order finish : List ℕ) (k : ℕ)
    → IsFirst library k → slice_get marks k ≡ Some Unseen → AreMarked library opened marks order finish
    → AreMarked library (opened ++ k ∷ []) (set marks k (Open (length opened))) (order ++ k ∷ []) finish
mark_open library opened marks order finish k first was m = record {
  enough = length-set marks k (Open (length opened)) ∙ m.enough;
  first = All-push (IsFirst library) order k m.first first;
  unseen = λ j e at. ⊎_elim (λ h. cc)
      (λ h. ⊎_elim (λ old. m.unseen j h.1 old) (λ new. h.0 (sym new)) (Contains-push_cases order k j at)) (cases j Unseen e);
  open_seen = λ j d e. ⊎_elim (λ h. here j h.0) (λ h. Contains-append_left order (k ∷ []) j (m.open_seen j d h.1)) (cases j (Open d) e);
  done_seen = λ j d e. ⊎_elim (λ h. here j h.0) (λ h. Contains-append_left order (k ∷ []) j (m.done_seen j d h.1)) (cases j (Done d) e);
  open_at = λ j d e. ⊎_elim
      (λ h. let same : length opened ≡ d = cc in let is : k ≡ j = sym h.0 in rw (← same, ← is) (get_end opened k))
      (λ h. get_before opened k d j (m.open_at j d h.1)) (cases j (Open d) e);
  at_open = λ j d e. ⊎_elim
      (λ h. let was_open = m.at_open j d h in
      set_kept marks k j (Open (length opened)) (Open d) (places_differ marks j k (Open d) Unseen was_open was (λ e. cc)) was_open)
      (λ h. let there : d ≡ length opened = h.0 in let is : k ≡ j = h.1 in rw (there, ← is) (set_here marks k (Open (length opened)) Unseen was))
      (before_or_end opened k d j e);
  done_at = λ j d e. ⊎_elim (λ h. cc) (λ h. m.done_at j d h.1) (cases j (Done d) e);
  at_done = λ j d e. let was_done = m.at_done j d e in
      set_kept marks k j (Open (length opened)) (Done d) (places_differ marks j k (Done d) Unseen was_done was (λ e. cc)) was_done;
}
  where
    cases : (j : ℕ) (y : Mark) → slice_get (set marks k (Open (length opened))) j ≡ Some y
        → ((j ≡ k) × (Open (length opened) ≡ y)) ⊎ ((j ≢ k) × (slice_get marks j ≡ Some y))
    cases j y e = set_entry marks k j (Open (length opened)) Unseen y was e

    here : (j : ℕ) → j ≡ k → Contains (order ++ k ∷ []) j
    here j e = rw e (Contains-push order k)

-- a structure is done
pub mark_done : (library : List Structure) (opened : List ℕ) (marks : List Mark) (order finish : List ℕ) (k : ℕ)
    → AreMarked library (opened ++ k ∷ []) marks order finish
    → AreMarked library opened (set marks k (Done (length finish))) order (finish ++ k ∷ [])
mark_done library opened marks order finish k m = record {
  enough = length-set marks k (Done (length finish)) ∙ m.enough;
  first = m.first;
  unseen = λ j e at. ⊎_elim (λ h. cc) (λ h. m.unseen j h.1 at) (cases j Unseen e);
  open_seen = λ j d e. ⊎_elim (λ h. cc) (λ h. m.open_seen j d h.1) (cases j (Open d) e);
  done_seen = λ j d e. ⊎_elim (λ h. rw h.0 (m.open_seen k (length opened) was)) (λ h. m.done_seen j d h.1) (cases j (Done d) e);
  open_at = λ j d e. ⊎_elim (λ h. cc)
      (λ h. ⊎_elim (λ old. old) (λ new. absurd (h.0 (sym new.1))) (before_or_end opened k d j (m.open_at j d h.1))) (cases j (Open d) e);
  at_open = λ j d e. let was_open = m.at_open j d (get_before opened k d j e) in
      let low : d < length opened = slice_get_within opened d j e in
      let ne : Open d ≢ Open (length opened) = λ same. let equal : d ≡ length opened = cc in absurd (omega arith) in
      set_kept marks k j (Done (length finish)) (Open d) (places_differ marks j k (Open d) (Open (length opened)) was_open was ne) was_open;
  done_at = λ j d e. ⊎_elim
      (λ h. let same : length finish ≡ d = cc in let is : k ≡ j = sym h.0 in rw (← same, ← is) (get_end finish k))
      (λ h. get_before finish k d j (m.done_at j d h.1)) (cases j (Done d) e);
  at_done = λ j d e. ⊎_elim
      (λ h. let was_done = m.at_done j d h in
      set_kept marks k j (Done (length finish)) (Done d) (places_differ marks j k (Done d) (Open (length opened)) was_done was (λ e. cc)) was_done)
      (λ h. let there : d ≡ length finish = h.0 in let is : k ≡ j = h.1 in
      rw (there, ← is) (set_here marks k (Done (length finish)) (Open (length opened)) was))
      (before_or_end finish k d j e);
}
  where
    was : slice_get marks k ≡ Some (Open (length opened))
    was = m.at_open k (length opened) (get_end opened k)

    cases : (j : ℕ) (y : Mark) → slice_get (set marks k (Done (length finish))) j ≡ Some y
        → ((j ≡ k) × (Done (length finish) ≡ y)) ⊎ ((j ≢ k) × (slice_get marks j ≡ Some y))
    cases j y e = set_entry marks k j (Done (length finish)) (Open (length opened)) y was e
