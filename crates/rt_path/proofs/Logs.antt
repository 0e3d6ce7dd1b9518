-- What a raise keeps of the log and of the last events.
use Rattle.std.proofs.Common.{◌≡◌, ◌≢◌, ℕ, ◌+◌, ◌<◌, ◌+ℤ◌, ◌≤ℤ◌, ◌<ℤ◌, List, [], ◌∷◌, ◌++◌, Option, Some, None, length, slice_get, set, refl, sym, ap, subst, ◌∙◌, ◌⊎◌, inl, inr, arith, get_or-set_same, get_or-set_other, length-set}
use Rattle.std.proofs.lemmas.Int.{ints}
use Rattle.std.proofs.lemmas.Bool.{cases_eq}
use Rattle.std.proofs.lemmas.Option.{same_Some, slice_get_within}
use Rattle.rt_cells.proofs.Entries.{get_before, get_end, before_or_end}
use Rattle.rt_path.specs.declared.event.Step.{Step}
use Rattle.rt_path.specs.declared.event.Event.{Event}
use Rattle.rt_path.specs.declared.event.Last.{Last}
use Rattle.rt_path.specs.Raises.{Comes, first, IsLog, last_at, IsLast, AreLasts, event_of, last_of}

-- an event stands where it stood, with one more at the end
pub comes_still : (steps : List Step) (log : List Event) (more : Event) (i : ℕ) (event : Event) → Comes steps log i event → Comes steps (log ++ more ∷ []) i event
comes_still steps log more i event c = record {
  step = c.step;
  from = c.from;
  earlier = c.earlier;
  by_step = c.by_step;
  there = get_before log more event.before c.from c.there;
  tail = c.tail;
  head = c.head;
  value = c.value;
  length = c.length;
}

module _ (steps : List Step) (log : List Event) (places : ℕ) (now : List (Option Last)) (number : ℕ) (step : Step) (from : Last)
    (logged : IsLog steps log) (lasts : AreLasts places log now) (numbered : slice_get steps number ≡ Some step)
    (tail : last_at now step.tail ≡ Some from)
    (wanting : (to : Last) → last_at now step.head ≡ Some to → to.value <ℤ (from.value +ℤ step.by)) where
  new_comes : Comes steps log (length log) (event_of number step from)
  new_comes =
      let at = lasts.lasts step.tail from tail in
      record {
        step = step;
        from = at.event;
        earlier = slice_get_within log from.event at.event at.there;
        by_step = numbered;
        there = at.there;
        tail = at.at_place;
        head = refl;
        value = ap (λ z. z +ℤ step.by) (sym at.value);
        length = ap (λ n. n + 1) (sym at.length);
      }

  -- the new event lies above the others of its place
  above : (i : ℕ) (event : Event) → slice_get log i ≡ Some event → event.place ≡ step.head → event.value <ℤ (from.value +ℤ step.by)
  above i event e p =
      let most = lasts.greatest i event e in
      let want = wanting most.0 (subst (λ q. last_at now q ≡ Some most.0) p most.1) in
      omega (arith, ints, want, most.2)

  -- the log with the new event is a log
  pub still_log : IsLog steps (log ++ event_of number step from ∷ [])
  still_log = record {
    begins = get_before log (event_of number step from) 0 first logged.begins;
    comes = λ i event later e. comes_by i event later (before_or_end log (event_of number step from) i event e);
    rising = λ i j a b l e f same. rises i j a b l same (before_or_end log (event_of number step from) i a e) (before_or_end log (event_of number step from) j b f);
  }
    where
      comes_by : (i : ℕ) (event : Event) → 0 < i → (slice_get log i ≡ Some event) ⊎ ((i ≡ length log) × (event_of number step from ≡ event))
          → Comes steps (log ++ event_of number step from ∷ []) i event
      comes_by i event later (inl e) = comes_still steps log (event_of number step from) i event (logged.comes i event later e)
      comes_by i event later (inr e) =
          subst (λ x. Comes steps (log ++ event_of number step from ∷ []) i x) e.1
          (subst (λ k. Comes steps (log ++ event_of number step from ∷ []) k (event_of number step from)) (sym e.0)
          (comes_still steps log (event_of number step from) (length log) (event_of number step from) new_comes))

      rises : (i j : ℕ) (a b : Event) → i < j → a.place ≡ b.place → (slice_get log i ≡ Some a) ⊎ ((i ≡ length log) × (event_of number step from ≡ a))
          → (slice_get log j ≡ Some b) ⊎ ((j ≡ length log) × (event_of number step from ≡ b)) → a.value <ℤ b.value
      rises i j a b l same (inl e) (inl f) = logged.rising i j a b l e f same
      rises i j a b l same (inl e) (inr f) =
          subst (λ z. a.value <ℤ z) (ap (λ x. x.value) f.1) (above i a e (same ∙ sym (ap (λ x. x.place) f.1)))
      rises i j a b l same (inr e) (inl f) = absurd (omega (arith, l, e.0, slice_get_within log j b f))
      rises i j a b l same (inr e) (inr f) = absurd (omega (arith, l, e.0, f.0))

  -- the last events, after the raise
  pub kept_same : step.head < places → last_at (set now step.head (Some (last_of log step from))) step.head ≡ Some (last_of log step from)
  kept_same h = get_or-set_same now step.head (Some (last_of log step from)) None (omega (arith, h, lasts.one_each))

  pub kept_other : (place : ℕ) → place ≢ step.head → last_at (set now step.head (Some (last_of log step from))) place ≡ last_at now place
  kept_other place n = get_or-set_other now step.head place (Some (last_of log step from)) None n

  still_last : (place : ℕ) (last : Last) → IsLast log place last → IsLast (log ++ event_of number step from ∷ []) place last
  still_last place last h = record {
    event = h.event;
    there = get_before log (event_of number step from) last.event h.event h.there;
    at_place = h.at_place;
    value = h.value;
    length = h.length;
  }

  new_last : IsLast (log ++ event_of number step from ∷ []) step.head (last_of log step from)
  new_last = record {
    event = event_of number step from;
    there = get_end log (event_of number step from);
    at_place = refl;
    value = refl;
    length = refl;
  }

  -- the last events are those of the longer log
  pub still_lasts : step.head < places → AreLasts places (log ++ event_of number step from ∷ []) (set now step.head (Some (last_of log step from)))
  still_lasts h = record {
    one_each = omega (arith, lasts.one_each, length-set {A = Option Last});
    lasts = λ place last e. each place last e (cases_eq place step.head);
    greatest = λ i event e. most i event (before_or_end log (event_of number step from) i event e) (cases_eq event.place step.head);
  }
    where
      each : (place : ℕ) (last : Last) → last_at (set now step.head (Some (last_of log step from))) place ≡ Some last → (place ≡ step.head) ⊎ (place ≢ step.head)
          → IsLast (log ++ event_of number step from ∷ []) place last
      each place last e (inl p) =
          let is : last_of log step from ≡ last =
          same_Some (last_of log step from) last (sym (kept_same h) ∙ subst (λ q. last_at (set now step.head (Some (last_of log step from))) q ≡ Some last) p e) in
          subst (λ q. IsLast (log ++ event_of number step from ∷ []) q last) (sym p)
          (subst (λ l. IsLast (log ++ event_of number step from ∷ []) step.head l) is new_last)
      each place last e (inr n) = still_last place last (lasts.lasts place last (sym (kept_other place n) ∙ e))

      most : (i : ℕ) (event : Event) → (slice_get log i ≡ Some event) ⊎ ((i ≡ length log) × (event_of number step from ≡ event))
          → (event.place ≡ step.head) ⊎ (event.place ≢ step.head)
          → (last : Last) × (last_at (set now step.head (Some (last_of log step from))) event.place ≡ Some last) × (event.value ≤ℤ last.value)
      most i event (inl e) (inl p) =
          (last_of log step from, subst (λ q. last_at (set now step.head (Some (last_of log step from))) q ≡ Some (last_of log step from)) (sym p) (kept_same h), omega (arith, ints, above i event e p))
      most i event (inl e) (inr n) =
          let m = lasts.greatest i event e in
          (m.0, kept_other event.place n ∙ m.1, m.2)
      most i event (inr e) p =
          (last_of log step from, subst (λ q. last_at (set now step.head (Some (last_of log step from))) q ≡ Some (last_of log step from)) (ap (λ x. x.place) e.1) (kept_same h), omega (arith, ints, ap (λ x. x.value) e.1))
