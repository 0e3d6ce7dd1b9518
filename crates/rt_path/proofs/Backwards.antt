-- A step back along the log, where it ends, and the circle that it closes.
use Rattle.std.proofs.Common.{◌≡◌, ◌≢◌, ℕ, zero, suc, ◌<◌, ◌≤◌, true, false, is_some, ℤ, pos, ◌+ℤ◌, ◌-ℤ◌, List, [], ◌∷◌, ◌++◌, Option, Some, None, length, drop, replicate, slice_get, slice_index_or, set, refl, sym, ap, subst, ◌∙◌, ◌⊎◌, inl, inr, arith, get_or-set_same, get_or-set_other, length-set, length-drop}
use Rattle.std.proofs.lemmas.Int.{ints}
use Rattle.std.proofs.lemmas.Bool.{cases_eq}
use Rattle.std.proofs.lemmas.Option.{none-some, same_Some, slice_get_within, slice_get-get_or}
use Rattle.rt_cells.proofs.Entries.{before_or_end}
use Rattle.rt_rows.specs.declared.proof.Share.{Share}
use Rattle.rt_proofs.specs.Rows.{sum_of}
use Rattle.rt_path.specs.declared.event.Step.{Step}
use Rattle.rt_path.specs.declared.event.Event.{Event}
use Rattle.rt_path.specs.Longest.{Listed}
use Rattle.rt_path.specs.Chains.{once, AddUp}
use Rattle.rt_path.specs.Raises.{AllFit, Comes, first, IsLog}
use Rattle.rt_path.specs.WaysBack.{LeadsOn, IsCircle, IsStepBack, HasNoCircle, marks, IsMark, IsBack, IsOnWayBack, AfterWalk, IsChain, IsWayTo}
use Rattle.rt_path.proofs.Chains.{no_shares, one_share}
use Rattle.rt_path.proofs.Gets.{one_element}

-- no shares lead nowhere
pub leads_nowhere : (steps : List Step) (place : ℕ) → LeadsOn steps [] place place (pos 0)
leads_nowhere steps place = record {
  adds = λ rows label arcs. no_shares (Listed rows) (label place);
  single = record { each = λ i share e. absurd (none-some share e) };
}

-- the share of an event's row leads on from where the event came from
pub leads_back : (steps : List Step) (log : List Event) (i : ℕ) (event : Event) (shares : List Share) (head : ℕ) (gain : ℤ) (c : Comes steps log i event)
    → LeadsOn steps shares event.place head gain → LeadsOn steps (shares ++ once c.step.name ∷ []) c.from.place head (gain +ℤ c.step.by)
leads_back steps log i event shares head gain c leads = record {
  adds = λ rows label arcs.
      let arc = arcs.each event.step c.step c.by_step in
      subst (λ p. AddUp (Listed rows) (shares ++ once c.step.name ∷ []) (label p) (label head) (gain +ℤ c.step.by)) (sym c.tail)
      (one_share (Listed rows) shares c.step.name (sum_of arc.0) (label c.step.tail) (label c.step.head) (label head) c.step.by gain
      (record { row = arc.0; has = arc.1; is = refl }) arc.2.arc
      (subst (λ p. AddUp (Listed rows) shares (label p) (label head) gain) c.head (leads.adds rows label arcs)));
  single = record { each = λ i share e. single_by i share (before_or_end shares (once c.step.name) i share e) };
}
  where
    single_by : (i : ℕ) (share : Share) → (slice_get shares i ≡ Some share) ⊎ ((i ≡ length shares) × (once c.step.name ≡ share)) → share.times ≡ pos 1
    single_by i share (inl e) = leads.single.each i share e
    single_by i share (inr e) = ap (λ s. s.times) (sym e.1)

pub same_gain : (steps : List Step) (shares : List Share) (tail head : ℕ) (gain gain' : ℤ) → gain ≡ gain' → LeadsOn steps shares tail head gain → LeadsOn steps shares tail head gain'
same_gain steps shares tail head gain gain' e leads = subst (λ g. LeadsOn steps shares tail head g) e leads

-- marks
pub marks_more : (seen : List (Option ℕ)) (place k : ℕ) → place < length seen → slice_index_or seen place None ≡ None → marks (set seen place (Some k)) ≡ suc (marks seen)
marks_more [] place k within fresh = absurd (omega (arith, within))
marks_more (None ∷ seen) zero k within fresh = refl
marks_more (Some j ∷ seen) zero k within fresh = absurd (none-some j (sym fresh))
marks_more (None ∷ seen) (suc place) k within fresh = marks_more seen place k (omega (arith, within)) fresh
marks_more (Some j ∷ seen) (suc place) k within fresh = ap suc (marks_more seen place k (omega (arith, within)) fresh)

pub marks_few : (seen : List (Option ℕ)) → marks seen ≤ length seen
marks_few [] = omega arith
marks_few (None ∷ seen) = omega (arith, marks_few seen)
marks_few (Some j ∷ seen) = omega (arith, marks_few seen)

pub marks_fewer : (seen : List (Option ℕ)) (place : ℕ) → place < length seen → slice_index_or seen place None ≡ None → marks seen < length seen
marks_fewer [] place within fresh = absurd (omega (arith, within))
marks_fewer (None ∷ seen) zero within fresh = omega (arith, marks_few seen)
marks_fewer (Some j ∷ seen) zero within fresh = absurd (none-some j (sym fresh))
marks_fewer (None ∷ seen) (suc place) within fresh = omega (arith, marks_fewer seen place (omega (arith, within)) fresh)
marks_fewer (Some j ∷ seen) (suc place) within fresh = omega (arith, marks_fewer seen place (omega (arith, within)) fresh)

pub marks_none : (n : ℕ) → marks (replicate n None) ≡ 0
marks_none zero = refl
marks_none (suc n) = marks_none n

pub none_marked : (n place : ℕ) → ◌≡◌ {A = Option ℕ} (slice_index_or (replicate n None) place None) None
none_marked zero place = refl
none_marked (suc n) zero = refl
none_marked (suc n) (suc place) = none_marked n place

-- the shares behind the first ones, with one more
pub drop_more : (k : ℕ) (shares : List Share) (share : Share) → k ≤ length shares → drop k (shares ++ share ∷ []) ≡ drop k shares ++ share ∷ []
drop_more zero shares share within = refl
drop_more (suc k) [] share within = absurd (omega (arith, within))
drop_more (suc k) (x ∷ shares) share within = drop_more k shares share (omega (arith, within))

pub drop_all : (shares : List Share) (share : Share) → drop (length shares) (shares ++ share ∷ []) ≡ share ∷ []
drop_all [] share = refl
drop_all (x ∷ shares) share = drop_all shares share

pub length_more : (shares : List Share) (share : Share) → length (shares ++ share ∷ []) ≡ suc (length shares)
length_more [] share = refl
length_more (x ∷ shares) share = ap suc (length_more shares share)

module _ (places : ℕ) (steps : List Step) (log : List Event) (start at : ℕ) (seen : List (Option ℕ)) (shares : List Share) (logged : IsLog steps log) (fits : AllFit places steps) where
  -- a step back from an event after the first one
  module _ (later : 0 < at) (way : IsOnWayBack places steps log start at seen shares) where
    comes : Comes steps log at way.back.event
    comes = logged.comes at way.back.event later way.back.there

    placed : way.back.event.place < places
    placed =
        let fit = fits way.back.event.step comes.step comes.by_step in
        omega (arith, comes.head, fit.head_below)

    seen_here : slice_index_or (set seen way.back.event.place (Some (length shares))) way.back.event.place None ≡ Some (length shares)
    seen_here = get_or-set_same seen way.back.event.place (Some (length shares)) None (omega (arith, placed, way.back.one_each))

    seen_there : (place : ℕ) → place ≢ way.back.event.place → slice_index_or (set seen way.back.event.place (Some (length shares))) place None ≡ slice_index_or seen place None
    seen_there place n = get_or-set_other seen way.back.event.place place (Some (length shares)) None n

    new_mark : IsMark steps log way.back.event.before comes.from (shares ++ once comes.step.name ∷ []) way.back.event.place (length shares)
    new_mark = record {
      within = omega (arith, length_more shares (once comes.step.name));
      value = way.back.event.value;
      leads = subst (λ s. LeadsOn steps s comes.from.place way.back.event.place (way.back.event.value -ℤ comes.from.value)) (sym (drop_all shares (once comes.step.name)))
          (same_gain steps (once comes.step.name ∷ []) comes.from.place way.back.event.place (pos 0 +ℤ comes.step.by) (way.back.event.value -ℤ comes.from.value) (omega (arith, ints, comes.value))
          (leads_back steps log at way.back.event [] way.back.event.place (pos 0) comes (leads_nowhere steps way.back.event.place)));
      above = λ i other l e p. logged.rising i at other way.back.event (omega (arith, l, comes.earlier)) e way.back.there p;
    }

    old_mark : (place k : ℕ) → IsMark steps log at way.back.event shares place k → IsMark steps log way.back.event.before comes.from (shares ++ once comes.step.name ∷ []) place k
    old_mark place k mark = record {
      within = omega (arith, mark.within, length_more shares (once comes.step.name));
      value = mark.value;
      leads = subst (λ s. LeadsOn steps s comes.from.place place (mark.value -ℤ comes.from.value)) (sym (drop_more k shares (once comes.step.name) mark.within))
          (same_gain steps (drop k shares ++ once comes.step.name ∷ []) comes.from.place place ((mark.value -ℤ way.back.event.value) +ℤ comes.step.by) (mark.value -ℤ comes.from.value) (omega (arith, ints, comes.value))
          (leads_back steps log at way.back.event (drop k shares) place (mark.value -ℤ way.back.event.value) comes mark.leads));
      above = λ i other l e p. mark.above i other (omega (arith, l, comes.earlier)) e p;
    }

    back_again : IsBack places steps log start way.back.event.before (set seen way.back.event.place (Some (length shares))) (shares ++ once comes.step.name ∷ [])
    back_again = record {
      event = comes.from;
      there = comes.there;
      one_each = omega (arith, way.back.one_each, length-set {A = Option ℕ});
      as_many = omega (arith, way.back.as_many, length_more shares (once comes.step.name), marks_more seen way.back.event.place (length shares) (omega (arith, placed, way.back.one_each)) way.fresh);
      counted = λ f e. omega (arith, way.back.counted f e, comes.length, marks_more seen way.back.event.place (length shares) (omega (arith, placed, way.back.one_each)) way.fresh);
      begun = inr (λ f e. begins f e way.back.begun);
      marked = λ place k e. mark_by place k e (cases_eq place way.back.event.place);
    }
      where
        begins : (f : Event) → slice_get log start ≡ Some f → (at ≡ start) ⊎ ((f : Event) → slice_get log start ≡ Some f → (k : ℕ) × (slice_index_or seen f.place None ≡ Some k))
            → (k : ℕ) × (slice_index_or (set seen way.back.event.place (Some (length shares))) f.place None ≡ Some k)
        begins f e (inl p) =
            let is : way.back.event ≡ f = one_element log start way.back.event f (subst (λ i. slice_get log i ≡ Some way.back.event) p way.back.there) e in
            (length shares, subst (λ x. slice_index_or (set seen way.back.event.place (Some (length shares))) x.place None ≡ Some (length shares)) is seen_here)
        begins f e (inr h) = by_place (cases_eq f.place way.back.event.place)
          where
            by_place : (f.place ≡ way.back.event.place) ⊎ (f.place ≢ way.back.event.place) → (k : ℕ) × (slice_index_or (set seen way.back.event.place (Some (length shares))) f.place None ≡ Some k)
            by_place (inl p) = (length shares, subst (λ q. slice_index_or (set seen way.back.event.place (Some (length shares))) q None ≡ Some (length shares)) (sym p) seen_here)
            by_place (inr n) = ((h f e).0, seen_there f.place n ∙ (h f e).1)

        mark_by : (place k : ℕ) → slice_index_or (set seen way.back.event.place (Some (length shares))) place None ≡ Some k → (place ≡ way.back.event.place) ⊎ (place ≢ way.back.event.place)
            → IsMark steps log way.back.event.before comes.from (shares ++ once comes.step.name ∷ []) place k
        mark_by place k e (inl p) =
            let is : length shares ≡ k = same_Some (length shares) k (sym seen_here ∙ subst (λ q. slice_index_or (set seen way.back.event.place (Some (length shares))) q None ≡ Some k) p e) in
            subst (λ q. IsMark steps log way.back.event.before comes.from (shares ++ once comes.step.name ∷ []) q k) (sym p)
            (subst (λ j. IsMark steps log way.back.event.before comes.from (shares ++ once comes.step.name ∷ []) way.back.event.place j) is new_mark)
        mark_by place k e (inr n) = old_mark place k (way.back.marked place k (sym (seen_there place n) ∙ e))

    -- what the code does is this step
    pub stepped : (seen' : List (Option ℕ)) (shares' : List Share) (before : ℕ) → IsStepBack steps log at seen shares seen' shares' before
        → (before < at) × IsBack places steps log start before seen' shares'
    stepped seen' shares' before step =
        let event_is : way.back.event ≡ step.event = one_element log at way.back.event step.event way.back.there step.there in
        let step_is : comes.step ≡ step.step = one_element steps step.event.step comes.step step.step (subst (λ e. slice_get steps e.step ≡ Some comes.step) event_is comes.by_step) step.by_step in (
          omega (arith, step.goes, ap (λ e. e.before) event_is, comes.earlier),
          subst (λ b. IsBack places steps log start b seen' shares') (ap (λ e. e.before) event_is ∙ sym step.goes)
              (subst (λ s. IsBack places steps log start way.back.event.before s shares') (ap (λ e. set seen e.place (Some (length shares))) event_is ∙ sym step.marked)
              (subst (λ s. IsBack places steps log start way.back.event.before (set seen way.back.event.place (Some (length shares))) s)
              (ap (λ x. shares ++ once x.name ∷ []) step_is ∙ sym step.added) back_again)),
        )

  -- a place that was marked closes a circle
  pub closes : (event : Event) (k : ℕ) (back : IsBack places steps log start at seen shares) → slice_get log at ≡ Some event → slice_index_or seen event.place None ≡ Some k → IsCircle places steps (drop k shares)
  closes event k back e f =
      let is : event ≡ back.event = one_element log at event back.event e back.there in
      let mark = back.marked back.event.place k (subst (λ x. slice_index_or seen x.place None ≡ Some k) is f) in
      record {
        place = back.event.place;
        gain = mark.value -ℤ back.event.value;
        gains = omega (arith, ints, mark.above at back.event (omega arith) back.there refl);
        leads = mark.leads;
        few = omega (arith, back.as_many, marks_few seen, back.one_each, length-drop k shares);
      }

  -- one that wasn't doesn't
  pub goes_on : (event : Event) (back : IsBack places steps log start at seen shares) → slice_get log at ≡ Some event → slice_index_or seen event.place None ≡ None → IsOnWayBack places steps log start at seen shares
  goes_on event back e f =
      let is : event ≡ back.event = one_element log at event back.event e back.there in
      record { back = back; fresh = subst (λ x. slice_index_or seen x.place None ≡ None) is f }

  -- at the origin
  pub no_circle : at ≤ 0 → 0 < places → 0 < start → IsOnWayBack places steps log start at seen shares → HasNoCircle places log start
  no_circle at_zero some later way =
      let zero_is : at ≡ 0 = omega (arith, at_zero) in
      let is : way.back.event ≡ first = one_element log 0 way.back.event first (subst (λ i. slice_get log i ≡ Some way.back.event) zero_is way.back.there) logged.begins in
      let fresh : slice_index_or seen 0 None ≡ None = subst (λ x. slice_index_or seen x.place None ≡ None) is way.fresh in
      record {
        few = λ event e. omega (arith, way.back.counted event e, ap (λ x. x.length) is, way.back.one_each, marks_fewer seen 0 (omega (arith, some, way.back.one_each)) fresh);
        elsewhere = λ event e p. marked_twice event p fresh (by_start way.back.begun event e);
      }
    where
      by_start : (at ≡ start) ⊎ ((f : Event) → slice_get log start ≡ Some f → (k : ℕ) × (slice_index_or seen f.place None ≡ Some k)) → (f : Event) → slice_get log start ≡ Some f
          → (k : ℕ) × (slice_index_or seen f.place None ≡ Some k)
      by_start (inl p) f e = absurd (omega (arith, p, at_zero, later))
      by_start (inr h) f e = h f e

      marked_twice : (event : Event) → event.place ≡ 0 → slice_index_or seen 0 None ≡ None → (k : ℕ) × (slice_index_or seen event.place None ≡ Some k) → ⊥
      marked_twice event p fresh h = none-some h.0 (sym fresh ∙ subst (λ q. slice_index_or seen q None ≡ Some h.0) p h.1)

-- where the way back begins
pub starts_back : (places : ℕ) (steps : List Step) (log : List Event) (start : ℕ) (event : Event) → slice_get log start ≡ Some event → IsOnWayBack places steps log start start (replicate places None) []
starts_back places steps log start event e = record {
  back = record {
    event = event;
    there = e;
    one_each = long places;
    as_many = sym (marks_none places);
    counted = λ f g. omega (arith, marks_none places, ap (λ x. x.length) (one_element log start event f e g));
    begun = inl refl;
    marked = λ place k g. absurd (none-some k (sym (none_marked places place) ∙ g));
  };
  fresh = none_marked places event.place;
}
  where
    long : (n : ℕ) → length (replicate {A = Option ℕ} n None) ≡ n
    long zero = refl
    long (suc n) = ap suc (long n)

-- the event that the code reads, and its step
module _ (steps : List Step) (log : List Event) (at : ℕ) (d : Event) (logged : IsLog steps log) (later : 0 < at) (there : at < length log) where
  pub here : slice_get log at ≡ Some (slice_index_or log at d)
  here = slice_get-get_or log at d there

  pub came : Comes steps log at (slice_index_or log at d)
  came = logged.comes at (slice_index_or log at d) later here

  pub step_below : (slice_index_or log at d).step < length steps
  step_below = slice_get_within steps (slice_index_or log at d).step came.step came.by_step

  pub before_below : (slice_index_or log at d).before < at
  before_below = came.earlier

  pub place_below : (places : ℕ) → AllFit places steps → (slice_index_or log at d).place < places
  place_below places fits =
      let fit = fits (slice_index_or log at d).step came.step came.by_step in
      omega (arith, came.head, fit.head_below)

  pub step_here : (d' : Step) → slice_get steps (slice_index_or log at d).step ≡ Some (slice_index_or steps (slice_index_or log at d).step d')
  step_here d' = slice_get-get_or steps (slice_index_or log at d).step d' step_below

  pub is_step_back : (d' : Step) (seen : List (Option ℕ)) (shares shares' given : List Share) → given ≡ shares
      → shares' ≡ shares ++ once (slice_index_or steps (slice_index_or log at d).step d').name ∷ []
      → IsStepBack steps log at seen shares (set seen (slice_index_or log at d).place (Some (length given))) shares' (slice_index_or log at d).before
  is_step_back d' seen shares shares' given e f = record {
    event = slice_index_or log at d;
    step = slice_index_or steps (slice_index_or log at d).step d';
    there = here;
    by_step = step_here d';
    goes = refl;
    marked = ap (λ s. set seen (slice_index_or log at d).place (Some (length s))) e;
    added = f;
  }

  -- a step of the way to the origin
  pub way_on : (d' : Step) (start : ℕ) (shares shares' : List Share) → IsWayTo steps log start at shares
      → shares' ≡ shares ++ once (slice_index_or steps (slice_index_or log at d).step d').name ∷ []
      → IsWayTo steps log start (slice_index_or log at d).before shares'
  way_on d' start shares shares' way f =
      let is : way.event ≡ slice_index_or log at d = one_element log at way.event (slice_index_or log at d) way.there here in
      let step_is : came.step ≡ slice_index_or steps (slice_index_or log at d).step d' = one_element steps (slice_index_or log at d).step came.step _ came.by_step (step_here d') in
      record {
        event = came.from;
        there = came.there;
        leads = λ first e.
            subst (λ s. LeadsOn steps s came.from.place first.place (first.value -ℤ came.from.value)) (ap (λ x. shares ++ once x.name ∷ []) step_is ∙ sym f)
            (same_gain steps (shares ++ once came.step.name ∷ []) came.from.place first.place ((first.value -ℤ (slice_index_or log at d).value) +ℤ came.step.by) (first.value -ℤ came.from.value) (omega (arith, ints, came.value))
            (leads_back steps log at (slice_index_or log at d) shares first.place (first.value -ℤ (slice_index_or log at d).value) came
            (subst (λ x. LeadsOn steps shares x.place first.place (first.value -ℤ x.value)) is (way.leads first e))));
        as_long = λ first e. omega (
          arith,
          way.as_long first e,
          ap (λ x. x.length) is,
          came.length,
          ap length f,
          length_more shares (once (slice_index_or steps (slice_index_or log at d).step d').name),
        );
      }

pub way_begins : (steps : List Step) (log : List Event) (start : ℕ) (shares : List Share) → start < length log → shares ≡ [] → IsWayTo steps log start start shares
way_begins steps log start shares there e =
    let here : slice_get log start ≡ Some (slice_index_or log start first) = slice_get-get_or log start first there in
    record {
      event = slice_index_or log start first;
      there = here;
      leads = λ f g.
          let is : slice_index_or log start first ≡ f = one_element log start _ f here g in
          subst (λ x. LeadsOn steps shares (slice_index_or log start first).place x.place (x.value -ℤ (slice_index_or log start first).value)) is
          (subst (λ s. LeadsOn steps s (slice_index_or log start first).place (slice_index_or log start first).place ((slice_index_or log start first).value -ℤ (slice_index_or log start first).value)) (sym e)
          (same_gain steps [] (slice_index_or log start first).place (slice_index_or log start first).place (pos 0) ((slice_index_or log start first).value -ℤ (slice_index_or log start first).value) (omega (arith, ints))
          (leads_nowhere steps (slice_index_or log start first).place)));
      as_long = λ f g. omega (arith, ap length e, ap (λ x. x.length) (one_element log start (slice_index_or log start first) f here g));
    }

pub way_ends : (steps : List Step) (log : List Event) (start at : ℕ) (shares : List Share) → IsLog steps log → at ≤ 0 → IsWayTo steps log start at shares → IsChain steps log start shares
way_ends steps log start at shares logged l way =
    let zero_is : at ≡ 0 = omega (arith, l) in
    let is : way.event ≡ first = one_element log 0 way.event first (subst (λ i. slice_get log i ≡ Some way.event) zero_is way.there) logged.begins in
    record {
      leads = λ f g.
          same_gain steps shares 0 f.place (f.value -ℤ pos 0) f.value (omega (arith, ints))
          (subst (λ x. LeadsOn steps shares x.place f.place (f.value -ℤ x.value)) is (way.leads f g));
      as_long = λ f g. omega (arith, way.as_long f g, ap (λ x. x.length) is);
    }

-- each event's place is there
pub place_there : (places : ℕ) (steps : List Step) (log : List Event) (i : ℕ) (event : Event) → 0 < places → AllFit places steps → IsLog steps log → slice_get log i ≡ Some event → event.place < places
place_there places steps log zero event some fits logged e = omega (arith, some, ap (λ x. x.place) (one_element log 0 event first e logged.begins))
place_there places steps log (suc i) event some fits logged e =
    let c = logged.comes (suc i) event (omega arith) e in
    let fit = fits event.step c.step c.by_step in
    omega (arith, c.head, fit.head_below)

-- a step of the walk, and what is found there
module _ (places : ℕ) (steps : List Step) (log : List Event) (start at : ℕ) (seen : List (Option ℕ)) (shares : List Share) (seen' : List (Option ℕ)) (shares' : List Share) (before : ℕ) (d : Event)
    (some : 0 < places) (fits : AllFit places steps) (logged : IsLog steps log) (later : 0 < at) (way : IsOnWayBack places steps log start at seen shares)
    (step : IsStepBack steps log at seen shares seen' shares' before) where
  pub falls : before < at
  falls = (stepped places steps log start at seen shares logged fits later way seen' shares' before step).0

  back_there : IsBack places steps log start before seen' shares'
  back_there = (stepped places steps log start at seen shares logged fits later way seen' shares' before step).1

  pub before_there : before < length log
  before_there = slice_get_within log before back_there.event back_there.there

  read_there : slice_get log before ≡ Some (slice_index_or log before d)
  read_there = slice_get-get_or log before d before_there

  pub in_seen : (slice_index_or log before d).place < length seen'
  in_seen = omega (arith, back_there.one_each, place_there places steps log before (slice_index_or log before d) some fits logged read_there)

  pub found_some : is_some (slice_index_or seen' (slice_index_or log before d).place None) ≡ true
      → AfterWalk places steps log start shares' (slice_index_or seen' (slice_index_or log before d).place None)
  found_some e = by_found (slice_index_or seen' (slice_index_or log before d).place None) refl e
    where
      by_found : (found : Option ℕ) → slice_index_or seen' (slice_index_or log before d).place None ≡ found → is_some found ≡ true → AfterWalk places steps log start shares' found
      by_found None e f = absurd (no_some f)
        where
          no_some : false ≡ true → ⊥
          no_some h = grind (arith, h)
      by_found (Some k) e f =
          record {
            within = (back_there.marked (slice_index_or log before d).place k e).within;
            circle = closes places steps log start before seen' shares' logged fits (slice_index_or log before d) k back_there read_there e;
          }

  pub found_none : is_some (slice_index_or seen' (slice_index_or log before d).place None) ≡ false → IsOnWayBack places steps log start before seen' shares'
  found_none e =
      goes_on places steps log start before seen' shares' logged fits (slice_index_or log before d) back_there read_there
      (by_found (slice_index_or seen' (slice_index_or log before d).place None) e)
    where
      by_found : (found : Option ℕ) → is_some found ≡ false → found ≡ None
      by_found None e = refl
      by_found (Some k) e = grind (arith, e)

-- the walk begins
pub walk_begins : (places places' : ℕ) (steps : List Step) (log : List Event) (start : ℕ) (seen : List (Option ℕ)) (shares : List Share) → start < length log
    → places' ≡ places → seen ≡ replicate places None → shares ≡ [] → IsOnWayBack places' steps log start start seen shares
walk_begins places places' steps log start seen shares there p e f =
    let here : slice_get log start ≡ Some (slice_index_or log start first) = slice_get-get_or log start first there in
    subst (λ n. IsOnWayBack n steps log start start seen shares) (sym p)
    (subst (λ s. IsOnWayBack places steps log start start s shares) (sym e)
    (subst (λ s. IsOnWayBack places steps log start start (replicate places None) s) (sym f)
    (starts_back places steps log start (slice_index_or log start first) here)))
