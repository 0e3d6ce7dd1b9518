-- A step of a round: what is settled stays settled, and what the step raised comes by one raise more.
use Rattle.std.proofs.Common.{◌≡◌, ◌≢◌, ℕ, ◌+◌, ◌<◌, ◌≤◌, ℤ, pos, neg_ℤ, ◌+ℤ◌, ◌*ℤ◌, ◌≤ℤ◌, ◌<ℤ◌, List, [], ◌∷◌, ◌++◌, Option, Some, None, length, slice_get, slice_index_or, set, sym, ap, subst, ◌∙◌, ◌⊎◌, inl, inr, arith}
use Rattle.std.proofs.lemmas.Int.{ints}
use Rattle.std.proofs.lemmas.Bool.{cases_eq}
use Rattle.std.proofs.lemmas.Option.{same_Some, slice_get_within, slice_get-get_or}
use Rattle.rt_cells.proofs.Entries.{get_end}
use Rattle.rt_rows.specs.declared.positions.TheConstants.{EXTENT_LIMIT}
use Rattle.rt_path.specs.declared.event.Step.{Step}
use Rattle.rt_path.specs.declared.event.Event.{Event}
use Rattle.rt_path.specs.declared.event.Last.{Last}
use Rattle.rt_path.specs.Longest.{IsNear}
use Rattle.rt_path.specs.Raises.{IsFit, AllFit, IsLog, last_at, IsShort, IsGoing, IsQuiet, IsSettled, event_of, last_of, IsRaise, IsAsBefore, IsSoFar, IsUnderWay, IsCutShort, HasRaised, AfterStep, AfterRaises, AllShort}
use Rattle.rt_path.specs.Raises.IsSettled.{quiet, late}
use Rattle.rt_path.specs.Raises.IsCutShort.{long, at_origin}
use Rattle.rt_path.specs.Raises.IsAfterRaises.{cut_short, whole}
use Rattle.rt_path.proofs.Logs.{still_log, kept_same, kept_other, still_lasts}

-- one raise more reaches one limit farther
farther : (value by : ℤ) (n : ℕ) → IsNear by → neg_ℤ (EXTENT_LIMIT *ℤ pos n) ≤ℤ value → value ≤ℤ (EXTENT_LIMIT *ℤ pos n)
    → (neg_ℤ (EXTENT_LIMIT *ℤ pos (n + 1)) ≤ℤ (value +ℤ by)) × ((value +ℤ by) ≤ℤ (EXTENT_LIMIT *ℤ pos (n + 1)))
farther value by n near low high = (omega (arith, ints, near.not_far_down, low), omega (arith, ints, near.not_far_up, high))

module _ (places : ℕ) (steps : List Step) (log : List Event) (now : List (Option Last)) (number : ℕ) (step : Step) (from : Last)
    (going : IsGoing places steps log now) (numbered : slice_get steps number ≡ Some step) (fit : IsFit places step)
    (tail : last_at now step.tail ≡ Some from)
    (wanting : (to : Last) → last_at now step.head ≡ Some to → to.value <ℤ (from.value +ℤ step.by)) where
  -- a step that wasn't met was late
  pub was_late : (k : ℕ) → IsSettled k now step → k ≤ from.length
  was_late k (quiet q) =
      let m = q.met from tail in
      absurd (omega (arith, ints, wanting m.0 m.1, m.2))
  was_late k (late other e l) = omega (arith, l, ap (λ x. x.length) (same_Some other from (sym e ∙ tail)))

  same_at : last_at (set now step.head (Some (last_of log step from))) step.head ≡ Some (last_of log step from)
  same_at = kept_same steps log places now number step from going.logged going.lasts numbered tail wanting fit.head_below

  other_at : (place : ℕ) → place ≢ step.head → last_at (set now step.head (Some (last_of log step from))) place ≡ last_at now place
  other_at = kept_other steps log places now number step from going.logged going.lasts numbered tail wanting

  at_head : (place : ℕ) → place ≡ step.head → last_at (set now step.head (Some (last_of log step from))) place ≡ Some (last_of log step from)
  at_head place p = subst (λ q. last_at (set now step.head (Some (last_of log step from))) q ≡ Some (last_of log step from)) (sym p) same_at

  -- a step that was met is met, if its tail isn't the raised place
  quiet_still : (s : Step) → s.tail ≢ step.head → IsQuiet now s → IsQuiet (set now step.head (Some (last_of log step from))) s
  quiet_still s n q = record { met = λ f e. by_head f (sym (other_at s.tail n) ∙ e) (cases_eq s.head step.head) }
    where
      by_head : (f : Last) → last_at now s.tail ≡ Some f → (s.head ≡ step.head) ⊎ (s.head ≢ step.head)
          → (to : Last) × (last_at (set now step.head (Some (last_of log step from))) s.head ≡ Some to) × ((f.value +ℤ s.by) ≤ℤ to.value)
      by_head f e (inl p) =
          let m = q.met f e in
          let want = wanting m.0 (subst (λ q. last_at now q ≡ Some m.0) p m.1) in
          (last_of log step from, at_head s.head p, omega (arith, ints, m.2, want))
      by_head f e (inr p) =
          let m = q.met f e in
          (m.0, other_at s.head p ∙ m.1, m.2)

  -- what was settled is settled
  pub settled_still : (k : ℕ) (s : Step) → k ≤ from.length + 1 → IsSettled k now s → IsSettled k (set now step.head (Some (last_of log step from))) s
  settled_still k s l settled = by_tail (cases_eq s.tail step.head) settled
    where
      by_tail : (s.tail ≡ step.head) ⊎ (s.tail ≢ step.head) → IsSettled k now s → IsSettled k (set now step.head (Some (last_of log step from))) s
      by_tail (inl p) t = late (last_of log step from) (at_head s.tail p) l
      by_tail (inr n) (quiet q) = quiet (quiet_still s n q)
      by_tail (inr n) (late f e m) = late f (other_at s.tail n ∙ e) m

  -- the step itself is settled
  pub step_settled : (k : ℕ) → k ≤ from.length + 1 → IsSettled k (set now step.head (Some (last_of log step from))) step
  step_settled k l = by_tail (cases_eq step.tail step.head)
    where
      by_tail : (step.tail ≡ step.head) ⊎ (step.tail ≢ step.head) → IsSettled k (set now step.head (Some (last_of log step from))) step
      by_tail (inl p) = late (last_of log step from) (at_head step.tail p) l
      by_tail (inr n) = quiet (record {
        met = λ f e.
            let is : from ≡ f = same_Some from f (sym tail ∙ sym (other_at step.tail n) ∙ e) in
            (last_of log step from, same_at, omega (arith, ints, ap (λ x. x.value) is));
      })

  -- the rounds go on, if the raise wasn't too long nor at the origin
  pub going_still : from.length + 1 < places → step.head ≢ 0 → IsGoing places steps (log ++ event_of number step from ∷ []) (set now step.head (Some (last_of log step from)))
  going_still few elsewhere = record {
    logged = still_log steps log places now number step from going.logged going.lasts numbered tail wanting;
    lasts = still_lasts steps log places now number step from going.logged going.lasts numbered tail wanting fit.head_below;
    short = λ place last e. each place last e (cases_eq place step.head);
    at_origin = other_at 0 (λ e. elsewhere (sym e)) ∙ going.at_origin;
  }
    where
      new_short : IsShort places (last_of log step from)
      new_short =
          let was = going.short step.tail from tail in
          let far = farther from.value step.by from.length fit.near was.not_far_down was.not_far_up in
          record { few = few; not_far_down = far.0; not_far_up = far.1 }

      each : (place : ℕ) (last : Last) → last_at (set now step.head (Some (last_of log step from))) place ≡ Some last → (place ≡ step.head) ⊎ (place ≢ step.head) → IsShort places last
      each place last e (inl p) = subst (λ l. IsShort places l) (same_Some (last_of log step from) last (sym (at_head place p) ∙ e)) new_short
      each place last e (inr n) = going.short place last (sym (other_at place n) ∙ e)

-- a step that is met
pub past_quiet : (places round index : ℕ) (steps : List Step) (log : List Event) (now : List (Option Last)) (last : Option Last) (step : Step) (log' : List Event) (now' : List (Option Last))
    → slice_get steps index ≡ Some step → IsUnderWay places round index steps log now last → IsAsBefore step log now log' now'
    → IsUnderWay places round (index + 1) steps log' now' last
past_quiet places round index steps log now last step log' now' numbered way same =
    subst (λ l. IsUnderWay places round (index + 1) steps l now' last) (sym same.same_log)
    (subst (λ n. IsUnderWay places round (index + 1) steps log n last) (sym same.same_now) (record {
      going = way.going;
      behind = λ i s l e. settled_by i s e (cases_eq i index) l;
      all = way.all;
      so_far = further last way.so_far;
    }))
  where
    is_step : (i : ℕ) (s : Step) → slice_get steps i ≡ Some s → i ≡ index → step ≡ s
    is_step i s e p = same_Some step s (sym numbered ∙ subst (λ k. slice_get steps k ≡ Some s) p e)

    settled_by : (i : ℕ) (s : Step) → slice_get steps i ≡ Some s → (i ≡ index) ⊎ (i ≢ index) → i < index + 1 → IsSettled (round + 1) now s
    settled_by i s e (inl p) l = quiet (subst (λ x. IsQuiet now x) (is_step i s e p) same.quiet)
    settled_by i s e (inr n) l = way.behind i s (omega (arith, l, n)) e

    quiet_by : ((i : ℕ) (s : Step) → i < index → slice_get steps i ≡ Some s → IsQuiet now s) → (i : ℕ) (s : Step) → slice_get steps i ≡ Some s → (i ≡ index) ⊎ (i ≢ index) → i < index + 1 → IsQuiet now s
    quiet_by h i s e (inl p) l = subst (λ x. IsQuiet now x) (is_step i s e p) same.quiet
    quiet_by h i s e (inr n) l = h i s (omega (arith, l, n)) e

    further : (last : Option Last) → IsSoFar round index steps log now last → IsSoFar round (index + 1) steps log now last
    further None h = λ i s l e. quiet_by h i s e (cases_eq i index) l
    further (Some last) h = h

-- a step that raised its head
module _ (places round index : ℕ) (steps : List Step) (log : List Event) (now : List (Option Last)) (last : Option Last) (step : Step) (log' : List Event) (now' : List (Option Last)) (new : Last)
    (numbered : slice_get steps index ≡ Some step) (fit : IsFit places step) (way : IsUnderWay places round index steps log now last) (raise : IsRaise index step log now log' now' new) where
  late_enough : round ≤ raise.from.length
  late_enough = was_late places steps log now index step raise.from way.going numbered fit raise.tail raise.wanting round (way.all index step numbered)

  -- the round goes on, if the raise wasn't too long nor at the origin
  pub past_raise : new.length < places → step.head ≢ 0 → IsUnderWay places round (index + 1) steps log' now' (Some new)
  past_raise few elsewhere =
      subst (λ l. IsUnderWay places round (index + 1) steps l now' (Some new)) (sym raise.logged)
      (subst (λ n. IsUnderWay places round (index + 1) steps (log ++ event_of index step raise.from ∷ []) n (Some new)) (sym (raise.kept ∙ ap (λ l. set now step.head (Some l)) raise.is))
      (subst (λ l. IsUnderWay places round (index + 1) steps (log ++ event_of index step raise.from ∷ []) (set now step.head (Some (last_of log step raise.from))) (Some l)) (sym raise.is) (record {
        going = going_still places steps log now index step raise.from way.going numbered fit raise.tail raise.wanting (omega (arith, few, ap (λ l. l.length) raise.is)) elsewhere;
        behind = λ i s l e. settled_by i s e (cases_eq i index) l;
        all = λ i s e. settled_still places steps log now index step raise.from way.going numbered fit raise.tail raise.wanting round s (omega (arith, late_enough)) (way.all i s e);
        so_far = (event_of index step raise.from, slice_get_within log 0 _ way.going.logged.begins, get_end log (event_of index step raise.from), omega (arith, late_enough));
      })))
    where
      settled_by : (i : ℕ) (s : Step) → slice_get steps i ≡ Some s → (i ≡ index) ⊎ (i ≢ index) → i < index + 1
          → IsSettled (round + 1) (set now step.head (Some (last_of log step raise.from))) s
      settled_by i s e (inl p) l =
          subst (λ x. IsSettled (round + 1) (set now step.head (Some (last_of log step raise.from))) x)
          (same_Some step s (sym numbered ∙ subst (λ k. slice_get steps k ≡ Some s) p e))
          (step_settled places steps log now index step raise.from way.going numbered fit raise.tail raise.wanting (round + 1) (omega (arith, late_enough)))
      settled_by i s e (inr n) l =
          settled_still places steps log now index step raise.from way.going numbered fit raise.tail raise.wanting (round + 1) s (omega (arith, late_enough)) (way.behind i s (omega (arith, l, n)) e)

  -- the round is cut short, if it was
  pub stopped : (places ≤ new.length) ⊎ (step.head ≡ 0) → HasRaised places round steps log' now' new
  stopped why = record {
    logged = subst (λ l. IsLog steps l) (sym raise.logged)
        (still_log steps log places now index step raise.from way.going.logged way.going.lasts numbered raise.tail raise.wanting);
    event = event_of index step raise.from;
    later = omega (arith, slice_get_within log 0 _ way.going.logged.begins, ap (λ l. l.event) raise.is);
    there = ap (λ l. slice_get l new.event) raise.logged ∙ ap (λ k. slice_get (log ++ event_of index step raise.from ∷ []) k) (ap (λ l. l.event) raise.is)
        ∙ get_end log (event_of index step raise.from);
    after = cut_short (cause why);
  }
    where
      cause : (places ≤ new.length) ⊎ (step.head ≡ 0) → IsCutShort places (event_of index step raise.from)
      cause (inl l) = long (omega (arith, l, ap (λ l. l.length) raise.is))
      cause (inr e) = at_origin e

-- at the end of a round
pub round_ends : (places round : ℕ) (steps : List Step) (log : List Event) (now : List (Option Last)) (last : Option Last)
    → IsUnderWay places round (length steps) steps log now last → AfterRaises places round steps log now last
round_ends places round steps log now None way = record {
  going = way.going;
  quiet = λ i s e. way.so_far i s (slice_get_within steps i s e) e;
}
round_ends places round steps log now (Some last) way = record {
  logged = way.going.logged;
  event = way.so_far.0;
  later = way.so_far.1;
  there = way.so_far.2;
  after = whole way.going (λ i s e. way.behind i s (slice_get_within steps i s e) e) way.so_far.3;
}

raise_from : (number : ℕ) (step : Step) (log : List Event) (now : List (Option Last)) (log' : List Event) (now' : List (Option Last)) (result : Option Last) (new : Last)
    → result ≡ Some new → AfterStep number step log now log' now' result → IsRaise number step log now log' now' new
raise_from number step log now log' now' result new e h = subst (λ r. AfterStep number step log now log' now' r) e h

-- a step of a round, by what it answers
module _ (places round index : ℕ) (steps : List Step) (log : List Event) (now : List (Option Last)) (last : Option Last) (log' : List Event) (now' : List (Option Last)) (d : Step)
    (within : index < length steps) (fits : AllFit places steps) (way : IsUnderWay places round index steps log now last) where
  at_index : slice_get steps index ≡ Some (slice_index_or steps index d)
  at_index = slice_get-get_or steps index d within

  pub past_new : (result last' : Option Last) (new : Last) → result ≡ Some new → last' ≡ Some new → AfterStep index (slice_index_or steps index d) log now log' now' result
      → new.length < places → (slice_index_or steps index d).head ≢ 0 → IsUnderWay places round (index + 1) steps log' now' last'
  past_new result last' new e f h few elsewhere =
      subst (λ l. IsUnderWay places round (index + 1) steps log' now' l) (sym f)
      (past_raise places round index steps log now last (slice_index_or steps index d) log' now' new at_index (fits index (slice_index_or steps index d) at_index) way
      (raise_from index (slice_index_or steps index d) log now log' now' result new e h) few elsewhere)

  pub past_none : (result last' : Option Last) → result ≡ None → last' ≡ last → AfterStep index (slice_index_or steps index d) log now log' now' result
      → IsUnderWay places round (index + 1) steps log' now' last'
  past_none result last' e f h =
      subst (λ l. IsUnderWay places round (index + 1) steps log' now' l) (sym f)
      (past_quiet places round index steps log now last (slice_index_or steps index d) log' now' at_index way
      (subst (λ r. AfterStep index (slice_index_or steps index d) log now log' now' r) e h))

  pub stops : (result : Option Last) (new : Last) → result ≡ Some new → AfterStep index (slice_index_or steps index d) log now log' now' result
      → (places ≤ new.length) ⊎ ((slice_index_or steps index d).head ≡ 0) → HasRaised places round steps log' now' new
  stops result new e h why =
      stopped places round index steps log now last (slice_index_or steps index d) log' now' new at_index (fits index (slice_index_or steps index d) at_index) way
      (raise_from index (slice_index_or steps index d) log now log' now' result new e h) why

-- a step fits, whatever the name for the number of places
pub fit_at : (places places' index : ℕ) (steps : List Step) (d : Step) → places' ≡ places → index < length steps → AllFit places steps → IsFit places' (slice_index_or steps index d)
fit_at places places' index steps d e within fits =
    subst (λ n. IsFit n (slice_index_or steps index d)) (sym e) (fits index (slice_index_or steps index d) (slice_get-get_or steps index d within))

pub short_at : (places places' : ℕ) (now : List (Option Last)) → places' ≡ places → AllShort places now → AllShort places' now
short_at places places' now e short = subst (λ n. AllShort n now) (sym e) short

pub ends_at : (places round number : ℕ) (steps : List Step) (log : List Event) (now : List (Option Last)) (last : Option Last) → number ≤ length steps → length steps ≤ number
    → IsUnderWay places round number steps log now last → AfterRaises places round steps log now last
ends_at places round number steps log now last l m way =
    let e : number ≡ length steps = omega (arith, l, m) in
    round_ends places round steps log now last (subst (λ n. IsUnderWay places round n steps log now last) e way)

pub fits_with : (places places' : ℕ) (steps : List Step) → places' ≡ places → AllFit places steps → AllFit places' steps
fits_with places places' steps e fits = subst (λ n. AllFit n steps) (sym e) fits
