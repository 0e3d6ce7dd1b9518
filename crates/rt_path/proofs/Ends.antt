-- How the rounds begin and end.
use Rattle.std.proofs.Common.{◌≡◌, ◌≢◌, ℕ, zero, suc, ◌+◌, ◌<◌, true, false, is_some, List, [], ◌∷◌, Option, Some, None, length, replicate, slice_get, slice_index_or, set, refl, sym, ap, subst, ◌∙◌, ◌⊎◌, inl, inr, arith, get_or-set_same, get_or-set_other, length-set}
use Rattle.std.proofs.lemmas.Int.{ints}
use Rattle.std.proofs.lemmas.Bool.{cases_eq}
use Rattle.std.proofs.lemmas.Option.{none-some, same_Some, slice_get_within}
use Rattle.rt_rows.specs.declared.proof.Share.{Share}
use Rattle.rt_path.specs.declared.event.Step.{Step}
use Rattle.rt_path.specs.declared.event.Event.{Event}
use Rattle.rt_path.specs.declared.event.Last.{Last}
use Rattle.rt_path.specs.Raises.{first, origin, IsLog, last_at, IsLast, IsShort, IsSettled, AllSettled, IsAfterRaises, HasRaised, AfterRaises}
use Rattle.rt_path.specs.Raises.IsSettled.{quiet, late}
use Rattle.rt_path.specs.Raises.IsCutShort.{long, at_origin}
use Rattle.rt_path.specs.Raises.IsAfterRaises.{cut_short, whole}
use Rattle.rt_path.specs.WaysBack.{HasNoCircle, AfterWayBack, IsBeforeRound}

-- a round that raised something, and closed no circle, was whole
pub went_on : (places round : ℕ) (steps : List Step) (log : List Event) (now : List (Option Last)) (last : Last) → HasRaised places round steps log now last
    → HasNoCircle places log last.event → IsBeforeRound places (round + 1) steps log now
went_on places round steps log now last raised none = by_after raised.after
  where
    by_after : IsAfterRaises places round steps log now raised.event → IsBeforeRound places (round + 1) steps log now
    by_after (cut_short (long l)) = absurd (omega (arith, l, none.few raised.event raised.there))
    by_after (cut_short (at_origin e)) = absurd (none.elsewhere raised.event raised.there e)
    by_after (whole going settled l) = record { going = going; settled = settled; below = omega (arith, l, none.few raised.event raised.there) }

-- no circle was found
pub none_found : (places : ℕ) (steps : List Step) (log : List Event) (start : ℕ) (found : Option (List Share)) → is_some found ≡ false → AfterWayBack places steps log start found
    → HasNoCircle places log start
none_found places steps log start None e h = h
none_found places steps log start (Some shares) e h = absurd (no_none e)
  where
    no_none : true ≡ false → ⊥
    no_none e = grind (arith, e)

-- each step is settled before the first round
pub settled_first : (steps : List Step) (now : List (Option Last)) → AllSettled 0 steps now
settled_first steps now i step e = by_tail (last_at now step.tail) refl
  where
    by_tail : (o : Option Last) → last_at now step.tail ≡ o → IsSettled 0 now step
    by_tail None h = quiet (record { met = λ from g. absurd (none-some from (sym h ∙ g)) })
    by_tail (Some from) h = late from h (omega arith)

only_first : (i : ℕ) (event : Event) → slice_get (first ∷ []) i ≡ Some event → (i ≡ 0) × (first ≡ event)
only_first zero event e = (refl, same_Some first event e)
only_first (suc i) event e = absurd (none-some event e)

module _ (places : ℕ) (steps : List Step) (some : 0 < places) where
  nones : (n place : ℕ) → ◌≡◌ {A = Option Last} (slice_index_or (replicate n None) place None) None
  nones zero place = refl
  nones (suc n) zero = refl
  nones (suc n) (suc place) = nones n place

  long_enough : (n : ℕ) → length (replicate {A = Option Last} n None) ≡ n
  long_enough zero = refl
  long_enough (suc n) = ap suc (long_enough n)

  at_zero : last_at (set (replicate places None) 0 (Some origin)) 0 ≡ Some origin
  at_zero = get_or-set_same (replicate places None) 0 (Some origin) None (omega (arith, some, long_enough places))

  elsewhere : (place : ℕ) → place ≢ 0 → last_at (set (replicate places None) 0 (Some origin)) place ≡ None
  elsewhere place n = get_or-set_other (replicate places None) 0 place (Some origin) None n ∙ nones places place

  only_origin : (place : ℕ) (last : Last) → last_at (set (replicate places None) 0 (Some origin)) place ≡ Some last → (place ≡ 0) × (origin ≡ last)
  only_origin place last e = by_place (cases_eq place 0)
    where
      by_place : (place ≡ 0) ⊎ (place ≢ 0) → (place ≡ 0) × (origin ≡ last)
      by_place (inl p) = (p, same_Some origin last (sym at_zero ∙ subst (λ q. last_at (set (replicate places None) 0 (Some origin)) q ≡ Some last) p e))
      by_place (inr n) = absurd (none-some last (sym (elsewhere place n) ∙ e))

  first_log : IsLog steps (first ∷ [])
  first_log = record {
    begins = refl;
    comes = λ i event later e. absurd (omega (arith, later, (only_first i event e).0));
    rising = λ i j a b l e f same. absurd (omega (arith, l, (only_first i a e).0, (only_first j b f).0));
  }

  origin_last : IsLast (first ∷ []) 0 origin
  origin_last = record { event = first; there = refl; at_place = refl; value = refl; length = refl }

  origin_short : IsShort places origin
  origin_short = record { few = some; not_far_down = omega (arith, ints); not_far_up = omega (arith, ints) }

  -- the origin alone has a value
  pub first_round : (log : List Event) (now : List (Option Last)) → log ≡ first ∷ [] → now ≡ set (replicate places None) 0 (Some origin) → IsBeforeRound places 0 steps log now
  first_round log now e f =
      subst (λ l. IsBeforeRound places 0 steps l now) (sym e)
      (subst (λ n. IsBeforeRound places 0 steps (first ∷ []) n) (sym f) (record {
        going = record {
          logged = first_log;
          lasts = record {
            one_each = omega (arith, long_enough places, length-set {A = Option Last});
            lasts = λ place last h.
                let only = only_origin place last h in
                subst (λ p. IsLast (first ∷ []) p last) (sym only.0) (subst (λ l. IsLast (first ∷ []) 0 l) only.1 origin_last);
            greatest = λ i event h.
                let only = only_first i event h in (
                  origin,
                  subst (λ x. last_at (set (replicate places None) 0 (Some origin)) x.place ≡ Some origin) only.1 at_zero,
                  omega (arith, ints, ap (λ x. x.value) only.1),
                );
          };
          short = λ place last h.
              let only = only_origin place last h in
              subst (λ l. IsShort places l) only.1 origin_short;
          at_origin = at_zero;
        };
        settled = settled_first steps (set (replicate places None) 0 (Some origin));
        below = some;
      }))

raised_by : (places round : ℕ) (steps : List Step) (log : List Event) (now : List (Option Last)) (result : Option Last) (last : Last) → result ≡ Some last
    → AfterRaises places round steps log now result → HasRaised places round steps log now last
raised_by places round steps log now result last e h = subst (λ r. AfterRaises places round steps log now r) e h

-- the last event of a round is in the log
pub raised_there : (places round : ℕ) (steps : List Step) (log : List Event) (now : List (Option Last)) (result : Option Last) (last : Last) → result ≡ Some last
    → AfterRaises places round steps log now result → last.event < length log
raised_there places round steps log now result last e h =
    let raised = raised_by places round steps log now result last e h in
    slice_get_within log last.event raised.event raised.there

-- after a round that closed no circle
pub round_over : (places places' places'' round : ℕ) (steps : List Step) (log log' : List Event) (now : List (Option Last)) (result : Option Last) (last : Last) (found : Option (List Share))
    → places' ≡ places → places'' ≡ places → log' ≡ log → result ≡ Some last → AfterRaises places' round steps log now result → is_some found ≡ false
    → AfterWayBack places'' steps log' last.event found → IsBeforeRound places (round + 1) steps log now
round_over places places' places'' round steps log log' now result last found p q l e h f k =
    went_on places round steps log now last
    (subst (λ n. HasRaised n round steps log now last) p (raised_by places' round steps log now result last e h))
    (subst (λ n. HasNoCircle n log last.event) q (subst (λ x. HasNoCircle places'' x last.event) l (none_found places'' steps log' last.event found f k)))

-- the first last events are as many as the places
pub places_at_first : (places : ℕ) (now : List (Option Last)) → now ≡ set (replicate places None) 0 (Some origin) → length now ≡ places
places_at_first places now e = ap length e ∙ same_length places
  where
    same_length : (n : ℕ) → length (set (replicate n None) 0 (Some origin)) ≡ n
    same_length zero = refl
    same_length (suc n) = ap suc (long n)
      where
        long : (m : ℕ) → length (replicate {A = Option Last} m None) ≡ m
        long zero = refl
        long (suc m) = ap suc (long m)

pub begins_at : (places places' : ℕ) (steps : List Step) (log : List Event) (now : List (Option Last)) → 0 < places → places' ≡ places → log ≡ first ∷ []
    → now ≡ set (replicate places None) 0 (Some origin) → IsBeforeRound places' 0 steps log now
begins_at places places' steps log now some p e f = subst (λ n. IsBeforeRound n 0 steps log now) (sym p) (first_round places steps some log now e f)
