-- From one start there is one run, which may be broken off sooner or later, and one outcome.
use Rattle.std.proofs.Common.{◌≡◌, ℕ, ◌+◌, ◌<◌, ◌≤◌, ◌⊎◌, List, Result, Ok, Err, refl, sym, ap, subst, subst₂, ◌∙◌, inl, inr, arith}
use Rattle.rt_tableau.specs.States.{State, IsSmallTable, PassesFirst, exchanged_state}
use Rattle.rt_tableau.proofs.Excluding.{excludes}
use Rattle.rt_simplex.specs.Choices.{IsDualPivot}
use Rattle.rt_simplex.specs.Runs.{IsRun, IsOutcome}
use Rattle.rt_simplex.specs.Runs.IsRun.{none, more}
use Rattle.rt_simplex.specs.Laws.{RunsAreOne, OneOutcome}
use Rattle.rt_simplex.specs.declared.answers.End.{End}
use Rattle.rt_simplex.specs.declared.answers.End.TheVariants.{Optimum, Ray}
use Rattle.rt_simplex.specs.declared.answers.SearchError.{SearchError}
use Rattle.rt_simplex.specs.declared.answers.SearchError.TheVariants.{Refuted, Overflow, Budget, OutOfMemory}
use Rattle.rt_simplex.proofs.Determined.{one_leaving, one_pivot, optimum_has_none, optimum_is_no_ray, ray_has_none, one_first_past}

-- a run's first pivot, and the run from there on
record Begins (start : State) (from : ℕ) (state : State) (count : ℕ) : Type 0 where
  p : ℕ
  q : ℕ
  dual : IsDualPivot start p q
  small : IsSmallTable (exchanged_state start p q)
  rest : IsRun (exchanged_state start p q) (from + 1) state count

-- a run makes no pivot, or begins with one
begins : (start : State) (from : ℕ) (state : State) (count : ℕ) → IsRun start from state count → ((start ≡ state) × (from ≡ count)) ⊎ Begins start from state count
begins start from _ _ none = inl (refl, refl)
begins start from _ _ (more state count p q run dual small) = further (begins start from state count run)
  where
    further : ((start ≡ state) × (from ≡ count)) ⊎ Begins start from state count → ((start ≡ exchanged_state state p q) × (from ≡ count + 1)) ⊎ Begins start from (exchanged_state state p q) (count + 1)
    further (inl (e, f)) =
        inr (record {
          p = p;
          q = q;
          dual = subst (λ s. IsDualPivot s p q) (sym e) dual;
          small = subst (λ s. IsSmallTable (exchanged_state s p q)) (sym e) small;
          rest = subst₂ (λ s n. IsRun (exchanged_state s p q) (n + 1) (exchanged_state state p q) (count + 1)) (sym e) (sym f) none;
        })
    further (inr b) = inr (record { p = b.p; q = b.q; dual = b.dual; small = b.small; rest = more state count p q b.rest dual small })

-- each pivot is counted
pub count_rises : (start : State) (from : ℕ) (state : State) (count : ℕ) → IsRun start from state count → from ≤ count
count_rises start from _ _ none = omega arith
count_rises start from _ _ (more state count p q run dual small) = let h = count_rises start from state count run in omega (arith, h)

one_goes_on : (start : State) (from : ℕ) (other : State) (spent : ℕ) → IsRun start from other spent → (state : State) (count : ℕ) → IsRun start from state count → IsRun state count other spent ⊎ IsRun other spent state count
one_goes_on start from other spent second _ _ none = inl second
one_goes_on start from other spent second _ _ (more state count p q run dual small) = further (one_goes_on start from other spent second state count run)
  where
    aside : ((state ≡ other) × (count ≡ spent)) ⊎ Begins state count other spent → IsRun (exchanged_state state p q) (count + 1) other spent ⊎ IsRun other spent (exchanged_state state p q) (count + 1)
    aside (inl (e, f)) = inr (more state count p q (subst₂ (λ s n. IsRun other spent s n) (sym e) (sym f) none) dual small)
    aside (inr b) =
        let same = one_pivot state b.p b.q p q b.dual dual in
        inl (subst₂ (λ k m. IsRun (exchanged_state state k m) (count + 1) other spent) same.0 same.1 b.rest)

    further : IsRun state count other spent ⊎ IsRun other spent state count → IsRun (exchanged_state state p q) (count + 1) other spent ⊎ IsRun other spent (exchanged_state state p q) (count + 1)
    further (inl on) = aside (begins state count other spent on)
    further (inr back) = inr (more state count p q back dual small)

pub runs_are_one_each : RunsAreOne
runs_are_one_each start state other from count spent run second = one_goes_on start from other spent second state count run

-- an outcome is within the limit
pub within : (limit : ℕ) (state : State) (count : ℕ) (answer : Result End SearchError) → IsOutcome limit state count answer → count ≤ limit
within limit state count (Ok end) is = is.0
within limit state count (Err (Refuted proof)) is = absurd is
within limit state count (Err (Overflow basis p q i j)) is = let h = is.1 in omega (arith, h)
within limit state count (Err (Budget pivots)) is = let h = is.1 in omega (arith, h)
within limit state count (Err OutOfMemory) is = absurd is

-- where there is one no pivot goes on
pub goes_not_on : (limit : ℕ) (state : State) (count p q : ℕ) (answer : Result End SearchError) → IsOutcome limit state count answer → IsDualPivot state p q → IsSmallTable (exchanged_state state p q) → count < limit → ⊥
goes_not_on limit state count p q (Ok Optimum) is dual small h = optimum_has_none state p q is.1 dual
goes_not_on limit state count p q (Ok (Ray row)) is dual small h = ray_has_none state row p q is.1 dual
goes_not_on limit state count p q (Err (Refuted proof)) is dual small h = is
goes_not_on limit state count p q (Err (Overflow basis r s i j)) (e, below, next, passes) dual small h =
    let same = one_pivot state r s p q next dual in
    excludes state p q i j (subst₂ (λ k m. PassesFirst state k m i j) same.0 same.1 passes) small
goes_not_on limit state count p q (Err (Budget pivots)) is dual small h = let at = is.1 in omega (arith, at, h)
goes_not_on limit state count p q (Err OutOfMemory) is dual small h = is

-- a run on from an outcome to within the limit makes no pivot
stays : (limit : ℕ) (state : State) (count : ℕ) (answer : Result End SearchError) (other : State) (spent : ℕ) → IsOutcome limit state count answer → IsRun state count other spent → spent ≤ limit
    → (state ≡ other) × (count ≡ spent)
stays limit state count answer other spent is run h = by_first (begins state count other spent run)
  where
    by_first : ((state ≡ other) × (count ≡ spent)) ⊎ Begins state count other spent → (state ≡ other) × (count ≡ spent)
    by_first (inl e) = e
    by_first (inr b) =
        let rises = count_rises (exchanged_state state b.p b.q) (count + 1) other spent b.rest in
        absurd (goes_not_on limit state count b.p b.q answer is b.dual b.small (omega (arith, h, rises)))

one_overflow : (state : State) (basis others : List ℕ) (p q i j r s k l : ℕ) → basis ≡ state.basis → others ≡ state.basis → IsDualPivot state p q → IsDualPivot state r s → PassesFirst state p q i j → PassesFirst state r s k l
    → Overflow basis p q i j ≡ Overflow others r s k l
one_overflow state basis others p q i j r s k l e f dual next passes second =
    let same = one_pivot state r s p q next dual in
    let past = one_first_past state p q i j k l passes (subst₂ (λ n m. PassesFirst state n m k l) same.0 same.1 second) in
    λ t. Overflow ((e ∙ sym f) t) (sym same.0 t) (sym same.1 t) (past.0 t) (past.1 t)

-- a state has one outcome
pub one_answer : (limit : ℕ) (state : State) (count : ℕ) (answer second : Result End SearchError) → IsOutcome limit state count answer → IsOutcome limit state count second → answer ≡ second
one_answer limit state count (Ok Optimum) (Ok Optimum) is also = refl
one_answer limit state count (Ok Optimum) (Ok (Ray row)) is also = absurd (optimum_is_no_ray state row is.1 also.1)
one_answer limit state count (Ok (Ray row)) (Ok Optimum) is also = absurd (optimum_is_no_ray state row also.1 is.1)
one_answer limit state count (Ok (Ray row)) (Ok (Ray other)) is also = ap (λ p. Ok (Ray p)) (one_leaving state row other is.1.leaving also.1.leaving)
one_answer limit state count (Ok Optimum) (Err (Overflow basis p q i j)) is (e, below, dual, passes) = absurd (optimum_has_none state p q is.1 dual)
one_answer limit state count (Ok Optimum) (Err (Budget pivots)) is (e, at, needs) = absurd (optimum_has_none state needs.p needs.q is.1 needs.dual)
one_answer limit state count (Ok (Ray row)) (Err (Overflow basis p q i j)) is (e, below, dual, passes) = absurd (ray_has_none state row p q is.1 dual)
one_answer limit state count (Ok (Ray row)) (Err (Budget pivots)) is (e, at, needs) = absurd (ray_has_none state row needs.p needs.q is.1 needs.dual)
one_answer limit state count (Err (Overflow basis p q i j)) (Ok Optimum) (e, below, dual, passes) also = absurd (optimum_has_none state p q also.1 dual)
one_answer limit state count (Err (Overflow basis p q i j)) (Ok (Ray row)) (e, below, dual, passes) also = absurd (ray_has_none state row p q also.1 dual)
one_answer limit state count (Err (Overflow basis p q i j)) (Err (Overflow others r s k l)) (e, below, dual, passes) (f, below', next, second) =
    ap (λ x. Err x) (one_overflow state basis others p q i j r s k l e f dual next passes second)
one_answer limit state count (Err (Overflow basis p q i j)) (Err (Budget pivots)) (e, below, dual, passes) (f, at, needs) = absurd (omega (arith, below, at))
one_answer limit state count (Err (Budget pivots)) (Ok Optimum) (e, at, needs) also = absurd (optimum_has_none state needs.p needs.q also.1 needs.dual)
one_answer limit state count (Err (Budget pivots)) (Ok (Ray row)) (e, at, needs) also = absurd (ray_has_none state row needs.p needs.q also.1 needs.dual)
one_answer limit state count (Err (Budget pivots)) (Err (Overflow basis p q i j)) (e, at, needs) (f, below, dual, passes) = absurd (omega (arith, below, at))
one_answer limit state count (Err (Budget pivots)) (Err (Budget others)) (e, at, needs) (f, at', needs') = ap (λ n. Err (Budget n)) (e ∙ sym f)
one_answer limit state count answer (Err (Refuted proof)) is also = absurd also
one_answer limit state count answer (Err OutOfMemory) is also = absurd also
one_answer limit state count (Err (Refuted proof)) second is also = absurd is
one_answer limit state count (Err OutOfMemory) second is also = absurd is

pub one_outcome_each : OneOutcome
one_outcome_each start state other from count spent limit answer second run is run' also =
    let same = meets (runs_are_one_each start state other from count spent run run') in
    (same.0, same.1, one_answer limit state count answer second is (subst₂ (λ s n. IsOutcome limit s n second) (sym same.0) (sym same.1) also))
  where
    meets : IsRun state count other spent ⊎ IsRun other spent state count → (state ≡ other) × (count ≡ spent)
    meets (inl on) = stays limit state count answer other spent is on (within limit other spent second also)
    meets (inr back) = let e = stays limit other spent second state count also back (within limit state count answer is) in (sym e.0, sym e.1)
