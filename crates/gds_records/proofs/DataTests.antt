-- What the tests of data say, both ways.
use Rattle.std.proofs.Common.{◌≡◌, ◌≢◌, ℕ, ◌%◌, Bool, true, false, cond, ◌⊎◌, inl, inr, eqb, List, [], length, Option, Some, None, IfSome, MatchBool, refl, ap, ◌∙◌}
use Rattle.std.proofs.lemmas.List.{nil_from_length}
use Rattle.std.proofs.lemmas.Bool.{eqb-true, eqb-false, eq-eqb, ne_eqb, true≢false, and_parts, and_cases, and_from, and_left, and_right, false_from_ne_true}
use Rattle.gds_records.specs.declared.types.TheConstants.{NO_DATA}
use Rattle.gds_records.specs.Records.{unit, WholeItems}
use Rattle.gds_records.specs.Framing.{whole_items, fits}

whole_by : (none : Bool) (body : List ℕ) (u : ℕ) → cond none (eqb (length body) 0) (eqb (length body % u) 0) ≡ true → MatchBool none (body ≡ []) (length body % u ≡ 0)
whole_by true body u e = nil_from_length body (eqb-true _ _ e)
whole_by false body u e = eqb-true _ _ e

whole_back : (none : Bool) (body : List ℕ) (u : ℕ) → MatchBool none (body ≡ []) (length body % u ≡ 0) → cond none (eqb (length body) 0) (eqb (length body % u) 0) ≡ true
whole_back true body u e = eq-eqb _ _ (ap length e)
whole_back false body u e = eq-eqb _ _ e

pub whole_true : (form : ℕ) (body : List ℕ) → whole_items form body ≡ true → WholeItems form body
whole_true form body e = whole_by (eqb form NO_DATA) body (unit form) e

pub true_whole : (form : ℕ) (body : List ℕ) → WholeItems form body → whole_items form body ≡ true
true_whole form body e = whole_back (eqb form NO_DATA) body (unit form) e

-- the data fit what is expected
pub fits_true : (o : Option ℕ) (form : ℕ) (body : List ℕ) → fits o form body ≡ true → IfSome o (λ expected. (form ≡ expected) × WholeItems expected body)
fits_true None form body e = tt
fits_true (Some expected) form body e =
    let both = and_parts (eqb form expected) (whole_items expected body) e in
    (eqb-true _ _ both.0, whole_true expected body both.1)

pub true_fits : (o : Option ℕ) (form : ℕ) (body : List ℕ) → IfSome o (λ expected. (form ≡ expected) × WholeItems expected body) → fits o form body ≡ true
true_fits None form body h = refl
true_fits (Some expected) form body h = and_from _ _ (eq-eqb _ _ h.0) (true_whole expected body h.1)

-- they don't
pub fits_false : (o : Option ℕ) (form : ℕ) (body : List ℕ) → fits o form body ≡ false → (expected : ℕ) × (o ≡ Some expected) × ((form ≢ expected) ⊎ ¬ WholeItems expected body)
fits_false None form body e = absurd (true≢false e)
fits_false (Some expected) form body e = (
  expected,
  refl,
  elim (and_cases (eqb form expected) (whole_items expected body) e) [
    | inl other ↦ inl (eqb-false _ _ other)
    | inr parts ↦ inr (λ whole. absurd (cc (true_whole expected body whole)))
  ],
)

pub false_fits : (o : Option ℕ) (form expected : ℕ) (body : List ℕ) → o ≡ Some expected → ((form ≢ expected) ⊎ ¬ WholeItems expected body) → fits o form body ≡ false
false_fits o form expected body e (inl other) = ap (λ (x : Option ℕ). fits x form body) e ∙ and_left _ _ (ne_eqb _ _ other)
false_fits o form expected body e (inr parts) =
    ap (λ (x : Option ℕ). fits x form body) e ∙ and_right (eqb form expected) _ (false_from_ne_true _ (λ t. parts (whole_true expected body t)))
