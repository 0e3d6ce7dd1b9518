-- Texts with and without zeros at their end.
use Rattle.std.proofs.Common.{◌≡◌, ◌≢◌, ℕ, zero, suc, ◌%◌, ◌<◌, ◌≤◌, eqb, List, [], ◌∷◌, ◌++◌, length, refl, ap, ◌∙◌, arith}
use Rattle.std.proofs.lemmas.List.{length-append}
use Rattle.std.proofs.lemmas.List.Elements.{All-head, All-tail}
use Rattle.std.proofs.lemmas.Bool.{cond_both, eqb-true, eqb-false}
use Rattle.rt_base.specs.Text.{IsText, IsPrintable}
use Rattle.gds_grammar.specs.Conditions.{without_zero, trim}
use Rattle.gds_stream.specs.Written.{padded}

-- a byte before others stays
without_zero_more : (x c : ℕ) (bytes : List ℕ) → without_zero x (c ∷ bytes) ≡ x ∷ c ∷ bytes
without_zero_more zero c bytes = refl
without_zero_more (suc x) c bytes = refl

-- a byte that isn't zero stays
without_zero_other : (x : ℕ) (bytes : List ℕ) → 0 < x → without_zero x bytes ≡ x ∷ bytes
without_zero_other zero bytes lt = absurd (omega arith)
without_zero_other (suc x) [] lt = refl
without_zero_other (suc x) (c ∷ bytes) lt = refl

-- a zero at the end goes
pub trim_push_zero : (bytes : List ℕ) → trim (bytes ++ 0 ∷ []) ≡ trim bytes
trim_push_zero [] = refl
trim_push_zero (x ∷ bytes) = ap (without_zero x) (trim_push_zero bytes)

-- another byte at the end stays, and all before it
pub trim_push : (bytes : List ℕ) (b : ℕ) → 0 < b → trim (bytes ++ b ∷ []) ≡ bytes ++ b ∷ []
trim_push [] b lt = without_zero_other b [] lt
trim_push (x ∷ []) b lt = ap (without_zero x) (trim_push [] b lt) ∙ without_zero_more x b []
trim_push (x ∷ (y ∷ bytes)) b lt = ap (without_zero x) (trim_push (y ∷ bytes) b lt) ∙ without_zero_more x y (bytes ++ b ∷ [])

-- a text has no zero to lose
pub trim_text : (text : List ℕ) → IsText text → trim text ≡ text
trim_text [] printable = refl
trim_text (x ∷ text) printable =
    let first : IsPrintable x = All-head IsPrintable x text printable in
    ap (without_zero x) (trim_text text (All-tail IsPrintable x text printable)) ∙ without_zero_other x text (omega (arith, first.0))

-- a text is what its padding is without zeros
pub trim_padded : (text : List ℕ) → IsText text → trim (padded text) ≡ text
trim_padded text printable =
    cond_both (eqb (length text % 2) 0) text (text ++ 0 ∷ []) (λ t. trim t ≡ text)
    (λ _. trim_text text printable)
    (λ _. trim_push_zero text ∙ trim_text text printable)

-- a padded text is even
pub even_padded : (text : List ℕ) → length (padded text) % 2 ≡ 0
even_padded text =
    cond_both (eqb (length text % 2) 0) text (text ++ 0 ∷ []) (λ t. length t % 2 ≡ 0)
    (λ e. eqb-true _ _ e)
    (λ e. let odd : length text % 2 ≢ 0 = eqb-false _ _ e in omega (arith, length-append text (0 ∷ [])))

-- and still fits a record
pub short_padded : (text : List ℕ) → length text ≤ 65530 → length (padded text) ≤ 65530
short_padded text short =
    cond_both (eqb (length text % 2) 0) text (text ++ 0 ∷ []) (λ t. length t ≤ 65530)
    (λ e. short)
    (λ e. let odd : length text % 2 ≢ 0 = eqb-false _ _ e in omega (arith, length-append text (0 ∷ [])))
