-- The loop that finds the zeros at an end.
use Rattle.std.proofs.Common.{◌≡◌, ◌≢◌, ℕ, ◌+◌, ◌-◌, ◌<◌, ◌≤◌, List, [], ◌∷◌, ◌++◌, length, get_or, take, sym, ap, ◌∙◌, arith}
use Rattle.std.proofs.lemmas.List.{take_more}
use Rattle.gds_grammar.specs.Conditions.{trim}
use Rattle.gds_stream.proofs.Texts.{trim_push, trim_push_zero}

last_byte : (bytes : List ℕ) (n : ℕ) → 0 < n → n ≤ length bytes → take n bytes ≡ take (n - 1) bytes ++ get_or bytes (n - 1) 0 ∷ []
last_byte bytes n pos le =
    let k : n - 1 + 1 ≡ n = omega arith in
    ap (λ (m : ℕ). take m bytes) (sym k) ∙ take_more bytes (n - 1) 0 (omega arith)

-- a zero at the end goes
pub zero_goes : (bytes : List ℕ) (n : ℕ) → 0 < n → n ≤ length bytes → get_or bytes (n - 1) 0 ≡ 0 → trim (take n bytes) ≡ trim bytes → trim (take (n - 1) bytes) ≡ trim bytes
zero_goes bytes n pos le is so_far =
    sym (trim_push_zero (take (n - 1) bytes))
    ∙ ap (λ (b : ℕ). trim (take (n - 1) bytes ++ b ∷ [])) (sym is)
    ∙ sym (ap trim (last_byte bytes n pos le))
    ∙ so_far

-- no byte is left
pub none_left : (bytes : List ℕ) (n : ℕ) → n ≤ 0 → trim (take n bytes) ≡ trim bytes → take n bytes ≡ trim bytes
none_left bytes n le so_far =
    let k : n ≡ 0 = omega arith in
    ap (λ (m : ℕ). take m bytes) k ∙ sym (ap (λ (m : ℕ). trim (take m bytes)) k) ∙ so_far

-- the last byte is another
pub other_left : (bytes : List ℕ) (n : ℕ) → 0 < n → n ≤ length bytes → get_or bytes (n - 1) 0 ≢ 0 → trim (take n bytes) ≡ trim bytes → take n bytes ≡ trim bytes
other_left bytes n pos le other so_far =
    last_byte bytes n pos le
    ∙ sym (trim_push (take (n - 1) bytes) (get_or bytes (n - 1) 0) (omega arith))
    ∙ sym (ap trim (last_byte bytes n pos le))
    ∙ so_far
