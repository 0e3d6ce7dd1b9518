-- No two claims have one text, and no text is both a claim's and bad.
use Rattle.std.proofs.Common.{◌≡◌, ◌≢◌, ◌==◌, ℕ, suc, Bool, true, false, cond, List, [], ◌∷◌, ◌++◌, All, ℤ, pos, negsuc, neg_ℤ, Result, Ok, Err, sym, ap, subst, ◌∙◌, append_assoc, refl, arith}
use Rattle.std.specs.Int.{w128}
use Rattle.std.specs.Int.RustNames.{FitsSigned}
use Rattle.std.specs.List.{flat_map, slice_split}
use Rattle.std.specs.Str.Parse.{IsNumeral, digits_value}
use Rattle.std.specs.Fmt.{decimal, signed_decimal}
use Rattle.std.proofs.lemmas.Bool.{ne_eqb}
use Rattle.std.proofs.lemmas.Fmt.{decimal_is_IsNumeral_wide}
use Rattle.std.proofs.lemmas.Str.Parse.{digit_from_value}
use Rattle.rt_rows.specs.declared.row.Var.{Var}
use Rattle.rt_rows.specs.declared.row.Var.TheVariants.{L, R, B, T, Width, Height, Axis as MirrorAxis}
use Rattle.cert_lines.specs.declared.line.Line.{Line}
use Rattle.cert_lines.specs.declared.numbers.Numbers.{Numbers}
use Rattle.cert_lines.specs.Lines.{variable_word, words_of, spoken, line_text}
use Rattle.cert_lines.specs.Limits.{IsNumber, IsVariable, IsWithin}
use Rattle.cert_lines.specs.Guesses.{word_at, ReadsNumber, ReadsCount, ReadsVariable, ReadsNumbers, begins_number, variable_of}
use Rattle.cert_lines.proofs.Decimals.{magnitude, magnitude_below, number_magnitude}
use Rattle.cert_lines.proofs.Guessed.{share_only, plain_only}
use Rattle.cert_lines.proofs.Splitting.{is_space, words_again, line_feedless}
use Rattle.cert_text.specs.declared.claim.Claim.{Claim}
use Rattle.cert_text.specs.declared.cert_error.CertError.{CertError}
use Rattle.cert_text.specs.declared.cert_error.CertError.TheVariants.{BadCert, OutOfMemory}
use Rattle.cert_text.specs.Claims.{claim_lines, claim_text}
use Rattle.cert_text.specs.Texts.{CanBeTold, IsCertificate, ended, Stops, IsBadAt}
use Rattle.cert_text.specs.Texts.Stops.{wrong_line, too_early}
use Rattle.cert_text.specs.Taking.{IsClaimOf, Reads}
use Rattle.cert_text.specs.Building.{claim_of}
use Rattle.cert_text.proofs.Reaching.{same_cut, line_and_more}
use Rattle.cert_text.proofs.Again.{claim_again}

-- ---- words

-- the number that a word writes
value_of : List ℕ → ℤ
value_of [] = pos 0
value_of (c ∷ cs) = cond (c == 45) (neg_ℤ (pos (digits_value 10 cs))) (pos (digits_value 10 (c ∷ cs)))

digits_known : (ds : List ℕ) → IsNumeral 10 ds → value_of ds ≡ pos (digits_value 10 ds)
unfolding value_of
digits_known [] numeral = refl
digits_known (c ∷ cs) numeral =
    let range = digit_from_value c numeral.1.0 in
    let plain : c ≢ 45 = λ e. omega (arith, range.0) in
    ap (λ (b : Bool). cond b (neg_ℤ (pos (digits_value 10 cs))) (pos (digits_value 10 (c ∷ cs)))) (ne_eqb c 45 plain)

value_known : (z : ℤ) → FitsSigned w128 z → value_of (signed_decimal z) ≡ z
unfolding value_of
value_known (pos n) fits = let numeral = decimal_is_IsNumeral_wide n (magnitude n fits) in digits_known (decimal n) numeral.0 ∙ ap pos numeral.1
value_known (negsuc n) fits = let numeral = decimal_is_IsNumeral_wide (suc n) (magnitude_below n fits) in ap (λ (k : ℕ). neg_ℤ (pos k)) numeral.1

number_known : (word : List ℕ) → ReadsNumber word (value_of word)
number_known word = record { reads = λ z fits is. ap value_of is ∙ value_known z fits }

digits_again : (n : ℕ) → IsNumber n → digits_value 10 (decimal n) ≡ n
digits_again n small = (decimal_is_IsNumeral_wide n (number_magnitude n small)).1

count_known : (word : List ℕ) → ReadsCount word (digits_value 10 word)
count_known word = record { reads = λ n small is. ap (digits_value 10) is ∙ digits_again n small; none = λ is. ap (digits_value 10) is }

-- the variable that a word writes
var_of : List ℕ → Var
var_of [] = Width
var_of (c ∷ cs) = variable_of c (digits_value 10 cs)

var_known : (v : Var) → IsVariable v → var_of (variable_word v) ≡ v
unfolding var_of
var_known (L i) small = ap L (digits_again i small)
var_known (R i) small = ap R (digits_again i small)
var_known (B i) small = ap B (digits_again i small)
var_known (T i) small = ap T (digits_again i small)
var_known Width small = refl
var_known Height small = refl
var_known MirrorAxis small = refl

variable_known : (word : List ℕ) → ReadsVariable word (var_of word)
variable_known word = record { reads = λ v within is. ap var_of is ∙ var_known v within }

numbers_known : (words : List (List ℕ)) → (numbers : Numbers) × ReadsNumbers words numbers
numbers_known words = (
  record { second = value_of (word_at words 1); third = value_of (word_at words 2); fourth = value_of (word_at words 3); fifth = value_of (word_at words 4); sixth = value_of (word_at words 5) },
  record {
    second = number_known (word_at words 1);
    third = number_known (word_at words 2);
    fourth = number_known (word_at words 3);
    fifth = number_known (word_at words 4);
    sixth = number_known (word_at words 5);
  },
)

-- no two lines have the same words
words_once : (a b : Line) → IsWithin a → IsWithin b → words_of a ≡ words_of b → a ≡ b
words_once a b first second same = by_case (begins_number (word_at (words_of a) 0)) refl
  where
    by_case : (begins : Bool) → begins_number (word_at (words_of a) 0) ≡ begins → a ≡ b
    by_case true is =
        let only = λ (l : Line) (within : IsWithin l) (e : words_of a ≡ words_of l). share_only (words_of a) l _ _ _ _ _ within e is (number_known (word_at (words_of a) 0))
        (count_known (word_at (words_of a) 2)) (count_known (word_at (words_of a) 3)) (count_known (word_at (words_of a) 4)) refl in
        sym (only a first refl) ∙ only b second same
    by_case false is =
        let numbers = numbers_known (words_of a) in
        let only = λ (l : Line) (within : IsWithin l) (e : words_of a ≡ words_of l). plain_only (words_of a) l _ numbers.0 (var_of (word_at (words_of a) 1)) within e is numbers.1
        (variable_known (word_at (words_of a) 1)) refl in
        sym (only a first refl) ∙ only b second same

-- ---- lines

line_once : (a b : Line) → IsWithin a → IsWithin b → spoken (words_of a) ≡ spoken (words_of b) → a ≡ b
line_once a b first second same = words_once a b first second (sym (words_again a first) ∙ ap (slice_split is_space) same ∙ words_again b second)

-- the text of no lines is that of no others
some_text : (l : Line) (lines : List Line) → [] ≡ flat_map line_text (l ∷ lines) → ⊥
some_text l lines e = empty (spoken (words_of l)) (flat_map line_text lines) (e ∙ line_and_more l lines)
  where
    empty : (text rest : List ℕ) → [] ≡ text ++ 10 ∷ rest → ⊥
    empty [] rest e = cc
    empty (c ∷ text) rest e = cc

lines_once : (xs ys : List Line) → All IsWithin xs → All IsWithin ys → flat_map line_text xs ≡ flat_map line_text ys → xs ≡ ys
lines_once [] [] first second same = refl
lines_once [] (y ∷ ys) first second same = absurd (some_text y ys same)
lines_once (x ∷ xs) [] first second same = absurd (some_text x xs (sym same))
lines_once (x ∷ xs) (y ∷ ys) first second same =
    let one : IsWithin x = first 0 x (omega arith) in
    let other : IsWithin y = second 0 y (omega arith) in
    let cut = same_cut (spoken (words_of x)) (spoken (words_of y)) (flat_map line_text xs) (flat_map line_text ys) (line_feedless x one) (line_feedless y other)
    (sym (line_and_more x xs) ∙ same ∙ line_and_more y ys) in
    let head = line_once x y one other cut.0 in
    ap (λ (l : Line). l ∷ xs) head
    ∙ ap (λ (ls : List Line). y ∷ ls) (lines_once xs ys (λ k d lt. first (suc k) d (omega (arith, lt))) (λ k d lt. second (suc k) d (omega (arith, lt))) cut.1)

-- ---- claims

pub one_claim : (a b : Claim) → CanBeTold a → CanBeTold b → claim_text a ≡ claim_text b → a ≡ b
unfolding claim_text
one_claim a b first second same =
    sym (claim_again a first.form) ∙ ap claim_of (lines_once (claim_lines a) (claim_lines b) first.within second.within same) ∙ claim_again b second.form

-- a text that is bad is no claim's
stopped : (text : List ℕ) (before : List (List ℕ)) (rest : List ℕ) → text ≡ flat_map ended before ++ rest → Stops before rest → IsCertificate text → ⊥
stopped text before _ is (wrong_line line after one never) told =
    never (record { claim = told.claim; told = told.told; more = after; text_is = sym told.text_is ∙ is ∙ sym (append_assoc (flat_map ended before) (ended line) after) })
stopped text before _ is (too_early rest one never) told = never (subst IsCertificate is told)

pub bad_is_none : (text : List ℕ) (claim : Claim) (number : ℕ) → IsClaimOf text claim → IsBadAt text number → ⊥
bad_is_none text claim number told bad = stopped text bad.before bad.rest bad.text_is bad.stops (record { claim = claim; told = told.told; text_is = told.text_is })

pub read_again : (claim : Claim) (answer : Result Claim CertError) → CanBeTold claim → Reads (claim_text claim) answer → answer ≢ Err OutOfMemory → answer ≡ Ok claim
read_again claim (Ok found) told reads enough = ap Ok (one_claim found claim reads.told told (sym reads.text_is))
read_again claim (Err (BadCert line)) told reads enough = absurd (bad_is_none (claim_text claim) claim line (record { told = told; text_is = refl }) reads)
read_again claim (Err OutOfMemory) told reads enough = absurd (enough refl)
