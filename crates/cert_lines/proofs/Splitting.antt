-- Words without spaces that are parted by spaces are found again.
use Rattle.std.proofs.Common.{◌≡◌, ℕ, suc, ◌^◌, ◌<◌, ◌==◌, ◌&&◌, ◌||◌, not, Bool, true, false, cond, List, [], ◌∷◌, ◌++◌, map, length, All, ℤ, pos, negsuc, sym, ap, ◌∙◌, refl, arith}
use Rattle.std.specs.List.{list_all, flat_map, slice_split, onto_first}
use Rattle.std.specs.Int.{w128}
use Rattle.std.specs.Int.RustNames.{FitsSigned}
use Rattle.std.specs.Str.Parse.{AllDigits}
use Rattle.std.specs.Fmt.{decimal, signed_decimal}
use Rattle.std.proofs.lemmas.Bool.{ne_eqb}
use Rattle.std.proofs.lemmas.List.{append-nil}
use Rattle.std.proofs.lemmas.List.Folds.{list_all-append}
use Rattle.std.proofs.lemmas.Fmt.{decimal_is_IsNumeral_wide}
use Rattle.std.proofs.lemmas.Str.Parse.{digit_from_value}
use Rattle.rt_rows.specs.declared.row.Var.{Var}
use Rattle.rt_rows.specs.declared.row.Var.TheVariants.{L, R, B, T, Width, Height, Axis as MirrorAxis}
use Rattle.rt_rows.specs.declared.name.Name.TheVariants.{Lo}
use Rattle.rt_rows.specs.declared.proof.Of.{Of}
use Rattle.rt_rows.specs.declared.proof.Of.TheVariants.{Up, Template}
use Rattle.cert_lines.specs.declared.line.Line.{Line}
use Rattle.cert_lines.specs.declared.line.Line.TheVariants.{Title, Done, NoneAcross, NoneUpwards, NoAxis, Axis, Strip, Column, Across, Upwards, Branch, Cut, Bound, Empty, Share, End}
use Rattle.cert_lines.specs.Lines.{variable_word, row_word, row_numbers, words_of, behind_space, spoken}
use Rattle.cert_lines.specs.Limits.{IsNumber, IsVariable, IsWithin}
use Rattle.cert_lines.proofs.Decimals.{magnitude, magnitude_below, number_magnitude, place_fits, strip_fits, divisor_fits, shares_fit, times_fit}

abbrev pub is_space : ℕ → Bool
is_space byte = byte == 32

-- no byte is a space or a line feed
abbrev blank : ℕ → Bool
blank byte = byte == 32 || byte == 10

abbrev spaceless : List ℕ → Bool
spaceless word = list_all (λ byte. not (blank byte)) word

abbrev all_spaceless : List (List ℕ) → Bool
all_spaceless words = list_all spaceless words

both : (a b : Bool) → (a && b) ≡ true → (a ≡ true) × (b ≡ true)
both true true e = (refl, refl)
both true false e = (refl, e)
both false b e = (e, absurd (cc))

no_space : (c : ℕ) → not (blank c) ≡ true → (c == 32) ≡ false
no_space c e = neither (c == 32) (c == 10) e
  where
    neither : (a b : Bool) → not (a || b) ≡ true → a ≡ false
    neither true b e = sym e
    neither false b e = refl

no_feed : (c : ℕ) → not (blank c) ≡ true → (c == 10) ≡ false
no_feed c e = neither (c == 32) (c == 10) e
  where
    neither : (a b : Bool) → not (a || b) ≡ true → b ≡ false
    neither true b e = absurd (cc)
    neither false true e = sym e
    neither false false e = refl

-- a word before a space is the first part
split_word : (word rest : List ℕ) → spaceless word ≡ true → slice_split is_space (word ++ 32 ∷ rest) ≡ word ∷ slice_split is_space rest
split_word [] rest e = refl
split_word (c ∷ cs) rest e =
    let parts = both (not (blank c)) (spaceless cs) e in
    ap (λ (b : Bool). cond b ([] ∷ slice_split is_space (cs ++ 32 ∷ rest)) (onto_first c (slice_split is_space (cs ++ 32 ∷ rest)))) (no_space c parts.0)
    ∙ ap (onto_first c) (split_word cs rest parts.1)

-- a word with nothing behind it is the one part
split_last : (word : List ℕ) → spaceless word ≡ true → slice_split is_space word ≡ word ∷ []
split_last [] e = refl
split_last (c ∷ cs) e =
    let parts = both (not (blank c)) (spaceless cs) e in
    ap (λ (b : Bool). cond b ([] ∷ slice_split is_space cs) (onto_first c (slice_split is_space cs))) (no_space c parts.0)
    ∙ ap (onto_first c) (split_last cs parts.1)

split_more : (word : List ℕ) (words : List (List ℕ)) → spaceless word ≡ true → all_spaceless words ≡ true → slice_split is_space (word ++ flat_map behind_space words) ≡ word ∷ words
split_more word [] one e = ap (slice_split is_space) (append-nil word) ∙ split_last word one
split_more word (next ∷ words) one e =
    let parts = both (spaceless next) (all_spaceless words) e in
    split_word word (next ++ flat_map behind_space words) one ∙ ap (λ (w : List (List ℕ)). word ∷ w) (split_more next words parts.0 parts.1)

-- digits are no spaces
digits_spaceless : (ds : List ℕ) → AllDigits 10 ds → spaceless ds ≡ true
digits_spaceless [] digits = refl
digits_spaceless (c ∷ cs) digits =
    let range = digit_from_value c digits.0 in
    ap (λ (b : Bool). not (b || c == 10) && spaceless cs) (ne_eqb c 32 (λ e. omega (arith, range.0)))
    ∙ ap (λ (b : Bool). not b && spaceless cs) (ne_eqb c 10 (λ e. omega (arith, range.0)))
    ∙ digits_spaceless cs digits.1

decimal_spaceless : (n : ℕ) → n < 10 ^ 64 → spaceless (decimal n) ≡ true
decimal_spaceless n small = digits_spaceless (decimal n) (decimal_is_IsNumeral_wide n small).0.1

number_spaceless : (z : ℤ) → FitsSigned w128 z → spaceless (signed_decimal z) ≡ true
number_spaceless (pos n) fits = decimal_spaceless n (magnitude n fits)
number_spaceless (negsuc n) fits = decimal_spaceless (suc n) (magnitude_below n fits)

variable_spaceless : (v : Var) → IsVariable v → spaceless (variable_word v) ≡ true
variable_spaceless (L i) is = decimal_spaceless i (number_magnitude i is)
variable_spaceless (R i) is = decimal_spaceless i (number_magnitude i is)
variable_spaceless (B i) is = decimal_spaceless i (number_magnitude i is)
variable_spaceless (T i) is = decimal_spaceless i (number_magnitude i is)
variable_spaceless Width is = refl
variable_spaceless Height is = refl
variable_spaceless MirrorAxis is = refl

row_spaceless : (of : Of) → spaceless (row_word of) ≡ true
row_spaceless (Up i) = refl
row_spaceless (Template (Lo i)) = refl
row_spaceless (Template _) = refl

numbers_spaceless : (ns : List ℕ) → All IsNumber ns → all_spaceless (map decimal ns) ≡ true
numbers_spaceless [] all = refl
numbers_spaceless (n ∷ ns) all =
    ap (λ (b : Bool). b && all_spaceless (map decimal ns)) (decimal_spaceless n (number_magnitude n (all 0 0 (omega arith))))
    ∙ numbers_spaceless ns (λ k d lt. all (suc k) d (omega arith))

-- the words of a line have no spaces
words_spaceless : (line : Line) → IsWithin line → all_spaceless (words_of line) ≡ true
words_spaceless Title within = refl
words_spaceless (Done width height) within =
    rw (number_spaceless width (place_fits width (within 0 width (omega arith))), number_spaceless height (place_fits height (within 1 width (omega arith)))) refl
words_spaceless NoneAcross within = refl
words_spaceless (NoneUpwards width) within = rw (number_spaceless width (place_fits width within)) refl
words_spaceless NoAxis within = refl
words_spaceless (Axis twice) within = rw (number_spaceless twice (place_fits twice within)) refl
words_spaceless (Strip number left bottom right top) within =
    rw (number_spaceless number (strip_fits number within.strip), number_spaceless left (place_fits left (within.each 0 left (omega arith))), number_spaceless bottom (place_fits bottom (within.each 1 left (omega arith))), number_spaceless right (place_fits right (within.each 2 left (omega arith))), number_spaceless top (place_fits top (within.each 3 left (omega arith)))) refl
words_spaceless (Column number left right) within =
    rw (number_spaceless number (strip_fits number within.strip), number_spaceless left (place_fits left (within.each 0 left (omega arith))), number_spaceless right (place_fits right (within.each 1 left (omega arith)))) refl
words_spaceless Across within = refl
words_spaceless Upwards within = refl
words_spaceless (Branch var at) within = rw (variable_spaceless var within.variable, number_spaceless at (place_fits at within.place)) refl
words_spaceless (Cut over shares) within = rw (number_spaceless over (divisor_fits over within.divisor), number_spaceless shares (shares_fit shares within.count)) refl
words_spaceless (Bound over shares) within = rw (number_spaceless over (divisor_fits over within.divisor), number_spaceless shares (shares_fit shares within.count)) refl
words_spaceless (Empty over shares) within = rw (number_spaceless over (divisor_fits over within.divisor), number_spaceless shares (shares_fit shares within.count)) refl
words_spaceless (Share times of) within =
    rw (number_spaceless times (times_fit times within.multiplier), row_spaceless of) (numbers_spaceless (row_numbers of) within.each)
words_spaceless End within = refl

-- words, of which there is one, are found again
split_words : (words : List (List ℕ)) → 0 < length words → all_spaceless words ≡ true → slice_split is_space (spoken words) ≡ words
split_words [] some e = absurd (omega (arith, some))
split_words (first ∷ rest) some e = let parts = both (spaceless first) (all_spaceless rest) e in split_more first rest parts.0 parts.1

-- each line has a word
some_word : (line : Line) → 0 < length (words_of line)
some_word Title = omega arith
some_word _ = omega arith

-- the words of a line are found again in its text
pub words_again : (line : Line) → IsWithin line → slice_split is_space (spoken (words_of line)) ≡ words_of line
words_again line within = split_words (words_of line) (some_word line) (words_spaceless line within)

-- no byte of a line is a line feed
abbrev pub feedless : List ℕ → Bool
feedless text = list_all (λ byte. not (byte == 10)) text

feedless_append : (a b : List ℕ) → feedless a ≡ true → feedless b ≡ true → feedless (a ++ b) ≡ true
feedless_append a b first second = list_all-append (λ byte. not (byte == 10)) a b ∙ ap (λ (x : Bool). x && feedless b) first ∙ second

word_feedless : (word : List ℕ) → spaceless word ≡ true → feedless word ≡ true
word_feedless [] e = refl
word_feedless (c ∷ cs) e =
    let parts = both (not (blank c)) (spaceless cs) e in
    ap (λ (b : Bool). not b && feedless cs) (no_feed c parts.0) ∙ word_feedless cs parts.1

rest_feedless : (words : List (List ℕ)) → all_spaceless words ≡ true → feedless (flat_map behind_space words) ≡ true
rest_feedless [] e = refl
rest_feedless (word ∷ words) e =
    let parts = both (spaceless word) (all_spaceless words) e in
    feedless_append (32 ∷ word) (flat_map behind_space words) (word_feedless word parts.0) (rest_feedless words parts.1)

spoken_feedless : (words : List (List ℕ)) → all_spaceless words ≡ true → feedless (spoken words) ≡ true
spoken_feedless [] e = refl
spoken_feedless (word ∷ words) e =
    let parts = both (spaceless word) (all_spaceless words) e in
    feedless_append word (flat_map behind_space words) (word_feedless word parts.0) (rest_feedless words parts.1)

pub line_feedless : (line : Line) → IsWithin line → feedless (spoken (words_of line)) ≡ true
line_feedless line within = spoken_feedless (words_of line) (words_spaceless line within)
