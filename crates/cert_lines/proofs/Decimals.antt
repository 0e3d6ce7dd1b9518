-- Numbers as they are written: what they begin with, and that they are read again.
use Rattle.std.proofs.Common.{◌≡◌, ◌≢◌, ◌==◌, ℕ, suc, ◌<◌, ◌^◌, Bool, true, false, cond, List, [], ◌∷◌, drop, ℤ, pos, negsuc, neg_ℤ, ◌≤ℤ◌, Result, Ok, Err, sym, ap, subst, ◌∙◌, refl, arith}
use Rattle.std.proofs.lemmas.Int.{ints}
use Rattle.std.specs.Int.{w128}
use Rattle.std.specs.Int.RustNames.{FitsSigned}
use Rattle.std.specs.Str.{IsUtf8}
use Rattle.std.specs.Str.Parse.{IsNumeral, digits_value, signed_digits_value, starts_with_minus, without_leading_sign, ParsesSigned, ParsesUnsigned}
use Rattle.std.specs.Char.{digit_value}
use Rattle.std.specs.Result.{OkIff}
use Rattle.std.specs.Fmt.{decimal, signed_decimal}
use Rattle.std.proofs.lemmas.Bool.{ne_eqb}
use Rattle.std.proofs.lemmas.Bool.Decides.{nat_tests}
use Rattle.std.proofs.lemmas.Fmt.{parse-decimal_wide, decimal_is_IsNumeral_wide, IsAscii-decimal_wide}
use Rattle.std.proofs.lemmas.Str.{IsUtf8-from_ascii}
use Rattle.std.proofs.lemmas.Str.Ascii.{IsAscii-cons}
use Rattle.std.proofs.lemmas.Str.Parse.{digit_from_value}
use Rattle.cert_lines.specs.declared.limits.TheConstants.{DIVISOR_LIMIT, TIMES_LIMIT, SHARES_LIMIT}
use Rattle.cert_lines.specs.Limits.{IsFrom, IsPlace, IsStripNumber, IsNumber}
use Rattle.cert_lines.specs.Guesses.{begins_number}

-- a number that has a text of 128 bits has one of few digits
few_digits : (n : ℕ) → n < 2 ^ 127 → n < 10 ^ 64
few_digits n small = omega arith

pub magnitude : (n : ℕ) → FitsSigned w128 (pos n) → n < 10 ^ 64
magnitude n fits = few_digits n fits.sfits

pub magnitude_below : (n : ℕ) → FitsSigned w128 (negsuc n) → suc n < 10 ^ 64
magnitude_below n fits = let small : n < 2 ^ 127 = fits.sfits in omega arith

pub number_magnitude : (n : ℕ) → IsNumber n → n < 10 ^ 64
number_magnitude n small = few_digits n (omega (arith, small))

-- numbers within the limits have texts of 128 bits
fits_between : (z : ℤ) → neg_ℤ (pos (10 ^ 19)) ≤ℤ z → z ≤ℤ pos (10 ^ 19) → FitsSigned w128 z
fits_between (pos n) low high = record { sfits = omega (arith, ints, high) }
fits_between (negsuc n) low high = record { sfits = omega (arith, ints, low) }

pub place_fits : (z : ℤ) → IsPlace z → FitsSigned w128 z
place_fits z within = fits_between z (omega (arith, ints, within.low)) (omega (arith, ints, within.high))

pub strip_fits : (z : ℤ) → IsStripNumber z → FitsSigned w128 z
strip_fits z within = fits_between z (omega (arith, ints, within.low)) (omega (arith, ints, within.high))

pub divisor_fits : (z : ℤ) → IsFrom (pos 1) DIVISOR_LIMIT z → FitsSigned w128 z
divisor_fits z within = fits_between z (omega (arith, ints, within.low)) (omega (arith, ints, within.high))

pub shares_fit : (z : ℤ) → IsFrom (pos 0) SHARES_LIMIT z → FitsSigned w128 z
shares_fit z within = fits_between z (omega (arith, ints, within.low)) (omega (arith, ints, within.high))

pub times_fit : (z : ℤ) → IsFrom (neg_ℤ TIMES_LIMIT) TIMES_LIMIT z → FitsSigned w128 z
times_fit z within = fits_between z (omega (arith, ints, within.low)) (omega (arith, ints, within.high))

-- a digit is no sign
no_sign : (c : ℕ) → digit_value c < 10 → (c ≢ 43) × (c ≢ 45)
no_sign c digit = let range = digit_from_value c digit in (λ e. omega (arith, range.0), λ e. omega (arith, range.0))

-- digits have no sign to leave out
plain : (ds : List ℕ) → IsNumeral 10 ds → (without_leading_sign ds ≡ ds) × (starts_with_minus ds ≡ false)
plain [] numeral = absurd (omega (arith, numeral.0))
plain (c ∷ cs) numeral =
    let signs = no_sign c numeral.1.0 in
    let minus = ne_eqb c 45 signs.1 in
    let plus = ne_eqb c 43 signs.0 in
    (ap (λ (b : Bool). cond b cs (drop (cond (c == 43) 1 0) (c ∷ cs))) minus ∙ ap (λ (b : Bool). drop (cond b 1 0) (c ∷ cs)) plus, minus)

-- what digits without a sign are worth
plain_value : (ds : List ℕ) → IsNumeral 10 ds → signed_digits_value 10 ds ≡ pos (digits_value 10 ds)
plain_value ds numeral =
    let known = plain ds numeral in
    ap (λ (b : Bool). cond b (neg_ℤ (pos (digits_value 10 (without_leading_sign ds)))) (pos (digits_value 10 (without_leading_sign ds)))) known.1
    ∙ ap (λ (s : List ℕ). pos (digits_value 10 s)) known.0

-- an answer that is a number exactly where it can be, where it can
taken : {E : Type 0} (r : Result ℤ E) (P : Type 0) (z v : ℤ) → OkIff r P v → P → v ≡ z → r ≡ Ok z
taken (Ok x) P z v given holds is = ap Ok (given.1 ∙ is)
taken (Err e) P z v given holds is = absurd (given holds)

-- a number that is written is read
pub reads_back : {E : Type 0} (z : ℤ) (r : Result ℤ E) → FitsSigned w128 z → ParsesSigned w128 10 (signed_decimal z) r → r ≡ Ok z
reads_back (pos n) r fits parses =
    let numeral = decimal_is_IsNumeral_wide n (magnitude n fits) in
    let is : signed_digits_value 10 (decimal n) ≡ pos n = plain_value (decimal n) numeral.0 ∙ ap pos numeral.1 in
    taken r _ (pos n) _ parses (subst (IsNumeral 10) (sym (plain (decimal n) numeral.0).0) numeral.0, subst (FitsSigned w128) (sym is) fits) is
reads_back (negsuc n) r fits parses =
    let numeral = decimal_is_IsNumeral_wide (suc n) (magnitude_below n fits) in
    let is : neg_ℤ (pos (digits_value 10 (decimal (suc n)))) ≡ negsuc n = ap (λ (k : ℕ). neg_ℤ (pos k)) numeral.1 in
    taken r _ (negsuc n) _ parses (numeral.0, subst (FitsSigned w128) (sym is) fits) is

-- a written number is text
pub is_text : (z : ℤ) → FitsSigned w128 z → IsUtf8 (signed_decimal z)
is_text (pos n) fits = IsUtf8-from_ascii _ (IsAscii-decimal_wide n (magnitude n fits))
is_text (negsuc n) fits = IsUtf8-from_ascii _ (IsAscii-cons 45 _ (omega arith) (IsAscii-decimal_wide (suc n) (magnitude_below n fits)))

-- digits begin as a number does
digits_begin : (ds : List ℕ) → IsNumeral 10 ds → begins_number ds ≡ true
digits_begin [] numeral = absurd (omega (arith, numeral.0))
digits_begin (c ∷ cs) numeral = let range = digit_from_value c numeral.1.0 in grind (arith, nat_tests, range)

-- a written number begins as one
pub begins : (z : ℤ) → FitsSigned w128 z → begins_number (signed_decimal z) ≡ true
begins (pos n) fits = digits_begin (decimal n) (decimal_is_IsNumeral_wide n (magnitude n fits)).0
begins (negsuc n) fits = refl

-- what was read of a text is the number that the text writes
pub number_read : {E : Type 0} (z n : ℤ) (r : Result ℤ E) (text word : List ℕ) → r ≡ Ok n → text ≡ word → word ≡ signed_decimal z → FitsSigned w128 z
    → ParsesSigned w128 10 text r → n ≡ z
number_read {E} z n r text word was same is fits parses =
    let back = reads_back z r fits (subst (λ (s : List ℕ). ParsesSigned w128 10 s r) (same ∙ is) parses) in
    cc

-- a text that isn't read writes no number
pub number_refused : {E : Type 0} (z : ℤ) (e : E) (r : Result ℤ E) (text word : List ℕ) → r ≡ Err e → text ≡ word → word ≡ signed_decimal z → FitsSigned w128 z
    → ParsesSigned w128 10 text r → ⊥
number_refused {E} z e r text word was same is fits parses =
    let back = reads_back z r fits (subst (λ (s : List ℕ). ParsesSigned w128 10 s r) (same ∙ is) parses) in
    cc

-- the same of numbers of 32 bits
pub count_read : {E : Type 0} (m n : ℕ) (r : Result ℕ E) (text word : List ℕ) → r ≡ Ok n → text ≡ word → word ≡ decimal m → m < 2 ^ 32
    → ParsesUnsigned 32 10 text r → n ≡ m
count_read {E} m n r text word was same is fits parses =
    let back = parse-decimal_wide 32 m text r fits (few_digits m (omega arith)) (same ∙ is) parses in
    cc

pub count_refused : {E : Type 0} (m : ℕ) (e : E) (r : Result ℕ E) (text word : List ℕ) → r ≡ Err e → text ≡ word → word ≡ decimal m → m < 2 ^ 32
    → ParsesUnsigned 32 10 text r → ⊥
count_refused {E} m e r text word was same is fits parses =
    let back = parse-decimal_wide 32 m text r fits (few_digits m (omega arith)) (same ∙ is) parses in
    cc

-- nothing is read of nothing
pub none_read : {E : Type 0} (n : ℕ) (r : Result ℕ E) (text word : List ℕ) → r ≡ Ok n → text ≡ word → word ≡ [] → ParsesUnsigned 32 10 text r → ⊥
none_read {E} n r text word was same is parses =
    let nothing : OkIff {E = E} (Ok n) (IsNumeral 10 [] × (digits_value 10 [] < 2 ^ 32)) (digits_value 10 []) =
    subst (λ (q : Result ℕ E). ParsesUnsigned 32 10 [] q) was (subst (λ (s : List ℕ). ParsesUnsigned 32 10 s r) (same ∙ is) parses) in
    let some : 0 < 0 = nothing.0.0.0 in omega (arith, some)

-- a written number of 32 bits is text
pub count_is_text : (n : ℕ) → n < 2 ^ 32 → IsUtf8 (decimal n)
count_is_text n fits = IsUtf8-from_ascii _ (IsAscii-decimal_wide n (few_digits n (omega arith)))
