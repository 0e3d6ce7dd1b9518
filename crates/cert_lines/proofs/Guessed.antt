-- The guess is the one line that words can be.
use Rattle.std.proofs.Common.{◌≡◌, ℕ, suc, zero, true, false, List, [], ◌∷◌, map, get_or, All, ℤ, Option, Some, unwrap_or, to_z, of_z, sym, ap, subst, ◌∙◌, refl, arith}
use Rattle.std.specs.Int.{w128}
use Rattle.std.proofs.lemmas.Int.{to_z-of_z}
use Rattle.std.specs.Fmt.{decimal}
use Rattle.rt_rows.specs.declared.row.Var.{Var}
use Rattle.rt_rows.specs.declared.name.Name.TheVariants.{Lo}
use Rattle.rt_rows.specs.declared.proof.Of.{Of}
use Rattle.rt_rows.specs.declared.proof.Of.TheVariants.{Up, Template}
use Rattle.cert_lines.specs.declared.line.Line.{Line}
use Rattle.cert_lines.specs.declared.line.Line.TheVariants.{Title, Done, NoneAcross, NoneUpwards, NoAxis, Axis, Strip, Column, Across, Upwards, Branch, Cut, Bound, Empty, Share, End}
use Rattle.cert_lines.specs.declared.numbers.Numbers.{Numbers}
use Rattle.cert_lines.specs.Lines.{row_word, row_numbers, words_of}
use Rattle.cert_lines.specs.Limits.{IsNumber, IsWithin, IsShareWithin}
use Rattle.cert_lines.specs.Guesses.{word_at, ReadsNumber, ReadsCount, ReadsVariable, ReadsNumbers, begins_number, plain_line, row_named}
use Rattle.cert_lines.proofs.Decimals.{begins, place_fits, strip_fits, divisor_fits, shares_fit, times_fit}

-- the row of a word is found
row_found : (of : Of) → row_named (row_word of) (get_or (row_numbers of) 0 0) (get_or (row_numbers of) 1 0) (get_or (row_numbers of) 2 0) ≡ Some of
row_found (Up i) = refl
row_found (Template (Lo i)) = refl
row_found (Template _) = refl

-- the numbers of a row are read, and 0 behind the last
number_found : (ns : List ℕ) (k i : ℕ) → All IsNumber ns → ReadsCount (word_at (map decimal ns) k) i → i ≡ get_or ns k 0
number_found [] k i all reads = reads.none refl
number_found (n ∷ ns) zero i all reads = reads.reads n (all 0 0 (omega arith)) refl
number_found (n ∷ ns) (suc k) i all reads = number_found ns k i (λ m d lt. all (suc m) d (omega arith)) reads

-- what is read of the words of a share
share_found : (times : ℤ) (of : Of) (t : ℤ) (i j k : ℕ) → IsShareWithin times of → ReadsNumber (word_at (words_of (Share times of)) 0) t
    → ReadsCount (word_at (words_of (Share times of)) 2) i → ReadsCount (word_at (words_of (Share times of)) 3) j → ReadsCount (word_at (words_of (Share times of)) 4) k
    → Share t (unwrap_or (row_named (word_at (words_of (Share times of)) 1) i j k) (Up i)) ≡ Share times of
share_found times of t i j k within number first second third =
    let a = number_found (row_numbers of) 0 i within.each first in
    let b = number_found (row_numbers of) 1 j within.each second in
    let c = number_found (row_numbers of) 2 k within.each third in
    let row : row_named (row_word of) i j k ≡ Some of = rw (a, b, c) (row_found of) in
    let of_is : unwrap_or (row_named (row_word of) i j k) (Up i) ≡ of = ap (λ (o : Option Of). unwrap_or o (Up i)) row in
    ap (λ (z : ℤ). Share z (unwrap_or (row_named (row_word of) i j k) (Up i))) (number.reads times (times_fit times within.multiplier) refl)
    ∙ ap (Share times) of_is

-- a number that is read is read again from where it is kept
pub read_again : (word : List ℕ) (n : ℤ) → ReadsNumber word n → ReadsNumber word (to_z w128 (of_z w128 n))
read_again word n number = record { reads = λ z fits is. ap (λ (m : ℤ). to_z w128 (of_z w128 m)) (number.reads z fits is) ∙ to_z-of_z w128 z fits }

-- words that begin with a number are no line but that share
pub share_only : (words : List (List ℕ)) (line : Line) (t : ℤ) (i j k : ℕ) (row : Of) → IsWithin line → words ≡ words_of line → begins_number (word_at words 0) ≡ true
    → ReadsNumber (word_at words 0) t → ReadsCount (word_at words 2) i → ReadsCount (word_at words 3) j → ReadsCount (word_at words 4) k
    → row ≡ unwrap_or (row_named (word_at words 1) i j k) (Up i) → Share t row ≡ line
share_only words (Share times of) t i j k row within is begins_so number first second third row_is =
    ap (Share t) (row_is ∙ ap (λ (w : List (List ℕ)). unwrap_or (row_named (word_at w 1) i j k) (Up i)) is)
    ∙ share_found times of t i j k within
    (subst (λ (w : List (List ℕ)). ReadsNumber (word_at w 0) t) is number)
    (subst (λ (w : List (List ℕ)). ReadsCount (word_at w 2) i) is first)
    (subst (λ (w : List (List ℕ)). ReadsCount (word_at w 3) j) is second)
    (subst (λ (w : List (List ℕ)). ReadsCount (word_at w 4) k) is third)
share_only words Title t i j k row within is begins_so number first second third row_is = let b : false ≡ true = ap (λ (w : List (List ℕ)). begins_number (word_at w 0)) (sym is) ∙ begins_so in absurd (cc)
share_only words _ t i j k row within is begins_so number first second third row_is = let b : false ≡ true = ap (λ (w : List (List ℕ)). begins_number (word_at w 0)) (sym is) ∙ begins_so in absurd (cc)

-- the line of a first word, with what was read of the other words, is the line
plain_found : (line : Line) → IsWithin line → begins_number (word_at (words_of line) 0) ≡ false → (numbers : Numbers) (var : Var) → ReadsNumbers (words_of line) numbers
    → ReadsVariable (word_at (words_of line) 1) var
    → unwrap_or (plain_line (word_at (words_of line) 0) (word_at (words_of line) 1) numbers var) End ≡ line
plain_found Title within lettered numbers var reads variable = refl
plain_found (Done width height) within lettered numbers var reads variable =
    let a = reads.second.reads width (place_fits width (within 0 width (omega arith))) refl in
    let b = reads.third.reads height (place_fits height (within 1 width (omega arith))) refl in
    cc
plain_found NoneAcross within lettered numbers var reads variable = refl
plain_found (NoneUpwards width) within lettered numbers var reads variable = ap NoneUpwards (reads.third.reads width (place_fits width within) refl)
plain_found NoAxis within lettered numbers var reads variable = refl
plain_found (Axis twice) within lettered numbers var reads variable =
    let fits = place_fits twice within in
    rw (begins twice fits) (ap Axis (reads.second.reads twice fits refl))
plain_found (Strip number left bottom right top) within lettered numbers var reads variable =
    let a = reads.second.reads number (strip_fits number within.strip) refl in
    let b = reads.third.reads left (place_fits left (within.each 0 left (omega arith))) refl in
    let c = reads.fourth.reads bottom (place_fits bottom (within.each 1 left (omega arith))) refl in
    let d = reads.fifth.reads right (place_fits right (within.each 2 left (omega arith))) refl in
    let e = reads.sixth.reads top (place_fits top (within.each 3 left (omega arith))) refl in
    cc
plain_found (Column number left right) within lettered numbers var reads variable =
    let a = reads.second.reads number (strip_fits number within.strip) refl in
    let b = reads.third.reads left (place_fits left (within.each 0 left (omega arith))) refl in
    let c = reads.fourth.reads right (place_fits right (within.each 1 left (omega arith))) refl in
    cc
plain_found Across within lettered numbers var reads variable = refl
plain_found Upwards within lettered numbers var reads variable = refl
plain_found (Branch v at) within lettered numbers var reads variable =
    let a = variable.reads v within.variable refl in
    let b = reads.third.reads at (place_fits at within.place) refl in
    cc
plain_found (Cut over shares) within lettered numbers var reads variable =
    let a = reads.second.reads over (divisor_fits over within.divisor) refl in
    let b = reads.third.reads shares (shares_fit shares within.count) refl in
    cc
plain_found (Bound over shares) within lettered numbers var reads variable =
    let a = reads.second.reads over (divisor_fits over within.divisor) refl in
    let b = reads.third.reads shares (shares_fit shares within.count) refl in
    cc
plain_found (Empty over shares) within lettered numbers var reads variable =
    let a = reads.second.reads over (divisor_fits over within.divisor) refl in
    let b = reads.third.reads shares (shares_fit shares within.count) refl in
    cc
plain_found (Share times of) within lettered numbers var reads variable =
    let b : true ≡ false = sym (begins times (times_fit times within.multiplier)) ∙ lettered in absurd (cc)
plain_found End within lettered numbers var reads variable = refl

-- words that don't begin with a number are no line but that one
pub plain_only : (words : List (List ℕ)) (line guess : Line) (numbers : Numbers) (var : Var) → IsWithin line → words ≡ words_of line
    → begins_number (word_at words 0) ≡ false → ReadsNumbers words numbers → ReadsVariable (word_at words 1) var
    → guess ≡ unwrap_or (plain_line (word_at words 0) (word_at words 1) numbers var) End → guess ≡ line
plain_only words line guess numbers var within is lettered reads variable guess_is =
    guess_is ∙ ap (λ (w : List (List ℕ)). unwrap_or (plain_line (word_at w 0) (word_at w 1) numbers var) End) is
    ∙ plain_found line within (ap (λ (w : List (List ℕ)). begins_number (word_at w 0)) (sym is) ∙ lettered) numbers var
    (subst (λ (w : List (List ℕ)). ReadsNumbers w numbers) is reads)
    (subst (λ (w : List (List ℕ)). ReadsVariable (word_at w 1) var) is variable)
