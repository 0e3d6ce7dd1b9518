-- The one line that words can be: the reader takes it from the words at their places, and then sees whether it has these words.
use Rattle.std.specs.Prelude.{◌≡◌, ℕ, ◌==◌, if◌then◌else◌, ℤ, Bool, false, ◌||◌, List, [], ◌∷◌, codes, decimal, map, FitsSigned, Option, slice_index_or}
use Rattle.std.specs.Borrow.{Bor}
use Rattle.std.specs.Char.{is_ascii_digit}
use Rattle.std.specs.Int.{w128}
use Rattle.std.specs.List.{find}
use Rattle.std.specs.Str.{bytes_eq}
use Rattle.std.specs.Fmt.{signed_decimal}
use Rattle.rt_rows.specs.declared.row.Var.{Var}
use Rattle.rt_rows.specs.declared.row.Var.TheVariants.{L, R, B, T, Width, Height, Axis as MirrorAxis}
use Rattle.rt_rows.specs.declared.proof.Of.{Of}
use Rattle.cert_lines.specs.declared.line.Line.{Line}
use Rattle.cert_lines.specs.declared.line.Line.TheVariants.{Title, Done, NoneAcross, NoneUpwards, NoAxis, Axis, Strip, Column, Across, Upwards, Branch, Cut, Bound, Empty, Share, End}
use Rattle.cert_lines.specs.declared.numbers.Numbers.{Numbers}
use Rattle.cert_lines.specs.Lines.{variable_word, row_word, all_rows, words_of}
use Rattle.cert_lines.specs.Limits.{IsNumber, IsVariable, IsWithin}

-- the bytes of words
abbrev pub bytes_of : List (Bor (List ℕ)) → List (List ℕ)
bytes_of words = map (λ word. word.now) words

-- the word at a place, from 0; nothing where there is none
abbrev pub word_at : List (List ℕ) → ℕ → List ℕ
word_at words i = slice_index_or words i []

-- the number that a word writes
pub record ReadsNumber (word : List ℕ) (number : ℤ) : Type 0 where
  pub reads : (z : ℤ) → FitsSigned w128 z → word ≡ signed_decimal z → number ≡ z

-- the same of 32 bits; 0 where there is no word
pub record ReadsCount (word : List ℕ) (count : ℕ) : Type 0 where
  pub reads : (n : ℕ) → IsNumber n → word ≡ decimal n → count ≡ n
  pub none : word ≡ [] → count ≡ 0

-- the variable that a word writes
pub record ReadsVariable (word : List ℕ) (var : Var) : Type 0 where
  pub reads : (v : Var) → IsVariable v → word ≡ variable_word v → var ≡ v

-- the numbers of words by their places
pub record ReadsNumbers (words : List (List ℕ)) (numbers : Numbers) : Type 0 where
  pub second : ReadsNumber (word_at words 1) numbers.second
  pub third : ReadsNumber (word_at words 2) numbers.third
  pub fourth : ReadsNumber (word_at words 3) numbers.fourth
  pub fifth : ReadsNumber (word_at words 4) numbers.fifth
  pub sixth : ReadsNumber (word_at words 5) numbers.sixth

-- the word begins as a number does
abbrev pub begins_number : List ℕ → Bool
begins_number [] = false
begins_number (byte ∷ bytes) = byte == 45 || is_ascii_digit byte

-- the first word of a line that isn't a share's
abbrev pub first_word : Line → List ℕ
first_word Title = codes "retarget"
first_word (Done width height) = codes "done"
first_word NoneAcross = codes "infeasible"
first_word (NoneUpwards width) = codes "infeasible"
first_word NoAxis = codes "axis"
first_word (Axis twice) = codes "axis"
first_word (Strip number left bottom right top) = codes "strip"
first_word (Column number left right) = codes "column"
first_word Across = codes "across"
first_word Upwards = codes "upwards"
first_word (Branch var at) = codes "branch"
first_word (Cut over shares) = codes "cut"
first_word (Bound over shares) = codes "bound"
first_word (Empty over shares) = codes "empty"
first_word (Share times of) = []
first_word End = codes "end"

-- a line of each first word, with these numbers and this variable, of which the second word tells some
abbrev pub infeasible : List ℕ → Numbers → Line
infeasible second numbers = if bytes_eq second (codes "across") then NoneAcross else NoneUpwards numbers.third

abbrev pub axis : List ℕ → Numbers → Line
axis second numbers = if begins_number second then Axis numbers.second else NoAxis

abbrev pub all_lines : List ℕ → Numbers → Var → List Line
all_lines second numbers var =
    Title ∷
    Done numbers.second numbers.third ∷
    Strip numbers.second numbers.third numbers.fourth numbers.fifth numbers.sixth ∷
    Column numbers.second numbers.third numbers.fourth ∷
    Across ∷
    Upwards ∷
    Branch var numbers.third ∷
    Cut numbers.second numbers.third ∷
    Bound numbers.second numbers.third ∷
    Empty numbers.second numbers.third ∷
    End ∷
    axis second numbers ∷
    infeasible second numbers ∷
    []

-- the first of the lines with this first word
abbrev pub plain_line : List ℕ → List ℕ → Numbers → Var → Option Line
plain_line first second numbers var = find (λ line. bytes_eq (first_word line) first) (all_lines second numbers var)

-- the first of the rows with this word
abbrev pub row_named : List ℕ → ℕ → ℕ → ℕ → Option Of
row_named word i j k = find (λ row. bytes_eq (row_word row) word) (all_rows i j k)

-- the variable of a letter, and of a number where the letter takes one
abbrev pub variable_of : ℕ → ℕ → Var
variable_of letter i =
    if letter == 108 then L i else
    (if letter == 114 then R i else
    (if letter == 98 then B i else
    (if letter == 116 then T i else
    (if letter == 84 then Height else
    (if letter == 65 then MirrorAxis else Width)))))

-- whichever line within the limits has these words, it is this one
pub record IsGuess (words : List (List ℕ)) (guess : Line) : Type 0 where
  pub only : (line : Line) → IsWithin line → words ≡ words_of line → guess ≡ line
