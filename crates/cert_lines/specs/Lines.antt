-- The lines of a certificate, word by word.
use Rattle.std.specs.Prelude.{ℕ, List, [], ◌∷◌, ◌++◌, codes, decimal, map}
use Rattle.std.specs.List.{flat_map}
use Rattle.std.specs.Fmt.{signed_decimal}
use Rattle.rt_rows.specs.declared.row.Var.{Var}
use Rattle.rt_rows.specs.declared.row.Var.TheVariants.{L, R, B, T, Width, Height, Axis as MirrorAxis}
use Rattle.rt_rows.specs.declared.name.Name.TheVariants.{Lo, Hi, Zero, Top, Wide, Tall, Size, Ll, Rr, Share as ShareRow, On, Under, Gap, Run, Off, Inl, Inr, Inb, Int, Chl, Chr, Chb, Cht, Eql, Eqr, Eqb, Eqt, MirLo, MirHi, SameB, SameT}
use Rattle.rt_rows.specs.declared.proof.Of.{Of}
use Rattle.rt_rows.specs.declared.proof.Of.TheVariants.{Template, Up}
use Rattle.cert_lines.specs.declared.line.Line.{Line}
use Rattle.cert_lines.specs.declared.line.Line.TheVariants.{Title, Done, NoneAcross, NoneUpwards, NoAxis, Axis, Strip, Column, Across, Upwards, Branch, Cut, Bound, Empty, Share, End}

-- a variable: a letter and the number of a strip, or a letter alone
abbrev pub variable_word : Var → List ℕ
variable_word (L i) = codes "l" ++ decimal i
variable_word (R i) = codes "r" ++ decimal i
variable_word (B i) = codes "b" ++ decimal i
variable_word (T i) = codes "t" ++ decimal i
variable_word Width = codes "R"
variable_word Height = codes "T"
variable_word MirrorAxis = codes "A"

-- the word of a row
abbrev pub row_word : Of → List ℕ
row_word (Up i) = codes "up"
row_word (Template (Lo i)) = codes "lo"
row_word (Template (Hi i)) = codes "hi"
row_word (Template Zero) = codes "zero"
row_word (Template Top) = codes "top"
row_word (Template (Wide i)) = codes "wide"
row_word (Template (Tall i)) = codes "tall"
row_word (Template (Size i)) = codes "size"
row_word (Template (Ll i j)) = codes "ll"
row_word (Template (Rr i j)) = codes "rr"
row_word (Template (ShareRow i j)) = codes "share"
row_word (Template (On i j)) = codes "on"
row_word (Template (Under i j)) = codes "under"
row_word (Template (Gap i j)) = codes "gap"
row_word (Template (Run i j)) = codes "run"
row_word (Template (Off i j k)) = codes "off"
row_word (Template (Inl i j k)) = codes "inl"
row_word (Template (Inr i j k)) = codes "inr"
row_word (Template (Inb i j k)) = codes "inb"
row_word (Template (Int i j k)) = codes "int"
row_word (Template (Chl i j)) = codes "chl"
row_word (Template (Chr i j)) = codes "chr"
row_word (Template (Chb i j)) = codes "chb"
row_word (Template (Cht i j)) = codes "cht"
row_word (Template (Eql i j)) = codes "eql"
row_word (Template (Eqr i j)) = codes "eqr"
row_word (Template (Eqb i j)) = codes "eqb"
row_word (Template (Eqt i j)) = codes "eqt"
row_word (Template (MirLo i j)) = codes "mirlo"
row_word (Template (MirHi i j)) = codes "mirhi"
row_word (Template (SameB i j)) = codes "sameb"
row_word (Template (SameT i j)) = codes "samet"

-- the numbers of a row
abbrev pub row_numbers : Of → List ℕ
row_numbers (Up i) = i ∷ []
row_numbers (Template (Lo i)) = i ∷ []
row_numbers (Template (Hi i)) = i ∷ []
row_numbers (Template Zero) = []
row_numbers (Template Top) = []
row_numbers (Template (Wide i)) = i ∷ []
row_numbers (Template (Tall i)) = i ∷ []
row_numbers (Template (Size i)) = i ∷ []
row_numbers (Template (Ll i j)) = i ∷ j ∷ []
row_numbers (Template (Rr i j)) = i ∷ j ∷ []
row_numbers (Template (ShareRow i j)) = i ∷ j ∷ []
row_numbers (Template (On i j)) = i ∷ j ∷ []
row_numbers (Template (Under i j)) = i ∷ j ∷ []
row_numbers (Template (Gap i j)) = i ∷ j ∷ []
row_numbers (Template (Run i j)) = i ∷ j ∷ []
row_numbers (Template (Off i j k)) = i ∷ j ∷ k ∷ []
row_numbers (Template (Inl i j k)) = i ∷ j ∷ k ∷ []
row_numbers (Template (Inr i j k)) = i ∷ j ∷ k ∷ []
row_numbers (Template (Inb i j k)) = i ∷ j ∷ k ∷ []
row_numbers (Template (Int i j k)) = i ∷ j ∷ k ∷ []
row_numbers (Template (Chl i j)) = i ∷ j ∷ []
row_numbers (Template (Chr i j)) = i ∷ j ∷ []
row_numbers (Template (Chb i j)) = i ∷ j ∷ []
row_numbers (Template (Cht i j)) = i ∷ j ∷ []
row_numbers (Template (Eql i j)) = i ∷ j ∷ []
row_numbers (Template (Eqr i j)) = i ∷ j ∷ []
row_numbers (Template (Eqb i j)) = i ∷ j ∷ []
row_numbers (Template (Eqt i j)) = i ∷ j ∷ []
row_numbers (Template (MirLo i j)) = i ∷ j ∷ []
row_numbers (Template (MirHi i j)) = i ∷ j ∷ []
row_numbers (Template (SameB i j)) = i ∷ j ∷ []
row_numbers (Template (SameT i j)) = i ∷ j ∷ []

-- a row of each kind, with these numbers
abbrev pub all_rows : ℕ → ℕ → ℕ → List Of
all_rows i j k =
    Up i ∷
    Template (Lo i) ∷
    Template (Hi i) ∷
    Template Zero ∷
    Template Top ∷
    Template (Wide i) ∷
    Template (Tall i) ∷
    Template (Size i) ∷
    Template (Ll i j) ∷
    Template (Rr i j) ∷
    Template (ShareRow i j) ∷
    Template (On i j) ∷
    Template (Under i j) ∷
    Template (Gap i j) ∷
    Template (Run i j) ∷
    Template (Off i j k) ∷
    Template (Inl i j k) ∷
    Template (Inr i j k) ∷
    Template (Inb i j k) ∷
    Template (Int i j k) ∷
    Template (Chl i j) ∷
    Template (Chr i j) ∷
    Template (Chb i j) ∷
    Template (Cht i j) ∷
    Template (Eql i j) ∷
    Template (Eqr i j) ∷
    Template (Eqb i j) ∷
    Template (Eqt i j) ∷
    Template (MirLo i j) ∷
    Template (MirHi i j) ∷
    Template (SameB i j) ∷
    Template (SameT i j) ∷
    []

-- the words of a line
abbrev pub words_of : Line → List (List ℕ)
words_of Title = codes "retarget" ∷ codes "certificate" ∷ codes "1" ∷ []
words_of (Done width height) = codes "done" ∷ signed_decimal width ∷ signed_decimal height ∷ []
words_of NoneAcross = codes "infeasible" ∷ codes "across" ∷ []
words_of (NoneUpwards width) = codes "infeasible" ∷ codes "upwards" ∷ signed_decimal width ∷ []
words_of NoAxis = codes "axis" ∷ codes "none" ∷ []
words_of (Axis twice) = codes "axis" ∷ signed_decimal twice ∷ []
words_of (Strip number left bottom right top) =
    codes "strip" ∷ signed_decimal number ∷ signed_decimal left ∷ signed_decimal bottom ∷ signed_decimal right ∷ signed_decimal top ∷ []
words_of (Column number left right) = codes "column" ∷ signed_decimal number ∷ signed_decimal left ∷ signed_decimal right ∷ []
words_of Across = codes "across" ∷ []
words_of Upwards = codes "upwards" ∷ []
words_of (Branch var at) = codes "branch" ∷ variable_word var ∷ signed_decimal at ∷ []
words_of (Cut over shares) = codes "cut" ∷ signed_decimal over ∷ signed_decimal shares ∷ []
words_of (Bound over shares) = codes "bound" ∷ signed_decimal over ∷ signed_decimal shares ∷ []
words_of (Empty over shares) = codes "empty" ∷ signed_decimal over ∷ signed_decimal shares ∷ []
words_of (Share times of) = signed_decimal times ∷ row_word of ∷ map decimal (row_numbers of)
words_of End = codes "end" ∷ []

-- a word behind a space
abbrev pub behind_space : List ℕ → List ℕ
behind_space word = codes " " ++ word

-- words, parted by one space
abbrev pub spoken : List (List ℕ) → List ℕ
spoken [] = []
spoken (word ∷ words) = word ++ flat_map behind_space words

-- a line: its words, and a line feed
unfoldable pub line_text : Line → List ℕ
line_text line = spoken (words_of line) ++ codes "\n"
