-- The words that the writer hands on.
use Rattle.std.specs.Prelude.{ℕ, List}
use Rattle.std.specs.Fmt.{signed_decimal}
use Rattle.cert_lines.specs.declared.words.Word.{Word}
use Rattle.cert_lines.specs.declared.words.Word.TheVariants.{Text, Number, Variable}
use Rattle.cert_lines.specs.Lines.{variable_word, behind_space}

-- the bytes of a word
abbrev pub word_text : Word → List ℕ
word_text (Text text) = text.now
word_text (Number number) = signed_decimal number
word_text (Variable var) = variable_word var

-- a word behind a space
abbrev pub text_behind : Word → List ℕ
text_behind word = behind_space (word_text word)
