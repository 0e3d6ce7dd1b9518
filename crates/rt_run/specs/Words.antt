-- The words of the command line.
use Rattle.std.specs.Prelude.{◌≡◌, ◌≢◌, ℕ, ◌<◌, List, [], ◌∷◌, length, codes, map, String, string_bytes, slice_index}
use Rattle.std.specs.declared.alloc.Global.{Global}

-- the bytes of each word
abbrev pub bytes_of : List (String Global) → List (List ℕ)
bytes_of words = map (λ (word : String Global). string_bytes word) words

-- the names that a retargeting is given
pub record Names : Type 0 where
  pub source : List ℕ
  pub stable : List ℕ
  pub ttable : List ℕ
  pub sizes : List ℕ
  pub out : List ℕ
  pub cert : List ℕ

-- a word that can name a file: it has a byte, and the first isn't `-`
pub record IsFileWord (word : List ℕ) : Type 0 where
  pub some : 0 < length word
  pub no_option : slice_index word 0 ≢ 45

-- each name can name a file, and the one of OUT isn't that of CERT
pub record AreProper (names : Names) : Type 0 where
  pub source : IsFileWord names.source
  pub stable : IsFileWord names.stable
  pub ttable : IsFileWord names.ttable
  pub sizes : IsFileWord names.sizes
  pub out : IsFileWord names.out
  pub cert : IsFileWord names.cert
  pub differ : names.out ≢ names.cert

-- the words that give these names
abbrev pub words_of : Names → List (List ℕ)
words_of names = codes "retarget" ∷ names.source ∷ names.stable ∷ names.ttable ∷ names.sizes ∷ names.out ∷ names.cert ∷ []

-- the words are `retarget` and six proper names
pub record AreWordsFor (words : List (List ℕ)) (names : Names) : Type 0 where
  pub spelled : words ≡ words_of names
  pub proper : AreProper names
