-- Text as XML spells it.
use Rattle.std.specs.Prelude.{◌≢◌, ℕ, if◌then◌else◌, ◌==◌, List, [], ◌∷◌, codes}
use Rattle.std.specs.List.{flat_map}

-- how a byte of a text is spelled
unfoldable pub spelled : ℕ → List ℕ
spelled byte =
    if byte == 38 then codes "&amp;"
    else if byte == 60 then codes "&lt;"
    else if byte == 62 then codes "&gt;"
    else if byte == 34 then codes "&quot;"
    else if byte == 39 then codes "&apos;"
    else byte ∷ []

-- a text as XML spells it
abbrev pub escaped : List ℕ → List ℕ
escaped text = flat_map spelled text

-- the byte is none of `<`, `>`, `"` and `'`
pub record IsPlain (byte : ℕ) : Type 0 where
  pub opens : byte ≢ 60
  pub closes : byte ≢ 62
  pub quotes : byte ≢ 34
  pub quotes_once : byte ≢ 39
