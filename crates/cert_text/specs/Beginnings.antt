-- What a certificate's second line tells at its beginning.
use Rattle.std.specs.Prelude.{ℕ, ◌==◌, if◌then◌else◌, Bool, List, [], ◌∷◌, codes, take}
use Rattle.std.specs.Str.{bytes_eq}

-- what stands behind the first line feed; nothing where there is none
abbrev pub behind_first_line : List ℕ → List ℕ
behind_first_line [] = []
behind_first_line (byte ∷ bytes) = if byte == 10 then bytes else behind_first_line bytes

-- the second line begins with `done `
abbrev pub says_done : List ℕ → Bool
says_done text = bytes_eq (codes "done ") (take 5 (behind_first_line text))
