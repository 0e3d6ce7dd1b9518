-- A list of seven words, by its items.
use Rattle.std.proofs.Common.{◌≡◌, List, [], ◌∷◌, length, get_or, String, Global, string_bytes, refl, arith}
use Rattle.rt_run.specs.Words.{bytes_of}

pub seven_words : (xs : List (String Global)) (a b c d e f g : String Global) → length xs ≡ 7
    → a ≡ get_or xs 0 a → b ≡ get_or xs 1 b → c ≡ get_or xs 2 c → d ≡ get_or xs 3 d → e ≡ get_or xs 4 e → f ≡ get_or xs 5 f → g ≡ get_or xs 6 g
    → bytes_of xs ≡ string_bytes a ∷ string_bytes b ∷ string_bytes c ∷ string_bytes d ∷ string_bytes e ∷ string_bytes f ∷ string_bytes g ∷ []
seven_words (x ∷ y ∷ z ∷ u ∷ v ∷ w ∷ t ∷ []) a b c d e f g n p q r s i j k = rw (p, q, r, s, i, j, k) refl
seven_words [] a b c d e f g n p q r s i j k = absurd (omega arith)
seven_words (x ∷ []) a b c d e f g n p q r s i j k = absurd (omega arith)
seven_words (x ∷ y ∷ []) a b c d e f g n p q r s i j k = absurd (omega arith)
seven_words (x ∷ y ∷ z ∷ []) a b c d e f g n p q r s i j k = absurd (omega arith)
seven_words (x ∷ y ∷ z ∷ u ∷ []) a b c d e f g n p q r s i j k = absurd (omega arith)
seven_words (x ∷ y ∷ z ∷ u ∷ v ∷ []) a b c d e f g n p q r s i j k = absurd (omega arith)
seven_words (x ∷ y ∷ z ∷ u ∷ v ∷ w ∷ []) a b c d e f g n p q r s i j k = absurd (omega arith)
seven_words (x ∷ y ∷ z ∷ u ∷ v ∷ w ∷ t ∷ o ∷ xs) a b c d e f g n p q r s i j k = absurd (omega arith)
