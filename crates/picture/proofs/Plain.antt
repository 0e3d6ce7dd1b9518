-- An escaped text has no mark of XML but `&`.
use Rattle.std.proofs.Common.{ℕ, List, [], ◌∷◌, arith}
use Rattle.std.specs.Prelude.{All}
use Rattle.std.specs.List.{AllByRecursion}
use Rattle.std.proofs.lemmas.List.Elements.{All-nil, All-append, All-from_recursion}
use Rattle.picture.specs.Escapes.{spelled, escaped, IsPlain}

plain : (b : ℕ) → AllByRecursion IsPlain (spelled b)
unfolding spelled
plain b = grind arith

-- an escaped text is plain
pub escaped_is_plain : (text : List ℕ) → All IsPlain (escaped text)
escaped_is_plain [] = All-nil IsPlain
escaped_is_plain (b ∷ text) = All-append IsPlain (spelled b) (escaped text) (All-from_recursion IsPlain (spelled b) (plain b)) (escaped_is_plain text)
