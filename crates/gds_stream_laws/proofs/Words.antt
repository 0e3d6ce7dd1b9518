-- The records of a word of a rule have the rule's types.
use Rattle.std.proofs.Common.{ℕ, List, [], ◌∷◌, All, Contains}
use Rattle.std.proofs.lemmas.List.Elements.{All-head, All-tail}
use Rattle.gds_records.specs.Records.{Item}
use Rattle.gds_grammar.specs.Grammar.{Grammar, In}
use Rattle.gds_grammar.proofs.Following.{codes}
use Rattle.gds_grammar.proofs.GrammarLaws.{is_in_from}
use Rattle.gds_grammar.proofs.Last.{types, types_all}
use Rattle.gds_stream_laws.specs.Values.{AreOf}

of_all : (allowed : List ℕ) (items : List Item) → All (Contains allowed) (codes items) → AreOf allowed items
of_all allowed [] all = tt
of_all allowed (i ∷ items) all = (is_in_from allowed i.code (All-head (Contains allowed) i.code (codes items) all), of_all allowed items (All-tail (Contains allowed) i.code (codes items) all))

-- the records of a word have the rule's types
pub types_of : (g : Grammar) (items : List Item) → In g (codes items) → AreOf (types g) items
types_of g items word = of_all (types g) items (types_all g (codes items) word)
