-- What the records of a part of a stream say.
use Rattle.std.specs.Prelude.{◌≡◌, ℕ, true, List, [], ◌∷◌, ◌++◌}
use Rattle.std.specs.List.{AllByRecursion}
use Rattle.gds_records.specs.declared.types.TheConstants.{ENDEL, PROPATTR, PROPVALUE}
use Rattle.gds_records.specs.Records.{Item}
use Rattle.gds_grammar.specs.Conditions.{is_in}
use Rattle.gds_stream.specs.declared.library.Element.{Element}
use Rattle.gds_stream.specs.declared.library.Structure.{Structure}
use Rattle.gds_stream.specs.Contents.{elements_in}
use Rattle.gds_stream.specs.Gives.{structures_in}

-- the records are all of these types
abbrev pub AreOf : List ℕ → List Item → Type 0
AreOf codes items = AllByRecursion (λ i. is_in codes i.code ≡ true) items

-- the types that may stand behind what an element's kind wants, up to its end
abbrev pub closing_types : List ℕ
closing_types = PROPATTR ∷ PROPVALUE ∷ ENDEL ∷ []

-- whatever stands behind them, the records give these elements first
abbrev pub AreElements : List Item → List Element → Type 0
AreElements items elements = (more : List Item) → elements_in (items ++ more) ≡ elements ++ elements_in more

-- whatever stands behind them, the records give these structures first
abbrev pub AreStructures : List Item → List Structure → Type 0
AreStructures items structures = (more : List Item) → structures_in (items ++ more) ≡ structures ++ structures_in more
