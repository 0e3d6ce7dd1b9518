-- The longest list of whole records that begins a stream. (This project's own.)
use Rattle.std.specs.Prelude.{◌≡◌, ℕ, ◌≤◌, ◌⊎◌, List, ◌++◌, length}
use Rattle.gds_records.specs.Records.{Item, flat}
use Rattle.gds_grammar.specs.Conditions.{AreStream}
use Rattle.gds_grammar.specs.Stops.{GoesOn, HasByteBehind}

-- some stream begins with the records, or is them
abbrev pub BeginStream : List Item → Type 0
BeginStream items = GoesOn items ⊎ AreStream items

-- the longest list of records with which the bytes and a stream begin ends at the place, or is a whole stream behind which the first byte that is no zero stands there
pub record EndsLongest (bytes : List ℕ) (place : ℕ) : Type 0 where
  pub items : List Item
  pub rest : List ℕ
  pub front : bytes ≡ flat items ++ rest
  pub begin : BeginStream items
  pub longest : (others : List Item) (behind : List ℕ) → bytes ≡ flat others ++ behind → BeginStream others → length others ≤ length items
  pub here : (place ≡ length (flat items)) ⊎ ((byte : ℕ) × HasByteBehind items rest place byte)
