-- The cell of a library that is flattened.
use Rattle.std.proofs.Common.{◌<◌, ◌≤◌, List, length, subst, arith}
use Rattle.std.specs.Prelude.{All}
use Rattle.gds_stream.specs.declared.library.Structure.{Structure}
use Rattle.gds_stream_laws.specs.Lawful.{IsLawfulStructure}
use Rattle.gds_flat.specs.Reach.{Name}
use Rattle.gds_flat.specs.Reach.Order.{known, new}
use Rattle.gds_flat.specs.Refused.{IsReached}
use Rattle.gds_flat_laws.proofs.Named.{found_named}

-- a name of the length of a structure's
pub record IsCellOf (name : Name) : Type 0 where
  pub named : 0 < length name
  pub short : length name ≤ 65530

-- the name that a walk begins with isn't empty and fits a record
pub reached_cell : (structures : List Structure) (top : Name) (order : List Name) → All IsLawfulStructure structures → IsReached structures top order → IsCellOf top
reached_cell structures top order lawful (known has rest) = absurd (omega (arith, has.1))
reached_cell structures top order lawful (new {s = s} fresh found rest) =
    let is = found_named structures top s lawful found in
    subst IsCellOf is.1 (record { named = is.0.named; short = is.0.short })
