-- The types that begin the rules that are read again and again.
use Rattle.std.proofs.Common.{[], ◌∷◌, refl}
use Rattle.gds_records.specs.declared.types.TheConstants.{PROPATTR, BGNSTR, SKIPPED}
use Rattle.gds_grammar.specs.Format.{skipped, boundary, path, sref, aref, label, node, box, property, element, structure}
use Rattle.gds_grammar.specs.Conditions.{starts}
use Rattle.gds_stream.proofs.Looping.{Begins}

pub skipped_begins : Begins skipped SKIPPED
unfolding skipped
skipped_begins = record { some = refl; by = refl }

pub property_begins : Begins property (PROPATTR ∷ [])
unfolding property
property_begins = record { some = refl; by = refl }

pub element_begins : Begins element starts
unfolding element boundary path sref aref label node box
element_begins = record { some = refl; by = refl }

pub structure_begins : Begins structure (BGNSTR ∷ [])
unfolding structure
structure_begins = record { some = refl; by = refl }
