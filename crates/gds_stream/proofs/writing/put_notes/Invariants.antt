use Rattle.std.proofs.Common.{◌≡◌, ◌++◌, take, All}
use Rattle.std.specs.List.{flat_map}
use Rattle.gds_records.specs.Records.{flat}
use Rattle.gds_stream.specs.Written.{note_records, FitsNote}
use Rattle.gds_stream.proofs.writing.put_notes.Given as goal

abbrev pub invariant-loop-note : goal.invariant-loop-note
invariant-loop-note l =
    (l.out.items ≡ l.initial.out.items ++ flat (flat_map note_records (take l.note-index l.notes)))
    × All FitsNote (take l.note-index l.notes)
