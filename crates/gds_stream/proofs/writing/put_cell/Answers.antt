use Rattle.std.proofs.Common.{append_assoc, refl}
use Rattle.std.proofs.lemmas.List.{append-nil}
use Rattle.std.proofs.lemmas.List.Concat.{flat_map-append}
use Rattle.gds_stream.specs.Written.{end_records, records_of, written}
use Rattle.gds_stream.proofs.writing.put_cell.Goals as goal

pub returns-clause-bytes : goal.returns-clause-bytes
unfolding written records_of end_records
returns-clause-bytes c =
    rw (c.in_ok-put_record-2.ensures.ok, c.in_ok-put_record.ensures.ok, c.in_ok-put_notes.ensures.ok, c.in_ok-put_shapes.ensures.ok, c.in_ok-put_front.ensures.ok)
    (simp (flat_map-append, append_assoc, append-nil) (rw (c.as_slice.ensures, c.as_slice-2.ensures) refl))
