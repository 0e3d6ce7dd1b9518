use Rattle.std.proofs.Common.{append_assoc, rules, refl}
use Rattle.std.proofs.lemmas.List.{append-nil}
use Rattle.std.proofs.lemmas.Int.{to_z-of_z}
use Rattle.gds_stream.specs.Written.{note_records, FitsNote}
use Rattle.gds_stream.proofs.writing.put_note.Goals as goal

fits : (c : goal.In_ok-put_record-5) → FitsNote c.args.note.now
fits c = record {
  layer = search rules;
  texttype = search rules;
  x = search rules;
  y = search rules;
  printable = c.in_ok-put_text.ensures.printable;
  short = c.requires;
}

pub returns-clause-ok : goal.returns-clause-ok
unfolding note_records
returns-clause-ok c =
    let x = to_z-of_z _ _ (fits c).x in
    let y = to_z-of_z _ _ (fits c).y in
    let layer = to_z-of_z _ _ (fits c).layer in
    let texttype = to_z-of_z _ _ (fits c).texttype in
    rw (c.in_ok-put_record-5.ensures.ok, c.in_ok-put_text.ensures.ok, c.in_ok-put_record-4.ensures.ok, c.in_ok-put_record-3.ensures.ok, c.in_ok-put_record-2.ensures.ok, c.in_ok-put_record.ensures.ok)
    (rw (c.to_be_bytes.ensures, c.to_be_bytes-2.ensures, c.to_be_bytes-3.ensures, c.to_be_bytes-4.ensures) (simp (append_assoc, append-nil) (rw (x, y, layer, texttype) refl)))

pub returns-clause-fits : goal.returns-clause-fits
returns-clause-fits c = fits c
