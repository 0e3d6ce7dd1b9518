use Rattle.std.proofs.Common.{append_assoc, rules}
use Rattle.std.proofs.lemmas.List.{append-nil}
use Rattle.gds_stream.specs.Written.{front_records}
use Rattle.gds_stream.proofs.writing.put_front.Goals as goal

pub returns-clause-ok : goal.returns-clause-ok
unfolding front_records
returns-clause-ok c =
    rw (c.in_ok-put_text-2.ensures.ok, c.in_ok-put_record-3.ensures.ok, c.in_ok-put_units.ensures.ok, c.in_ok-put_text.ensures.ok, c.in_ok-put_record-2.ensures.ok, c.in_ok-put_record.ensures.ok)
    (rw c.to_be_bytes.ensures (simp (append_assoc, append-nil)))

pub returns-clause-fits : goal.returns-clause-fits
returns-clause-fits c = record {
  named = c.requires.named;
  name_printable = c.in_ok-put_text-2.ensures.printable;
  name_short = c.requires.name_short;
  library_printable = c.in_ok-put_text.ensures.printable;
  library_short = c.requires.library_short;
  units_long = search rules;
  units_bytes = c.put_units.ensures.bytes;
}
