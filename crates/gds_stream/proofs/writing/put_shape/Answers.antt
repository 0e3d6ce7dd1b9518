use Rattle.std.proofs.Common.{append_assoc, rules, refl}
use Rattle.std.proofs.lemmas.List.{append-nil}
use Rattle.std.proofs.lemmas.Int.{to_z-of_z}
use Rattle.gds_stream.specs.Written.{shape_records, FitsShape}
use Rattle.gds_stream.proofs.writing.put_shape.Goals as goal

fits : (c : goal.In_ok-put_record-5) → FitsShape c.args.shape.now
fits c = record {
  layer = search rules;
  datatype = search rules;
  x1 = c.corners.ensures.fits_x.0;
  y1 = c.corners.ensures.fits_y.0;
  x2 = c.corners.ensures.fits_x.1;
  y2 = c.corners.ensures.fits_y.1;
}

pub returns-clause-ok : goal.returns-clause-ok
unfolding shape_records
returns-clause-ok c =
    let layer = to_z-of_z _ _ (fits c).layer in
    let datatype = to_z-of_z _ _ (fits c).datatype in
    rw (c.in_ok-put_record-5.ensures.ok, c.in_ok-put_record-4.ensures.ok, c.in_ok-put_record-3.ensures.ok, c.in_ok-put_record-2.ensures.ok, c.in_ok-put_record.ensures.ok)
    (rw (c.to_be_bytes.ensures, c.to_be_bytes-2.ensures, c.corners.ensures.value) (simp (append_assoc, append-nil) (rw (layer, datatype) refl)))

pub returns-clause-fits : goal.returns-clause-fits
returns-clause-fits c = fits c
