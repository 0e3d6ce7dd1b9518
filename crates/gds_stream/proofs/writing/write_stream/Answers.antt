use Rattle.std.proofs.Common.{refl}
use Rattle.gds_stream.proofs.Holding.{is_stream}
use Rattle.gds_stream.proofs.writing.write_stream.Goals as goal

pub returns-clause-stream : goal.returns-clause-stream
returns-clause-stream c = is_stream c.args.cell.now _ (rw (c.in_ok-put_cell.ensures.bytes, c.new-out.ensures.items) refl) c.in_ok-put_cell.ensures.fits
