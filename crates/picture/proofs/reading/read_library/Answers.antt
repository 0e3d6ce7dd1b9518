use Rattle.gds_flat_laws.proofs.Drawable.{stream_is_drawable}
use Rattle.picture.proofs.reading.read_library.Goals as goal

pub returns-in-Ok : goal.returns-in-Ok
returns-in-Ok c = stream_is_drawable c.args.bytes.now c.in-Ok.library c.in-Ok.ensures.library
