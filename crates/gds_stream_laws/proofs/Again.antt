-- The library that the writer's bytes hold.
use Rattle.std.proofs.Common.{subst}
use Rattle.gds_stream.specs.declared.cell.Flat.{Flat}
use Rattle.gds_stream.specs.declared.library.Library.{Library}
use Rattle.gds_stream.specs.Contents.{Stream}
use Rattle.gds_stream.specs.Written.{written, FitsWriter, OneCell}
use Rattle.gds_stream.proofs.Holding.{written_holds}
use Rattle.gds_stream.proofs.Telling.{one_library}

pub read_back : (cell : Flat) (library : Library) → FitsWriter cell → Stream (written cell) library → OneCell library cell
read_back cell library fits stream =
    let (held, is_stream, one) = written_holds cell fits in
    subst (λ (l : Library). OneCell l cell) (one_library (written cell) held library is_stream stream) one
