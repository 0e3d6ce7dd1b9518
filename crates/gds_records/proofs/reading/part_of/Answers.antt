use Rattle.std.proofs.Common.{◌≡◌, ◌-◌, length, get_or, take, drop}
use Rattle.std.proofs.lemmas.List.{take_rest}
use Rattle.gds_records.specs.Framing.{framing, framed_as}
use Rattle.gds_records.proofs.Framed.{framing_header}
use Rattle.gds_records.proofs.reading.part_of.Goals as goal

pub returns : goal.returns
returns c =
    let bytes = c.args.bytes.now in
    let header : framing c.args.at bytes ≡ framed_as c.args.at c.from_be_bytes-size.result (get_or bytes 2 0) (get_or bytes 3 0) (take (length bytes - 4) (drop 4 bytes)) =
    framing_header c.args.at c.from_be_bytes-size.result bytes (take (length bytes - 4) (drop 4 bytes)) c.in-len4-up.len_at_least c.from_be_bytes-size.ensures (take_rest bytes 4) in
    rw header c.part_as.ensures
