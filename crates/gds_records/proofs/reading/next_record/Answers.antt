use Rattle.std.proofs.lemmas.List.{take_rest}
use Rattle.gds_records.proofs.Bytes.{are_bytes}
use Rattle.gds_records.proofs.Deciding.{part_holds, fault_holds}
use Rattle.gds_records.proofs.reading.next_record.Goals as goal

pub returns-clause-part : goal.returns-clause-part
returns-clause-part c =
    part_holds c.args.at c.args.bytes.now _ c.part_of.result (are_bytes c.args.bytes.now c.type_inv.bytes) (take_rest c.args.bytes.now c.args.at) c.part_of.ensures

pub returns-clause-fault : goal.returns-clause-fault
returns-clause-fault c =
    fault_holds c.args.at c.args.bytes.now _ c.part_of.result (are_bytes c.args.bytes.now c.type_inv.bytes) (take_rest c.args.bytes.now c.args.at) c.part_of.ensures
