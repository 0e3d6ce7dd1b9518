use Rattle.gds_stream.proofs.reading.read_stream.Goals as goal

pub returns-clause-fault : goal.returns-clause-fault
returns-clause-fault c = c.whole.ensures.fault c.args.bytes.now c.new-reader.ensures
