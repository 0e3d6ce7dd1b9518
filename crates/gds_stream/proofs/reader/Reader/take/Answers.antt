use Rattle.gds_stream.proofs.Giving.{one_taken, has_it}
use Rattle.gds_stream.proofs.reader.Reader.take.Goals as goal

pub returns-clause-gives : goal.returns-clause-gives
returns-clause-gives c = one_taken c.args.code c.args.self.now c.take_one.new.self c.in_ok-part.part c.in_ok-part.ensures.code c.in_ok-part.ensures.takes

pub returns-clause-has : goal.returns-clause-has
returns-clause-has c = has_it c.args.self.now.kind c.args.self.now.at c.args.code c.in_ok-part.part c.in_ok-part.ensures.code c.in_ok-part.ensures.counts c.in_ok-part.ensures.reads
