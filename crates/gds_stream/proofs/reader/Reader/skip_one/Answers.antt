use Rattle.std.proofs.Common.{ap}
use Rattle.gds_grammar.specs.Format.{skipped}
use Rattle.gds_grammar.specs.Reading.{alone}
use Rattle.gds_stream.proofs.reader.Reader.skip_one.Goals as goal

pub returns : goal.returns
unfolding skipped
returns c = (_, ap alone c.in_ok-take_one.ensures.takes, tt)
