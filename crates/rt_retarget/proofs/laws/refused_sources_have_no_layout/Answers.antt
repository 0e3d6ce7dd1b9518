use Rattle.rt_retarget.proofs.Excluded.{more_parsed, no_stream_parsed, unflattened_laid}
use Rattle.rt_retarget.proofs.laws.refused_sources_have_no_layout.Goals as goal

pub returns-clause-more : goal.returns-clause-more
returns-clause-more c = more_parsed

pub returns-clause-no_stream : goal.returns-clause-no_stream
returns-clause-no_stream c = no_stream_parsed

pub returns-clause-unflattened : goal.returns-clause-unflattened
returns-clause-unflattened c = unflattened_laid
