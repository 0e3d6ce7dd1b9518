use Rattle.gds_grammar.proofs.Cuts.{cut_between, cut_inside}
use Rattle.gds_grammar.proofs.laws.a_cut_stream_stops.Goals as goal

pub returns-clause-between : goal.returns-clause-between
returns-clause-between c = cut_between

pub returns-clause-inside : goal.returns-clause-inside
returns-clause-inside c = cut_inside
