use Rattle.gds_grammar.proofs.Unique.{one_fault}
use Rattle.gds_grammar.proofs.laws.one_fault.Goals as goal

pub returns : goal.returns
returns c = one_fault
