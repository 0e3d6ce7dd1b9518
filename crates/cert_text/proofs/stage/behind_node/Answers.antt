use Rattle.cert_text.proofs.Staging.{branch_next, cut_next, bound_next, empty_next}
use Rattle.cert_text.proofs.stage.behind_node.Goals as goal

pub returns-in-Branch : goal.returns-in-Branch
returns-in-Branch c = branch_next c.args.trees c.args.last c.args.line.now _ _ c.requires.some c.in-Branch.is

pub returns-in-Cut : goal.returns-in-Cut
returns-in-Cut c = cut_next c.args.trees c.args.last c.args.line.now c.in-Cut.over c.in-Cut.shares c.requires.some c.requires.within c.in-Cut.is

pub returns-in-Bound : goal.returns-in-Bound
returns-in-Bound c = bound_next c.args.trees c.args.last c.args.line.now c.in-Bound.over c.in-Bound.shares c.requires.some c.requires.within c.in-Bound.is

pub returns-in-Empty : goal.returns-in-Empty
returns-in-Empty c = empty_next c.args.trees c.args.last c.args.line.now c.in-Empty.over c.in-Empty.shares c.requires.some c.requires.within c.in-Empty.is
