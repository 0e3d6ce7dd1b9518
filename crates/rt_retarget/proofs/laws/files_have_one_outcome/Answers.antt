use Rattle.rt_retarget.proofs.OneAnswer.{infeasible_isnt_done, infeasible_along_one, done_is_one, one_outcome}
use Rattle.rt_retarget.proofs.laws.files_have_one_outcome.Goals as goal

pub returns-clause-infeasible : goal.returns-clause-infeasible
returns-clause-infeasible c = infeasible_isnt_done

pub returns-clause-axis : goal.returns-clause-axis
returns-clause-axis c = infeasible_along_one

pub returns-clause-bytes : goal.returns-clause-bytes
returns-clause-bytes c = done_is_one

pub returns-clause-one : goal.returns-clause-one
returns-clause-one c = one_outcome
