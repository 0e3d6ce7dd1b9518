use Rattle.rt_retarget.proofs.Excluded.{too_many_stripped, misshapen_shaped, unsound_sound, strays_wished}
use Rattle.rt_retarget.proofs.laws.refused_layouts_are_not_moved.Goals as goal

pub returns-clause-too_many : goal.returns-clause-too_many
returns-clause-too_many c = too_many_stripped

pub returns-clause-misshapen : goal.returns-clause-misshapen
returns-clause-misshapen c = misshapen_shaped

pub returns-clause-unsound : goal.returns-clause-unsound
returns-clause-unsound c = unsound_sound

pub returns-clause-strays : goal.returns-clause-strays
returns-clause-strays c = strays_wished
