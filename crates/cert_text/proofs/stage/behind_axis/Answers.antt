use Rattle.std.proofs.Common.{sym, subst}
use Rattle.cert_text.specs.declared.stage.Stage.TheVariants.{Axis}
use Rattle.cert_text.specs.Stages.{IsBehind}
use Rattle.cert_text.proofs.Staging.{no_axis_next, axis_next}
use Rattle.cert_text.proofs.stage.behind_axis.Goals as goal

pub returns-in-NoAxis : goal.returns-in-NoAxis
returns-in-NoAxis c = subst (IsBehind (Axis c.args.columns) c.args.line.now) (sym c.first_of.ensures) (no_axis_next c.args.columns c.args.line.now c.in-NoAxis.is)

pub returns-in-Axis : goal.returns-in-Axis
returns-in-Axis c = subst (IsBehind (Axis c.args.columns) c.args.line.now) (sym c.first_of-in-Axis.ensures) (axis_next c.args.columns c.args.line.now _ c.in-Axis.is)
