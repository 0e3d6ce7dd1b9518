use Rattle.std.proofs.Common.{ap}
use Rattle.cert_text.specs.declared.claim.Claim.TheVariants.{NoneAcross}
use Rattle.cert_text.specs.declared.building.Heading.TheVariants.{End}
use Rattle.cert_text.proofs.Builders.{first_known}
use Rattle.cert_text.proofs.building.none_across_of.Goals as goal

pub returns : goal.returns
returns c = λ within. ap NoneAcross (first_known End c.in_ok-across.across c.before_heading.result.now c.args.body.now c.before_heading.ensures c.in_ok-across.ensures within)
