use Rattle.cert_text.specs.declared.claim.Claim.TheVariants.{Done}
use Rattle.cert_text.specs.declared.building.Heading.TheVariants.{Upwards}
use Rattle.cert_text.proofs.Builders.{three, first_known}
use Rattle.cert_text.proofs.building.done_of.Goals as goal

pub returns : goal.returns
returns c = λ wide high header body.
    three Done c.in_ok-at.at _ c.in_ok-across.across _ c.in_ok-upwards.upwards _ (c.in_ok-at.ensures wide high header)
    (first_known Upwards c.in_ok-across.across c.before_heading.result.now c.args.body.now c.before_heading.ensures c.in_ok-across.ensures body) (c.in_ok-upwards.ensures body)
