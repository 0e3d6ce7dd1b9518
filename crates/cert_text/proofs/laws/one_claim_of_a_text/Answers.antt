use Rattle.cert_text.proofs.OneText.{one_claim}
use Rattle.cert_text.proofs.laws.one_claim_of_a_text.Goals as goal

pub returns : goal.returns
returns c = one_claim
