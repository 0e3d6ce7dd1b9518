use Rattle.cert_text.proofs.OneText.{bad_is_none}
use Rattle.cert_text.proofs.laws.text_of_a_claim_is_not_bad.Goals as goal

pub returns : goal.returns
returns c = bad_is_none
