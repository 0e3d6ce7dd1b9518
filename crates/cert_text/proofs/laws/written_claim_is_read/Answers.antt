use Rattle.cert_text.proofs.OneText.{read_again}
use Rattle.cert_text.proofs.laws.written_claim_is_read.Goals as goal

pub returns : goal.returns
returns c = read_again
