use Rattle.std.proofs.lemmas.Result.{on_ok_weaker}
use Rattle.std.proofs.Common.{length}
use Rattle.rt_htemplate.specs.Wanted.{IsOfEnclosure, AreOfferedBetween}
use Rattle.rt_between.specs.Offers.{AreOfferedFor}
use Rattle.rt_htemplate.proofs.Reached.{offered_between}
use Rattle.rt_htemplate.proofs.candidates.add_between.Goals as goal

pub returns : goal.returns
returns c =
    let job = c.args.job.now in
    on_ok_weaker {P = AreOfferedFor (IsOfEnclosure job) (length job.source.encloses) c.add_of_distances.new.names c.add_of_enclosures.new.names}
    {Q = AreOfferedBetween job c.args.names.now c.add_of_enclosures.new.names}
    c.add_of_enclosures.result (offered_between job _ _ _ c.in_ok-add_of_distances.ensures) c.add_of_enclosures.ensures
