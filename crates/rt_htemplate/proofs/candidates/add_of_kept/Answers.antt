use Rattle.std.proofs.Common.{ℕ, List, length, subst}
use Rattle.std.proofs.lemmas.Result.{on_ok_weaker}
use Rattle.rt_between.specs.Offers.{AreOffered}
use Rattle.rt_htemplate.specs.Candidates.{names_at_pair, AreOfferedForKept}
use Rattle.rt_htemplate.proofs.Offers.{for_kept}
use Rattle.rt_htemplate.proofs.candidates.add_of_kept.Goals as goal

pub returns : goal.returns
returns c =
    let pairs = c.as_slice.result.now in
    on_ok_weaker {P = AreOffered (names_at_pair pairs) (length pairs) c.args.names.now c.add_at_pairs.new.names} {Q = AreOfferedForKept c.args.job.now c.args.names.now c.add_at_pairs.new.names}
    c.add_at_pairs.result
    (λ offered. for_kept c.args.job.now c.in_ok-pairs.pairs c.args.names.now c.add_at_pairs.new.names c.in_ok-pairs.ensures
    (subst (λ (s : List (ℕ × ℕ)). AreOffered (names_at_pair s) (length s) c.args.names.now c.add_at_pairs.new.names) c.as_slice.ensures offered)) c.add_at_pairs.ensures
