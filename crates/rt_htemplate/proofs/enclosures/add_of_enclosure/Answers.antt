use Rattle.std.proofs.Common.{ℕ, List, length, subst}
use Rattle.rt_between.specs.Offers.{AreOffered}
use Rattle.rt_htemplate.specs.Candidates.{names_in_at}
use Rattle.rt_between.proofs.Growing.{then_given}
use Rattle.rt_htemplate.proofs.Reached.{enclosure_offered}
use Rattle.rt_htemplate.proofs.enclosures.add_of_enclosure.Goals as goal

pub returns : goal.returns
returns c =
    then_given c.add_in.result
    (λ offered.
    enclosure_offered c.args.job.now c.args.q c.in_ok-pairs.pairs c.args.names.now c.add_in.new.names c.in_ok-pairs.ensures
    (subst (λ (pairs : List (ℕ × ℕ)). AreOffered (names_in_at c.args.q pairs) (length pairs) c.args.names.now c.add_in.new.names) c.as_slice.ensures offered))
    c.add_in.ensures
