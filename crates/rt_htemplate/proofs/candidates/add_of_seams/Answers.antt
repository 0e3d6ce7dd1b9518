use Rattle.std.proofs.Common.{List, length, map, subst}
use Rattle.std.proofs.lemmas.Result.{on_ok_weaker}
use Rattle.rt_strips.specs.declared.contact.Seam.{Seam}
use Rattle.rt_strips.specs.Placed.{placed}
use Rattle.rt_between.specs.Offers.{AreOffered}
use Rattle.rt_htemplate.specs.Candidates.{names_at_seam, AreOfferedAtSeams}
use Rattle.rt_htemplate.proofs.Offers.{at_seams}
use Rattle.rt_htemplate.proofs.candidates.add_of_seams.Goals as goal

pub returns : goal.returns
returns c =
    let seams = c.as_slice.result.now in
    on_ok_weaker {P = AreOffered (names_at_seam seams) (length seams) c.args.names.now c.add_at_seams.new.names} {Q = AreOfferedAtSeams (map placed c.args.strips.now) c.args.names.now c.add_at_seams.new.names}
    c.add_at_seams.result
    (λ offered. at_seams (map placed c.args.strips.now) c.in_ok-seams.seams c.args.names.now c.add_at_seams.new.names c.in_ok-seams.ensures
    (subst (λ (s : List Seam). AreOffered (names_at_seam s) (length s) c.args.names.now c.add_at_seams.new.names) c.as_slice.ensures offered)) c.add_at_seams.ensures
