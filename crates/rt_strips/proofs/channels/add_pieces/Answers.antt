use Rattle.std.proofs.Common.{map, List, ap, ◌∙◌}
use Rattle.std.proofs.lemmas.Result.{on_ok_weaker}
use Rattle.rt_base.specs.Plane.{area}
use Rattle.rt_strips.specs.declared.listing.Strip.{Strip}
use Rattle.rt_strips.specs.Placed.{placed}
use Rattle.rt_strips.proofs.Marks.{pieces_are_strips, strips_added}
use Rattle.rt_strips.proofs.channels.add_pieces.Goals as goal

pub marks-requires : goal.marks-requires
marks-requires c =
    pieces_are_strips (map area c.args.areas.now) (map placed c.as_slice.result.now) c.args.mask (ap (λ (l : List Strip). map placed l) c.as_slice.ensures.value ∙ c.in_ok-strips.ensures) c.requires

pub returns : goal.returns
returns c =
    on_ok_weaker c.add_untouched.result
    (strips_added (map area c.args.areas.now) c.as_slice-2.result.now c.args.mask c.args.most c.args.tally.now c.add_untouched.new.tally
    (ap (λ (l : List Strip). map placed l) c.as_slice-2.ensures.value ∙ c.in_ok-strips.ensures) c.requires)
    c.add_untouched.ensures
