use Rattle.std.proofs.Common.{List, map, subst}
use Rattle.rt_base.specs.declared.plane.Rect.{Rect}
use Rattle.rt_base.specs.Plane.{area}
use Rattle.rt_strips.specs.Pieces.{AreCommon}
use Rattle.rt_strips.proofs.Commons.{both_pieces}
use Rattle.rt_strips.proofs.one_mask.common.both_pieces_of.Goals as goal

pub returns : goal.returns
returns c =
    let first = c.pieces_of.new.into.items in
    let second = c.pieces_of-2.new.into.items in
    let both = map area c.common_pieces.new.into.items in
    let common : AreCommon (map area first) (map area second) both =
    subst (λ (xs : List Rect). AreCommon (map area xs) (map area second) both) c.as_slice.ensures.value
    (subst (λ (ys : List Rect). AreCommon (map area c.as_slice.result.now) (map area ys) both) c.as_slice-2.ensures.value c.in_ok-common_pieces.ensures) in
    both_pieces c.args.active.now c.args.slab.now.bottom c.args.slab.now.top (map area first) (map area second) both c.in_ok-pieces_of.ensures c.in_ok-pieces_of-2.ensures common
