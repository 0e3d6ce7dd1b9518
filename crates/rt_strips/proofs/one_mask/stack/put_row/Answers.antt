use Rattle.std.proofs.Common.{◌∙◌, ◌+◌, map, w64, FitsSigned, rules, subst, sym, ap, arith}
use Rattle.std.proofs.lemmas.Int.{to_z-of_z}
use Rattle.std.proofs.lemmas.List.{length-map, map-append, get_or-map}
use Rattle.rt_base.specs.Plane.{area}
use Rattle.rt_strips.specs.Stacks.{IsFirstFrom, no_area}
use Rattle.rt_strips.specs.Goings.{opened}
use Rattle.rt_strips.proofs.Rows.{IsRowLoop, row_begins, row_goes_on, row_ends}
use Rattle.rt_strips.proofs.one_mask.stack.put_row.Goals as goal

pub loop-piece-init : goal.loop-piece-init
loop-piece-init c =
    subst (IsRowLoop c.args.most (map area c.args.pieces.now) _ 0 0 (map area c.args.found.now.strips.items) c.args.found.now.count)
    (sym (ap (map opened) c.clear.ensures.items))
    (row_begins c.args.most (map area c.args.pieces.now)
    (record { kept = map area c.args.found.now.strips.items; count = c.args.found.now.count; going = map opened c.args.going.now }))

pub loop-piece-preserved : goal.loop-piece-preserved
loop-piece-preserved c =
    let piece = c.piece-item.result in
    let fits : FitsSigned w64 piece.x1 = search rules in
    let next : IsFirstFrom (map opened c.args.going.now) c.loop-piece.i piece.x1 c.first_from-i.result =
    subst (λ z. IsFirstFrom (map opened c.args.going.now) c.loop-piece.i z c.first_from-i.result) (to_z-of_z w64 piece.x1 fits) c.first_from-i.ensures in
    let is = get_or-map area c.args.pieces.now c.loop-piece.piece-index piece no_area c.loop-piece-test.true ∙ ap area (sym c.piece-item.is) in
    subst (IsRowLoop c.args.most (map area c.args.pieces.now) _ (c.loop-piece.piece-index + 1) c.first_from-i.result (map area c.put_piece.new.found.strips.items) c.put_piece.new.found.count)
    (sym (ap (map opened) c.in_ok-push.ensures.items ∙ map-append opened c.loop-piece.into.items _))
    (row_goes_on c.args.most (map area c.args.pieces.now) _ c.loop-piece.piece-index c.loop-piece.i (map area c.loop-piece.found.strips.items) c.loop-piece.found.count
    (map opened c.loop-piece.into.items) c.loop-piece.invariant (area piece) (omega (arith, length-map c.args.pieces.now area)) is c.first_from-i.result next c.in_ok-place.place
    (map area c.put_piece.new.found.strips.items) c.put_piece.new.found.count c.in_ok-place.ensures)

pub returns : goal.returns
returns c =
    row_ends c.args.most (map area c.args.pieces.now) _ c.loop-piece.piece-index c.loop-piece.i (map area c.loop-piece.found.strips.items) c.loop-piece.found.count
    (map opened c.loop-piece.into.items) c.loop-piece.invariant (omega (arith, length-map c.args.pieces.now area))
