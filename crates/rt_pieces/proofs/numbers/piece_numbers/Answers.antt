use Rattle.std.proofs.Common.{arith, length, map, subst, sym}
use Rattle.std.proofs.lemmas.List.{length-map}
use Rattle.rt_strips.specs.Placed.{placed}
use Rattle.rt_pieces.specs.Numbering.{AreOwnNumbers, AreNumbersOfPieces}
use Rattle.rt_pieces.proofs.Linking.{own_links, pieces_numbered, written_back}
use Rattle.rt_pieces.proofs.numbers.piece_numbers.Goals as goal

pub lower_all-requires-clause-links : goal.lower_all-requires-clause-links
lower_all-requires-clause-links c =
    let strips = c.args.strips.now in
    own_links c.args.m (map placed strips) c.as_mut_slice.result.now
    (subst (λ n. AreOwnNumbers n c.as_mut_slice.result.now) (sym (length-map strips placed))
    (subst (AreOwnNumbers (length strips)) (sym c.as_mut_slice.ensures.value) c.in_ok-links.ensures))

pub returns : goal.returns
returns c =
    let strips = map placed c.args.strips.now in
    let after = c.lower_all.new.links in
    let items = c.in_ok-links.links.items in
    let counted = c.lower_all.ensures.links.counted in
    subst (AreNumbersOfPieces c.args.m strips)
    (sym (written_back after items c.in_ok-links.links.len
    (omega (arith, counted, length-map c.args.strips.now placed, c.in_ok-links.ensures.counted, c.in_ok-links.links.ok.0)) (omega (arith, c.in_ok-links.links.ok.0))))
    (pieces_numbered c.args.m strips c.args.seams.now after c.requires.seams c.lower_all.ensures.links c.lower_all.ensures.joined)
