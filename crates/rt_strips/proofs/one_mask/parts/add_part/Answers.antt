use Rattle.std.proofs.Common.{◌∙◌, ◌++◌, ◌<◌, length, map, List, ap, arith}
use Rattle.std.proofs.lemmas.List.{length-map}
use Rattle.rt_base.specs.Plane.{area}
use Rattle.rt_base.specs.declared.plane.Rect.{Rect}
use Rattle.rt_cells.specs.Rectangles.{Covers}
use Rattle.rt_strips.proofs.Built.{all_kept}
use Rattle.rt_strips.proofs.Parts.{the_same, strips_added}
use Rattle.rt_strips.proofs.one_mask.parts.add_part.Goals as goal
use Rattle.rt_strips.proofs.one_mask.parts.add_part.Goals.{then-len-lt-MANY+in_ok-extend_from_slice, else-len-lt-MANY+in_ok-extend_from_slice-2}

pub returns : goal.returns
returns c =
    let before = c.args.merged.now.items in
    let part = c.args.part.now in
    let found = c.in_ok-found.found in
    elim c.if-len-lt-MANY.branch [
      | then-len-lt-MANY+in_ok-extend_from_slice w ↦
          let few : length (map area found.strips.items) < 512 = omega (arith, length-map found.strips.items area, c.len.ensures, w.if-len-lt-MANY.true) in
          let same = all_kept (Covers (map area part)) 512 (map area found.strips.items) found.count few c.in_ok-found.ensures in
          let added = w.in_ok-extend_from_slice.ensures.items ∙ ap (λ (rs : List Rect). before ++ rs) w.as_slice.ensures.value in
          strips_added before part found.strips.items c.if-len-lt-MANY.merged.items same (ap (λ m. m.items) w.merged-is ∙ added)
      | else-len-lt-MANY+in_ok-extend_from_slice-2 w ↦
          the_same c.if-len-lt-MANY.merged.items (before ++ part) (ap (λ m. m.items) w.merged-is ∙ w.in_ok-extend_from_slice-2.ensures.items)
    ]
