use Rattle.std.proofs.Common.{◌∙◌, ◌++◌, List, ap, subst}
use Rattle.std.specs.List.Sorted.{IsPermutation}
use Rattle.rt_base.specs.declared.plane.Rect.{Rect}
use Rattle.rt_strips.proofs.one_mask.parts.from_left.Goals as goal

pub returns : goal.returns
returns c =
    let given = c.in_ok-extend_from_slice.ensures.items ∙ ap (λ (rs : List Rect). rs ++ c.args.rects.now) c.new-ordered.ensures.items in
    subst (λ (rs : List Rect). IsPermutation rs c.sort_by_key.new.self.items) given c.sort_by_key.ensures.permutation
