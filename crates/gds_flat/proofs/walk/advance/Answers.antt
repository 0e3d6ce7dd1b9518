use Rattle.std.proofs.Common.{◌≡◌, ◌≤◌, length, Some, List, slice_get, rules, ap, subst, sym, ◌∙◌}
use Rattle.gds_stream.specs.declared.library.Element.{Element}
use Rattle.gds_flat.specs.Walking.{elements_at}
use Rattle.gds_flat.proofs.Coming.{frame_within, elements_read, entry_is}
use Rattle.gds_flat.proofs.walk.advance.Goals as goal

pub bounds-names-frame : goal.bounds-names-frame
bounds-names-frame c =
    frame_within c.args.names.now.structures.now c.args.walk.now.frames.items c.args.frame.now c.args.walk.now.marks.items
    c.args.walk.now.order.items c.args.walk.now.finish.items c.requires.marked

pub offset_bounds-names-frame : goal.offset_bounds-names-frame
offset_bounds-names-frame c =
    let low = frame_within c.args.names.now.structures.now c.args.walk.now.frames.items c.args.frame.now c.args.walk.now.marks.items
    c.args.walk.now.order.items c.args.walk.now.finish.items c.requires.marked in
    search rules

pub go_on-requires-clause-next : goal.go_on-requires-clause-next
go_on-requires-clause-next c =
    let library = c.args.names.now.structures.now in
    let k = c.args.frame.now.structure in
    let low = frame_within library c.args.walk.now.frames.items c.args.frame.now c.args.walk.now.marks.items
    c.args.walk.now.order.items c.args.walk.now.finish.items c.requires.marked in
    let same : c.as_slice-elements.result.now ≡ elements_at library k =
    c.as_slice-elements.ensures ∙ ap (λ s. s.elements) (sym c.index-names-frame.is) ∙ sym (elements_read library k c.index-names-frame.result low c.index-names-frame.is) in
    let P : List Element → Type 0 = λ es. slice_get es c.args.frame.now.next ≡ Some c.in-Some.element.now in
    subst P same (entry_is c.as_slice-elements.result.now c.args.frame.now.next c.in-Some.element.now c.in-Some.ensures.lookup.3.0 c.in-Some.ensures.lookup.1)

pub close-requires-clause-over : goal.close-requires-clause-over
close-requires-clause-over c =
    let library = c.args.names.now.structures.now in
    let k = c.args.frame.now.structure in
    let low = frame_within library c.args.walk.now.frames.items c.args.frame.now c.args.walk.now.marks.items
    c.args.walk.now.order.items c.args.walk.now.finish.items c.requires.marked in
    let same : c.as_slice-elements.result.now ≡ elements_at library k =
    c.as_slice-elements.ensures ∙ ap (λ s. s.elements) (sym c.index-names-frame.is) ∙ sym (elements_read library k c.index-names-frame.result low c.index-names-frame.is) in
    let P : List Element → Type 0 = λ es. length es ≤ c.args.frame.now.next in
    subst P same c.in-None.ensures.lookup.3
