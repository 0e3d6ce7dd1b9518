use Rattle.std.proofs.Common.{◌≡◌, ◌+◌, ◌∷◌, ◌++◌, [], List, take, All, sym, ap, subst, ◌∙◌, refl}
use Rattle.std.proofs.lemmas.List.{take_all, take_more}
use Rattle.std.proofs.lemmas.List.Elements.{All-push}
use Rattle.gds_stream.specs.declared.library.Element.{Element}
use Rattle.gds_flat.specs.Drawn.{IsDrawable}
use Rattle.flat_cases.proofs.drawable.are_drawable.Goals as goal

pub loop-element-preserved : goal.loop-element-preserved
loop-element-preserved c =
    let elements : List Element = c.args.elements.now in
    let i = c.loop-element.element-index in
    let e : Element = c.element-item.result in
    let more : take i elements ++ e ∷ [] ≡ take (i + 1) elements =
    ap (λ x. take i elements ++ x ∷ []) c.element-item.is ∙ sym (take_more elements i e c.loop-element-test.true) in
    let P : List Element → Type 0 = λ es. All IsDrawable es in
    subst P more (All-push IsDrawable (take i elements) e c.loop-element.invariant (c.if-not-is_drawable.ensures refl))

pub returns : goal.returns
returns c =
    let P : List Element → Type 0 = λ es. All IsDrawable es in
    λ _. subst P (take_all c.loop-element.element-index c.args.elements.now c.loop-element-test.false) c.loop-element.invariant
