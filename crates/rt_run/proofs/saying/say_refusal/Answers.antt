use Rattle.std.proofs.Common.{rules, w16, w64, FitsSigned}
use Rattle.std.proofs.lemmas.Int.{to_z-of_z}
use Rattle.rt_run.proofs.EndLemmas.{rule_line, layer_line}
use Rattle.rt_run.proofs.saying.say_refusal.Goals as goal

pub returns-in-UnmappedLayer : goal.returns-in-UnmappedLayer
returns-in-UnmappedLayer g c =
    let layer : FitsSigned w16 c.in-UnmappedLayer.layer = search rules in
    let number : FitsSigned w16 c.in-UnmappedLayer.number = search rules in
    rw c.in-UnmappedLayer.is (layer_line _ _ c.in-UnmappedLayer.layer c.in-UnmappedLayer.number _ _ c.say_unmapped_layer.result
    (to_z-of_z w16 c.in-UnmappedLayer.layer layer) (to_z-of_z w16 c.in-UnmappedLayer.number number) c.say_unmapped_layer.ensures)

pub returns-in-SourceRule : goal.returns-in-SourceRule
returns-in-SourceRule g c =
    let found : FitsSigned w64 c.in-SourceRule.found = search rules in
    let needed : FitsSigned w64 c.in-SourceRule.needed = search rules in
    let says = rw c.as_slice-in-SourceRule.ensures at c.say_source_rule.ensures in
    rw c.in-SourceRule.is (rule_line _ _ c.in-SourceRule.rule _ c.in-SourceRule.p c.in-SourceRule.q c.in-SourceRule.found c.in-SourceRule.needed _ _ c.say_source_rule.result
    (to_z-of_z w64 c.in-SourceRule.found found) (to_z-of_z w64 c.in-SourceRule.needed needed) says)

pub returns-in-SourceShape : goal.returns-in-SourceShape
returns-in-SourceShape g c = rw c.in-SourceShape.is (rw c.shape_word.ensures at c.say_source_shape.ensures)
