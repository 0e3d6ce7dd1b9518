use Rattle.std.proofs.Common.{◌∙◌, List, w64, FitsSigned, to_z, of_z, rules, subst, sym}
use Rattle.std.proofs.lemmas.Int.{to_z-of_z}
use Rattle.rt_sweep.specs.declared.bar.Bar.{Bar}
use Rattle.rt_sweep.specs.Rows.{AreFirstRows, IsNextBottom, IsLeastTop}
use Rattle.rt_sweep.proofs.Passing.{begins_across, stepped}
use Rattle.rt_sweep.proofs.step.step_up.Goals as goal

pub merge-requires-clause-beginning : goal.merge-requires-clause-beginning
merge-requires-clause-beginning c =
    let fits : FitsSigned w64 c.in-Some.bottom = search rules in
    let low = to_z-of_z w64 c.in-Some.bottom fits in
    let start : IsNextBottom c.args.bars.now c.args.next c.args.active.now c.args.height c.in-Some.bottom =
    subst (λ z. IsNextBottom c.args.bars.now c.args.next c.args.active.now z c.in-Some.bottom) (to_z-of_z w64 c.args.height c.ranges.height) c.in-Some.ensures in
    let row = subst (λ z. AreFirstRows c.args.bars.now c.args.next z c.end_of_row-end.result) low c.end_of_row-end.ensures in
    begins_across c.args.bars.now c.args.next c.args.height c.args.highest c.args.active.now c.requires c.in-Some.bottom start c.end_of_row-end.result row

pub returns : goal.returns
returns c =
    let fits : FitsSigned w64 c.in-Some.bottom = search rules in
    let low = to_z-of_z w64 c.in-Some.bottom fits in
    let start : IsNextBottom c.args.bars.now c.args.next c.args.active.now c.args.height (to_z w64 (of_z w64 c.in-Some.bottom)) =
    subst (IsNextBottom c.args.bars.now c.args.next c.args.active.now c.args.height) (sym low)
    (subst (λ z. IsNextBottom c.args.bars.now c.args.next c.args.active.now z c.in-Some.bottom) (to_z-of_z w64 c.args.height c.ranges.height) c.in-Some.ensures) in
    let limit_fits : FitsSigned w64 c.bottom_at.result = search rules in
    let limit = to_z-of_z w64 c.bottom_at.result limit_fits in
    let top_fits : FitsSigned w64 c.least_top-top.result = search rules in
    let least : IsLeastTop c.merge.new.into.items c.bottom_at.result (to_z w64 (of_z w64 c.least_top-top.result)) =
    subst (IsLeastTop c.merge.new.into.items c.bottom_at.result) (sym (to_z-of_z w64 c.least_top-top.result top_fits))
    (subst (λ (bars : List Bar). IsLeastTop bars c.bottom_at.result c.least_top-top.result) c.as_slice.ensures.value
    (subst (λ z. IsLeastTop c.as_slice.result.now z c.least_top-top.result) limit c.least_top-top.ensures)) in
    stepped c.args.bars.now c.args.next c.args.height c.args.highest c.args.active.now c.requires _ start c.end_of_row-end.result c.end_of_row-end.ensures
    c.merge.new.into.items c.in_ok-merge.ensures c.bottom_at.result c.bottom_at.ensures.there (λ h. c.bottom_at.ensures.none h ∙ to_z-of_z w64 c.args.highest c.ranges.highest)
    _ least
