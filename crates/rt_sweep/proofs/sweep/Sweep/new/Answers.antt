use Rattle.std.proofs.Common.{◌≡◌, ◌<◌, length, get_or, w64, FitsSigned, to_z, of_z, rules, subst, sym, ◌∙◌, ◌≤ℤ◌, List}
use Rattle.std.specs.List.{All}
use Rattle.std.proofs.lemmas.Int.{to_z-of_z}
use Rattle.rt_sweep.specs.declared.bar.Bar.{Bar}
use Rattle.rt_sweep.specs.Rows.{IsSwept}
use Rattle.rt_sweep.proofs.Passing.{swept_from, at_start}
use Rattle.rt_sweep.proofs.sweep.Sweep.new.Goals as goal

swept : (c : goal.After-new-2)
    → IsSwept c.sort_upwards.new.bars.items 0 (to_z w64 (of_z w64 c.bottom_at-height.result)) (to_z w64 (of_z w64 c.greatest_top-highest.result)) c.new.result.items
swept c =
    let low_fits : FitsSigned w64 c.bottom_at-height.result = search rules in
    let high_fits : FitsSigned w64 c.greatest_top-highest.result = search rules in
    let low = to_z-of_z w64 c.bottom_at-height.result low_fits in
    let high = to_z-of_z w64 c.greatest_top-highest.result high_fits in
    let first : (d : Bar) → 0 < length c.sort_upwards.new.bars.items → to_z w64 (of_z w64 c.bottom_at-height.result) ≡ (get_or c.sort_upwards.new.bars.items 0 d).at.y1 =
    λ d h. low ∙ subst (λ (bars : List Bar). 0 < length bars → (d : Bar) → c.bottom_at-height.result ≡ (get_or bars 0 d).at.y1) c.as_slice.ensures.value c.bottom_at-height.ensures.there h d in
    let ends : All (λ (bar : Bar). bar.at.y2 ≤ℤ to_z w64 (of_z w64 c.greatest_top-highest.result)) c.sort_upwards.new.bars.items =
    subst (λ z. All (λ (bar : Bar). bar.at.y2 ≤ℤ z) c.sort_upwards.new.bars.items) (sym high)
    (subst (All (λ (bar : Bar). bar.at.y2 ≤ℤ c.greatest_top-highest.result)) c.as_slice-2.ensures.value c.greatest_top-highest.ensures.tops) in
    swept_from c.sort_upwards.new.bars.items _ _ c.new.result.items c.in_ok-sort_upwards.ensures.sorted first ends c.new.ensures.items

pub invariant_of-result : goal.invariant_of-result
invariant_of-result c = swept c

pub returns : goal.returns
returns c = at_start c.args.bars.items c.sort_upwards.new.bars.items _ _ c.new.result.items c.in_ok-sort_upwards.ensures.same (swept c)
