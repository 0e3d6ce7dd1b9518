use Rattle.std.proofs.Common.{◌≡◌, ◌+◌, ◌∙◌, ◌++◌, ◌∷◌, [], ap, arith, Global, length, map, refl, subst, sym, Vec}
use Rattle.rt_sweep.specs.declared.bar.Bar.{Bar}
use Rattle.rt_strips.specs.Placed.{placed}
use Rattle.rt_hosts.specs.Bars.{AreBarsOf}
use Rattle.rt_hosts.proofs.Listing.{bar_more, bar_passed, read_taken, read_passed, read_rectangle}
use Rattle.rt_hosts.proofs.bars.add_strips.Goals as goal
use Rattle.rt_hosts.proofs.bars.add_strips.Goals.{then-strip-m+in_ok-push, else-strip-m}

pub loop-i-preserved : goal.loop-i-preserved
loop-i-preserved c =
    let m = c.args.m in
    let strips = c.args.strips.now in
    let areas = c.args.areas.now in
    let i = c.loop-i.i in
    let strip = c.index-strips-i.result in
    let there = c.loop-i-test.true in
    let is = c.index-strips-i.is in
    let bar : Bar = record { at = strip.at; tag = length areas + i } in
    let number : (length areas + i) + 1 ≡ length areas + (i + 1) = omega arith in
    elim c.if-strip-m.branch [
      | then-strip-m+in_ok-push w ↦
          subst (AreBarsOf m (map placed strips) areas (length areas + (i + 1))) (sym (ap (λ (v : Vec Bar Global). v.items) w.bars-is ∙ w.in_ok-push.ensures.items))
          (subst (λ n. AreBarsOf m (map placed strips) areas n (c.loop-i.bars.items ++ bar ∷ [])) number
          (bar_more m (map placed strips) areas (length areas + i) bar c.loop-i.bars.items refl
          (read_taken m strips areas i strip there is w.if-strip-m.true) (read_rectangle m strips areas i strip there is) c.loop-i.invariant))
      | else-strip-m w ↦
          subst (AreBarsOf m (map placed strips) areas (length areas + (i + 1))) (sym (ap (λ (v : Vec Bar Global). v.items) w.bars-is))
          (subst (λ n. AreBarsOf m (map placed strips) areas n c.loop-i.bars.items) number
          (bar_passed m (map placed strips) areas (length areas + i) c.loop-i.bars.items (read_passed m strips areas i strip there is w.if-strip-m.false)
          c.loop-i.invariant))
    ]
