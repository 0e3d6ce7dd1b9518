use Rattle.std.proofs.Common.{◌≡◌, refl, ◌+◌, map, subst, sym, Vec, Global}
use Rattle.rt_base.specs.declared.plane.Rect.{Rect}
use Rattle.rt_base.specs.Plane.{area}
use Rattle.rt_sweep.specs.declared.bar.Bar.{Bar}
use Rattle.std.proofs.lemmas.List.Elements.{at_read}
use Rattle.rt_strips.proofs.Columns.{ArePiecesTo, bar_passed, bar_added}
use Rattle.rt_strips.proofs.one_mask.pieces.pieces_of.Goals as goal
use Rattle.rt_strips.proofs.one_mask.pieces.pieces_of.Goals.{then-bar-tag+in_ok-add_columns, else-bar-tag}

pub loop-bar-preserved : goal.loop-bar-preserved
loop-bar-preserved c =
    let bar = c.bar-item.result in
    let is = at_read c.args.active.now (λ (b : Bar). b ≡ bar) c.loop-bar.bar-index bar c.loop-bar-test.true c.bar-item.is refl in
    elim c.if-bar-tag.branch [
      | then-bar-tag+in_ok-add_columns w ↦
          subst (λ (v : Vec Rect Global). ArePiecesTo c.args.active.now (c.loop-bar.bar-index + 1) c.args.tag c.args.slab.now.bottom c.args.slab.now.top (map area v.items)) (sym w.into-is)
          (bar_added c.args.active.now c.loop-bar.bar-index c.args.tag c.loop-bar-test.true bar is c.args.slab.now.bottom c.args.slab.now.top (map area c.loop-bar.into.items)
          c.loop-bar.invariant w.if-bar-tag.true c.requires.across (map area w.add_columns.new.into.items) w.in_ok-add_columns.ensures)
      | else-bar-tag w ↦
          subst (λ (v : Vec Rect Global). ArePiecesTo c.args.active.now (c.loop-bar.bar-index + 1) c.args.tag c.args.slab.now.bottom c.args.slab.now.top (map area v.items)) (sym w.into-is)
          (bar_passed c.args.active.now c.loop-bar.bar-index c.args.tag c.loop-bar-test.true bar is c.args.slab.now.bottom c.args.slab.now.top (map area c.loop-bar.into.items)
          c.loop-bar.invariant w.if-bar-tag.false)
    ]
