use Rattle.std.proofs.Common.{w64, subst}
use Rattle.std.proofs.lemmas.Int.{to_z-of_z}
use Rattle.rt_sweep.proofs.Merging.{IsMergedTo, kept, exchanged, all_merged}
use Rattle.rt_sweep.proofs.Tops.{read_at}
use Rattle.rt_sweep.proofs.merge.merge.Goals as goal

pub loop-i-preserved-then-is_next : goal.loop-i-preserved-then-is_next
loop-i-preserved-then-is_next c =
    kept c.args.going.now c.loop-i.i c.args.beginning.now c.loop-i.j _ c.loop-i.into.items c.loop-i.invariant c.requires.going c.requires.beginning
    c.if-is_next.ensures c.index-going-i.result (read_at _ _ _ c.if-is_next.ensures.there c.index-going-i.is) _ c.in_ok-keep.ensures

pub loop-i-preserved : goal.loop-i-preserved
loop-i-preserved c =
    exchanged c.args.beginning.now _ c.args.going.now _ _ _
    (kept c.args.beginning.now c.loop-i.j c.args.going.now c.loop-i.i _ c.loop-i.into.items
    (exchanged c.args.going.now _ c.args.beginning.now _ _ _ c.loop-i.invariant) c.requires.beginning c.requires.going
    c.if-is_next.ensures c.index-beginning-j.result (read_at _ _ _ c.if-is_next.ensures.there c.index-beginning-j.is) _ c.in_ok-keep-2.ensures)

pub returns : goal.returns
returns c =
    all_merged c.args.going.now c.loop-i.i c.args.beginning.now c.loop-i.j c.args.row c.loop-i.into.items c.if-i-going.false c.if-j-beginning.false
    (subst (λ z. IsMergedTo c.args.going.now c.loop-i.i c.args.beginning.now c.loop-i.j z c.loop-i.into.items) (to_z-of_z w64 c.args.row c.ranges.row) c.loop-i.invariant)
