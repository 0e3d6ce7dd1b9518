use Rattle.std.proofs.Common.{◌+◌, ◌<◌, arith, inl, inr, length, refl, subst, sym}
use Rattle.rt_cells.proofs.Numbers.{last_or_before}
use Rattle.rt_sweep.proofs.Tops.{read_at}
use Rattle.rt_hosts.specs.Across.{IsFarthest, IsOfStrip, IsEarlier}
use Rattle.rt_hosts.proofs.Looking.{looked_none, looked_less, looked_more}
use Rattle.rt_hosts.proofs.Holding.{farthest_none, farthest_more, over_farthest}
use Rattle.rt_hosts.proofs.across.look_back.Goals as goal

pub loop-bar-init : goal.loop-bar-init
loop-bar-init c = record {
  held = farthest_none c.args.active.now (length c.args.hosts.now);
  looked = looked_none c.args.active.now (length c.args.hosts.now) (λ k j. (j < k) × (k < 0)) c.args.hosts.now refl (λ k j p h l. absurd (omega (arith, p.1)));
}

pub note-requires : goal.note-requires
note-requires c = subst (λ n. IsOfStrip n c.loop-bar.held) (sym c.loop-bar.invariant.looked.counted) (record { tagged = c.loop-bar.invariant.held.of.tagged })

pub loop-bar-preserved : goal.loop-bar-preserved
loop-bar-preserved c =
    let bars = c.args.active.now in
    let count = length c.args.hosts.now in
    let i = c.loop-bar.bar-index in
    let there = c.loop-bar-test.true in
    let bar = c.bar-item.result in
    let at = read_at bars i bar there c.bar-item.is in
    let so_far = c.loop-bar.invariant.held in
    let looked = looked_more bars count (λ k j. (j < k) × (k < i)) (λ k j. (j < k) × (k < i + 1)) i there bar at c.loop-bar.held so_far.of
    (λ k j p. elim (last_or_before i k p.1) [ inl e ↦ inr e | inr l ↦ inl (p.0, l) ])
    (λ j d p l t o. over_farthest bars count c.requires i there bar at c.loop-bar.held so_far j d p.0 t o)
    c.args.hosts.now c.loop-bar.hosts c.note.new.hosts c.loop-bar.invariant.looked c.note.ensures in
    record {
      held = farthest_more bars count c.requires i there bar at c.loop-bar.held so_far c.farthest-held.result
          (subst (λ n. IsFarthest bar c.loop-bar.held n c.farthest-held.result) looked.counted c.farthest-held.ensures);
      looked = looked;
    }

pub returns : goal.returns
returns c =
    looked_less c.args.active.now (length c.args.hosts.now) (λ k j. (j < k) × (k < c.loop-bar.bar-index)) IsEarlier c.args.hosts.now c.loop-bar.hosts
    (λ k j p h l. (p, omega (arith, h))) c.loop-bar.invariant.looked
