use Rattle.std.proofs.Common.{◌≡◌, ◌+◌, ◌-◌, ◌<◌, ◌≤◌, arith, inl, inr, length, refl, subst, sym}
use Rattle.rt_cells.proofs.Numbers.{last_or_before}
use Rattle.rt_sweep.proofs.Tops.{read_at}
use Rattle.rt_hosts.specs.Across.{IsNearest, IsOfStrip, IsLater}
use Rattle.rt_hosts.proofs.Looking.{looked_none, looked_less, looked_more}
use Rattle.rt_hosts.proofs.Holding.{IsNearestFrom, nearest_none, nearest_more, over_nearest}
use Rattle.rt_hosts.proofs.across.look_ahead.Goals as goal

pub loop-place-init : goal.loop-place-init
loop-place-init c = record {
  within = omega arith;
  held = nearest_none c.args.active.now (length c.args.hosts.now);
  looked = looked_none c.args.active.now (length c.args.hosts.now) (λ k j. (k < j) × (length c.args.active.now ≤ k)) c.args.hosts.now refl
      (λ k j p h l. absurd (omega (arith, p.1, h)));
}

pub note-requires : goal.note-requires
note-requires c = subst (λ n. IsOfStrip n c.loop-place.held) (sym c.loop-place.invariant.looked.counted) (record { tagged = c.loop-place.invariant.held.of.tagged })

pub loop-place-preserved : goal.loop-place-preserved
loop-place-preserved c =
    let bars = c.args.active.now in
    let count = length c.args.hosts.now in
    let place = c.loop-place.place in
    let i = place - 1 in
    let within : place ≤ length bars = c.loop-place.invariant.within in
    let next : place ≡ i + 1 = omega arith in
    let there : i < length bars = omega (arith, within, next) in
    let bar = c.index-active-place.result in
    let at = read_at bars i bar there c.index-active-place.is in
    let so_far : IsNearestFrom bars count (i + 1) c.loop-place.held =
    subst (λ n. IsNearestFrom bars count n c.loop-place.held) next c.loop-place.invariant.held in
    let looked = looked_more bars count (λ k j. (k < j) × (place ≤ k)) (λ k j. (k < j) × (i ≤ k)) i there bar at c.loop-place.held so_far.of
    (λ k j p. elim (last_or_before k i (omega (arith, p.1))) [ inl e ↦ inr (sym e) | inr l ↦ inl (p.0, omega (arith, l)) ])
    (λ j d p l t o. over_nearest bars count c.requires i there bar at c.loop-place.held so_far j d p.0 l t o)
    c.args.hosts.now c.loop-place.hosts c.note.new.hosts c.loop-place.invariant.looked c.note.ensures in
    record {
      within = omega (arith, within);
      held = nearest_more bars count c.requires i there bar at c.loop-place.held so_far c.nearest-held.result
          (subst (λ n. IsNearest bar c.loop-place.held n c.nearest-held.result) looked.counted c.nearest-held.ensures);
      looked = looked;
    }

pub returns : goal.returns
returns c =
    looked_less c.args.active.now (length c.args.hosts.now) (λ k j. (k < j) × (c.loop-place.place ≤ k)) IsLater c.args.hosts.now c.loop-place.hosts
    (λ k j p h l. (p, omega arith)) c.loop-place.invariant.looked
