use Rattle.std.proofs.Common.{map, sym, subst, List}
use Rattle.rt_sweep.specs.declared.bar.Bar.{Bar}
use Rattle.rt_strips.specs.Placed.{placed}
use Rattle.rt_columns.specs.Adding.{Adds}
use Rattle.rt_columns.specs.Bars.{AreBarsOf, IsGapAmong, IsRunAmong}
use Rattle.rt_columns.proofs.Adding.{adds_three}
use Rattle.rt_columns.proofs.Kept.{passing_bars}
use Rattle.rt_columns.proofs.slab.add_slab.Goals as goal

pub add_runs-requires-2 : goal.add_runs-requires-2
add_runs-requires-2 c = record {
  bars = subst (λ (bars : List Bar). AreBarsOf (map placed c.args.strips.now.list) bars) (sym c.as_slice.ensures.value)
      (passing_bars (map placed c.args.strips.now.list) c.args.active.now c.args.slab.now.top c.pass.new.into.items c.requires.bars c.in_ok-pass.ensures);
}

pub returns : goal.returns
returns c =
    let strips = map placed c.args.strips.now.list in
    record {
      through = c.pass.new.into.items;
      passing = c.in_ok-pass.ensures;
      adds = adds_three (IsGapAmong strips c.args.active.now) (IsRunAmong strips c.args.active.now) (IsRunAmong strips c.pass.new.into.items)
          c.args.names.now c.add_gaps.new.names c.add_runs.new.names c.add_runs-2.new.names c.in_ok-add_gaps.ensures c.in_ok-add_runs.ensures
          (subst (λ (bars : List Bar). Adds (IsRunAmong strips bars) c.add_runs.new.names c.add_runs-2.new.names) c.as_slice.ensures.value c.in_ok-add_runs-2.ensures);
    }
