use Rattle.std.proofs.Common.{rules, sym, ◌∙◌, subst}
use Rattle.gds_slabs.proofs.Odds.{Rising}
use Rattle.gds_slabs.proofs.Listing.{rising_from_sorted}
use Rattle.gds_slabs.proofs.sweep.push_slab.Goals as goal

pub loop-column-init : goal.loop-column-init
loop-column-init c = record {
  listed = search rules;
  rises = subst Rising (sym (c.into_iter-column-iterator.ensures.into_iter_gives ∙ c.iter-column-items.ensures.rest))
      (rising_from_sorted c.args.columns.now.keys c.iter-column-items.ensures.ordered);
  can = tt;
  ends = tt;
}
