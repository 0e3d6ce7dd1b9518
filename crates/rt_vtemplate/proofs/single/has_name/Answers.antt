use Rattle.std.proofs.Common.{rules}
use Rattle.rt_rows.specs.Places.{places}
use Rattle.rt_vtemplate.proofs.Told.{lo_told, hi_told, zero_told, top_told, tall_told, on_told, under_told, gap_told, run_told, size_told, off_told, inb_told, int_told, none_told}
use Rattle.rt_vtemplate.proofs.single.has_name.Goals as goal

pub returns-in-Lo : goal.returns-in-Lo
returns-in-Lo c = lo_told c.args.job.now (places c.args.columns.now) c.args.name.now c.in-Lo.i c.is_strip.result c.in-Lo.is c.is_strip.ensures

pub returns-in-Hi : goal.returns-in-Hi
returns-in-Hi c = hi_told c.args.job.now (places c.args.columns.now) c.args.name.now c.in-Hi.i c.is_strip-in-Hi.result c.in-Hi.is c.is_strip-in-Hi.ensures

pub returns-in-Zero : goal.returns-in-Zero
returns-in-Zero c = zero_told c.args.job.now (places c.args.columns.now) c.args.name.now c.in-Zero.is

pub returns-in-Top : goal.returns-in-Top
returns-in-Top c = top_told c.args.job.now (places c.args.columns.now) c.args.name.now c.in-Top.is

pub returns-in-Tall : goal.returns-in-Tall
returns-in-Tall c =
    tall_told c.args.job.now (places c.args.columns.now) c.args.name.now c.in-Tall.i c.is_strip-in-Tall.result c.in-Tall.is c.is_strip-in-Tall.ensures

pub returns-in-On : goal.returns-in-On
returns-in-On c = on_told c.args.job.now (places c.args.columns.now) c.args.name.now c.in-On.i c.in-On.j c.stands_on.result c.in-On.is c.stands_on.ensures

pub returns-in-Under : goal.returns-in-Under
returns-in-Under c =
    under_told c.args.job.now (places c.args.columns.now) c.args.name.now c.in-Under.i c.in-Under.j c.stands_on-in-Under.result c.in-Under.is c.stands_on-in-Under.ensures

pub returns-in-Gap : goal.returns-in-Gap
returns-in-Gap c = gap_told c.args.job.now (places c.args.columns.now) c.args.name.now c.in-Gap.i c.in-Gap.j c.is_kept_above.result c.in-Gap.is c.is_kept_above.ensures

pub returns-in-Run : goal.returns-in-Run
returns-in-Run c = run_told c.args.job.now (places c.args.columns.now) c.args.name.now c.in-Run.i c.in-Run.j c.has_run.result c.in-Run.is c.has_run.ensures

pub returns-in-Size : goal.returns-in-Size
returns-in-Size c = size_told c.args.job.now (places c.args.columns.now) c.args.name.now c.in-Size.i c.is_cut_strip.result c.in-Size.is c.is_cut_strip.ensures

pub returns-in-Off : goal.returns-in-Off
returns-in-Off c = off_told c.args.job.now (places c.args.columns.now) c.args.name.now c.in-Off.q c.in-Off.i c.in-Off.j c.is_off_above.result c.in-Off.is c.is_off_above.ensures

pub returns-in-Inb : goal.returns-in-Inb
returns-in-Inb c = inb_told c.args.job.now (places c.args.columns.now) c.args.name.now c.in-Inb.q c.in-Inb.i c.in-Inb.h c.is_lowest_host.result c.in-Inb.is c.is_lowest_host.ensures

pub returns-in-Int : goal.returns-in-Int
returns-in-Int c = int_told c.args.job.now (places c.args.columns.now) c.args.name.now c.in-Int.q c.in-Int.i c.in-Int.h c.is_highest_host.result c.in-Int.is c.is_highest_host.ensures

pub returns-in_default : goal.returns-in_default
returns-in_default c = none_told c.args.job.now (places c.args.columns.now) c.args.name.now (search rules)
