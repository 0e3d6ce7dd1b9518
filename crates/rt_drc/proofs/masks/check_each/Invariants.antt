use Rattle.std.proofs.Common.{ℕ, ◌<◌}
use Rattle.rt_tech.specs.Tech.{mask_at}
use Rattle.rt_drc.specs.Rows.{cells_of}
use Rattle.rt_drc.proofs.Listed.{AreKeptOf}
use Rattle.rt_drc.proofs.masks.check_each.Given as goal

abbrev pub invariant-loop-m : goal.invariant-loop-m
invariant-loop-m l = (k : ℕ) → k < l.m → AreKeptOf l.tech (cells_of l.rows.strips.now) k (mask_at l.tech k)
