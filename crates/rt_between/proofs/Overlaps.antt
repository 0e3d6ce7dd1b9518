-- Hosts, as the code tells them.
use Rattle.std.proofs.Common.{◌≡◌, ℕ, ◌<◌, ℤ, ◌+ℤ◌, ◌-ℤ◌, ◌<ℤ◌, Bool, true, false, List, length, get_or, ap, ◌∙◌, arith}
use Rattle.std.specs.Bool.{MatchBool}
use Rattle.std.proofs.lemmas.Int.{ints}
use Rattle.rt_tech.specs.declared.table.Enclose.{Enclose}
use Rattle.rt_strips.specs.declared.listing.Strip.{Strip}
use Rattle.rt_strips.specs.Placed.{placed, strip_at}
use Rattle.rt_strips.proofs.Placed.{strip_is}
use Rattle.rt_view.specs.declared.job.Job.{Job}
use Rattle.rt_view.specs.Job.{strips_of}
use Rattle.rt_template.specs.Between.{IsStripOf, IsEnclosed, IsHostIn}
use Rattle.rt_between.specs.Reaches.{OverlapStrips}

-- a strip that the code reads is that of its number
pub read_is : (job : Job) (list : List Strip) (i : ℕ) (strip : Strip) → list ≡ job.view.strips.list → i < length job.view.strips.list → strip ≡ get_or list i strip
    → strip_at (strips_of job) i ≡ placed strip
read_is job list i strip same h is = strip_is job.view.strips.list i strip h (is ∙ ap (λ (l : List Strip). get_or l i strip) same)

ahead : (a b n : ℤ) → a <ℤ (b +ℤ n) → (a -ℤ n) <ℤ b
ahead a b n h = omega (arith, ints)

back : (a b n : ℤ) → (a -ℤ n) <ℤ b → a <ℤ (b +ℤ n)
back a b n h = omega (arith, ints)

module _ (job : Job) (enclose : Enclose) (i h : ℕ) where
  is_host : IsEnclosed job enclose i → IsStripOf job enclose.mask h → OverlapStrips job enclose.number i h → IsHostIn job enclose i h
  is_host e s o = record {
    enclosed = e;
    overlaps = record {
      strip = s;
      columns = record { first = o.columns.from_left.before; second = ahead _ _ _ o.columns.to_right.before };
      rows = record { first = o.rows.from_bottom.before; second = ahead _ _ _ o.rows.to_top.before };
    };
  }

  overlaps : IsHostIn job enclose i h → OverlapStrips job enclose.number i h
  overlaps host = record {
    columns = record {
      from_left = record { before = host.overlaps.columns.first };
      to_right = record { before = back _ _ _ host.overlaps.columns.second };
    };
    rows = record {
      from_bottom = record { before = host.overlaps.rows.first };
      to_top = record { before = back _ _ _ host.overlaps.rows.second };
    };
  }

  -- of a strip of which the enclosure speaks, and a strip of its mask, the overlap tells
  pub host_told : (v : Bool) → IsEnclosed job enclose i → IsStripOf job enclose.mask h → MatchBool v (OverlapStrips job enclose.number i h) (¬ OverlapStrips job enclose.number i h)
      → MatchBool v (IsHostIn job enclose i h) (¬ IsHostIn job enclose i h)
  host_told true e s o = is_host e s o
  host_told false e s n = λ host. n (overlaps host)
