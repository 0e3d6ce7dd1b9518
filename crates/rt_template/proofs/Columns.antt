-- The template upwards is the same at columns in which each strip has the same sides.
use Rattle.std.proofs.Common.{◌≡◌, ℕ, ℤ, ◌<ℤ◌, refl, sym, subst, arith}
use Rattle.std.proofs.lemmas.Int.{ints}
use mathlib.Core.Logic.{inl, inr}
use Rattle.rt_cells.specs.Line.{Within}
use Rattle.rt_rows.specs.declared.row.Var.{Var}
use Rattle.rt_rows.specs.declared.row.Row.{Row}
use Rattle.rt_rows.specs.declared.name.Name.{Name}
use Rattle.rt_view.specs.declared.job.Job.{Job}
use Rattle.rt_view.specs.Job.{strips_of}
use Rattle.rt_strips.specs.Standing.{IsStrip}
use Rattle.rt_template.specs.Between.{apart_number}
use Rattle.rt_template.specs.Horizontal.{space_between}
use Rattle.rt_template.specs.Vertical.{HaveSameSides, CoversColumn, columns_apart, IsSeenFrom, AreOpen, IsKeptAbove, IsOffAbove, CoversBoth, IsChain, IsWholeChain, RowUpwards, MeetsUpwards}
use Rattle.rt_template.proofs.Sides.{of_sides}

within_moved : (low high low' high' x : ℤ) → low ≡ low' → high ≡ high' → Within low high x → Within low' high' x
within_moved low high low' high' x e f w = record { from = omega (arith, ints, w.from, e); to = omega (arith, ints, w.to, f) }

module _ (job : Job) (columns other : Var → ℤ) (same : HaveSameSides job columns other) where
  covers : (i : ℕ) (x : ℤ) → IsStrip (strips_of job) i → CoversColumn job columns i x → CoversColumn job other i x
  covers i x s w = within_moved _ _ _ _ x (same.left i s) (same.right i s) w

  covers_back : (i : ℕ) (x : ℤ) → IsStrip (strips_of job) i → CoversColumn job other i x → CoversColumn job columns i x
  covers_back i x s w = within_moved _ _ _ _ x (sym (same.left i s)) (sym (same.right i s)) w

  apart : (i j : ℕ) → IsStrip (strips_of job) i → IsStrip (strips_of job) j → columns_apart job columns i j ≡ columns_apart job other i j
  apart i j s t = rw (same.left i s) (rw (same.right i s) (rw (same.left j t) (rw (same.right j t) refl)))

  covers_both : (x u : ℤ) (i : ℕ) → CoversBoth job columns x u i → CoversBoth job other x u i
  covers_both x u i c = record { strip = c.strip; first = covers i x c.strip c.first; second = covers i u c.strip c.second }

  covers_both_back : (x u : ℤ) (i : ℕ) → CoversBoth job other x u i → CoversBoth job columns x u i
  covers_both_back x u i c = record { strip = c.strip; first = covers_back i x c.strip c.first; second = covers_back i u c.strip c.second }

  chain : (x u : ℤ) (i j : ℕ) → IsChain job columns x u i j → IsChain job other x u i j
  chain x u i j (IsChain.one c) = IsChain.one (covers_both x u i c)
  chain x u i k (IsChain.onward j _ c s d) = IsChain.onward j k (chain x u i j c) s (covers_both x u k d)

  seen : (i j : ℕ) → IsStrip (strips_of job) i → IsStrip (strips_of job) j → IsSeenFrom job columns i j → IsSeenFrom job other i j
  seen i j s t h = record {
    x = h.x;
    first = covers i h.x s h.first;
    second = covers j h.x t h.second;
    none_between = λ k b. h.none_between k (record {
      with_first = b.with_first;
      column = covers_back k h.x b.with_first.second b.column;
      above_first = b.above_first;
      below_second = b.below_second;
    });
  }

  open_to : (i j : ℕ) → IsStrip (strips_of job) i → IsStrip (strips_of job) j → AreOpen job columns i j → AreOpen job other i j
  open_to i j s t (inl not_climbed) = inl not_climbed
  open_to i j s t (inr h) = inr (seen i j s t h)

  kept_above : (i j : ℕ) → IsKeptAbove job columns i j → IsKeptAbove job other i j
  kept_above i j h =
      let s = h.of_one_mask.one_mask.first in
      let t = h.of_one_mask.one_mask.second in
      record {
        of_one_mask = h.of_one_mask;
        untouched = h.untouched;
        above = h.above;
        near = subst (λ (n : ℤ). n <ℤ space_between job i j) (apart i j s t) h.near;
        open_to = open_to i j s t h.open_to;
      }

  off_above : (q i j : ℕ) → IsOffAbove job columns q i j → IsOffAbove job other q i j
  off_above q i j k =
      let s = of_sides job q i j k.sides in
      record {
        sides = k.sides;
        above = k.above;
        near = subst (λ (n : ℤ). n <ℤ apart_number job.target q) (apart i j (record { below_count = s.0 }) (record { below_count = s.1 })) k.near;
      }

  whole_chain : (i j : ℕ) → IsWholeChain job columns i j → IsWholeChain job other i j
  whole_chain i j h = record {
    x = h.x;
    u = h.u;
    one_or_two = h.one_or_two;
    is_drawn = h.is_drawn;
    chain = chain h.x h.u i j h.chain;
    lowest = λ k c. h.lowest k (covers_both_back h.x h.u k c);
    highest = λ k c. h.highest k (covers_both_back h.x h.u k c);
  }

  -- so a row of the one is a row of the other
  pub row_moved : (name : Name) (row : Row) → RowUpwards job columns name row → RowUpwards job other name row
  row_moved name row (RowUpwards.lo i s) = RowUpwards.lo i s
  row_moved name row (RowUpwards.hi i s) = RowUpwards.hi i s
  row_moved name row RowUpwards.zero = RowUpwards.zero
  row_moved name row RowUpwards.top = RowUpwards.top
  row_moved name row (RowUpwards.tall i s) = RowUpwards.tall i s
  row_moved name row (RowUpwards.size i c) = RowUpwards.size i c
  row_moved name row (RowUpwards.on i j s) = RowUpwards.on i j s
  row_moved name row (RowUpwards.under i j s) = RowUpwards.under i j s
  row_moved name row (RowUpwards.gap i j k) = RowUpwards.gap i j (kept_above i j k)
  row_moved name row (RowUpwards.run i j c) = RowUpwards.run i j (whole_chain i j c)
  row_moved name row (RowUpwards.off q i j k) = RowUpwards.off q i j (off_above q i j k)
  row_moved name row (RowUpwards.inb q i h k) = RowUpwards.inb q i h k
  row_moved name row (RowUpwards.int q i h k) = RowUpwards.int q i h k

  -- and positions that meet the other meet the one
  pub meets_moved : (at : Var → ℤ) → MeetsUpwards job other at → MeetsUpwards job columns at
  meets_moved at m = record { meets = λ name row r. m.meets name row (row_moved name row r) }
