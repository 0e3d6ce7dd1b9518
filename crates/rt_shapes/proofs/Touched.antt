-- Labels and the strips that touch them.
use Rattle.std.proofs.Common.{ℕ, ◌<◌, List, length, get_or, map, sym, subst, arith}
use Rattle.std.specs.List.{AllWithin}
use Rattle.rt_layout.specs.declared.layout.Label.{Label}
use Rattle.rt_strips.specs.declared.listing.Strip.{Strip}
use Rattle.rt_strips.specs.Placed.{Placed, placed}
use Rattle.rt_strips.specs.StripsOf.{AreStrips}
use Rattle.rt_strips.proofs.Placed.{placed_at, strip_there, strip_below}
use Rattle.rt_cuts.proofs.Labels.{touched_holds, holds_touched}
use Rattle.rt_pieces.specs.Members.{box_of}
use Rattle.rt_view.specs.Shapes.{Touches}
use Rattle.rt_shapes.specs.Cutting.{cells_by}
use Rattle.rt_shapes.specs.Touching.{IsTouching}
use Rattle.rt_shapes.proofs.Telling.{some_strip}

module _ (list : List Strip) (are : AreStrips (map placed list)) (label : Label) where
  -- a strip that touches a label has one of the four cells at its point
  pub touched_by : (i : ℕ) (d : Strip) → i < length list → IsTouching (placed (get_or list i d)) label
      → Touches (cells_by (map placed list) label.mask) label.at.0 label.at.1
  touched_by i d h t =
      let here = subst (λ (p : Placed). IsTouching p label) (sym (placed_at list i d h)) t in
      let strip = strip_there list i h in
      let c = touched_holds (box_of (map placed list) i) label.at.0 label.at.1 (are.strips_are.nonempty i strip) here.touches in
      record {
        u = c.0;
        v = c.1;
        at = c.3;
        covered = record { number = i; holds = record { strip = record { strip = strip; mask = here.of_mask }; cell = c.2 } };
      }

  -- where none does, none of these cells is covered
  pub touched_by_none : AllWithin (λ (strip : Strip). ¬ IsTouching (placed strip) label) list 0 (length list)
      → ¬ Touches (cells_by (map placed list) label.mask) label.at.0 label.at.1
  touched_by_none none t =
      let c = t.covered in
      let i = c.number in
      let h = strip_below list i c.holds.strip.strip in
      let d = some_strip list i h in
      let touches = holds_touched (box_of (map placed list) i) label.at.0 label.at.1 t.u t.v c.holds.cell t.at in
      none i d (omega arith) h (subst (λ (p : Placed). IsTouching p label) (placed_at list i d h) (record { of_mask = c.holds.strip.mask; touches = touches }))
