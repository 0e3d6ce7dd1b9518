-- What the searches along rows, along columns, at corners and among pieces find, as the space rule says it.
use Rattle.std.proofs.Common.{◌≡◌, ℕ, ◌<◌, ℤ, map, Option, Some, None, MatchOption, Result, IfOk, subst, inl, inr}
use Rattle.std.proofs.lemmas.Result.{IfOk-weaker}
use Rattle.rt_cells.specs.Cells.{transposed}
use Rattle.rt_rules.specs.Space.{KeepsGapsAlongRows, KeepsPiecesApart, KeepsSpace}
use Rattle.rt_base.specs.declared.memory.OutOfMemory.{OutOfMemory}
use Rattle.rt_strips.specs.Placed.{placed}
use Rattle.rt_rules.proofs.Alike.{AreAlike, gap_alike, space_alike, space_breach_alike}
use Rattle.rt_drc.specs.declared.rows.Rows.{Rows}
use Rattle.rt_drc.specs.declared.rows.Witness.{Witness}
use Rattle.rt_drc.specs.Rows.{AreRowsOf, cells_of, turned_cells_of, ShowsSpace}
use Rattle.rt_pieces.specs.Members.{held_by}
use Rattle.rt_drc.specs.Cornering.{HasNoCornerContact, ShowsNearPieces}
use Rattle.rt_drc.specs.Spacing.{AreFamilies}
use Rattle.rt_pieces.proofs.Families.{held_alike, strips_family}

module _ (m : ℕ) (rows columns : Rows) (are : AreFamilies m rows columns) where
  columns_alike : AreAlike (held_by m columns.strips.now) (transposed (held_by m rows.strips.now))
  columns_alike = record { to = λ x y. (are.same_cells y x).1; from = λ x y. (are.same_cells y x).0 }

  -- gaps, corners and pieces together
  pub all_keep : (s : ℤ) → KeepsGapsAlongRows s (held_by m rows.strips.now) → KeepsGapsAlongRows s (held_by m columns.strips.now)
      → HasNoCornerContact (held_by m rows.strips.now) → KeepsPiecesApart s (held_by m rows.strips.now) → KeepsSpace s (held_by m rows.strips.now)
  all_keep s gaps column_gaps corners pieces = record {
    rows = gaps;
    columns = λ y low high gap. column_gaps y low high (gap_alike _ _ columns_alike y low high gap);
    pieces = pieces;
    corners = corners;
  }

  last_search : (s t : ℤ) → t ≡ s → KeepsGapsAlongRows s (held_by m rows.strips.now) → KeepsGapsAlongRows s (held_by m columns.strips.now)
      → HasNoCornerContact (held_by m rows.strips.now) → (found : Option Witness)
      → MatchOption found (KeepsPiecesApart t (held_by m rows.strips.now)) (ShowsNearPieces t (held_by m rows.strips.now))
      → MatchOption found (KeepsSpace s (held_by m rows.strips.now)) (ShowsSpace s (held_by m rows.strips.now))
  last_search s t e gaps column_gaps corners None pieces =
      all_keep s gaps column_gaps corners (subst (λ z. KeepsPiecesApart z (held_by m rows.strips.now)) e pieces)
  last_search s t e gaps column_gaps corners (Some witness) near =
      inr (inl (subst (λ z. ShowsNearPieces z (held_by m rows.strips.now) witness) e near))

  -- where gaps and corners are kept, the search among pieces decides
  pub pieces_decide : (s t : ℤ) → t ≡ s → KeepsGapsAlongRows s (held_by m rows.strips.now) → KeepsGapsAlongRows s (held_by m columns.strips.now)
      → HasNoCornerContact (held_by m rows.strips.now) → (result : Result (Option Witness) OutOfMemory)
      → IfOk result (λ found. MatchOption found (KeepsPiecesApart t (held_by m rows.strips.now)) (ShowsNearPieces t (held_by m rows.strips.now)))
      → IfOk result (λ found. MatchOption found (KeepsSpace s (held_by m rows.strips.now)) (ShowsSpace s (held_by m rows.strips.now)))
  pieces_decide s t e gaps column_gaps corners result =
      IfOk-weaker result
      (λ found. MatchOption found (KeepsPiecesApart t (held_by m rows.strips.now)) (ShowsNearPieces t (held_by m rows.strips.now)))
      (λ found. MatchOption found (KeepsSpace s (held_by m rows.strips.now)) (ShowsSpace s (held_by m rows.strips.now)))
      (last_search s t e gaps column_gaps corners)

-- strips along rows and along columns of the same cells
pub rows_families : (masks m : ℕ) (rows columns : Rows) → m < masks → AreRowsOf (cells_of rows.strips.now) masks rows.strips.now rows.seams.now
    → AreRowsOf (turned_cells_of rows.strips.now) masks columns.strips.now columns.seams.now → AreFamilies m rows columns
rows_families masks m rows columns h along across =
    let r = held_alike m (map placed rows.strips.now) in
    let c = held_alike m (map placed columns.strips.now) in
    record {
      rows_family = strips_family (cells_of rows.strips.now) masks (map placed rows.strips.now) along.strips_are m;
      columns_family = strips_family (turned_cells_of rows.strips.now) masks (map placed columns.strips.now) across.strips_are m;
      same_cells = λ x y. (
        λ p. c.from y x ((across.strips_are.same_cells m y x h).0 (r.to x y p)),
        λ p. r.from x y ((across.strips_are.same_cells m y x h).1 (c.to y x p)),
      );
      seams = along.seams_are;
    }

found_alike : (P Q : ℤ → ℤ → Type 0) → AreAlike P Q → (s t : ℤ) → t ≡ s → (found : Option Witness) → MatchOption found (KeepsSpace t P) (ShowsSpace t P)
    → MatchOption found (KeepsSpace s Q) (ShowsSpace s Q)
found_alike P Q alike s t e None keeps = space_alike P Q alike s (subst (λ z. KeepsSpace z P) e keeps)
found_alike P Q alike s t e (Some witness) shows =
    space_breach_alike P Q alike s witness.p.x witness.p.y witness.q.x witness.q.y witness.found (subst (λ z. ShowsSpace z P witness) e shows)

-- what is decided of the strips of a mask is decided of its cells
pub strips_decide : (m : ℕ) (rows : Rows) (s t : ℤ) → t ≡ s → (result : Result (Option Witness) OutOfMemory)
    → IfOk result (λ found. MatchOption found (KeepsSpace t (held_by m rows.strips.now)) (ShowsSpace t (held_by m rows.strips.now)))
    → IfOk result (λ found. MatchOption found (KeepsSpace s (cells_of rows.strips.now m)) (ShowsSpace s (cells_of rows.strips.now m)))
strips_decide m rows s t e result =
    IfOk-weaker result
    (λ found. MatchOption found (KeepsSpace t (held_by m rows.strips.now)) (ShowsSpace t (held_by m rows.strips.now)))
    (λ found. MatchOption found (KeepsSpace s (cells_of rows.strips.now m)) (ShowsSpace s (cells_of rows.strips.now m)))
    (found_alike (held_by m rows.strips.now) (cells_of rows.strips.now m) (held_alike m (map placed rows.strips.now)) s t e)
