use Rattle.std.proofs.Common.{◌≡◌, map, subst, w64, to_z, of_z, arith}
use Rattle.std.proofs.lemmas.Int.{ints}
use Rattle.rt_rules.specs.Width.{KeepsWidthAlongRows}
use Rattle.rt_strips.specs.Placed.{placed}
use Rattle.rt_drc.specs.Rows.{cells_of, turned_cells_of, ShowsWidth}
use Rattle.rt_drc.proofs.Wide.{kept_of_strips, exchanged_shows}
use Rattle.rt_drc.proofs.width.width_breach.Goals as goal

pub returns-in-Some-breach_along_rows : goal.returns-in-Some-breach_along_rows
returns-in-Some-breach_along_rows c =
    let held = to_z w64 (of_z w64 c.args.width) in
    let same : held ≡ c.args.width = omega (arith, ints) in
    subst (λ w. ShowsWidth w (cells_of c.args.rows.now.strips.now c.args.m) c.exchanged.result) same
    (exchanged_shows (cells_of c.args.rows.now.strips.now) c.args.masks (map placed c.args.columns.now.strips.now) c.requires.columns.strips_are
    c.args.m held c.requires.mask c.in-Some-breach_along_rows.witness c.exchanged.result c.exchanged.ensures.p c.exchanged.ensures.q c.exchanged.ensures.found
    c.in-Some-breach_along_rows.ensures)

pub returns : goal.returns
returns c =
    let held = to_z w64 (of_z w64 c.args.width) in
    let same : held ≡ c.args.width = omega (arith, ints) in
    record {
      rows = subst (λ w. KeepsWidthAlongRows w (cells_of c.args.rows.now.strips.now c.args.m)) same c.in_default.ensures;
      columns = subst (λ w. KeepsWidthAlongRows w (turned_cells_of c.args.rows.now.strips.now c.args.m)) same
          (kept_of_strips (turned_cells_of c.args.rows.now.strips.now) c.args.masks (map placed c.args.columns.now.strips.now) c.requires.columns.strips_are
          c.args.m held c.requires.mask c.in_default-breach_along_rows.ensures);
    }
