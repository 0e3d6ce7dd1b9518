-- What proofs of rows in a list say of values that meet each of them.
use Rattle.std.proofs.Common.{ℤ, ◌≤ℤ◌, List, sym, subst}
use Rattle.rt_cells.proofs.Entries.{contained_at}
use Rattle.rt_rows.specs.declared.name.Name.{Name}
use Rattle.rt_rows.specs.declared.row.Var.{Var}
use Rattle.rt_rows.specs.declared.row.Row.{Row}
use Rattle.rt_rows.specs.declared.proof.Node.{Node}
use Rattle.rt_rows.specs.Rows.{MeetsRow}
use Rattle.rt_proofs.specs.Forms.{Meets}
use Rattle.rt_proofs.specs.Laws.{MeetsAll}
use Rattle.rt_proofs.specs.Trees.{Proof}
use Rattle.rt_proofs.specs.Trees.Goal.{Least, Refute}
use Rattle.rt_proofs.proofs.Bounds.{least_reached, refuted}
use Rattle.rt_proofs.proofs.Given.{meets_sum}
use Rattle.rt_path.specs.Longest.{MeetsEachRow, Listed}
use Rattle.rt_path.proofs.Named.{all_at}

-- values that meet each row of the list meet each row that a proof takes from it
pub listed_met : (rows : List (Name × Row)) (other : Var → ℤ) → MeetsEachRow rows other → MeetsAll (Listed rows) other
listed_met rows other meets name sum listed =
    let k = contained_at rows (name, listed.row) listed.has in
    subst (λ s. Meets other s) (sym listed.is)
    (meets_sum other listed.row (all_at (λ named. MeetsRow other named.1) rows k.0 (name, listed.row) meets k.1))

-- no values meet rows that are refuted
pub none_meets : (rows : List (Name × Row)) (nodes : List Node) → Proof (Listed rows) Refute nodes → (other : Var → ℤ) → MeetsEachRow rows other → ⊥
none_meets rows nodes proof other meets = refuted (Listed rows) other (listed_met rows other meets) nodes proof

-- values that meet the rows are at least what a proof bounds
pub bounded_below : (rows : List (Name × Row)) (v : Var) (least : ℤ) (nodes : List Node) → Proof (Listed rows) (Least v least) nodes → (other : Var → ℤ) → MeetsEachRow rows other
    → least ≤ℤ other v
bounded_below rows v least nodes proof other meets = least_reached (Listed rows) other (listed_met rows other meets) v least nodes proof
