-- What proofs promise of whole values that meet a template.
use Rattle.std.specs.Prelude.{◌≡◌, ℕ, ℤ, ◌≤ℤ◌, List, [], ◌∷◌, Option, Some}
use Rattle.rt_rows.specs.declared.row.Var.{Var}
use Rattle.rt_rows.specs.declared.row.Row.{Row}
use Rattle.rt_rows.specs.declared.name.Name.{Name}
use Rattle.rt_rows.specs.Rows.{MeetsRow}
use Rattle.rt_rows.specs.declared.proof.Node.{Node}
use Rattle.rt_proofs.specs.Forms.{Sum, Meets}
use Rattle.rt_proofs.specs.Rows.{sum_of}
use Rattle.rt_proofs.specs.Trees.{Goal, Proof}
use Rattle.rt_proofs.specs.Faults.{Cause, FirstFault}
use Rattle.rt_proofs.specs.Trees.Goal.{Least, Refute}

-- the template that gives each name its row, or none
pub record HasRow (row_of : Name → Option Row) (name : Name) (sum : Sum) : Type 0 where
  pub row : Row
  pub has : row_of name ≡ Some row
  pub is : sum ≡ sum_of row

-- the values meet each row of the template
abbrev pub MeetsAll : (Name → Sum → Type 0) → (Var → ℤ) → Type 0
MeetsAll has at = (name : Name) (row : Sum) → has name row → Meets at row

abbrev pub MeetsRows : (Name → Option Row) → (Var → ℤ) → Type 0
MeetsRows row_of at = (name : Name) (row : Row) → row_of name ≡ Some row → MeetsRow at row

-- a proof of a bound bounds every assignment that meets the template
abbrev pub ProofBounds : Type 0
ProofBounds = (row_of : Name → Option Row) (v : Var) (g : ℤ) (nodes : List Node) → Proof (HasRow row_of) (Least v g) nodes
    → (at : Var → ℤ) → MeetsRows row_of at → g ≤ℤ at v

-- where there is a refutation, no assignment meets the template
abbrev pub RefutationRefutes : Type 0
RefutationRefutes = (row_of : Name → Option Row) (nodes : List Node) → Proof (HasRow row_of) Refute nodes
    → (at : Var → ℤ) → ¬ MeetsRows row_of at

-- a proof has no first fault
abbrev pub FaultExcludes : Type 0
FaultExcludes = (row_of : Name → Option Row) (goal : Goal) (nodes : List Node) (line found : ℕ) (cause : Cause) → Proof (HasRow row_of) goal nodes
    → ¬ FirstFault (HasRow row_of) goal ([] ∷ []) nodes line found cause

-- a list of nodes has one first fault at most
abbrev pub OneFault : Type 0
OneFault = (row_of : Name → Option Row) (goal : Goal) (nodes : List Node) (line i j : ℕ) (c d : Cause)
    → FirstFault (HasRow row_of) goal ([] ∷ []) nodes line i c → FirstFault (HasRow row_of) goal ([] ∷ []) nodes line j d → (i ≡ j) × (c ≡ d)
