-- Proofs: combinations of rows, and trees of nodes, as relations on the written list of nodes.
use Rattle.std.specs.Prelude.{◌≡◌, ℕ, ◌≤◌, ℤ, pos, negsuc, neg_ℤ, nat_abs, ◌+ℤ◌, ◌-ℤ◌, ◌*ℤ◌, ◌≤ℤ◌, ◌<ℤ◌, List, [], ◌∷◌, ◌++◌, Some, slice_get}
use Rattle.rt_rows.specs.declared.row.Var.{Var}
use Rattle.rt_rows.specs.declared.name.Name.{Name}
use Rattle.rt_rows.specs.declared.proof.Of.{Of}
use Rattle.rt_rows.specs.declared.proof.Of.TheVariants.{Template, Up}
use Rattle.rt_rows.specs.declared.proof.Share.{Share}
use Rattle.rt_rows.specs.declared.proof.Node.{Node}
use Rattle.rt_rows.specs.declared.proof.Node.TheVariants.{Branch, Cut, Bound, Empty}
use Rattle.rt_proofs.specs.Forms.{same_var, only_if, coefficient, scale, Sum, IsRoundedUp}

-- what a proof is of: that a variable is at least a number, or that there are no values
pub data Goal : Type 0 where
  Least : Var → ℤ → Goal
  Refute : Goal

-- the rows that a Branch adds: the variable is at most the number, or above it
abbrev pub down : Var → ℤ → Sum
down v n = record { terms = record { var = v; times = negsuc 0 } ∷ []; least = neg_ℤ n }

abbrev pub up : Var → ℤ → Sum
up v n = record { terms = record { var = v; times = pos 1 } ∷ []; least = n +ℤ pos 1 }

-- a row taken a number of times, and more
abbrev pub nothing : Sum
nothing = record { terms = []; least = pos 0 }

abbrev pub joined : ℤ → Sum → Sum → Sum
joined times row rest = record { terms = scale times row.terms ++ rest.terms; least = (times *ℤ row.least) +ℤ rest.least }

module _ (has : Name → Sum → Type 0) where
  -- the row that a line names: of the template, or one of those added above, numbered from the root
  pub data Named (above : List Sum) : Of → Sum → Type 0 where
    of_template : (name : Name) (row : Sum) → has name row → Named above (Template name) row
    of_above : (d : ℕ) (row : Sum) → slice_get above d ≡ Some row → Named above (Up d) row

  -- what the lines add up to
  pub data Combined (above : List Sum) : List Share → Sum → Type 0 where
    none : Combined above [] nothing
    more : (share : Share) (shares : List Share) (row rest : Sum) → pos 0 ≤ℤ share.times → Named above share.of row
        → Combined above shares rest → Combined above (share ∷ shares) (joined share.times row rest)

  -- the row of a Cut: the combination, divided, with its right side rounded up
  pub record IsWholeRow (combined : Sum) (over : ℤ) (row : Sum) : Type 0 where
    pub whole : (v : Var) → coefficient v row.terms *ℤ over ≡ coefficient v combined.terms
    pub few : (v : Var) → nat_abs (coefficient v row.terms) ≤ 1000000000
    pub rounded : IsRoundedUp over combined.least row.least
    pub small : nat_abs row.least ≤ 1000000000000

  -- what a leaf shows: that `over` times the goal's variable is more than `over` times one less than its number, or that 0 is positive
  pub record IsBound (v : Var) (g over : ℤ) (combined : Sum) : Type 0 where
    pub left : (w : Var) → coefficient w combined.terms ≡ only_if (same_var w v) over
    pub right : ((g -ℤ pos 1) *ℤ over) <ℤ combined.least

  pub record IsEmpty (combined : Sum) : Type 0 where
    pub left : (w : Var) → coefficient w combined.terms ≡ pos 0
    pub right : pos 0 <ℤ combined.least

  -- the nodes begin with a proof of the goal under the rows above, and the rest is left
  pub data Tree (goal : Goal) : List Sum → List Node → List Node → Type 0 where
    branch : (above : List Sum) (v : Var) (n : ℤ) (nodes mid rest : List Node)
        → Tree goal (above ++ down v n ∷ []) nodes mid → Tree goal (above ++ up v n ∷ []) mid rest
        → Tree goal above (Branch v n ∷ nodes) rest
    cut : (above : List Sum) (over : ℤ) (shares : List Share) (nodes rest : List Node) (combined row : Sum)
        → pos 1 ≤ℤ over → Combined above shares combined → IsWholeRow combined over row
        → Tree goal (above ++ row ∷ []) nodes rest → Tree goal above (Cut over shares ∷ nodes) rest
    bound : (above : List Sum) (over : ℤ) (shares : List Share) (rest : List Node) (combined : Sum) (v : Var) (g : ℤ)
        → goal ≡ Least v g → pos 1 ≤ℤ over → Combined above shares combined → IsBound v g over combined
        → Tree goal above (Bound over shares ∷ rest) rest
    empty : (above : List Sum) (over : ℤ) (shares : List Share) (rest : List Node) (combined : Sum)
        → pos 1 ≤ℤ over → Combined above shares combined → IsEmpty combined
        → Tree goal above (Empty over shares ∷ rest) rest

  -- the nodes are one proof of the goal
  abbrev pub Proof : Goal → List Node → Type 0
  Proof goal nodes = Tree goal [] nodes []

  -- the nodes are a proof under each list of rows of the stack, one after another
  abbrev pub Stacked : Goal → List (List Sum) → List Node → Type 0
  Stacked goal [] nodes = nodes ≡ []
  Stacked goal (above ∷ stack) nodes = (mid : List Node) × Tree goal above nodes mid × Stacked goal stack mid
