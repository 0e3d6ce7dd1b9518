-- The first test of a list of nodes that fails, its line and its cause.
use Rattle.std.specs.Prelude.{◌≡◌, ℕ, suc, ◌+◌, ◌<◌, ◌≤◌, ◌≢◌, ℤ, pos, nat_abs, ◌+ℤ◌, ◌-ℤ◌, ◌*ℤ◌, ◌≤ℤ◌, ◌<ℤ◌, List, ◌∷◌, ◌++◌, length}
use Rattle.rt_rows.specs.declared.row.Var.{Var}
use Rattle.rt_rows.specs.declared.name.Name.{Name}
use Rattle.rt_rows.specs.declared.proof.Of.TheVariants.{Template, Up}
use Rattle.rt_rows.specs.declared.proof.Share.{Share}
use Rattle.rt_rows.specs.declared.proof.Node.{Node}
use Rattle.rt_rows.specs.declared.proof.Node.TheVariants.{Branch, Cut, Bound, Empty}
use Rattle.rt_proofs.specs.Forms.{same_var, only_if, coefficient, Sum, IsRoundedUp}
use Rattle.rt_proofs.specs.Trees.{Goal, Named, Combined}
use Rattle.rt_proofs.specs.Trees.Goal.{Least, Refute}
use Rattle.rt_proofs.specs.Walks.{Leaves}

pub data Cause : Type 0 where
  WrongLeaf : Cause
  IsNegative : Cause
  NoRow : Cause
  NoUp : Cause
  WrongSum : Cause
  TooSmall : Cause

-- a combination is not `over` times a whole row within the limits
pub data IsNoRow (over : ℤ) (combined : Sum) : Type 0 where
  parted : (v : Var) (n : ℤ) → (n *ℤ over) <ℤ coefficient v combined.terms → coefficient v combined.terms <ℤ ((n +ℤ pos 1) *ℤ over) → IsNoRow over combined
  many : (v : Var) (n : ℤ) → n *ℤ over ≡ coefficient v combined.terms → 1000000000 < nat_abs n → IsNoRow over combined
  large : (m : ℤ) → IsRoundedUp over combined.least m → 1000000000000 < nat_abs m → IsNoRow over combined

-- the lines of a node: how many there are
abbrev pub lines : Node → ℕ
lines (Branch v n) = 0
lines (Cut over shares) = length shares
lines (Bound over shares) = length shares
lines (Empty over shares) = length shares

module _ (has : Name → Sum → Type 0) where
  -- what is wrong with a line: its multiplier first, then its row
  pub data ShareFails (above : List Sum) (share : Share) : Cause → Type 0 where
    negative : share.times <ℤ pos 0 → ShareFails above share IsNegative
    no_row : (name : Name) → pos 0 ≤ℤ share.times → share.of ≡ Template name → ((row : Sum) → ¬ has name row) → ShareFails above share NoRow
    no_up : (d : ℕ) → pos 0 ≤ℤ share.times → share.of ≡ Up d → length above ≤ d → ShareFails above share NoUp

  -- the first line that is wrong
  pub data LineFails (above : List Sum) : List Share → ℕ → Cause → Type 0 where
    first_line : (share : Share) (shares : List Share) (cause : Cause) → ShareFails above share cause → LineFails above (share ∷ shares) 0 cause
    later_line : (share : Share) (shares : List Share) (i : ℕ) (cause : Cause) (row : Sum) → pos 0 ≤ℤ share.times → Named has above share.of row
        → LineFails above shares i cause → LineFails above (share ∷ shares) (suc i) cause

  -- what is wrong with a node: at its own line 0, or at one of its lines
  pub data Fails (goal : Goal) (above : List Sum) : Node → ℕ → Cause → Type 0 where
    wrong_leaf : (over : ℤ) (shares : List Share) → goal ≡ Refute → Fails goal above (Bound over shares) 0 WrongLeaf
    cut_line : (over : ℤ) (shares : List Share) (i : ℕ) (cause : Cause) → LineFails above shares i cause → Fails goal above (Cut over shares) (suc i) cause
    bound_line : (over : ℤ) (shares : List Share) (v : Var) (g : ℤ) (i : ℕ) (cause : Cause) → goal ≡ Least v g → LineFails above shares i cause
        → Fails goal above (Bound over shares) (suc i) cause
    empty_line : (over : ℤ) (shares : List Share) (i : ℕ) (cause : Cause) → LineFails above shares i cause → Fails goal above (Empty over shares) (suc i) cause
    cut_sum : (over : ℤ) (shares : List Share) (combined : Sum) → Combined has above shares combined → IsNoRow over combined
        → Fails goal above (Cut over shares) 0 WrongSum
    bound_sum : (over : ℤ) (shares : List Share) (combined : Sum) (v : Var) (g : ℤ) (w : Var) → goal ≡ Least v g → Combined has above shares combined
        → coefficient w combined.terms ≢ only_if (same_var w v) over → Fails goal above (Bound over shares) 0 WrongSum
    empty_sum : (over : ℤ) (shares : List Share) (combined : Sum) (w : Var) → Combined has above shares combined
        → coefficient w combined.terms ≢ pos 0 → Fails goal above (Empty over shares) 0 WrongSum
    bound_small : (over : ℤ) (shares : List Share) (combined : Sum) (v : Var) (g : ℤ) → goal ≡ Least v g → Combined has above shares combined
        → ((w : Var) → coefficient w combined.terms ≡ only_if (same_var w v) over) → combined.least ≤ℤ ((g -ℤ pos 1) *ℤ over)
        → Fails goal above (Bound over shares) 0 TooSmall
    empty_small : (over : ℤ) (shares : List Share) (combined : Sum) → Combined has above shares combined
        → ((w : Var) → coefficient w combined.terms ≡ pos 0) → combined.least ≤ℤ pos 0 → Fails goal above (Empty over shares) 0 TooSmall

  -- under these contexts the nodes, written from the line on, have their first fault at the second line
  pub data FirstFault (goal : Goal) : List (List Sum) → List Node → ℕ → ℕ → Cause → Type 0 where
    here : (above : List Sum) (waiting : List (List Sum)) (node : Node) (nodes : List Node) (line k : ℕ) (cause : Cause) → Fails goal above node k cause
        → FirstFault goal (above ∷ waiting) (node ∷ nodes) line (line + k) cause
    later : (above : List Sum) (waiting children : List (List Sum)) (node : Node) (nodes : List Node) (line found : ℕ) (cause : Cause)
        → Leaves has goal above node children → FirstFault goal (children ++ waiting) nodes (line + 1 + lines node) found cause
        → FirstFault goal (above ∷ waiting) (node ∷ nodes) line found cause
