-- Proofs that are read or written node by node, seen from a stack of contexts: the rows above of each part that is still to come.
use Rattle.std.specs.Prelude.{◌≡◌, ℤ, pos, ◌≤ℤ◌, List, [], ◌∷◌, ◌++◌}
use Rattle.rt_rows.specs.declared.row.Var.{Var}
use Rattle.rt_rows.specs.declared.name.Name.{Name}
use Rattle.rt_rows.specs.declared.proof.Share.{Share}
use Rattle.rt_rows.specs.declared.proof.Node.{Node}
use Rattle.rt_rows.specs.declared.proof.Node.TheVariants.{Branch, Cut, Bound, Empty}
use Rattle.rt_proofs.specs.Forms.{Sum}
use Rattle.rt_proofs.specs.Trees.{Goal, down, up, Combined, IsWholeRow, IsBound, IsEmpty}
use Rattle.rt_proofs.specs.Trees.Goal.{Least}

module _ (has : Name → Sum → Type 0) where
  -- the node stands under the rows above, and leaves these contexts to its children, in order
  pub data Leaves (goal : Goal) (above : List Sum) : Node → List (List Sum) → Type 0 where
    two : (v : Var) (n : ℤ) → Leaves goal above (Branch v n) ((above ++ down v n ∷ []) ∷ (above ++ up v n ∷ []) ∷ [])
    one : (over : ℤ) (shares : List Share) (combined row : Sum) → pos 1 ≤ℤ over → Combined has above shares combined
        → IsWholeRow has combined over row → Leaves goal above (Cut over shares) ((above ++ row ∷ []) ∷ [])
    no_more : (over : ℤ) (shares : List Share) (combined : Sum) (v : Var) (g : ℤ) → goal ≡ Least v g → pos 1 ≤ℤ over
        → Combined has above shares combined → IsBound has v g over combined → Leaves goal above (Bound over shares) []
    none_left : (over : ℤ) (shares : List Share) (combined : Sum) → pos 1 ≤ℤ over → Combined has above shares combined
        → IsEmpty has combined → Leaves goal above (Empty over shares) []

  -- from the first stack the nodes lead to the second one
  pub data Walks (goal : Goal) : List (List Sum) → List Node → List (List Sum) → Type 0 where
    start : (stack : List (List Sum)) → Walks goal stack [] stack
    step : (stack : List (List Sum)) (nodes : List Node) (above : List Sum) (waiting children : List (List Sum)) (node : Node)
        → Walks goal stack nodes (above ∷ waiting) → Leaves goal above node children
        → Walks goal stack (nodes ++ node ∷ []) (children ++ waiting)
