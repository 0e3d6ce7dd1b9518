-- Stacked, node by node from the front, and walks, node by node at the end.
use Rattle.std.proofs.Common.{List, [], ◌∷◌, ◌++◌, refl, sym, subst, append_assoc, append-nil}
use Rattle.rt_rows.specs.declared.name.Name.{Name}
use Rattle.rt_rows.specs.declared.proof.Node.{Node}
use Rattle.rt_proofs.specs.Forms.{Sum}
use Rattle.rt_proofs.specs.Trees.{Goal, down, up, Tree, Proof, Stacked}
use Rattle.rt_proofs.specs.Trees.Tree.{branch, cut, bound, empty}
use Rattle.rt_proofs.specs.Walks.{Leaves, Walks}
use Rattle.rt_proofs.specs.Walks.Leaves.{two, one, no_more, none_left}
use Rattle.rt_proofs.specs.Walks.Walks.{start, step}

abbrev IsLeft : List Node → Type 0
IsLeft [] = ⊥
IsLeft (n ∷ ns) = Unit {0}

module _ (has : Name → Sum → Type 0) (goal : Goal) where
  -- a node that stands, and what is stacked for its children, are stacked
  pub stacked_node : (above : List Sum) (node : Node) (children stack : List (List Sum)) (nodes : List Node) → Leaves has goal above node children
      → Stacked has goal (children ++ stack) nodes → Stacked has goal (above ∷ stack) (node ∷ nodes)
  stacked_node above _ _ stack nodes (two v n) h = (h.2.0, branch above v n nodes h.0 h.2.0 h.1 h.2.1, h.2.2)
  stacked_node above _ _ stack nodes (one over shares c row k s w) h = (h.0, cut above over shares nodes h.0 c row k s w h.1, h.2)
  stacked_node above _ _ stack nodes (no_more over shares c v g e k s b) h = (nodes, bound above over shares nodes c v g e k s b, h)
  stacked_node above _ _ stack nodes (none_left over shares c k s e) h = (nodes, empty above over shares nodes c k s e, h)

  -- what is stacked begins with a node that stands, and the rest is stacked for its children
  pub tree_node : (above : List Sum) (node : Node) (stack : List (List Sum)) (nodes mid : List Node) → Tree has goal above (node ∷ nodes) mid
      → Stacked has goal stack mid → (children : List (List Sum)) × Leaves has goal above node children × Stacked has goal (children ++ stack) nodes
  tree_node _ _ stack _ _ (branch above v n nodes mid rest low high) h =
      ((above ++ down v n ∷ []) ∷ (above ++ up v n ∷ []) ∷ [], two v n, (mid, low, (rest, high, h)))
  tree_node _ _ stack _ _ (cut above over shares nodes rest c row k s w t) h = ((above ++ row ∷ []) ∷ [], one over shares c row k s w, (rest, t, h))
  tree_node _ _ stack _ _ (bound above over shares rest c v g e k s b) h = ([], no_more over shares c v g e k s b, h)
  tree_node _ _ stack _ _ (empty above over shares rest c k s e) h = ([], none_left over shares c k s e, h)

  pub node_stacked : (above : List Sum) (node : Node) (stack : List (List Sum)) (nodes : List Node) → Stacked has goal (above ∷ stack) (node ∷ nodes)
      → (children : List (List Sum)) × Leaves has goal above node children × Stacked has goal (children ++ stack) nodes
  node_stacked above node stack nodes h = tree_node above node stack nodes h.0 h.1 h.2

  -- a context is never proved by no nodes
  pub tree_some : (above : List Sum) (rest : List Node) → Tree has goal above [] rest → ⊥
  tree_some above rest t = elim t [ ]

  pub stacked_some : (above : List Sum) (stack : List (List Sum)) → Stacked has goal (above ∷ stack) [] → ⊥
  stacked_some above stack h = tree_some above h.0 h.1

  -- no contexts are proved by no nodes alone
  pub stacked_none : (node : Node) (nodes : List Node) → Stacked has goal [] (node ∷ nodes) → ⊥
  stacked_none node nodes e = absurd (subst (λ l. IsLeft l) e tt)

  -- one context is a proof
  pub proof_stacked : (nodes : List Node) → Proof has goal nodes → Stacked has goal ([] ∷ []) nodes
  proof_stacked nodes p = ([], p, refl)

  pub stacked_proof : (nodes : List Node) → Stacked has goal ([] ∷ []) nodes → Proof has goal nodes
  stacked_proof nodes h = subst (λ m. Tree has goal [] nodes m) h.2 h.1

  -- what is stacked where the walk ends was stacked, behind its nodes, where it began
  pub walked : (from : List (List Sum)) (nodes : List Node) (to : List (List Sum)) (rest : List Node) → Walks has goal from nodes to
      → Stacked has goal to rest → Stacked has goal from (nodes ++ rest)
  walked _ _ _ rest (start stack) h = h
  walked _ _ _ rest (step stack nodes above waiting children node w l) h =
      subst (λ m. Stacked has goal stack m) (sym (append_assoc nodes (node ∷ []) rest))
      (walked stack nodes (above ∷ waiting) (node ∷ rest) w (stacked_node above node children waiting rest l h))

  -- a walk from the one context to none is a proof
  pub walk_proves : (nodes : List Node) → Walks has goal ([] ∷ []) nodes [] → Proof has goal nodes
  walk_proves nodes w = subst (λ m. Proof has goal m) (append-nil nodes) (stacked_proof (nodes ++ []) (walked ([] ∷ []) nodes [] [] w refl))
