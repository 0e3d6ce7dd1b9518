-- Walks for a goal are walks for a weaker one; two walks make one; and what is stacked is walked.
use Rattle.std.proofs.Common.{◌≡◌, ℤ, List, [], ◌∷◌, ◌++◌, refl, sym, subst, append_assoc, append-nil}
use Rattle.rt_rows.specs.declared.row.Var.{Var}
use Rattle.rt_rows.specs.declared.name.Name.{Name}
use Rattle.rt_rows.specs.declared.proof.Node.{Node}
use Rattle.rt_proofs.specs.Forms.{Sum}
use Rattle.rt_proofs.specs.Trees.{Goal, IsBound, Proof, Stacked}
use Rattle.rt_proofs.specs.Trees.Goal.{Least}
use Rattle.rt_proofs.specs.Walks.{Leaves, Walks}
use Rattle.rt_proofs.specs.Walks.Leaves.{two, one, no_more, none_left}
use Rattle.rt_proofs.specs.Walks.Walks.{start, step}
use Rattle.rt_proofs.proofs.Goals.{Follows, leaf_bound}
use Rattle.rt_proofs.proofs.Stacks.{node_stacked, stacked_some, stacked_none}

module _ (has : Name → Sum → Type 0) (goal weaker : Goal) (follows : Follows goal weaker) where
  leaves_weaken : (above : List Sum) (node : Node) (children : List (List Sum)) → Leaves has goal above node children → Leaves has weaker above node children
  leaves_weaken above _ _ (two v n) = two v n
  leaves_weaken above _ _ (one over shares c row k s w) = one over shares c row k s w
  leaves_weaken above _ _ (no_more over shares c v g e k s b) =
      let leaf : (w : Var) × (h : ℤ) × (weaker ≡ Least w h) × IsBound has w h over c =
      leaf_bound has above weaker over c v g (subst (λ o. Follows o weaker) e follows) k b in
      no_more over shares c leaf.0 leaf.1 leaf.2 k s leaf.3
  leaves_weaken above _ _ (none_left over shares c k s e) = none_left over shares c k s e

  -- a walk for a goal is one for a weaker goal
  pub walks_weaken : (from : List (List Sum)) (nodes : List Node) (to : List (List Sum)) → Walks has goal from nodes to → Walks has weaker from nodes to
  walks_weaken _ _ _ (start stack) = start stack
  walks_weaken _ _ _ (step stack nodes above waiting children node w l) =
      step stack nodes above waiting children node (walks_weaken stack nodes (above ∷ waiting) w) (leaves_weaken above node children l)

module _ (has : Name → Sum → Type 0) (goal : Goal) where
  -- one walk after another
  pub walks_both : (mid : List (List Sum)) (nodes : List Node) (to from : List (List Sum)) (before : List Node) → Walks has goal from before mid
      → Walks has goal mid nodes to → Walks has goal from (before ++ nodes) to
  walks_both _ _ _ from before h (start stack) = subst (λ m. Walks has goal from m stack) (sym (append-nil before)) h
  walks_both _ _ _ from before h (step stack nodes above waiting children node w l) =
      subst (λ m. Walks has goal from m (children ++ waiting)) (append_assoc before nodes (node ∷ []))
      (step from (before ++ nodes) above waiting children node (walks_both stack nodes (above ∷ waiting) from before h w) l)

  first_step : (above : List Sum) (waiting children : List (List Sum)) (node : Node) → Leaves has goal above node children
      → Walks has goal (above ∷ waiting) (node ∷ []) (children ++ waiting)
  first_step above waiting children node l = step (above ∷ waiting) [] above waiting children node (start (above ∷ waiting)) l

  -- what is stacked is walked to the end
  pub stacked_walks : (nodes : List Node) (stack : List (List Sum)) → Stacked has goal stack nodes → Walks has goal stack nodes []
  stacked_walks [] [] h = start []
  stacked_walks [] (above ∷ stack) h = absurd (stacked_some has goal above stack h)
  stacked_walks (node ∷ nodes) [] h = absurd (stacked_none has goal node nodes h)
  stacked_walks (node ∷ nodes) (above ∷ stack) h =
      let first : (children : List (List Sum)) × Leaves has goal above node children × Stacked has goal (children ++ stack) nodes =
      node_stacked has goal above node stack nodes h in
      walks_both (first.0 ++ stack) nodes [] (above ∷ stack) (node ∷ []) (first_step above stack first.0 node first.1)
      (stacked_walks nodes (first.0 ++ stack) first.2)

  -- a proof is a walk from the one context to none
  pub proof_walks : (nodes : List Node) → Proof has goal nodes → Walks has goal ([] ∷ []) nodes []
  proof_walks nodes p = stacked_walks nodes ([] ∷ []) ([], p, refl)
