-- How many trees a stack takes; and a stack of contexts on one path, node by node.
use Rattle.std.proofs.Common.{length-append, length-take-le, ◌≡◌, ℕ, ◌≤◌, List, [], ◌∷◌, ◌++◌, length, take, map, refl, ap, subst, ◌∙◌, arith, take_all, take-take, length-take, le_refl}
use Rattle.std.proofs.lemmas.List.{take-append-le}
use Rattle.rt_rows.specs.declared.name.Name.{Name}
use Rattle.rt_rows.specs.declared.proof.Node.{Node}
use Rattle.rt_proofs.specs.Forms.{Sum}
use Rattle.rt_proofs.specs.Trees.{Goal, Stacked}
use Rattle.rt_proofs.specs.Walks.{Leaves}
use Rattle.rt_proofs.specs.Walks.Leaves.{two, one, no_more, none_left}
use Rattle.rt_proofs.specs.Contexts.{after, AreTrees, Waiting, context_of, contexts, Falling}
use Rattle.rt_proofs.specs.Contexts.Falling.{none_waits, one_waits}
use Rattle.rt_proofs.proofs.Stacks.{node_stacked, stacked_some, stacked_none}

module _ (has : Name → Sum → Type 0) (goal : Goal) where
  children_count : (above : List Sum) (node : Node) (children stack : List (List Sum)) → Leaves has goal above node children
      → length (children ++ stack) ≡ after node (length stack)
  children_count above _ _ stack (two v n) = refl
  children_count above _ _ stack (one over shares c row k s w) = refl
  children_count above _ _ stack (no_more over shares c v g e k s b) = refl
  children_count above _ _ stack (none_left over shares c k s e) = refl

  -- what is stacked is as many trees as there are contexts
  pub stacked_trees : (nodes : List Node) (stack : List (List Sum)) → Stacked has goal stack nodes → AreTrees nodes (length stack)
  stacked_trees [] [] h = tt
  stacked_trees [] (above ∷ stack) h = stacked_some has goal above stack h
  stacked_trees (node ∷ nodes) [] h = stacked_none has goal node nodes h
  stacked_trees (node ∷ nodes) (above ∷ stack) h =
      let first : (children : List (List Sum)) × Leaves has goal above node children × Stacked has goal (children ++ stack) nodes =
      node_stacked has goal above node stack nodes h in
      subst (λ k. AreTrees nodes k) (children_count above node first.0 stack first.1) (stacked_trees nodes (first.0 ++ stack) first.2)

-- contexts that wait are the same on two paths that agree so far
waiting_same : (path other : List Sum) (bound : ℕ) (waiting : List Waiting) → ((d : ℕ) → d ≤ bound → take d other ≡ take d path) → Falling bound waiting
    → map (context_of other) waiting ≡ map (context_of path) waiting
waiting_same path other _ _ h (none_waits bound) = refl
waiting_same path other _ _ h (one_waits bound first waiting l f) =
    ap (λ front. (front ++ first.row ∷ []) ∷ map (context_of other) waiting) (h first.depth l)
    ∙ ap (λ rest. context_of path first ∷ rest) (waiting_same path other first.depth waiting (λ d k. h d (omega (arith, l, k))) f)

longer_agrees : (path : List Sum) (row : Sum) (d : ℕ) → d ≤ length path → take d (path ++ row ∷ []) ≡ take d path
longer_agrees path row d l = take-append-le d path (row ∷ []) l

whole_front : (path : List Sum) (row : Sum) → take (length path) (path ++ row ∷ []) ≡ path
whole_front path row = longer_agrees path row (length path) (le_refl (length path)) ∙ take_all (length path) path (le_refl (length path))

-- a Cut puts its row at the end of the path
pub cut_contexts : (path : List Sum) (row : Sum) (waiting : List Waiting) → Falling (length path) waiting
    → contexts (path ++ row ∷ []) waiting ≡ (path ++ row ∷ []) ∷ map (context_of path) waiting
cut_contexts path row waiting f = ap (λ rest. (path ++ row ∷ []) ∷ rest) (waiting_same path (path ++ row ∷ []) (length path) waiting (longer_agrees path row) f)

-- a Branch puts the one row at the end of the path, and lets the other wait
pub branch_contexts : (path : List Sum) (low high : Sum) (waiting : List Waiting) → Falling (length path) waiting
    → contexts (path ++ low ∷ []) (record { depth = length path; row = high } ∷ waiting)
    ≡ (path ++ low ∷ []) ∷ (path ++ high ∷ []) ∷ map (context_of path) waiting
branch_contexts path low high waiting f =
    ap (λ front. (path ++ low ∷ []) ∷ (front ++ high ∷ []) ∷ map (context_of (path ++ low ∷ [])) waiting) (whole_front path low)
    ∙ ap (λ rest. (path ++ low ∷ []) ∷ (path ++ high ∷ []) ∷ rest) (waiting_same path (path ++ low ∷ []) (length path) waiting (longer_agrees path low) f)

front_agrees : (path : List Sum) (row : Sum) (n d : ℕ) → n ≤ length path → d ≤ n → take d (take n path ++ row ∷ []) ≡ take d path
front_agrees path row n d l k =
    take-append-le d (take n path) (row ∷ []) (omega (arith, length-take n path, l, k)) ∙ take-take d n path k

-- a leaf goes on with the first that waits
pub leaf_contexts : (path : List Sum) (first : Waiting) (waiting : List Waiting) → first.depth ≤ length path → Falling first.depth waiting
    → contexts (context_of path first) waiting ≡ map (context_of path) (first ∷ waiting)
leaf_contexts path first waiting l f =
    ap (λ rest. context_of path first ∷ rest)
    (waiting_same path (context_of path first) first.depth waiting (λ d k. front_agrees path first.row first.depth d l k) f)

falling_more : (bound more : ℕ) (waiting : List Waiting) → bound ≤ more → Falling bound waiting → Falling more waiting
falling_more _ more _ l (none_waits bound) = none_waits more
falling_more _ more _ l (one_waits bound first waiting k f) = one_waits more first waiting (omega (arith, l, k)) f

-- each step keeps the order of what waits
pub cut_falling : (path : List Sum) (row : Sum) (waiting : List Waiting) → Falling (length path) waiting → Falling (length (path ++ row ∷ [])) waiting
cut_falling path row waiting f = falling_more (length path) (length (path ++ row ∷ [])) waiting (omega (arith, length-append path (row ∷ []))) f

pub branch_falling : (path : List Sum) (low high : Sum) (waiting : List Waiting) → Falling (length path) waiting
    → Falling (length (path ++ low ∷ [])) (record { depth = length path; row = high } ∷ waiting)
branch_falling path low high waiting f =
    one_waits (length (path ++ low ∷ [])) (record { depth = length path; row = high }) waiting (omega (arith, length-append path (low ∷ []))) f

pub leaf_falling : (path : List Sum) (first : Waiting) (waiting : List Waiting) → first.depth ≤ length path → Falling first.depth waiting
    → Falling (length (context_of path first)) waiting
leaf_falling path first waiting l f =
    falling_more first.depth (length (context_of path first)) waiting
    (omega (arith, length-append (take first.depth path) (first.row ∷ []), length-take-le first.depth path l)) f
