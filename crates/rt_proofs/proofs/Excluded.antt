-- A list of nodes that is stacked has no first fault.
use Rattle.std.proofs.Common.{◌≡◌, ℕ, ◌+◌, ℤ, pos, nat_abs, ◌+ℤ◌, ◌*ℤ◌, ◌≤ℤ◌, ◌<ℤ◌, List, [], ◌∷◌, ◌++◌, refl, sym, ap, subst, ◌∙◌, arith}
use Rattle.std.proofs.lemmas.Int.{ints}
use Rattle.std.proofs.lemmas.Option.{slice_get_within}
use Rattle.rt_cells.proofs.Times.{times_cancel_lt}
use Rattle.rt_proofs.proofs.Products.{times_comm}
use Rattle.rt_rows.specs.declared.row.Var.{Var}
use Rattle.rt_rows.specs.declared.name.Name.{Name}
use Rattle.rt_rows.specs.declared.proof.Of.{Of}
use Rattle.rt_rows.specs.declared.proof.Of.TheVariants.{Template, Up}
use Rattle.rt_rows.specs.declared.proof.Share.{Share}
use Rattle.rt_rows.specs.declared.proof.Node.{Node}
use Rattle.rt_proofs.specs.Forms.{coefficient, Sum}
use Rattle.rt_proofs.specs.Trees.{Goal, down, up, Named, Combined, IsWholeRow, IsBound, Stacked}
use Rattle.rt_proofs.specs.Trees.Goal.{Least, Refute}
use Rattle.rt_proofs.specs.Trees.Named.{of_template, of_above}
use Rattle.rt_proofs.specs.Trees.Combined.{none, more}
use Rattle.rt_proofs.specs.Walks.{Leaves}
use Rattle.rt_proofs.specs.Walks.Leaves.{two, one, no_more, none_left}
use Rattle.rt_proofs.specs.Faults.{Cause, lines, IsNoRow, ShareFails, LineFails, Fails, FirstFault}
use Rattle.rt_proofs.specs.Faults.IsNoRow.{parted, many, large}
use Rattle.rt_proofs.specs.Faults.ShareFails.{negative, no_row, no_up}
use Rattle.rt_proofs.specs.Faults.LineFails.{first_line, later_line}
use Rattle.rt_proofs.specs.Faults.Fails.{wrong_leaf, cut_line, bound_line, empty_line, cut_sum, bound_sum, empty_sum, bound_small, empty_small}
use Rattle.rt_proofs.specs.Faults.FirstFault.{here, later}
use Rattle.rt_proofs.proofs.Rounding.{rounded_once}
use Rattle.rt_proofs.proofs.Stacks.{node_stacked}
use Rattle.rt_proofs.proofs.Alike.{AllAlike, all_alike_self, all_alike_more, whole_once, tree_alike, combined_once, right_cancel}

-- the contexts have rows that are alike
pub data StacksAlike : List (List Sum) → List (List Sum) → Type 0 where
  no_stack : StacksAlike [] []
  and_stack : (rows others : List Sum) (stack beside : List (List Sum)) → AllAlike rows others → StacksAlike stack beside
      → StacksAlike (rows ∷ stack) (others ∷ beside)

pub stacks_alike_self : (stack : List (List Sum)) → StacksAlike stack stack
stacks_alike_self [] = no_stack
stacks_alike_self (rows ∷ stack) = and_stack rows rows stack stack (all_alike_self rows) (stacks_alike_self stack)

whole_between : (over n m a : ℤ) → pos 1 ≤ℤ over → m *ℤ over ≡ a → (n *ℤ over) <ℤ a → a <ℤ ((n +ℤ pos 1) *ℤ over) → ⊥
whole_between over n m a h e low high =
    let one : n <ℤ m = times_cancel_lt over n m h (omega (arith, ints, e, low, times_comm over n, times_comm over m)) in
    let two : m <ℤ (n +ℤ pos 1) = times_cancel_lt over m (n +ℤ pos 1) h (omega (arith, ints, e, high, times_comm over (n +ℤ pos 1), times_comm over m)) in
    omega (arith, ints, one, two)

module _ (has : Name → Sum → Type 0) where
  pub stacked_alike : (goal : Goal) (stack beside : List (List Sum)) (nodes : List Node) → StacksAlike stack beside → Stacked has goal stack nodes
      → Stacked has goal beside nodes
  stacked_alike goal _ _ nodes no_stack h = h
  stacked_alike goal _ _ nodes (and_stack rows others stack beside a s) h =
      (h.0, tree_alike has goal rows nodes h.0 others a h.1, stacked_alike goal stack beside h.0 s h.2)

  pub share_excluded : (above : List Sum) (share : Share) (of : Of) (row : Sum) (cause : Cause) → share.of ≡ of → pos 0 ≤ℤ share.times → Named has above of row
      → ShareFails has above share cause → ⊥
  share_excluded above share of row _ e k n (negative l) = omega (arith, ints, k, l)
  share_excluded above share _ row _ e k (of_template name _ t) (no_row other l f never) = never row (subst (λ o. NamesRow o) (sym e ∙ f) t)
    where
      NamesRow : Of → Type 0
      NamesRow (Template name) = has name row
      NamesRow (Up d) = ⊥
  share_excluded above share _ row _ e k (of_above d _ g) (no_row other l f never) = subst (λ o. IsUp o) (sym e ∙ f) tt
    where
      IsUp : Of → Type 0
      IsUp (Template name) = ⊥
      IsUp (Up d) = Unit {0}
  share_excluded above share _ row _ e k (of_template name _ t) (no_up d l f past) = subst (λ o. IsTemplate o) (sym e ∙ f) tt
    where
      IsTemplate : Of → Type 0
      IsTemplate (Template name) = Unit {0}
      IsTemplate (Up d) = ⊥
  share_excluded above share _ row _ e k (of_above d _ g) (no_up n l f past) =
      omega (arith, slice_get_within above d row g, past, ap (λ o. number_of o) (sym e ∙ f))
    where
      number_of : Of → ℕ
      number_of (Template name) = 0
      number_of (Up d) = d

  pub lines_excluded : (above : List Sum) (shares : List Share) (c : Sum) (i : ℕ) (cause : Cause) → Combined has above shares c → LineFails has above shares i cause → ⊥
  lines_excluded above _ _ i cause none f = elim f [ ]
  lines_excluded above _ _ _ _ (more share shares row rest k n s) (first_line _ _ cause f) = share_excluded above share share.of row cause refl k n f
  lines_excluded above _ _ _ _ (more share shares row rest k n s) (later_line _ _ i cause r _ _ f) = lines_excluded above shares rest i cause s f

  no_row_excluded : (over : ℤ) (c row : Sum) → pos 1 ≤ℤ over → IsWholeRow has c over row → IsNoRow over c → ⊥
  no_row_excluded over c row h w (parted v n low high) = whole_between over n (coefficient v row.terms) (coefficient v c.terms) h (w.whole v) low high
  no_row_excluded over c row h w (many v n e l) =
      omega (arith, w.few v, l, ap (λ z. nat_abs z) (right_cancel over n (coefficient v row.terms) h (e ∙ sym (w.whole v))))
  no_row_excluded over c row h w (large m r l) = omega (arith, w.small, l, ap (λ z. nat_abs z) (rounded_once over c.least m row.least h r w.rounded))

  pub leaves_nothing_of : (v w : Var) (g h : ℤ) → Least v g ≡ Least w h → (v ≡ w) × (g ≡ h)
  leaves_nothing_of v w g h e = (ap (λ o. var_of o v) e, ap (λ o. number_of o g) e)
    where
      var_of : Goal → Var → Var
      var_of (Least v g) other = v
      var_of Refute other = other

      number_of : Goal → ℤ → ℤ
      number_of (Least v g) other = g
      number_of Refute other = other

  pub no_refutation : (v : Var) (g : ℤ) → Least v g ≡ Refute → ⊥
  no_refutation v g e = subst (λ o. HasLeast o) e tt
    where
      HasLeast : Goal → Type 0
      HasLeast (Least v g) = Unit {0}
      HasLeast Refute = ⊥

  bound_again : (v w : Var) (g h over : ℤ) (c : Sum) → Least v g ≡ Least w h → IsBound has v g over c → IsBound has w h over c
  bound_again v w g h over c e b =
      subst (λ u. IsBound has u h over c) (leaves_nothing_of v w g h e).0 (subst (λ n. IsBound has v n over c) (leaves_nothing_of v w g h e).1 b)

  module _ (once : (name : Name) (a b : Sum) → has name a → has name b → a ≡ b) (goal : Goal) where
    -- a node that stands doesn't fail
    pub node_excluded : (above : List Sum) (node : Node) (children : List (List Sum)) (k : ℕ) (cause : Cause) → Leaves has goal above node children
        → Fails has goal above node k cause → ⊥
    node_excluded above _ _ k cause (two v n) f = elim f [ ]
    node_excluded above _ _ _ _ (one over shares c row h s w) (cut_line _ _ i cause f) = lines_excluded above shares c i cause s f
    node_excluded above _ _ _ _ (one over shares c row h s w) (cut_sum _ _ d t f) =
        no_row_excluded over c row h w (subst (λ z. IsNoRow over z) (sym (combined_once has once above shares c d s t)) f)
    node_excluded above _ _ _ _ (no_more over shares c v g e h s b) (wrong_leaf _ _ r) = no_refutation v g (sym e ∙ r)
    node_excluded above _ _ _ _ (no_more over shares c v g e h s b) (bound_line _ _ w n i cause r f) = lines_excluded above shares c i cause s f
    node_excluded above _ _ _ _ (no_more over shares c v g e h s b) (bound_sum _ _ d w n u r t f) =
        f (ap (λ z. coefficient u z.terms) (sym (combined_once has once above shares c d s t)) ∙ (bound_again v w g n over c (sym e ∙ r) b).left u)
    node_excluded above _ _ _ _ (no_more over shares c v g e h s b) (bound_small _ _ d w n r t l f) =
        omega (arith, ints, f, (bound_again v w g n over c (sym e ∙ r) b).right, ap (λ z. z.least) (combined_once has once above shares c d s t))
    node_excluded above _ _ _ _ (none_left over shares c h s b) (empty_line _ _ i cause f) = lines_excluded above shares c i cause s f
    node_excluded above _ _ _ _ (none_left over shares c h s b) (empty_sum _ _ d u t f) =
        f (ap (λ z. coefficient u z.terms) (sym (combined_once has once above shares c d s t)) ∙ b.left u)
    node_excluded above _ _ _ _ (none_left over shares c h s b) (empty_small _ _ d t l f) =
        omega (arith, ints, f, b.right, ap (λ z. z.least) (combined_once has once above shares c d s t))

    -- what a node leaves to its children, twice, is alike
    pub leaves_once : (above : List Sum) (node : Node) (children others stack : List (List Sum)) → Leaves has goal above node children
        → Leaves has goal above node others → StacksAlike (children ++ stack) (others ++ stack)
    leaves_once above _ _ _ stack (two v n) (two _ _) = stacks_alike_self ((above ++ down v n ∷ []) ∷ (above ++ up v n ∷ []) ∷ stack)
    leaves_once above _ _ _ stack (one over shares c row h s w) (one _ _ d other k t x) =
        and_stack (above ++ row ∷ []) (above ++ other ∷ []) stack stack (all_alike_more above above row other (all_alike_self above)
        (whole_once has c over row other h w (subst (λ z. IsWholeRow has z over other) (sym (combined_once has once above shares c d s t)) x))) (stacks_alike_self stack)
    leaves_once above _ _ _ stack (no_more over shares c v g e h s b) (no_more _ _ _ _ _ _ _ _ _) = stacks_alike_self stack
    leaves_once above _ _ _ stack (none_left over shares c h s b) (none_left _ _ _ _ _ _) = stacks_alike_self stack

    -- a list of nodes that is stacked has no first fault
    pub fault_excluded : (stack : List (List Sum)) (nodes : List Node) (line found : ℕ) (cause : Cause) → Stacked has goal stack nodes
        → FirstFault has goal stack nodes line found cause → ⊥
    fault_excluded _ _ _ _ _ h (here above waiting node nodes line k cause f) =
        let first : (children : List (List Sum)) × Leaves has goal above node children × Stacked has goal (children ++ waiting) nodes =
        node_stacked has goal above node waiting nodes h in
        node_excluded above node first.0 k cause first.1 f
    fault_excluded _ _ _ _ _ h (later above waiting children node nodes line found cause l f) =
        let first : (others : List (List Sum)) × Leaves has goal above node others × Stacked has goal (others ++ waiting) nodes =
        node_stacked has goal above node waiting nodes h in
        fault_excluded (children ++ waiting) nodes (line + 1 + lines node) found cause
        (stacked_alike goal (first.0 ++ waiting) (children ++ waiting) nodes (leaves_once above node first.0 children waiting first.1 l) first.2) f
