-- A list of nodes has one first fault at most.
use Rattle.std.proofs.Common.{◌≡◌, ℕ, suc, ◌+◌, ℤ, pos, ◌≤ℤ◌, ◌<ℤ◌, List, [], ◌∷◌, ◌++◌, length, Option, Some, None, refl, sym, ap, subst, ◌∙◌, arith}
use Rattle.std.proofs.lemmas.Int.{ints}
use Rattle.rt_rows.specs.declared.row.Var.{Var}
use Rattle.rt_rows.specs.declared.name.Name.{Name}
use Rattle.rt_rows.specs.declared.proof.Of.{Of}
use Rattle.rt_rows.specs.declared.proof.Of.TheVariants.{Template, Up}
use Rattle.rt_rows.specs.declared.proof.Share.{Share}
use Rattle.rt_rows.specs.declared.proof.Node.{Node}
use Rattle.rt_proofs.specs.Forms.{same_var, only_if, coefficient, Sum}
use Rattle.rt_proofs.specs.Trees.{Goal, down, up, Named, Combined, IsWholeRow}
use Rattle.rt_proofs.specs.Trees.Goal.{Least}
use Rattle.rt_proofs.specs.Walks.{Leaves}
use Rattle.rt_proofs.specs.Walks.Leaves.{two, one, no_more, none_left}
use Rattle.rt_proofs.specs.Faults.{Cause, lines, IsNoRow, ShareFails, LineFails, Fails, FirstFault}
use Rattle.rt_proofs.specs.Faults.IsNoRow.{parted, many, large}
use Rattle.rt_proofs.specs.Faults.ShareFails.{negative, no_row, no_up}
use Rattle.rt_proofs.specs.Faults.LineFails.{first_line, later_line}
use Rattle.rt_proofs.specs.Faults.Fails.{wrong_leaf, cut_line, bound_line, empty_line, cut_sum, bound_sum, empty_sum, bound_small, empty_small}
use Rattle.rt_proofs.specs.Faults.FirstFault.{here, later}
use Rattle.rt_proofs.proofs.Stacks.{proof_stacked}
use Rattle.rt_rows.specs.declared.row.Row.{Row}
use Rattle.rt_proofs.specs.Rows.{sum_of}
use Rattle.rt_proofs.specs.Laws.{HasRow, FaultExcludes, OneFault}
use Rattle.rt_proofs.proofs.Alike.{Alike, alike_self, AllAlike, all_alike_more, no_rows, and_rows, whole_once, combined_once, named_alike, combined_alike, whole_alike}
use Rattle.rt_proofs.proofs.Excluded.{StacksAlike, no_stack, and_stack, stacks_alike_self, share_excluded, lines_excluded, no_refutation, leaves_nothing_of, node_excluded, fault_excluded}

length_alike : (rows others : List Sum) → AllAlike rows others → length rows ≡ length others
length_alike _ _ no_rows = refl
length_alike _ _ (and_rows a b rows others h t) = ap (λ n. suc n) (length_alike rows others t)

no_row_alike : (over : ℤ) (c d : Sum) → Alike c d → IsNoRow over c → IsNoRow over d
no_row_alike over c d h (parted v n low high) = parted v n (omega (arith, ints, low, h.terms v)) (omega (arith, ints, high, h.terms v))
no_row_alike over c d h (many v n e l) = many v n (e ∙ h.terms v) l
no_row_alike over c d h (large m r l) =
    large m (record { above = omega (arith, ints, r.above, h.least); within = omega (arith, ints, r.within, h.least) }) l

other_kinds : (name : Name) (d : ℕ) → Template name ≡ Up d → ⊥
other_kinds name d e = subst (λ o. IsTemplate o) e tt
  where
    IsTemplate : Of → Type 0
    IsTemplate (Template name) = Unit {0}
    IsTemplate (Up d) = ⊥

module _ (has : Name → Sum → Type 0) where
  share_alike : (rows others : List Sum) (share : Share) (cause : Cause) → AllAlike rows others → ShareFails has rows share cause → ShareFails has others share cause
  share_alike rows others share _ h (negative l) = negative l
  share_alike rows others share _ h (no_row name l e never) = no_row name l e never
  share_alike rows others share _ h (no_up d l e past) = no_up d l e (omega (arith, past, length_alike rows others h))

  lines_alike : (rows others : List Sum) (shares : List Share) (i : ℕ) (cause : Cause) → AllAlike rows others → LineFails has rows shares i cause
      → LineFails has others shares i cause
  lines_alike rows others _ _ _ h (first_line share shares cause f) = first_line share shares cause (share_alike rows others share cause h f)
  lines_alike rows others _ _ _ h (later_line share shares i cause row k n f) =
      let other : (b : Sum) × Named has others share.of b × Alike row b = named_alike has rows others share.of row h n in
      later_line share shares i cause other.0 k other.1 (lines_alike rows others shares i cause h f)

  fails_alike : (goal : Goal) (rows others : List Sum) (node : Node) (k : ℕ) (cause : Cause) → AllAlike rows others → Fails has goal rows node k cause
      → Fails has goal others node k cause
  fails_alike goal rows others _ _ _ h (wrong_leaf over shares r) = wrong_leaf over shares r
  fails_alike goal rows others _ _ _ h (cut_line over shares i cause f) = cut_line over shares i cause (lines_alike rows others shares i cause h f)
  fails_alike goal rows others _ _ _ h (bound_line over shares v g i cause e f) = bound_line over shares v g i cause e (lines_alike rows others shares i cause h f)
  fails_alike goal rows others _ _ _ h (empty_line over shares i cause f) = empty_line over shares i cause (lines_alike rows others shares i cause h f)
  fails_alike goal rows others _ _ _ h (cut_sum over shares c s f) =
      let o : (d : Sum) × Combined has others shares d × Alike c d = combined_alike has rows others shares c h s in
      cut_sum over shares o.0 o.1 (no_row_alike over c o.0 o.2 f)
  fails_alike goal rows others _ _ _ h (bound_sum over shares c v g w e s f) =
      let o : (d : Sum) × Combined has others shares d × Alike c d = combined_alike has rows others shares c h s in
      bound_sum over shares o.0 v g w e o.1 (λ z. f (o.2.terms w ∙ z))
  fails_alike goal rows others _ _ _ h (empty_sum over shares c w s f) =
      let o : (d : Sum) × Combined has others shares d × Alike c d = combined_alike has rows others shares c h s in
      empty_sum over shares o.0 w o.1 (λ z. f (o.2.terms w ∙ z))
  fails_alike goal rows others _ _ _ h (bound_small over shares c v g e s l f) =
      let o : (d : Sum) × Combined has others shares d × Alike c d = combined_alike has rows others shares c h s in
      bound_small over shares o.0 v g e o.1 (λ w. sym (o.2.terms w) ∙ l w) (omega (arith, ints, f, o.2.least))
  fails_alike goal rows others _ _ _ h (empty_small over shares c s l f) =
      let o : (d : Sum) × Combined has others shares d × Alike c d = combined_alike has rows others shares c h s in
      empty_small over shares o.0 o.1 (λ w. sym (o.2.terms w) ∙ l w) (omega (arith, ints, f, o.2.least))

  leaves_alike : (goal : Goal) (rows others : List Sum) (node : Node) (children : List (List Sum)) → AllAlike rows others → Leaves has goal rows node children
      → (beside : List (List Sum)) × Leaves has goal others node beside × ((stack waiting : List (List Sum)) → StacksAlike stack waiting → StacksAlike (children ++ stack) (beside ++ waiting))
  leaves_alike goal rows others _ _ h (two v n) = (
    (others ++ down v n ∷ []) ∷ (others ++ up v n ∷ []) ∷ [],
    two v n,
    λ stack waiting s. and_stack (rows ++ down v n ∷ []) (others ++ down v n ∷ []) ((rows ++ up v n ∷ []) ∷ stack) ((others ++ up v n ∷ []) ∷ waiting)
        (all_alike_more rows others (down v n) (down v n) h (alike_self (down v n)))
        (and_stack (rows ++ up v n ∷ []) (others ++ up v n ∷ []) stack waiting (all_alike_more rows others (up v n) (up v n) h (alike_self (up v n))) s),
  )
  leaves_alike goal rows others _ _ h (one over shares c row k s w) =
      let o : (d : Sum) × Combined has others shares d × Alike c d = combined_alike has rows others shares c h s in (
        (others ++ row ∷ []) ∷ [],
        one over shares o.0 row k o.1 (whole_alike has c o.0 over row o.2 w),
        λ stack waiting s. and_stack (rows ++ row ∷ []) (others ++ row ∷ []) stack waiting (all_alike_more rows others row row h (alike_self row)) s,
      )
  leaves_alike goal rows others _ _ h (no_more over shares c v g e k s b) =
      let o : (d : Sum) × Combined has others shares d × Alike c d = combined_alike has rows others shares c h s in
      ([], no_more over shares o.0 v g e k o.1 (record { left = λ w. sym (o.2.terms w) ∙ b.left w; right = omega (arith, ints, b.right, o.2.least) }), λ stack waiting s. s)
  leaves_alike goal rows others _ _ h (none_left over shares c k s e) =
      let o : (d : Sum) × Combined has others shares d × Alike c d = combined_alike has rows others shares c h s in
      ([], none_left over shares o.0 k o.1 (record { left = λ w. sym (o.2.terms w) ∙ e.left w; right = omega (arith, ints, e.right, o.2.least) }), λ stack waiting s. s)

  clash : (share : Share) → pos 0 ≤ℤ share.times → share.times <ℤ pos 0 → ⊥
  clash share h k = omega (arith, ints, h, k)

  share_once : (above : List Sum) (share : Share) (c d : Cause) → ShareFails has above share c → ShareFails has above share d → c ≡ d
  share_once above share _ _ (negative l) (negative k) = refl
  share_once above share _ _ (negative l) (no_row name k e f) = absurd (clash share k l)
  share_once above share _ _ (negative l) (no_up n k e f) = absurd (clash share k l)
  share_once above share _ _ (no_row name l e f) (negative k) = absurd (clash share l k)
  share_once above share _ _ (no_row name l e f) (no_row _ k g h) = refl
  share_once above share _ _ (no_row name l e f) (no_up n k g h) = absurd (other_kinds name n (sym e ∙ g))
  share_once above share _ _ (no_up n l e f) (negative k) = absurd (clash share l k)
  share_once above share _ _ (no_up n l e f) (no_row name k g h) = absurd (other_kinds name n (sym g ∙ e))
  share_once above share _ _ (no_up n l e f) (no_up _ k g h) = refl

  lines_once : (above : List Sum) (shares : List Share) (i j : ℕ) (c d : Cause) → LineFails has above shares i c → LineFails has above shares j d → (i ≡ j) × (c ≡ d)
  lines_once above _ _ _ _ _ (first_line share shares c f) (first_line _ _ d g) = (refl, share_once above share c d f g)
  lines_once above _ _ _ _ _ (first_line share shares c f) (later_line _ _ j d row k n g) = absurd (share_excluded has above share share.of row c refl k n f)
  lines_once above _ _ _ _ _ (later_line share shares i c row k n f) (first_line _ _ d g) = absurd (share_excluded has above share share.of row d refl k n g)
  lines_once above _ _ _ _ _ (later_line share shares i c row k n f) (later_line _ _ j d other l m g) =
      let rest : (i ≡ j) × (c ≡ d) = lines_once above shares i j c d f g in
      (ap (λ n. suc n) rest.0, rest.1)

  next_line : (i j : ℕ) (c d : Cause) → (i ≡ j) × (c ≡ d) → (suc i ≡ suc j) × (c ≡ d)
  next_line i j c d h = (ap (λ n. suc n) h.0, h.1)

  module _ (once : (name : Name) (a b : Sum) → has name a → has name b → a ≡ b) (goal : Goal) where
    same_coefficient : (above : List Sum) (shares : List Share) (c d : Sum) (w : Var) → Combined has above shares c → Combined has above shares d
        → coefficient w c.terms ≡ coefficient w d.terms
    same_coefficient above shares c d w s t = ap (λ z. coefficient w z.terms) (combined_once has once above shares c d s t)

    sum_or_small : (above : List Sum) (shares : List Share) (over : ℤ) (c d : Sum) (v u : Var) (g h : ℤ) (w : Var) → goal ≡ Least v g → goal ≡ Least u h
        → Combined has above shares c → Combined has above shares d → (coefficient w c.terms ≡ only_if (same_var w v) over → ⊥)
        → ((w : Var) → coefficient w d.terms ≡ only_if (same_var w u) over) → ⊥
    sum_or_small above shares over c d v u g h w e r s t f l =
        f (same_coefficient above shares c d w s t ∙ l w ∙ ap (λ z. only_if (same_var w z) over) (sym (leaves_nothing_of has v u g h (sym e ∙ r)).0))

    -- a node fails at one line, by one cause
    pub fails_once : (above : List Sum) (node : Node) (k j : ℕ) (c d : Cause) → Fails has goal above node k c → Fails has goal above node j d → (k ≡ j) × (c ≡ d)
    fails_once above _ _ _ _ _ (cut_line over shares i c f) (cut_line _ _ j d g) = next_line i j c d (lines_once above shares i j c d f g)
    fails_once above _ _ _ _ _ (cut_line over shares i c f) (cut_sum _ _ b t g) = absurd (lines_excluded has above shares b i c t f)
    fails_once above _ _ _ _ _ (cut_sum over shares a s f) (cut_line _ _ j d g) = absurd (lines_excluded has above shares a j d s g)
    fails_once above _ _ _ _ _ (cut_sum over shares a s f) (cut_sum _ _ b t g) = (refl, refl)
    fails_once above _ _ _ _ _ (empty_line over shares i c f) (empty_line _ _ j d g) = next_line i j c d (lines_once above shares i j c d f g)
    fails_once above _ _ _ _ _ (empty_line over shares i c f) (empty_sum _ _ b w t g) = absurd (lines_excluded has above shares b i c t f)
    fails_once above _ _ _ _ _ (empty_line over shares i c f) (empty_small _ _ b t l g) = absurd (lines_excluded has above shares b i c t f)
    fails_once above _ _ _ _ _ (empty_sum over shares a w s f) (empty_line _ _ j d g) = absurd (lines_excluded has above shares a j d s g)
    fails_once above _ _ _ _ _ (empty_sum over shares a w s f) (empty_sum _ _ b u t g) = (refl, refl)
    fails_once above _ _ _ _ _ (empty_sum over shares a w s f) (empty_small _ _ b t l g) = absurd (f (same_coefficient above shares a b w s t ∙ l w))
    fails_once above _ _ _ _ _ (empty_small over shares a s l f) (empty_line _ _ j d g) = absurd (lines_excluded has above shares a j d s g)
    fails_once above _ _ _ _ _ (empty_small over shares a s l f) (empty_sum _ _ b w t g) = absurd (g (same_coefficient above shares b a w t s ∙ l w))
    fails_once above _ _ _ _ _ (empty_small over shares a s l f) (empty_small _ _ b t m g) = (refl, refl)
    fails_once above _ _ _ _ _ (wrong_leaf over shares r) (wrong_leaf _ _ q) = (refl, refl)
    fails_once above _ _ _ _ _ (wrong_leaf over shares r) (bound_line _ _ v g j d e f) = absurd (no_refutation has v g (sym e ∙ r))
    fails_once above _ _ _ _ _ (wrong_leaf over shares r) (bound_sum _ _ b v g w e t f) = absurd (no_refutation has v g (sym e ∙ r))
    fails_once above _ _ _ _ _ (wrong_leaf over shares r) (bound_small _ _ b v g e t l f) = absurd (no_refutation has v g (sym e ∙ r))
    fails_once above _ _ _ _ _ (bound_line over shares v g i c e f) (wrong_leaf _ _ r) = absurd (no_refutation has v g (sym e ∙ r))
    fails_once above _ _ _ _ _ (bound_line over shares v g i c e f) (bound_line _ _ u h j d q k) = next_line i j c d (lines_once above shares i j c d f k)
    fails_once above _ _ _ _ _ (bound_line over shares v g i c e f) (bound_sum _ _ b u h w q t k) = absurd (lines_excluded has above shares b i c t f)
    fails_once above _ _ _ _ _ (bound_line over shares v g i c e f) (bound_small _ _ b u h q t l k) = absurd (lines_excluded has above shares b i c t f)
    fails_once above _ _ _ _ _ (bound_sum over shares a v g w e s f) (wrong_leaf _ _ r) = absurd (no_refutation has v g (sym e ∙ r))
    fails_once above _ _ _ _ _ (bound_sum over shares a v g w e s f) (bound_line _ _ u h j d q k) = absurd (lines_excluded has above shares a j d s k)
    fails_once above _ _ _ _ _ (bound_sum over shares a v g w e s f) (bound_sum _ _ b u h x q t k) = (refl, refl)
    fails_once above _ _ _ _ _ (bound_sum over shares a v g w e s f) (bound_small _ _ b u h q t l k) =
        absurd (sum_or_small above shares over a b v u g h w e q s t f l)
    fails_once above _ _ _ _ _ (bound_small over shares a v g e s l f) (wrong_leaf _ _ r) = absurd (no_refutation has v g (sym e ∙ r))
    fails_once above _ _ _ _ _ (bound_small over shares a v g e s l f) (bound_line _ _ u h j d q k) = absurd (lines_excluded has above shares a j d s k)
    fails_once above _ _ _ _ _ (bound_small over shares a v g e s l f) (bound_sum _ _ b u h w q t k) =
        absurd (sum_or_small above shares over b a u v h g w q e t s k l)
    fails_once above _ _ _ _ _ (bound_small over shares a v g e s l f) (bound_small _ _ b u h q t m k) = (refl, refl)

    children_alike : (rows others : List Sum) (node : Node) (children beside stack waiting : List (List Sum)) → AllAlike rows others → StacksAlike stack waiting
        → Leaves has goal rows node children → Leaves has goal others node beside → StacksAlike (children ++ stack) (beside ++ waiting)
    children_alike rows others _ _ _ stack waiting h k (two v n) (two _ _) =
        and_stack (rows ++ down v n ∷ []) (others ++ down v n ∷ []) ((rows ++ up v n ∷ []) ∷ stack) ((others ++ up v n ∷ []) ∷ waiting)
        (all_alike_more rows others (down v n) (down v n) h (alike_self (down v n)))
        (and_stack (rows ++ up v n ∷ []) (others ++ up v n ∷ []) stack waiting (all_alike_more rows others (up v n) (up v n) h (alike_self (up v n))) k)
    children_alike rows others _ _ _ stack waiting h k (one over shares c row p s w) (one _ _ d other q t x) =
        let o : (b : Sum) × Combined has others shares b × Alike c b = combined_alike has rows others shares c h s in
        let y : IsWholeRow has d over row = subst (λ z. IsWholeRow has z over row) (combined_once has once others shares o.0 d o.1 t) (whole_alike has c o.0 over row o.2 w) in
        and_stack (rows ++ row ∷ []) (others ++ other ∷ []) stack waiting (all_alike_more rows others row other h (whole_once has d over row other p y x)) k
    children_alike rows others _ _ _ stack waiting h k (no_more over shares c v g e p s b) (no_more _ _ _ _ _ _ _ _ _) = k
    children_alike rows others _ _ _ stack waiting h k (none_left over shares c p s b) (none_left _ _ _ _ _ _) = k

    -- there is one first fault at most
    pub fault_once : (stack : List (List Sum)) (nodes : List Node) (line i : ℕ) (c : Cause) (beside : List (List Sum)) (j : ℕ) (d : Cause)
        → StacksAlike stack beside → FirstFault has goal stack nodes line i c → FirstFault has goal beside nodes line j d → (i ≡ j) × (c ≡ d)
    fault_once _ _ _ _ _ _ _ _ no_stack f g = elim f [ ]
    fault_once _ _ _ _ _ _ _ _ (and_stack rows others stack beside h s) (here _ _ node nodes line k c f) (here _ _ _ _ _ m d g) =
        let one : (m ≡ k) × (d ≡ c) = fails_once others node m k d c g (fails_alike goal rows others node k c h f) in
        (ap (λ n. line + n) (sym one.0), sym one.1)
    fault_once _ _ _ _ _ _ _ _ (and_stack rows others stack beside h s) (here _ _ node nodes line k c f) (later _ _ children _ _ _ j d l g) =
        absurd (node_excluded has once goal others node children k c l (fails_alike goal rows others node k c h f))
    fault_once _ _ _ _ _ _ _ _ (and_stack rows others stack beside h s) (later _ _ children node nodes line i c l f) (here _ _ _ _ _ m d g) =
        let o : (under : List (List Sum)) × Leaves has goal others node under × ((a b : List (List Sum)) → StacksAlike a b → StacksAlike (children ++ a) (under ++ b)) =
        leaves_alike goal rows others node children h l in
        absurd (node_excluded has once goal others node o.0 m d o.1 g)
    fault_once _ _ _ _ _ _ _ _ (and_stack rows others stack beside h s) (later _ _ children node nodes line i c l f) (later _ _ under _ _ _ j d m g) =
        fault_once (children ++ stack) nodes (line + 1 + lines node) i c (under ++ beside) j d (children_alike rows others node children under stack beside h s l m) f g

some_row : (a b : Row) → Some a ≡ Some b → a ≡ b
some_row a b e = ap (λ o. row_or o) e
  where
    row_or : Option Row → Row
    row_or (Some row) = row
    row_or None = a

row_once : (row_of : Name → Option Row) (name : Name) (a b : Sum) → HasRow row_of name a → HasRow row_of name b → a ≡ b
row_once row_of name a b h k = h.is ∙ ap (λ r. sum_of r) (some_row h.row k.row (sym h.has ∙ k.has)) ∙ sym k.is

pub excludes : FaultExcludes
excludes row_of goal nodes line i cause p f =
    fault_excluded (HasRow row_of) (row_once row_of) goal ([] ∷ []) nodes line i cause (proof_stacked (HasRow row_of) goal nodes p) f

pub one_fault : OneFault
one_fault row_of goal nodes line i j c d f g =
    fault_once (HasRow row_of) (row_once row_of) goal ([] ∷ []) nodes line i c ([] ∷ []) j d (stacks_alike_self ([] ∷ [])) f g
