-- A proof bounds every assignment that meets the template.
use Rattle.std.proofs.Common.{◌≡◌, ℕ, zero, suc, ℤ, pos, ◌≤ℤ◌, ◌<ℤ◌, List, [], ◌∷◌, ◌++◌, Option, Some, None, slice_get, sym, ap, subst, ◌∙◌, arith}
use Rattle.std.proofs.lemmas.Int.{ints, by_lt_z}
use Rattle.rt_cells.proofs.Times.{times_le}
use Rattle.rt_proofs.proofs.Products.{times_comm}
use Rattle.rt_rows.specs.declared.row.Var.{Var}
use Rattle.rt_rows.specs.declared.row.Row.{Row}
use Rattle.rt_rows.specs.declared.name.Name.{Name}
use Rattle.rt_rows.specs.declared.proof.Of.{Of}
use Rattle.rt_rows.specs.declared.proof.Share.{Share}
use Rattle.rt_rows.specs.declared.proof.Node.{Node}
use Rattle.rt_proofs.specs.Forms.{value, coefficient, scale, Sum, Meets}
use Rattle.rt_proofs.specs.Trees.{Goal, down, up, Named, Combined, IsWholeRow, IsBound, IsEmpty, Tree, Proof}
use Rattle.rt_proofs.specs.Trees.Goal.{Least, Refute}
use Rattle.rt_proofs.specs.Trees.Named.{of_template, of_above}
use Rattle.rt_proofs.specs.Trees.Combined.{none, more}
use Rattle.rt_proofs.specs.Trees.Tree.{branch, cut, bound, empty}
use Rattle.rt_proofs.specs.Laws.{HasRow, MeetsAll, MeetsRows, ProofBounds, RefutationRefutes}
use Rattle.rt_proofs.proofs.Values.{value-append, value-scale, coefficient-scale, value_alike, value_nothing}
use Rattle.rt_proofs.proofs.Given.{meets_sum}
use Rattle.rt_proofs.proofs.Rounding.{at_least_from, rounded_below}

-- the values meet each of the rows above
pub data MeetsEach (at : Var → ℤ) : List Sum → Type 0 where
  no_row : MeetsEach at []
  and_row : (row : Sum) (rows : List Sum) → Meets at row → MeetsEach at rows → MeetsEach at (row ∷ rows)

pub one_more : (at : Var → ℤ) (rows : List Sum) (row : Sum) → MeetsEach at rows → Meets at row → MeetsEach at (rows ++ row ∷ [])
one_more at _ row no_row k = and_row row [] k no_row
one_more at _ row (and_row first rows h hs) k = and_row first (rows ++ row ∷ []) h (one_more at rows row hs k)

-- what the values show of the goal: the bound, or a contradiction
abbrev pub Reached : (Var → ℤ) → Goal → Type 0
Reached at (Least v g) = g ≤ℤ at v
Reached at Refute = ⊥

abbrev Missing : Option Sum → Type 0
Missing None = Unit {0}
Missing (Some row) = ⊥

not_there : (row : Sum) → None ≡ Some row → ⊥
not_there row e = subst (λ o. Missing o) e tt

module _ (has : Name → Sum → Type 0) (at : Var → ℤ) (all : MeetsAll has at) where
  found : (rows : List Sum) (d : ℕ) (row : Sum) → MeetsEach at rows → slice_get rows d ≡ Some row → Meets at row
  found _ d row no_row e = absurd (not_there row e)
  found _ zero row (and_row first rows h hs) e = subst (λ r. Meets at r) (some_same first row e) h
    where
      some_same : (a b : Sum) → Some a ≡ Some b → a ≡ b
      some_same a b e = ap (λ o. elim o [ Some x ↦ x | None ↦ a ]) e
  found _ (suc d) row (and_row first rows h hs) e = found rows d row hs e

  -- a row that a line names is met
  pub named_met : (above : List Sum) (of : Of) (row : Sum) → MeetsEach at above → Named has above of row → Meets at row
  named_met above _ row h (of_template name _ t) = all name row t
  named_met above _ row h (of_above d _ e) = found above d row h e

  -- a combination is met
  pub combined_met : (above : List Sum) (shares : List Share) (c : Sum) → MeetsEach at above → Combined has above shares c → c.least ≤ℤ value at c.terms
  combined_met above _ _ h none = omega (arith, ints)
  combined_met above _ _ h (more share shares row rest k n s) =
      let one : row.least ≤ℤ value at row.terms = (named_met above share.of row h n).holds in
      omega (
        arith,
        ints,
        times_le share.times row.least (value at row.terms) k one,
        combined_met above shares rest h s,
        value-append at (scale share.times row.terms) rest.terms,
        value-scale at share.times row.terms,
      )

  -- the row of a Cut is met
  pub cut_met : (above : List Sum) (over : ℤ) (shares : List Share) (c row : Sum) → MeetsEach at above → pos 1 ≤ℤ over
      → Combined has above shares c → IsWholeRow has c over row → Meets at row
  cut_met above over shares c row h k s w =
      let same : value at (scale over row.terms) ≡ value at c.terms = value_alike at (scale over row.terms) c.terms
      (λ v. coefficient-scale v over row.terms ∙ times_comm over (coefficient v row.terms) ∙ w.whole v) in
      record {
        holds = rounded_below over c.least row.least (value at row.terms) k w.rounded
            (omega (arith, ints, combined_met above shares c h s, same, value-scale at over row.terms, times_comm over (value at row.terms)));
      }

  down_met : (v : Var) (n : ℤ) → at v ≤ℤ n → Meets at (down v n)
  down_met v n h = record { holds = omega (arith, ints, h) }

  up_met : (v : Var) (n : ℤ) → n <ℤ at v → Meets at (up v n)
  up_met v n h = record { holds = omega (arith, ints, h) }

  -- a bound holds of the values
  pub bound_met : (above : List Sum) (over : ℤ) (shares : List Share) (c : Sum) (v : Var) (g : ℤ) → MeetsEach at above → pos 1 ≤ℤ over
      → Combined has above shares c → IsBound has v g over c → g ≤ℤ at v
  bound_met above over shares c v g h k s b =
      let same : value at (record { var = v; times = over } ∷ []) ≡ value at c.terms = value_alike at (record { var = v; times = over } ∷ []) c.terms
      (λ w. omega (arith, ints, b.left w)) in
      at_least_from over g (at v) c.least k b.right (omega (arith, ints, combined_met above shares c h s, same, times_comm over (at v)))

  pub empty_met : (above : List Sum) (shares : List Share) (c : Sum) → MeetsEach at above → Combined has above shares c → IsEmpty has c → ⊥
  empty_met above shares c h s e = omega (arith, ints, combined_met above shares c h s, value_nothing at c.terms e.left, e.right)

  -- a tree shows its goal of all values that meet the rows above
  pub tree_reached : (goal : Goal) (above : List Sum) (nodes rest : List Node) → MeetsEach at above → Tree has goal above nodes rest → Reached at goal
  tree_reached goal _ _ _ h (branch above v n nodes mid rest low high) =
      by_lt_z n (at v)
      (λ l. tree_reached goal (above ++ up v n ∷ []) mid rest (one_more at above (up v n) h (up_met v n l)) high)
      (λ l. tree_reached goal (above ++ down v n ∷ []) nodes mid (one_more at above (down v n) h (down_met v n l)) low)
  tree_reached goal _ _ _ h (cut above over shares nodes rest c row k s w t) =
      tree_reached goal (above ++ row ∷ []) nodes rest (one_more at above row h (cut_met above over shares c row h k s w)) t
  tree_reached goal _ _ _ h (bound above over shares rest c v g e k s b) = reached_by goal v g e (bound_met above over shares c v g h k s b)
    where
      reached_by : (goal : Goal) (v : Var) (g : ℤ) → goal ≡ Least v g → g ≤ℤ at v → Reached at goal
      reached_by goal v g e l = subst (λ o. Reached at o) (sym e) l
  tree_reached goal _ _ _ h (empty above over shares rest c k s e) = absurd (empty_met above shares c h s e)

  pub least_reached : (v : Var) (g : ℤ) (nodes : List Node) → Proof has (Least v g) nodes → g ≤ℤ at v
  least_reached v g nodes p = tree_reached (Least v g) [] nodes [] no_row p

  pub refuted : (nodes : List Node) → Proof has Refute nodes → ⊥
  refuted nodes p = tree_reached Refute [] nodes [] no_row p

rows_met : (row_of : Name → Option Row) (at : Var → ℤ) → MeetsRows row_of at → MeetsAll (HasRow row_of) at
rows_met row_of at all name row h = subst (λ r. Meets at r) (sym h.is) (meets_sum at h.row (all name h.row h.has))

pub bounds : ProofBounds
bounds row_of v g nodes p at all = least_reached (HasRow row_of) at (rows_met row_of at all) v g nodes p

pub refutes : RefutationRefutes
refutes row_of nodes p at all = refuted (HasRow row_of) at (rows_met row_of at all) nodes p
