-- A proof depends on the coefficients and the right sides of rows alone, not on the order of their terms.
use Rattle.std.proofs.Common.{◌≡◌, ℕ, zero, suc, ℤ, pos, ◌*ℤ◌, ◌≤ℤ◌, List, [], ◌∷◌, ◌++◌, Option, Some, None, slice_get, refl, sym, ap, subst, ◌∙◌, arith}
use Rattle.std.proofs.lemmas.Int.{ints}
use Rattle.rt_cells.proofs.Times.{times_cancel_le}
use Rattle.rt_proofs.proofs.Products.{times_comm}
use Rattle.rt_rows.specs.declared.row.Var.{Var}
use Rattle.rt_rows.specs.declared.name.Name.{Name}
use Rattle.rt_rows.specs.declared.proof.Of.{Of}
use Rattle.rt_rows.specs.declared.proof.Share.{Share}
use Rattle.rt_rows.specs.declared.proof.Node.{Node}
use Rattle.rt_rows.specs.declared.proof.Node.TheVariants.{Cut}
use Rattle.rt_proofs.specs.Forms.{coefficient, scale, Sum}
use Rattle.rt_proofs.specs.Trees.{Goal, down, up, nothing, joined, Named, Combined, IsWholeRow, Tree, Stacked}
use Rattle.rt_proofs.specs.Trees.Named.{of_template, of_above}
use Rattle.rt_proofs.specs.Trees.Combined.{none, more}
use Rattle.rt_proofs.specs.Trees.Tree.{branch, cut, bound, empty}
use Rattle.rt_proofs.proofs.Values.{coefficient-append, coefficient-scale}
use Rattle.rt_proofs.proofs.Rounding.{rounded_once}

-- the rows have the same coefficients and the same right side
pub record Alike (a b : Sum) : Type 0 where
  pub terms : (v : Var) → coefficient v a.terms ≡ coefficient v b.terms
  pub least : a.least ≡ b.least

pub alike_self : (a : Sum) → Alike a a
alike_self a = record { terms = λ v. refl; least = refl }

pub data AllAlike : List Sum → List Sum → Type 0 where
  no_rows : AllAlike [] []
  and_rows : (a b : Sum) (rows others : List Sum) → Alike a b → AllAlike rows others → AllAlike (a ∷ rows) (b ∷ others)

pub all_alike_self : (rows : List Sum) → AllAlike rows rows
all_alike_self [] = no_rows
all_alike_self (a ∷ rows) = and_rows a a rows rows (alike_self a) (all_alike_self rows)

pub all_alike_more : (rows others : List Sum) (a b : Sum) → AllAlike rows others → Alike a b → AllAlike (rows ++ a ∷ []) (others ++ b ∷ [])
all_alike_more _ _ a b no_rows h = and_rows a b [] [] h no_rows
all_alike_more _ _ a b (and_rows c d rows others k ks) h = and_rows c d (rows ++ a ∷ []) (others ++ b ∷ []) k (all_alike_more rows others a b ks h)

abbrev the_row : Sum → Option Sum → Sum
the_row other (Some row) = row
the_row other None = other

some_same : (a b : Sum) → Some a ≡ Some b → a ≡ b
some_same a b e = ap (λ o. the_row a o) e

abbrev Missing : Option Sum → Type 0
Missing None = Unit {0}
Missing (Some row) = ⊥

found_alike : (rows others : List Sum) (d : ℕ) (a : Sum) → AllAlike rows others → slice_get rows d ≡ Some a → (b : Sum) × (slice_get others d ≡ Some b) × Alike a b
found_alike _ _ d a no_rows e = absurd (subst (λ o. Missing o) e tt)
found_alike _ _ zero a (and_rows c d rows others k ks) e = (d, refl, subst (λ r. Alike r d) (some_same c a e) k)
found_alike _ _ (suc n) a (and_rows c d rows others k ks) e = found_alike rows others n a ks e

joined_alike : (times : ℤ) (a b c d : Sum) → Alike a b → Alike c d → Alike (joined times a c) (joined times b d)
joined_alike times a b c d h k = record {
  terms = λ v. omega (
    arith,
    ints,
    coefficient-append v (scale times a.terms) c.terms,
    coefficient-append v (scale times b.terms) d.terms,
    coefficient-scale v times a.terms,
    coefficient-scale v times b.terms,
    ap (λ z. times *ℤ z) (h.terms v),
    k.terms v,
  );
  least = omega (arith, ints, ap (λ z. times *ℤ z) h.least, k.least);
}

-- a positive factor on the right of both sides may be left out
pub right_cancel : (d a b : ℤ) → pos 1 ≤ℤ d → a *ℤ d ≡ b *ℤ d → a ≡ b
right_cancel d a b h e =
    let up : a ≤ℤ b = times_cancel_le d a b h (omega (arith, ints, e, times_comm d a, times_comm d b)) in
    let down : b ≤ℤ a = times_cancel_le d b a h (omega (arith, ints, e, times_comm d a, times_comm d b)) in
    omega (arith, ints, up, down)

module _ (has : Name → Sum → Type 0) where
  pub named_alike : (rows others : List Sum) (of : Of) (a : Sum) → AllAlike rows others → Named has rows of a → (b : Sum) × Named has others of b × Alike a b
  named_alike rows others _ a h (of_template name _ t) = (a, of_template name a t, alike_self a)
  named_alike rows others _ a h (of_above d _ e) =
      let other : (b : Sum) × (slice_get others d ≡ Some b) × Alike a b = found_alike rows others d a h e in
      (other.0, of_above d other.0 other.1, other.2)

  pub combined_alike : (rows others : List Sum) (shares : List Share) (c : Sum) → AllAlike rows others → Combined has rows shares c
      → (d : Sum) × Combined has others shares d × Alike c d
  combined_alike rows others _ _ h none = (nothing, none, alike_self nothing)
  combined_alike rows others _ _ h (more share shares row rest k n s) =
      let one : (b : Sum) × Named has others share.of b × Alike row b = named_alike rows others share.of row h n in
      let beyond : (d : Sum) × Combined has others shares d × Alike rest d = combined_alike rows others shares rest h s in
      (joined share.times one.0 beyond.0, more share shares one.0 beyond.0 k one.1 beyond.1, joined_alike share.times row one.0 rest beyond.0 one.2 beyond.2)

  pub whole_alike : (c d : Sum) (over : ℤ) (row : Sum) → Alike c d → IsWholeRow has c over row → IsWholeRow has d over row
  whole_alike c d over row h w = record {
    whole = λ v. w.whole v ∙ h.terms v;
    few = w.few;
    rounded = record { above = omega (arith, ints, w.rounded.above, h.least); within = omega (arith, ints, w.rounded.within, h.least) };
    small = w.small;
  }

  -- two rows of one Cut are alike
  pub whole_once : (c : Sum) (over : ℤ) (a b : Sum) → pos 1 ≤ℤ over → IsWholeRow has c over a → IsWholeRow has c over b → Alike a b
  whole_once c over a b k w x = record {
    terms = λ v. right_cancel over (coefficient v a.terms) (coefficient v b.terms) k (w.whole v ∙ sym (x.whole v));
    least = rounded_once over c.least a.least b.least k w.rounded x.rounded;
  }

  -- a proof under rows is one under rows that are alike
  pub tree_alike : (goal : Goal) (rows : List Sum) (nodes rest : List Node) (others : List Sum) → AllAlike rows others → Tree has goal rows nodes rest → Tree has goal others nodes rest
  tree_alike goal _ _ _ others h (branch rows v n nodes mid rest low high) =
      branch others v n nodes mid rest
      (tree_alike goal (rows ++ down v n ∷ []) nodes mid (others ++ down v n ∷ []) (all_alike_more rows others (down v n) (down v n) h (alike_self (down v n))) low)
      (tree_alike goal (rows ++ up v n ∷ []) mid rest (others ++ up v n ∷ []) (all_alike_more rows others (up v n) (up v n) h (alike_self (up v n))) high)
  tree_alike goal _ _ _ others h (cut rows over shares nodes rest c row k s w t) =
      let other : (d : Sum) × Combined has others shares d × Alike c d = combined_alike rows others shares c h s in
      cut others over shares nodes rest other.0 row k other.1 (whole_alike c other.0 over row other.2 w)
      (tree_alike goal (rows ++ row ∷ []) nodes rest (others ++ row ∷ []) (all_alike_more rows others row row h (alike_self row)) t)
  tree_alike goal _ _ _ others h (bound rows over shares rest c v g e k s b) =
      let other : (d : Sum) × Combined has others shares d × Alike c d = combined_alike rows others shares c h s in
      bound others over shares rest other.0 v g e k other.1
      (record { left = λ w. sym (other.2.terms w) ∙ b.left w; right = omega (arith, ints, b.right, other.2.least) })
  tree_alike goal _ _ _ others h (empty rows over shares rest c k s e) =
      let other : (d : Sum) × Combined has others shares d × Alike c d = combined_alike rows others shares c h s in
      empty others over shares rest other.0 k other.1
      (record { left = λ w. sym (other.2.terms w) ∙ e.left w; right = omega (arith, ints, e.right, other.2.least) })

  module _ (once : (name : Name) (a b : Sum) → has name a → has name b → a ≡ b) where
    named_once : (rows : List Sum) (of : Of) (a b : Sum) → Named has rows of a → Named has rows of b → a ≡ b
    named_once rows _ a b (of_template name _ t) (of_template _ _ u) = once name a b t u
    named_once rows _ a b (of_above d _ e) (of_above _ _ f) = some_same a b (sym e ∙ f)

    -- lines have one combination, where a name has one row
    pub combined_once : (rows : List Sum) (shares : List Share) (c d : Sum) → Combined has rows shares c → Combined has rows shares d → c ≡ d
    combined_once rows _ _ _ none none = refl
    combined_once rows _ _ _ (more share shares row rest k n s) (more _ _ row2 rest2 l m t) =
        ap (λ r. joined share.times r rest) (named_once rows share.of row row2 n m) ∙ ap (λ r. joined share.times row2 r) (combined_once rows shares rest rest2 s t)

    -- behind a Cut any row will do that is its combination, divided and rounded up
    pub cut_stacked : (goal : Goal) (above : List Sum) (stack : List (List Sum)) (over : ℤ) (shares : List Share) (nodes : List Node) (c row : Sum)
        → Combined has above shares c → IsWholeRow has c over row → Stacked has goal (above ∷ stack) (Cut over shares ∷ nodes)
        → Stacked has goal ((above ++ row ∷ []) ∷ stack) nodes
    cut_stacked goal above stack over shares nodes c row s w h = behind above over shares nodes h.0 c row s w h.1 h.2
      where
        behind : (above : List Sum) (over : ℤ) (shares : List Share) (nodes mid : List Node) (c row : Sum) → Combined has above shares c → IsWholeRow has c over row
            → Tree has goal above (Cut over shares ∷ nodes) mid → Stacked has goal stack mid → Stacked has goal ((above ++ row ∷ []) ∷ stack) nodes
        behind _ _ _ _ _ c row s w (cut above over shares nodes mid d other k t x u) rest =
            let same : d ≡ c = combined_once above shares d c t s in (
              mid,
              tree_alike goal (above ++ other ∷ []) nodes mid (above ++ row ∷ []) (all_alike_more above above other row (all_alike_self above)
                  (whole_once c over other row k (subst (λ z. IsWholeRow has z over other) same x) w)) u,
              rest,
            )
