-- Weaker goals: a refutation proves every goal, and a bound proves each lower bound.
use Rattle.std.proofs.Common.{◌≡◌, ℤ, pos, ◌-ℤ◌, ◌≤ℤ◌, List, [], ◌∷◌, ◌++◌, refl, sym, subst, arith}
use Rattle.std.proofs.lemmas.Int.{ints}
use Rattle.rt_rows.specs.declared.row.Var.{Var}
use Rattle.rt_rows.specs.declared.name.Name.{Name}
use Rattle.rt_rows.specs.declared.proof.Node.{Node}
use Rattle.rt_proofs.specs.Forms.{Sum}
use Rattle.rt_proofs.specs.Trees.{Goal, down, up, IsBound, Tree, Proof}
use Rattle.rt_proofs.specs.Trees.Goal.{Least, Refute}
use Rattle.rt_proofs.specs.Trees.Tree.{branch, cut, bound, empty}
use Rattle.rt_proofs.proofs.Rounding.{right_le}

-- the second goal follows from the first one
abbrev pub Follows : Goal → Goal → Type 0
Follows Refute weaker = Unit {0}
Follows (Least v g) (Least w h) = (w ≡ v) × (h ≤ℤ g)
Follows (Least v g) Refute = ⊥

lower_bound : (has : Name → Sum → Type 0) (v : Var) (g h over : ℤ) (c : Sum) → pos 1 ≤ℤ over → h ≤ℤ g → IsBound has v g over c → IsBound has v h over c
lower_bound has v g h over c k l b = record {
  left = b.left;
  right = omega (arith, ints, b.right, right_le over (h -ℤ pos 1) (g -ℤ pos 1) k (omega (arith, ints, l)));
}

module _ (has : Name → Sum → Type 0) (above : List Sum) where
  -- a leaf that bounds the one goal bounds the weaker one
  pub leaf_bound : (weaker : Goal) (over : ℤ) (c : Sum) (v : Var) (g : ℤ) → Follows (Least v g) weaker → pos 1 ≤ℤ over → IsBound has v g over c
      → (w : Var) × (h : ℤ) × (weaker ≡ Least w h) × IsBound has w h over c
  leaf_bound (Least w h) over c v g f k b =
      (w, h, refl, subst (λ u. IsBound has u h over c) (sym f.0) (lower_bound has v g h over c k f.1 b))
  leaf_bound Refute over c v g f k b = absurd f

-- a proof of a goal proves a weaker one
pub weaken : (has : Name → Sum → Type 0) (goal weaker : Goal) → Follows goal weaker → (above : List Sum) (nodes rest : List Node)
    → Tree has goal above nodes rest → Tree has weaker above nodes rest
weaken has goal weaker f _ _ _ (branch above v n nodes mid rest low high) =
    branch above v n nodes mid rest (weaken has goal weaker f (above ++ down v n ∷ []) nodes mid low) (weaken has goal weaker f (above ++ up v n ∷ []) mid rest high)
weaken has goal weaker f _ _ _ (cut above over shares nodes rest c row k s w t) =
    cut above over shares nodes rest c row k s w (weaken has goal weaker f (above ++ row ∷ []) nodes rest t)
weaken has goal weaker f _ _ _ (bound above over shares rest c v g e k s b) =
    let leaf : (w : Var) × (h : ℤ) × (weaker ≡ Least w h) × IsBound has w h over c =
    leaf_bound has above weaker over c v g (subst (λ o. Follows o weaker) e f) k b in
    bound above over shares rest c leaf.0 leaf.1 leaf.2 k s leaf.3
weaken has goal weaker f _ _ _ (empty above over shares rest c k s e) = empty above over shares rest c k s e

pub refutation_proves : (has : Name → Sum → Type 0) (goal : Goal) (nodes : List Node) → Proof has Refute nodes → Proof has goal nodes
refutation_proves has goal nodes p = weaken has Refute goal tt [] nodes [] p

pub lower_proves : (has : Name → Sum → Type 0) (v : Var) (g h : ℤ) (nodes : List Node) → h ≤ℤ g → Proof has (Least v g) nodes → Proof has (Least v h) nodes
lower_proves has v g h nodes l p = weaken has (Least v g) (Least v h) (refl, l) [] nodes [] p
