-- Rows along a chain add up to a bound on its last variable, and rows around a circle with a gain to a refutation.
use Rattle.std.proofs.Common.{◌≡◌, ℤ, pos, ◌+ℤ◌, ◌*ℤ◌, ◌≤ℤ◌, List, [], ◌∷◌, ◌++◌, Option, Some, None, refl, arith}
use Rattle.std.proofs.lemmas.Int.{ints}
use Rattle.rt_rows.specs.declared.row.Var.{Var}
use Rattle.rt_rows.specs.declared.name.Name.{Name}
use Rattle.rt_rows.specs.declared.proof.Share.{Share}
use Rattle.rt_rows.specs.declared.proof.Node.TheVariants.{Bound, Empty}
use Rattle.rt_proofs.specs.Forms.{coefficient, scale, Sum}
use Rattle.rt_proofs.specs.Trees.{Named, Combined, nothing, joined, Proof}
use Rattle.rt_proofs.specs.Trees.Goal.{Least, Refute}
use Rattle.rt_proofs.specs.Trees.Named.{of_template}
use Rattle.rt_proofs.specs.Trees.Combined.{none, more}
use Rattle.rt_proofs.specs.Trees.Tree.{bound, empty}
use Rattle.rt_proofs.proofs.Values.{coefficient-append, coefficient-scale}
use Rattle.rt_path.specs.Chains.{IsArc, once, AddUp}

module _ (has : Name → Sum → Type 0) where
  -- shares with one more at the end
  record IsMore (shares : List Share) (share : Share) (before row : Sum) : Type 0 where
    combined : Sum
    adds : Combined has [] (shares ++ share ∷ []) combined
    left : (w : Var) → coefficient w combined.terms ≡ coefficient w before.terms +ℤ share.times *ℤ coefficient w row.terms
    right : combined.least ≡ before.least +ℤ share.times *ℤ row.least

  one_at_end : (shares : List Share) (share : Share) (before row : Sum) → pos 0 ≤ℤ share.times → Named has [] share.of row
      → Combined has [] shares before → IsMore shares share before row
  one_at_end _ share _ row k n none = record {
    combined = joined share.times row nothing;
    adds = more share [] row nothing k n none;
    left = λ w. omega (arith, ints, coefficient-append w (scale share.times row.terms) [], coefficient-scale w share.times row.terms);
    right = omega (arith, ints);
  }
  one_at_end _ share _ row k n (more share0 shares row0 rest k0 n0 s) =
      let h = one_at_end shares share rest row k n s in
      record {
        combined = joined share0.times row0 h.combined;
        adds = more share0 (shares ++ share ∷ []) row0 h.combined k0 n0 h.adds;
        left = λ w. omega (
          arith,
          ints,
          coefficient-append w (scale share0.times row0.terms) h.combined.terms,
          coefficient-append w (scale share0.times row0.terms) rest.terms,
          h.left w,
        );
        right = omega (arith, ints, h.right);
      }

  -- no shares lead nowhere
  pub no_shares : (at : Option Var) → AddUp has [] at at (pos 0)
  no_shares at = record {
    combined = nothing;
    adds = none;
    arc = record { left = λ w. omega (arith, ints); right = refl };
  }

  -- one row more lengthens the chain at its tail
  pub one_share : (shares : List Share) (name : Name) (row : Sum) (start tail head : Option Var) (by gain : ℤ) → has name row → IsArc row start tail by
      → AddUp has shares tail head gain → AddUp has (shares ++ once name ∷ []) start head (gain +ℤ by)
  one_share shares name row start tail head by gain h arc sum =
      let m = one_at_end shares (once name) sum.combined row (omega (arith, ints)) (of_template name row h) sum.adds in
      record {
        combined = m.combined;
        adds = m.adds;
        arc = record {
          left = λ w. omega (arith, ints, m.left w, arc.left w, sum.arc.left w);
          right = omega (arith, ints, m.right, arc.right, sum.arc.right);
        };
      }

  -- a chain from the origin is a proof of its last value
  pub chain_proves : (shares : List Share) (v : Var) (gain : ℤ) → AddUp has shares None (Some v) gain
      → Proof has (Least v gain) (Bound (pos 1) shares ∷ [])
  chain_proves shares v gain sum =
      bound [] (pos 1) shares [] sum.combined v gain refl (omega (arith, ints)) sum.adds (record {
        left = λ w. omega (arith, ints, sum.arc.left w);
        right = omega (arith, ints, sum.arc.right);
      })

  -- a circle with a gain is a refutation
  pub circle_refutes : (shares : List Share) (at : Option Var) (gain : ℤ) → pos 1 ≤ℤ gain → AddUp has shares at at gain
      → Proof has Refute (Empty (pos 1) shares ∷ [])
  circle_refutes shares at gain k sum =
      empty [] (pos 1) shares [] sum.combined (omega (arith, ints)) sum.adds (record {
        left = λ w. omega (arith, ints, sum.arc.left w);
        right = omega (arith, ints, sum.arc.right, k);
      })
