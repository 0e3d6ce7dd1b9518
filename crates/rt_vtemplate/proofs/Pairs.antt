-- The names that pairs of near strips tell.
use Rattle.std.proofs.Common.{◌≡◌, ℕ, ◌+◌, ◌<◌, inl, inr, ℤ, ◌≤ℤ◌, ◌<ℤ◌, List, length, get_or, All, Contains, refl, sym, subst, ◌∙◌, arith}
use Rattle.std.proofs.lemmas.Int.{ints, clamps}
use Rattle.std.proofs.lemmas.Bool.{cases_order}
use Rattle.std.proofs.lemmas.List.{get_or_default}
use Rattle.std.proofs.lemmas.List.Elements.{Contains-get_or, All-weaker, All-contains_itself}
use Rattle.rt_cells.specs.Line.{gap_of}
use Rattle.rt_rows.specs.declared.name.Name.{Name}
use Rattle.rt_rows.specs.declared.name.Name.TheVariants.{Gap}
use Rattle.rt_rows.specs.declared.row.Var.{Var}
use Rattle.rt_rows.specs.declared.row.Var.TheVariants.{L, R}
use Rattle.rt_tech.specs.Tech.{space_of}
use Rattle.rt_strips.specs.Placed.{Placed, bottom_of, top_of}
use Rattle.rt_strips.specs.StripsOf.{AreStrips}
use Rattle.rt_view.specs.declared.job.Job.{Job}
use Rattle.rt_view.specs.Job.{strips_of}
use Rattle.rt_template.specs.Horizontal.{space_between}
use Rattle.rt_template.specs.Vertical.{columns_apart}
use Rattle.rt_vtemplate.specs.Added.{AreAdded, IsOfFirst}
use Rattle.rt_vtemplate.specs.Kinds.{IsClearAbove, IsOfClear, IsOfPair, IsOfNear, IsOfTwo, AreNearStrips}
use Rattle.rt_vtemplate.specs.Steps.{no_pair, ArePaired, IsOfPairAt, ListsNearStrips}
use Rattle.rt_vtemplate.proofs.Added.{added_more, added_as}

-- the names of one more pair are added
pub pair_more : (strips : List Placed) (pairs : List (ℕ × ℕ)) (k : ℕ) (d : ℕ × ℕ) (a b c : List Name) → k < length pairs
    → AreAdded (IsOfFirst (IsOfPairAt strips pairs) k) a b → AreAdded (IsOfPair strips (get_or pairs k d).0 (get_or pairs k d).1) b c
    → AreAdded (IsOfFirst (IsOfPairAt strips pairs) (k + 1)) a c
pair_more strips pairs k d a b c h f g =
    added_more (IsOfPairAt strips pairs) k a b c f
    (subst (λ (p : ℕ × ℕ). AreAdded (IsOfPair strips p.0 p.1) b c) (get_or_default pairs k d no_pair h) g)

gap_turned : (l r l' r' : ℤ) → gap_of l r l' r' ≡ gap_of l' r' l r
gap_turned l r l' r' = omega (arith, ints, clamps)

no_higher : (b t b' t' : ℤ) → b <ℤ t → t ≤ℤ b → ⊥
no_higher b t b' t' h g = omega (arith, ints)

module _ (job : Job) (columns : Var → ℤ) where
  -- nearness has no direction
  turned : (i j : ℕ) → AreNearStrips job columns i j → AreNearStrips job columns j i
  turned i j n =
      let one = n.of_one_mask.one_mask in
      record {
        of_one_mask = record {
          one_mask = record { first = one.second; second = one.first; one_mask = sym one.one_mask };
          is_drawn = subst (λ m. m < job.view.strips.masks) one.one_mask n.of_one_mask.is_drawn;
        };
        near = subst (λ z. z <ℤ space_between job j i) (gap_turned (columns (L i)) (columns (R i)) (columns (L j)) (columns (R j)))
            (subst (λ m. columns_apart job columns i j <ℤ space_of job.target m) one.one_mask n.near);
      }

  pub near_parts : (i j : ℕ) (name : Name) → IsOfNear job columns i j name → (Gap i j ≡ name) × AreNearStrips job columns i j × IsClearAbove (strips_of job) i j
  near_parts i j name (IsOfNear.gap n c) = (refl, n, c)

  from_clear : (i j : ℕ) (name : Name) → AreNearStrips job columns i j → IsOfClear (strips_of job) i j name → IsOfNear job columns i j name
  from_clear i j name n (IsOfClear.gap c) = IsOfNear.gap n c

  -- each pair is one of strips
  pub are_paired : (pairs : List (ℕ × ℕ)) → ListsNearStrips job columns pairs → All (ArePaired (strips_of job)) pairs
  are_paired pairs lists =
      All-weaker (Contains pairs) (ArePaired (strips_of job))
      (λ p c.
      let one = ((lists.exact p.0 p.1).0 c).1.of_one_mask.one_mask in
      record { first = one.first.below_count; second = one.second.below_count })
      pairs (All-contains_itself pairs)

  module _ (are : AreStrips (strips_of job)) (pairs : List (ℕ × ℕ)) (lists : ListsNearStrips job columns pairs) where
    from_pair : (name : Name) → IsOfFirst (IsOfPairAt (strips_of job) pairs) (length pairs) name → IsOfTwo (IsOfNear job columns) name
    from_pair name k =
        let p = get_or pairs k.number no_pair in
        let n = ((lists.exact p.0 p.1).0 (Contains-get_or pairs k.number no_pair k.below)).1 in
        elim k.of_kind [
          | inl c ↦ record { first = p.0; second = p.1; of_kind = from_clear p.0 p.1 name n c }
          | inr c ↦ record { first = p.1; second = p.0; of_kind = from_clear p.1 p.0 name (turned p.0 p.1 n) c }
        ]

    listed : (i j : ℕ) (name : Name) → Contains pairs (i, j) → IsOfPair (strips_of job) i j name → IsOfFirst (IsOfPairAt (strips_of job) pairs) (length pairs) name
    listed i j name c is = record {
      number = c.0;
      below = c.1;
      of_kind = subst (λ (p : ℕ × ℕ). IsOfPair (strips_of job) p.0 p.1 name) (sym c.2 ∙ get_or_default pairs c.0 (i, j) no_pair c.1) is;
    }

    not_itself : (i j : ℕ) → AreNearStrips job columns i j → IsClearAbove (strips_of job) i j → i ≡ j → ⊥
    not_itself i j n c e =
        let one = n.of_one_mask.one_mask in
        no_higher (bottom_of (strips_of job) j) (top_of (strips_of job) j) (bottom_of (strips_of job) j) (top_of (strips_of job) j)
        (are.strips_are.nonempty j one.second).upwards
        (subst (λ k. top_of (strips_of job) k ≤ℤ bottom_of (strips_of job) j) e c.above)

    to_pair : (name : Name) → IsOfTwo (IsOfNear job columns) name → IsOfFirst (IsOfPairAt (strips_of job) pairs) (length pairs) name
    to_pair name t =
        let i = t.first in
        let j = t.second in
        let parts = near_parts i j name t.of_kind in
        let clear : IsOfClear (strips_of job) i j name = subst (IsOfClear (strips_of job) i j) parts.0 (IsOfClear.gap parts.2) in
        elim (cases_order i j) [
          | inl e ↦ absurd (not_itself i j parts.1 parts.2 e)
          | inr (inl l) ↦ listed i j name ((lists.exact i j).1 (l, parts.1)) (inl clear)
          | inr (inr l) ↦ listed j i name ((lists.exact j i).1 (l, turned i j parts.1)) (inr clear)
        ]

    -- with those of all pairs, the names of all gaps between strips that are near and clear
    pub pairs_tell : (a b : List Name) → AreAdded (IsOfFirst (IsOfPairAt (strips_of job) pairs) (length pairs)) a b → AreAdded (IsOfTwo (IsOfNear job columns)) a b
    pairs_tell a b f = added_as (IsOfFirst (IsOfPairAt (strips_of job) pairs) (length pairs)) (IsOfTwo (IsOfNear job columns)) a b f from_pair to_pair
