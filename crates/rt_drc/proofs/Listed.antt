-- The rules of a table's masks: what is kept of them, and which is the first that is broken.
use Rattle.std.proofs.Common.{◌≡◌, ℕ, zero, suc, ◌+◌, ◌<◌, ℤ, pos, ◌*ℤ◌, List, [], ◌∷◌, slice_get, Option, Some, None, All, sym, ap, subst, ◌∙◌, arith, inl, inr}
use Rattle.std.proofs.lemmas.Int.{ints}
use Rattle.std.proofs.lemmas.List.Elements.{All-nil, All-cons}
use Rattle.std.proofs.lemmas.Option.{get_or_from_slice_get, slice_get_within}
use Rattle.rt_tech.specs.declared.rules.RuleName.{RuleName}
use Rattle.rt_tech.specs.declared.rules.RuleName.TheVariants.{Space}
use Rattle.rt_tech.specs.declared.rules.RuleError.{RuleError}
use Rattle.rt_tech.specs.declared.table.Mask.{Mask}
use Rattle.rt_tech.specs.declared.table.Role.{Role as MaskRole}
use Rattle.rt_tech.specs.declared.table.Role.TheVariants.{Metal, Gate, Active, Cut, Background}
use Rattle.rt_tech.specs.declared.table.Tech.{Tech}
use Rattle.rt_tech.specs.Tech.{mask_at, mask_count, width_of, space_of, width_of_mask, space_of_mask}
use Rattle.rt_rules.specs.Cuts.{KeepsSize, SizeBreach}
use Rattle.rt_rules.specs.Rules.{rule_by_role, shape_rule, mask_rules, needed_by, Keeps, Shows}
use Rattle.rt_rules.specs.Space.{KeepsSpace, SpaceBreach}
use Rattle.rt_rules.specs.Width.{KeepsWidth, WidthBreach}
use Rattle.rt_rules.proofs.Listed.{masks_all}
use Rattle.rt_drc.specs.declared.rows.Witness.{Witness}
use Rattle.rt_drc.specs.InOrder.{KeepAll, IsRefusal}
use Rattle.rt_drc.specs.OneMask.{KeepsShape, ShowsShape, KeepsBoth, IsMaskRefusal}
use Rattle.rt_drc.specs.Rows.{ShowsSpace}
use Rattle.rt_drc.proofs.InOrder.{front_refused, behind_refused, first_refused, same_place, next_place}

-- a number that stands for itself
pub one_times : (z : ℤ) → pos 1 *ℤ z ≡ z
one_times z = omega (arith, ints)

module _ (tech : Tech) (cells : ℕ → ℤ → ℤ → Type 0) where
  -- both rules of mask m are kept, if it is there
  abbrev pub AreKeptOf : ℕ → Option Mask → Type 0
  AreKeptOf m None = Unit {0}
  AreKeptOf m (Some mask) = Keeps (pos 1) tech cells (shape_rule m mask) × Keeps (pos 1) tech cells (Space m)

  abbrev two_rules : ℕ → Mask → List RuleName
  two_rules m mask = shape_rule m mask ∷ Space m ∷ []

  two_kept : (m : ℕ) (mask : Mask) → AreKeptOf m (Some mask) → All (Keeps (pos 1) tech cells) (two_rules m mask)
  two_kept m mask kept =
      All-cons (Keeps (pos 1) tech cells) (shape_rule m mask) (Space m ∷ []) kept.0
      (All-cons (Keeps (pos 1) tech cells) (Space m) [] kept.1 (All-nil (Keeps (pos 1) tech cells)))

  -- of the rules of masks it is one of the first mask that breaks one
  pub masks_refused : (n : ℕ) (masks : List Mask) (i k : ℕ) (mask : Mask) → k ≡ n + i → slice_get masks i ≡ Some mask
      → ((j l : ℕ) → l ≡ n + j → j < i → AreKeptOf l (slice_get masks j)) → (error : RuleError)
      → IsRefusal tech cells (two_rules k mask) error → IsRefusal tech cells (mask_rules n masks) error
  masks_refused n [] i k mask e at kept error refused = absurd (omega (arith, slice_get_within [] i mask at))
  masks_refused n (first ∷ masks) zero k mask e at kept error refused =
      front_refused tech cells (two_rules n first) (mask_rules (n + 1) masks) error
      (subst (λ other. IsRefusal tech cells (two_rules n other) error) (sym (get_or_from_slice_get (first ∷ masks) 0 mask first at))
      (subst (λ l. IsRefusal tech cells (two_rules l mask) error) (same_place tech cells n k e) refused))
  masks_refused n (first ∷ masks) (suc i) k mask e at kept error refused =
      behind_refused tech cells (two_rules n first) (mask_rules (n + 1) masks) (two_kept n first (kept 0 n (omega arith) (omega arith))) error
      (masks_refused (n + 1) masks i k mask (next_place tech cells n i k e) at (λ j l same h. kept (suc j) l (later n j l same) (omega (arith, h))) error refused)
    where
      later : (n j l : ℕ) → l ≡ (n + 1) + j → l ≡ n + suc j
      later n j l e = omega arith

  -- the rule of a mask's shapes, by its role
  module _ (m : ℕ) (width : ℤ) (is : width ≡ pos 1 *ℤ width_of tech m) where
    shape_number : (role : MaskRole) → width ≡ needed_by (pos 1) tech (rule_by_role role m)
    shape_number Cut = is
    shape_number Metal = is
    shape_number Gate = is
    shape_number Active = is
    shape_number Background = is

    shape_kept : (role : MaskRole) → KeepsShape role width (cells m) → Keeps (pos 1) tech cells (rule_by_role role m)
    shape_kept Cut k = subst (λ z. KeepsSize z (cells m)) is k
    shape_kept Metal k = subst (λ z. KeepsWidth z (cells m)) is k
    shape_kept Gate k = subst (λ z. KeepsWidth z (cells m)) is k
    shape_kept Active k = subst (λ z. KeepsWidth z (cells m)) is k
    shape_kept Background k = subst (λ z. KeepsWidth z (cells m)) is k

    shape_shown : (role : MaskRole) (w : Witness) → ShowsShape role width (cells m) w → Shows (pos 1) tech cells (rule_by_role role m) w.p w.q w.found
    shape_shown Cut w s = subst (λ z. SizeBreach z (cells m) w.p.x w.p.y w.q.x w.q.y w.found) is s
    shape_shown Metal w s = subst (λ z. WidthBreach z (cells m) w.p.x w.p.y w.q.x w.q.y w.found) is s
    shape_shown Gate w s = subst (λ z. WidthBreach z (cells m) w.p.x w.p.y w.q.x w.q.y w.found) is s
    shape_shown Active w s = subst (λ z. WidthBreach z (cells m) w.p.x w.p.y w.q.x w.q.y w.found) is s
    shape_shown Background w s = subst (λ z. WidthBreach z (cells m) w.p.x w.p.y w.q.x w.q.y w.found) is s

  module _ (m : ℕ) (mask : Mask) (at : mask_at tech m ≡ Some mask) where
    width_is : mask.width ≡ pos 1 *ℤ width_of tech m
    width_is = sym (one_times (width_of tech m) ∙ ap width_of_mask at)

    space_is : mask.space ≡ pos 1 *ℤ space_of tech m
    space_is = sym (one_times (space_of tech m) ∙ ap space_of_mask at)

    -- what is kept of a mask is kept of the table's rules
    pub both_kept : KeepsBoth mask (cells m) → AreKeptOf m (mask_at tech m)
    both_kept both =
        subst (AreKeptOf m) (sym at)
        (shape_kept m mask.width width_is mask.role both.keeps_shape, subst (λ z. KeepsSpace z (cells m)) space_is both.keeps_space)

    -- and what is refused of it is refused of them
    pub mask_refused : (error : RuleError) → IsMaskRefusal m mask (cells m) error → IsRefusal tech cells (two_rules m mask) error
    mask_refused error refused =
        elim refused.either [
          | inl shape ↦
              first_refused tech cells (shape_rule m mask) (Space m ∷ []) mask.width (shape_number m mask.width width_is mask.role) (ShowsShape mask.role mask.width (cells m))
              (shape_shown m mask.width width_is mask.role) error shape
          | inr (kept, space) ↦
              behind_refused tech cells (shape_rule m mask ∷ []) (Space m ∷ [])
              (All-cons (Keeps (pos 1) tech cells) (shape_rule m mask) [] (shape_kept m mask.width width_is mask.role kept) (All-nil (Keeps (pos 1) tech cells))) error
              (first_refused tech cells (Space m) [] mask.space space_is (ShowsSpace mask.space (cells m))
              (λ w s. subst (λ z. SpaceBreach z (cells m) w.p.x w.p.y w.q.x w.q.y w.found) space_is s) error space)
        ]

  -- what is kept of each mask is kept of the rules of all
  pub masks_kept : ((k : ℕ) → k < mask_count tech → AreKeptOf k (mask_at tech k)) → KeepAll tech cells (mask_rules 0 tech.masks)
  masks_kept kept = record {
    kept = masks_all (Keeps (pos 1) tech cells) 0 tech.masks (λ i k mask e at. of_number i k mask e at);
  }
    where
      same : (i k : ℕ) → k ≡ 0 + i → i ≡ k
      same i k e = omega arith

      of_number : (i k : ℕ) (mask : Mask) → k ≡ 0 + i → slice_get tech.masks i ≡ Some mask → AreKeptOf k (Some mask)
      of_number i k mask e at = subst (λ j. AreKeptOf j (Some mask)) (same i k e) (subst (AreKeptOf i) at (kept i (slice_get_within tech.masks i mask at)))

  -- and what is refused of one mask is refused of them where those before it keep theirs
  pub masks_broken : (m : ℕ) (mask : Mask) → mask_at tech m ≡ Some mask → ((k : ℕ) → k < m → AreKeptOf k (mask_at tech k)) → (error : RuleError)
      → IsMaskRefusal m mask (cells m) error → IsRefusal tech cells (mask_rules 0 tech.masks) error
  masks_broken m mask at kept error refused =
      masks_refused 0 tech.masks m m mask (omega arith) at (λ j l e h. subst (λ i. AreKeptOf i (mask_at tech j)) (same j l e) (kept j h)) error (mask_refused m mask at error refused)
    where
      same : (j l : ℕ) → l ≡ 0 + j → j ≡ l
      same j l e = omega arith
