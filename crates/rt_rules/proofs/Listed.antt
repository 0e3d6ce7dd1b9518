-- The rules of a table are those of its masks, its enclosures and its distances.
use Rattle.std.proofs.Common.{◌≡◌, ℕ, suc, ◌+◌, ◌<◌, ◌≤◌, ℤ, List, [], ◌∷◌, ◌++◌, All, length, slice_get, Some, refl, subst, arith}
use Rattle.std.proofs.lemmas.List.Elements.{All-nil, All-cons, All-append}
use Rattle.rt_tech.specs.declared.rules.RuleName.{RuleName}
use Rattle.rt_tech.specs.declared.rules.RuleName.TheVariants.{Space, Enclose, Apart}
use Rattle.rt_tech.specs.declared.table.Mask.{Mask}
use Rattle.rt_tech.specs.declared.table.Tech.{Tech}
use Rattle.rt_tech.specs.Tech.{mask_at}
use Rattle.rt_rules.specs.Rules.{shape_rule, mask_rules, numbered, rules_of, Keeps, BreaksNoRule}

later : (m i k : ℕ) → k ≡ (m + 1) + i → k ≡ m + suc i
later m i k e = omega arith

module _ (P : RuleName → Type 0) where
  -- what holds of both rules of each mask holds of the rules of all masks
  pub masks_all : (m : ℕ) (masks : List Mask)
      → ((i k : ℕ) (mask : Mask) → k ≡ m + i → slice_get masks i ≡ Some mask → P (shape_rule k mask) × P (Space k)) → All P (mask_rules m masks)
  masks_all m [] both = All-nil P
  masks_all m (mask ∷ masks) both =
      let (shape, space) = both 0 m mask (omega arith) refl in
      All-cons P (shape_rule m mask) (Space m ∷ mask_rules (m + 1) masks) shape
      (All-cons P (Space m) (mask_rules (m + 1) masks) space
      (masks_all (m + 1) masks (λ i k other e at. both (suc i) k other (later m i k e) at)))

  -- what holds of the rule of each entry holds of them all
  pub numbered_all : {X : Type 0} (rule : ℕ → RuleName) (n : ℕ) (xs : List X) → ((k : ℕ) → n ≤ k → k < n + length xs → P (rule k)) → All P (numbered rule n xs)
  numbered_all rule n [] each = All-nil P
  numbered_all rule n (x ∷ xs) each =
      All-cons P (rule n) (numbered rule (n + 1) xs) (each n (omega arith) (omega arith))
      (numbered_all rule (n + 1) xs (λ k low high. each k (omega arith) (omega arith)))

  -- so all rules of a table are its masks', its enclosures' and its distances'
  pub rules_all : (tech : Tech) → ((m : ℕ) (mask : Mask) → mask_at tech m ≡ Some mask → P (shape_rule m mask) × P (Space m))
      → ((n : ℕ) → n < length tech.encloses → P (Enclose n)) → ((n : ℕ) → n < length tech.aparts → P (Apart n)) → All P (rules_of tech)
  rules_all tech masks encloses aparts =
      All-append P (mask_rules 0 tech.masks) (numbered Enclose 0 tech.encloses ++ numbered Apart 0 tech.aparts)
      (masks_all 0 tech.masks (λ i k mask e at. same_mask i k mask e at))
      (All-append P (numbered Enclose 0 tech.encloses) (numbered Apart 0 tech.aparts)
      (numbered_all Enclose 0 tech.encloses (λ k low high. encloses k (omega arith)))
      (numbered_all Apart 0 tech.aparts (λ k low high. aparts k (omega arith))))
    where
      same : (i k : ℕ) → k ≡ 0 + i → i ≡ k
      same i k e = omega arith

      same_mask : (i k : ℕ) (mask : Mask) → k ≡ 0 + i → slice_get tech.masks i ≡ Some mask → P (shape_rule k mask) × P (Space k)
      same_mask i k mask e at = masks k mask (subst (λ j. slice_get tech.masks j ≡ Some mask) (same i k e) at)

module _ (unit : ℤ) (tech : Tech) (cells : ℕ → ℤ → ℤ → Type 0) where
  -- the cells of a mask keep the rule of its shapes, and its space
  pub record KeepsMask (m : ℕ) (mask : Mask) : Type 0 where
    pub shape : Keeps unit tech cells (shape_rule m mask)
    pub space : Keeps unit tech cells (Space m)

  -- cells of which each mask keeps its rules, and which keep all enclosures and distances, break no rule
  pub all_kept : ((m : ℕ) (mask : Mask) → mask_at tech m ≡ Some mask → KeepsMask m mask)
      → ((n : ℕ) → n < length tech.encloses → Keeps unit tech cells (Enclose n)) → ((n : ℕ) → n < length tech.aparts → Keeps unit tech cells (Apart n))
      → BreaksNoRule unit tech cells
  all_kept masks encloses aparts = record {
    all = rules_all (Keeps unit tech cells) tech (λ m mask at. let k = masks m mask at in (k.shape, k.space)) encloses aparts;
  }
