-- Where no rule of a table is broken, each of its enclosures and distances is kept.
use Rattle.std.proofs.Common.{◌≡◌, ℕ, zero, suc, ◌+◌, ◌<◌, ℤ, pos, ◌*ℤ◌, List, [], ◌∷◌, ◌++◌, All, Some, length, subst, arith}
use Rattle.std.proofs.lemmas.Int.{ints}
use Rattle.std.proofs.lemmas.List.Elements.{All-nil, All-cons, All-head, All-tail}
use Rattle.std.proofs.lemmas.Option.{slice_get_within}
use Rattle.rt_tech.specs.declared.rules.RuleName.{RuleName}
use Rattle.rt_tech.specs.declared.rules.RuleName.TheVariants.{Enclose, Apart}
use Rattle.rt_tech.specs.declared.table.Apart.{Apart as Distance}
use Rattle.rt_tech.specs.declared.table.Enclose.{Enclose as Enclosure}
use Rattle.rt_tech.specs.declared.table.Tech.{Tech}
use Rattle.rt_rules.specs.Cuts.{KeepsEnclosed, KeepsApart}
use Rattle.rt_rules.specs.Pairs.{enclose_at, apart_at, lower_of}
use Rattle.rt_rules.specs.Rules.{mask_rules, numbered, rules_of, part_of, KeepsEnclose, KeepsDistance, Keeps, BreaksNoRule}

one_times : (z : ℤ) → pos 1 *ℤ z ≡ z
one_times z = omega (arith, ints)

module _ (P : RuleName → Type 0) where
  -- what holds of two lists holds of each
  both_parts : (xs ys : List RuleName) → All P (xs ++ ys) → All P xs × All P ys
  both_parts [] ys all = (All-nil P, all)
  both_parts (x ∷ xs) ys all =
      let rest = both_parts xs ys (All-tail P x (xs ++ ys) all) in
      (All-cons P x xs (All-head P x (xs ++ ys) all) rest.0, rest.1)

  -- what holds of the rules of all entries holds of each
  numbered_at : {X : Type 0} (rule : ℕ → RuleName) (from : ℕ) (xs : List X) → All P (numbered rule from xs) → (k n : ℕ) → from + k ≡ n → k < length xs → P (rule n)
  numbered_at rule from [] all k n e h = absurd (omega (arith, h))
  numbered_at rule from (x ∷ xs) all zero n e h =
      let same : from ≡ n = omega (arith, e) in
      subst (λ i. P (rule i)) same (All-head P (rule from) (numbered rule (from + 1) xs) all)
  numbered_at rule from (x ∷ xs) all (suc k) n e h =
      numbered_at rule (from + 1) xs (All-tail P (rule from) (numbered rule (from + 1) xs) all) k n (omega (arith, e)) (omega (arith, h))

  -- what holds of the rules of a table holds of each enclosure and of each distance
  enclose_rule : (tech : Tech) → All P (rules_of tech) → (n : ℕ) → n < length tech.encloses → P (Enclose n)
  enclose_rule tech all n below =
      let pairs = (both_parts (mask_rules 0 tech.masks) (numbered Enclose 0 tech.encloses ++ numbered Apart 0 tech.aparts) all).1 in
      numbered_at Enclose 0 tech.encloses (both_parts (numbered Enclose 0 tech.encloses) (numbered Apart 0 tech.aparts) pairs).0 n n (omega arith) below

  apart_rule : (tech : Tech) → All P (rules_of tech) → (n : ℕ) → n < length tech.aparts → P (Apart n)
  apart_rule tech all n below =
      let pairs = (both_parts (mask_rules 0 tech.masks) (numbered Enclose 0 tech.encloses ++ numbered Apart 0 tech.aparts) all).1 in
      numbered_at Apart 0 tech.aparts (both_parts (numbered Enclose 0 tech.encloses) (numbered Apart 0 tech.aparts) pairs).1 n n (omega arith) below

module _ (tech : Tech) (cells : ℕ → ℤ → ℤ → Type 0) (none : BreaksNoRule (pos 1) tech cells) where
  -- an enclosure is kept, in units of the table
  pub kept_enclosure : (n : ℕ) (e : Enclosure) → enclose_at tech n ≡ Some e → KeepsEnclosed e.number (part_of cells e.cut (lower_of tech e)) (cells e.mask)
  kept_enclosure n e there =
      subst (λ z. KeepsEnclosed z (part_of cells e.cut (lower_of tech e)) (cells e.mask)) (one_times e.number)
      (subst (KeepsEnclose (pos 1) tech cells) there (enclose_rule (Keeps (pos 1) tech cells) tech none.all n (slice_get_within tech.encloses n e there)))

  -- a distance is kept
  pub kept_distance : (n : ℕ) (a : Distance) → apart_at tech n ≡ Some a → KeepsApart a.number (part_of cells a.a a.on) (cells a.b)
  kept_distance n a there =
      subst (λ z. KeepsApart z (part_of cells a.a a.on) (cells a.b)) (one_times a.number)
      (subst (KeepsDistance (pos 1) tech cells) there (apart_rule (Keeps (pos 1) tech cells) tech none.all n (slice_get_within tech.aparts n a there)))
