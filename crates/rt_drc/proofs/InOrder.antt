-- Rules in their order: which of a list is the first that is broken, where those before it are kept.
use Rattle.std.proofs.Common.{◌≡◌, ℕ, zero, suc, ◌+◌, ◌<◌, ◌≤◌, ℤ, pos, List, [], ◌∷◌, ◌++◌, length, get_or, slice_get, Option, Some, None, MatchOption, All, Result, OnOk, IfErr, refl, sym, ap, subst, ◌∙◌, arith, append_assoc}
use Rattle.std.proofs.lemmas.List.Elements.{All-nil, All-cons, All-append}
use Rattle.std.proofs.lemmas.Option.{slice_get-get_or}
use Rattle.std.proofs.lemmas.Result.{on_ok_weaker, IfErr-weaker}
use Rattle.rt_tech.specs.declared.rules.RuleName.{RuleName}
use Rattle.rt_tech.specs.declared.rules.RuleError.{RuleError}
use Rattle.rt_tech.specs.declared.rules.RuleError.TheVariants.{Broken, OutOfMemory}
use Rattle.rt_tech.specs.declared.table.Tech.{Tech}
use Rattle.rt_rules.specs.Rules.{mask_rules, numbered, rules_of, needed_by, Keeps, Shows, BreaksNoRule, IsBreachOf}
use Rattle.rt_rules.proofs.Listed.{numbered_all}
use Rattle.rt_drc.specs.declared.rows.Witness.{Witness}
use Rattle.rt_drc.specs.InOrder.{KeepAll, IsFirstOf, IsRefusal, IsBrokenBy, pair_rules}

-- an entry that the code reads is that of its number
pub number_at : {X : Type 0} (xs ys : List X) (i : ℕ) (d : X) → ys ≡ xs → i < length ys → slice_get xs i ≡ Some (get_or ys i d)
number_at xs ys i d e h = subst (λ zs. slice_get zs i ≡ Some (get_or ys i d)) e (slice_get-get_or ys i d h)

-- what a search decides of a rule is what is answered of it
pub answered_kept : {T E : Type 0} (r : Result T E) (K : Type 0) (S : Witness → Type 0) (found : Option Witness) → MatchOption found K S → OnOk r (found ≡ None) → OnOk r K
answered_kept r K S found decides = on_ok_weaker r (λ e. subst (λ o. MatchOption o K S) e decides)

pub answered_broken : {T : Type 0} (r : Result T RuleError) (rule : RuleName) (number : ℤ) (K : Type 0) (S : Witness → Type 0) (found : Option Witness) → MatchOption found K S
    → IfErr r (IsBrokenBy rule number (λ witness. found ≡ Some witness)) → IfErr r (IsBrokenBy rule number S)
answered_broken r rule number K S found decides =
    IfErr-weaker r (IsBrokenBy rule number (λ witness. found ≡ Some witness)) (IsBrokenBy rule number S) shown
  where
    shown : (error : RuleError) → IsBrokenBy rule number (λ witness. found ≡ Some witness) error → IsBrokenBy rule number S error
    shown (Broken broken p q n needed) (same, is, e) = (same, is, subst (λ o. MatchOption o K S) e decides)
    shown OutOfMemory none = none

module _ (tech : Tech) (cells : ℕ → ℤ → ℤ → Type 0) where
  -- what is refused of a list is refused where more rules follow
  pub front_refused : (xs ys : List RuleName) (error : RuleError) → IsRefusal tech cells xs error → IsRefusal tech cells (xs ++ ys) error
  front_refused xs ys (Broken rule p q found needed) first = record {
    before = first.before;
    after = first.after ++ ys;
    in_order = ap (λ zs. zs ++ ys) first.in_order ∙ append_assoc first.before (rule ∷ first.after) ys;
    kept = first.kept;
    shown = first.shown;
    number = first.number;
  }
  front_refused xs ys OutOfMemory none = none

  -- and where rules that are kept stand before it
  pub behind_refused : (xs ys : List RuleName) → All (Keeps (pos 1) tech cells) xs → (error : RuleError) → IsRefusal tech cells ys error → IsRefusal tech cells (xs ++ ys) error
  behind_refused xs ys kept (Broken rule p q found needed) first = record {
    before = xs ++ first.before;
    after = first.after;
    in_order = ap (λ zs. xs ++ zs) first.in_order ∙ sym (append_assoc xs first.before (rule ∷ first.after));
    kept = All-append (Keeps (pos 1) tech cells) xs first.before kept first.kept;
    shown = first.shown;
    number = first.number;
  }
  behind_refused xs ys kept OutOfMemory none = none

  -- a rule that is broken is the first where no other stands before it
  pub first_refused : (rule : RuleName) (rest : List RuleName) (number : ℤ) → number ≡ needed_by (pos 1) tech rule
      → (S : Witness → Type 0) → ((witness : Witness) → S witness → Shows (pos 1) tech cells rule witness.p witness.q witness.found)
      → (error : RuleError) → IsBrokenBy rule number S error → IsRefusal tech cells (rule ∷ rest) error
  first_refused rule rest number is S shows (Broken broken p q found needed) (same, e, s) =
      subst (λ name. IsFirstOf tech cells (rule ∷ rest) name p q found needed) (sym same)
      (record {
        before = [];
        after = rest;
        in_order = refl;
        kept = All-nil (Keeps (pos 1) tech cells);
        shown = shows (record { p = p; q = q; found = found }) s;
        number = e ∙ is;
      })
  first_refused rule rest number is S shows OutOfMemory none = none

  pub same_place : (n k : ℕ) → k ≡ n + 0 → k ≡ n
  same_place n k e = omega arith

  pub next_place : (n i k : ℕ) → k ≡ n + suc i → k ≡ (n + 1) + i
  next_place n i k e = omega arith

  -- of numbered rules the first that is broken is the one behind those that are kept
  pub numbered_refused : {X : Type 0} (rule : ℕ → RuleName) (n : ℕ) (xs : List X) (i k : ℕ) → k ≡ n + i → i < length xs
      → ((l : ℕ) → n ≤ l → l < k → Keeps (pos 1) tech cells (rule l)) → (error : RuleError)
      → ((rest : List RuleName) → IsRefusal tech cells (rule k ∷ rest) error) → IsRefusal tech cells (numbered rule n xs) error
  numbered_refused rule n [] i k e h kept error refused = absurd (omega (arith, h))
  numbered_refused rule n (x ∷ xs) zero k e h kept error refused =
      subst (λ j. IsRefusal tech cells (rule j ∷ numbered rule (n + 1) xs) error) (same_place n k e) (refused (numbered rule (n + 1) xs))
  numbered_refused rule n (x ∷ xs) (suc i) k e h kept error refused =
      behind_refused (rule n ∷ []) (numbered rule (n + 1) xs)
      (All-cons (Keeps (pos 1) tech cells) (rule n) [] (kept n (omega arith) (omega (arith, e))) (All-nil (Keeps (pos 1) tech cells))) error
      (numbered_refused rule (n + 1) xs i k (next_place n i k e) (omega (arith, h)) (λ l low high. kept l (omega (arith, low)) high) error refused)

  -- so it is of all numbered rules
  pub entry_refused : {X : Type 0} (rule : ℕ → RuleName) (xs : List X) (n : ℕ) → n < length xs → ((k : ℕ) → k < n → Keeps (pos 1) tech cells (rule k))
      → (error : RuleError) → ((rest : List RuleName) → IsRefusal tech cells (rule n ∷ rest) error) → IsRefusal tech cells (numbered rule 0 xs) error
  entry_refused rule xs n h kept error refused = numbered_refused rule 0 xs n n (omega arith) h (λ l low high. kept l high) error refused

  pub entries_kept : {X : Type 0} (rule : ℕ → RuleName) (xs : List X) → ((k : ℕ) → k < length xs → Keeps (pos 1) tech cells (rule k)) → KeepAll tech cells (numbered rule 0 xs)
  entries_kept rule xs kept = record { kept = numbered_all (Keeps (pos 1) tech cells) rule 0 xs (λ k low high. kept k (omega (arith, high))) }

  -- two lists of rules are kept where each is
  pub both_lists : (xs ys : List RuleName) → KeepAll tech cells xs → KeepAll tech cells ys → KeepAll tech cells (xs ++ ys)
  both_lists xs ys first second = record { kept = All-append (Keeps (pos 1) tech cells) xs ys first.kept second.kept }

  -- all rules of the table are those of its masks and those of two masks
  pub all_kept : KeepAll tech cells (mask_rules 0 tech.masks) → KeepAll tech cells (pair_rules tech) → BreaksNoRule (pos 1) tech cells
  all_kept masks pairs = record { all = (both_lists (mask_rules 0 tech.masks) (pair_rules tech) masks pairs).kept }

  pub is_breach : (error : RuleError) → IsRefusal tech cells (rules_of tech) error → IsBreachOf (pos 1) tech cells error
  is_breach (Broken rule p q found needed) first = record {
    before = first.before;
    after = first.after;
    in_order = first.in_order;
    kept = first.kept;
    shown = first.shown;
    number = first.number;
  }
  is_breach OutOfMemory none = none
