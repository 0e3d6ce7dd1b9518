-- The types of records, and what lists of them hold.
use Rattle.std.proofs.Common.{◌≡◌, ℕ, Bool, true, false, not, ◌&&◌, if◌then◌else◌, eqb, inl, inr, List, [], ◌∷◌, ◌++◌, Option, Some, None, refl, sym, ap, ◌∙◌, subst}
use Rattle.std.specs.List.{AllByRecursion}
use Rattle.std.proofs.lemmas.Bool.{both_ways, cond_both, cond-true, cond-false, cases_Bool, eqb-true, eq-eqb, or_left, not-true, and_parts}
use Rattle.gds_records.specs.Records.{Item}
use Rattle.gds_grammar.specs.Conditions.{is_in}
use Rattle.gds_grammar.proofs.GrammarLaws.{is_in_left, is_in_right}
use Rattle.gds_stream.specs.Contents.{held}
use Rattle.gds_stream.specs.Gives.{IsOne}
use Rattle.gds_stream.proofs.Lacking.{or_else, held-append, same_held}
use Rattle.gds_stream_laws.specs.Values.{AreOf}

-- ---- records of some types

-- the records of two lists together
pub are_of_both : (codes : List ℕ) (items more : List Item) → AreOf codes items → AreOf codes more → AreOf codes (items ++ more)
are_of_both codes [] more these those = those
are_of_both codes (i ∷ items) more these those = (these.0, are_of_both codes items more these.1 those)

-- each type of the one list is in the other
pub are_of_wider : (codes others : List ℕ) (items : List Item) → ((code : ℕ) → is_in codes code ≡ true → is_in others code ≡ true) → AreOf codes items → AreOf others items
are_of_wider codes others [] wider these = tt
are_of_wider codes others (i ∷ items) wider these = (wider i.code these.0, are_of_wider codes others items wider these.1)

pub are_of_left : (codes others : List ℕ) (items : List Item) → AreOf codes items → AreOf (codes ++ others) items
are_of_left codes others items = are_of_wider codes (codes ++ others) items (is_in_left codes others)

pub are_of_right : (codes others : List ℕ) (items : List Item) → AreOf others items → AreOf (codes ++ others) items
are_of_right codes others items = are_of_wider others (codes ++ others) items (is_in_right codes others)

-- one record
pub one_of_type : (at code : ℕ) (body : List ℕ) (items : List Item) → IsOne at code body items → AreOf (code ∷ []) items
one_of_type at code body items one = subst (AreOf (code ∷ [])) (sym one.1) (or_left (eqb code code) false (eq-eqb code code refl), tt)

-- ---- what records hold

-- nothing of a type that isn't among theirs
pub none_held : (codes : List ℕ) (code : ℕ) (items : List Item) → is_in codes code ≡ false → AreOf codes items → held code items ≡ None
none_held codes code [] other these = refl
none_held codes code (i ∷ items) other these =
    cond_both (eqb i.code code) (Some i.body) (held code items) (λ x. x ≡ None)
    (λ same. absurd (both_ways (is_in codes code) other (subst (λ (c : ℕ). is_in codes c ≡ true) (eqb-true i.code code same) these.0)))
    (λ differs. none_held codes code items other these.1)

-- behind records of which none has the type
pub held_behind : (code : ℕ) (items more : List Item) → held code items ≡ None → held code (items ++ more) ≡ held code more
held_behind code items more none = held-append code items more ∙ ap (λ (found : Option (List ℕ)). or_else found (held code more)) none

-- where there is one of the type before
pub held_first : (code : ℕ) (body : List ℕ) (items more : List Item) → held code items ≡ Some body → held code (items ++ more) ≡ Some body
held_first code body items more some = held-append code items more ∙ ap (λ (found : Option (List ℕ)). or_else found (held code more)) some

-- of one record
pub held_one : (at code : ℕ) (body : List ℕ) (items : List Item) → IsOne at code body items → held code items ≡ Some body
held_one at code body items one = ap (held code) one.1 ∙ cond-true (eqb code code) (Some body) None (eq-eqb code code refl)

-- ---- parts, each with types of its own

-- a part of some records: its types, and its records
pub record Part : Type 0 where
  pub codes : List ℕ
  pub items : List Item

-- a part's records have its types
abbrev pub ArePart : Part → Type 0
ArePart p = AreOf p.codes p.items

-- the parts' records, one behind the other
abbrev pub joined : List Part → List Item
joined [] = []
joined (p ∷ []) = p.items
joined (p ∷ q ∷ parts) = p.items ++ joined (q ∷ parts)

-- the records of the part that has the type
abbrev pub part_of : ℕ → List Part → List Item
part_of code [] = []
part_of code (p ∷ parts) = if is_in p.codes code then p.items else part_of code parts

-- whether no part has the type
abbrev pub misses : ℕ → List Part → Bool
misses code [] = true
misses code (p ∷ parts) = not (is_in p.codes code) && misses code parts

-- whether no two parts have the type
abbrev pub has_once : ℕ → List Part → Bool
has_once code [] = true
has_once code (p ∷ parts) = if is_in p.codes code then misses code parts else has_once code parts

missed : (code : ℕ) (parts : List Part) → misses code parts ≡ true → AllByRecursion ArePart parts → held code (joined parts) ≡ None
missed code [] misses_it are = refl
missed code (p ∷ []) misses_it are = none_held p.codes code p.items (not-true (is_in p.codes code) (and_parts (not (is_in p.codes code)) true misses_it).0) are.0
missed code (p ∷ q ∷ parts) misses_it are =
    let both = and_parts (not (is_in p.codes code)) (misses code (q ∷ parts)) misses_it in
    held_behind code p.items (joined (q ∷ parts)) (none_held p.codes code p.items (not-true (is_in p.codes code) both.0) are.0) ∙ missed code (q ∷ parts) both.1 are.1

-- what the parts hold of a type is what the part holds that has it
pub held_part : (code : ℕ) (parts : List Part) → has_once code parts ≡ true → AllByRecursion ArePart parts → held code (joined parts) ≡ held code (part_of code parts)
held_part code [] once are = refl
held_part code (p ∷ []) once are =
    elim (cases_Bool (is_in p.codes code)) [
      | inl has ↦ rw has refl
      | inr hasnt ↦ rw hasnt (none_held p.codes code p.items hasnt are.0)
    ]
held_part code (p ∷ q ∷ parts) once are =
    elim (cases_Bool (is_in p.codes code)) [
      | inl has ↦ rw has (same_held code p.items (joined (q ∷ parts)) (missed code (q ∷ parts) (sym (cond-true (is_in p.codes code) (misses code (q ∷ parts)) (has_once code (q ∷ parts)) has) ∙ once) are.1))
      | inr hasnt ↦ rw hasnt (held_behind code p.items (joined (q ∷ parts)) (none_held p.codes code p.items hasnt are.0) ∙ held_part code (q ∷ parts) (sym (cond-false (is_in p.codes code) (misses code (q ∷ parts)) (has_once code (q ∷ parts)) hasnt) ∙ once) are.1)
    ]
