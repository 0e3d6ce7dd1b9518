-- How the bytes of a name follow a write to a list of files.
use Rattle.std.proofs.Common.{◌≡◌, ◌≢◌, ℕ, zero, suc, ◌<◌, ◌≤◌, Bool, true, false, cond, not, List, [], ◌∷◌, ◌++◌, length, get_or, set, Option, Some, None, Vec, string_bytes, refl, ap, sym, ◌∙◌, arith, bytes_eq, position, find, option_map, Contains, IsTrue, ◌↔◌, eqb, rules}
use Rattle.std.specs.declared.alloc.Global.{Global}
use Rattle.std.specs.List.{position_or_len, IsAnyAnswer}
use Rattle.std.specs.Option.{option_or}
use Rattle.std.proofs.lemmas.List.Sums.{prefix_len_stops}
use Rattle.std.proofs.lemmas.List.Folds.{find-set, find-append, find_at}
use Rattle.std.proofs.lemmas.Option.{slice_get_past}
use Rattle.std.proofs.lemmas.Slice.Eq.{bytes_eq-Decides}
use Rattle.std.proofs.lemmas.Bool.{false_from_ne_true}
use Rattle.std.proofs.lemmas.Bool.Decides.{nat_tests}
use Rattle.rt_desk.specs.Desk.{Stored}
use Rattle.rt_desk.specs.Entries.{Entry, is_named, file_in}

-- a write that the test passes neither before nor after changes no search
find-set_unseen : {X : Type 0} (p : X → Bool) → (xs : List X) (i : ℕ) (y d : X) → p y ≡ false → p (get_or xs i d) ≡ false → find p (set xs i y) ≡ find p xs
find-set_unseen p [] i y d u v = refl
find-set_unseen p (x ∷ xs) zero y d u v = simp (u, v)
find-set_unseen p (x ∷ xs) (suc i) y d u v = ap (cond (p x) (Some x)) (find-set_unseen p xs i y d u v)

-- the place that a search answers is the first one, and within the list
placed : {X : Type 0} (p : X → Bool) (xs : List X) (place : ℕ) → Some place ≡ position p xs → (place ≡ position_or_len p xs) × (place < length xs)
placed p xs place at = grind (arith, nat_tests)

-- what stands at the first place passes the test
passes : {X : Type 0} (p : X → Bool) (xs : List X) (place : ℕ) (d : X) → place ≡ position_or_len p xs → place < length xs → p (get_or xs place d) ≡ true
passes p xs place d first within = grind (arith, prefix_len_stops (λ x. not (p x)) xs d)

-- a file with another name is not the one that is looked for
unlike : (own name other : List ℕ) → bytes_eq own name ≡ true → other ≢ name → bytes_eq own other ≡ false
unlike own name other same differs =
    false_from_ne_true _ (λ t. differs (sym ((bytes_eq-Decides own other).0 t) ∙ (bytes_eq-Decides own name).0 same))

-- new bytes at the first file of a name are that name's, and other names keep theirs
pub replaced : (entries : List Entry) (place : ℕ) (own : Entry) (copy : Vec ℕ Global) (name : List ℕ) → Some place ≡ position (is_named name) entries → own ≡ get_or entries place own → Stored (file_in entries) (file_in (set entries place (own.0, copy))) name copy.items
replaced entries place own copy name at same =
    let spot = placed (is_named name) entries place at in
    let named : is_named name own ≡ true = ap (is_named name) same ∙ passes (is_named name) entries place own spot.0 spot.1 in
    record {
      named = ap (option_map (λ entry. entry.1.items)) (find-set (is_named name) entries place (own.0, copy) spot.0 spot.1 named);
      others = λ other differs.
          let unseen : is_named other own ≡ false = unlike (string_bytes own.0) name other named differs in
          ap (option_map (λ entry. entry.1.items)) (find-set_unseen (is_named other) entries place (own.0, copy) own unseen (sym (ap (is_named other) same) ∙ unseen));
    }

-- a search that answers no place finds nothing
unfound : {X : Type 0} (p : X → Bool) (xs : List X) → None ≡ position p xs → find p xs ≡ None
unfound p xs absent =
    let past : length xs ≤ position_or_len p xs = grind (arith, nat_tests) in
    find_at p xs ∙ slice_get_past xs (position_or_len p xs) past

option_or-None : {X : Type 0} (o : Option X) → option_or o None ≡ o
option_or-None None = refl
option_or-None (Some x) = refl

-- a file at the end, of a name that no other has, is that name's, and other names keep theirs
pub added : (entries : List Entry) (own : Entry) (name : List ℕ) → None ≡ position (is_named name) entries → string_bytes own.0 ≡ name → Stored (file_in entries) (file_in (entries ++ own ∷ [])) name own.1.items
added entries own name absent same =
    let named : is_named name own ≡ true = (bytes_eq-Decides (string_bytes own.0) name).1 same in
    let found : find (is_named name) (entries ++ own ∷ []) ≡ Some own =
    find-append (is_named name) entries (own ∷ []) ∙ simp (unfound (is_named name) entries absent, named) in
    record {
      named = ap (option_map (λ entry. entry.1.items)) found;
      others = λ other differs.
          let unseen : is_named other own ≡ false = unlike (string_bytes own.0) name other named differs in
          let same_found : find (is_named other) (entries ++ own ∷ []) ≡ find (is_named other) entries =
          find-append (is_named other) entries (own ∷ []) ∙ simp (unseen, option_or-None (find (is_named other) entries)) in
          ap (option_map (λ entry. entry.1.items)) same_found;
    }

-- the search of a list of numbers, where the list is another's
pub told_by_search : (xs ys : List ℕ) (x : ℕ) (r : Bool) → ys ≡ xs → IsAnyAnswer (λ y b. eqb y x ≡ b) ys r → IsTrue r ↔ Contains xs x
told_by_search xs ys x r same h = let k = rw same at h in search rules
