-- Rules without a fault: each of their tests holds, and the entries of a list follow one another as their rule says.
use Rattle.std.proofs.Common.{◌≡◌, ℕ, zero, suc, ◌<◌, Bool, true, false, not, ◌||◌, List, [], ◌∷◌, ◌++◌, All, AllPairs, length, get_or, take, Option, Some, None, refl, sym, ap, ◌∙◌, append_assoc, append-nil, length-take-le, arith}
use Rattle.std.specs.List.{list_any, list_all}
use Rattle.std.proofs.lemmas.Bool.{and_parts}
use Rattle.std.proofs.lemmas.List.{get_or-take}
use Rattle.std.proofs.lemmas.List.Elements.{All-nil, All-cons}
use Rattle.toml.specs.Data.{Data, Items, no_items, item}
use Rattle.rt_tech.specs.declared.table.TableCause.{TableCause}
use Rattle.rt_keys.specs.declared.stop.Fault.{Fault}
use Rattle.rt_keys.specs.Document.{entries_of}
use Rattle.rt_keys.specs.Faults.{◌or_else◌, test, test_here, within, each}

pub test_holds : (key : List ℕ) (cause : TableCause) (b : Bool) → test key cause b ≡ None → b ≡ true
test_holds key cause true h = refl
test_holds key cause false h = cc

pub here_holds : (cause : TableCause) (b : Bool) → test_here cause b ≡ None → b ≡ true
here_holds cause true h = refl
here_holds cause false h = cc

pub or_parts : (a b : Option Fault) → (a or_else b) ≡ None → (a ≡ None) × (b ≡ None)
or_parts None b h = (refl, h)
or_parts (Some fault) b h = (cc, cc)

pub within_clear : (key : List ℕ) (a : Option Fault) → within key a ≡ None → a ≡ None
within_clear key None h = refl
within_clear key (Some fault) h = cc

-- each entry is with those before it as P says
abbrev pub Follows : {A : Type 0} → (List A → A → Type 0) → List A → List A → Type 0
Follows P before [] = Unit {0}
Follows P before (x ∷ xs) = P before x × Follows P (before ++ x ∷ []) xs

pub each_follows : {A : Type 0} (fault : List A → Data → Option Fault) (of : Data → A) (P : List A → A → Type 0)
    → ((before : List A) (value : Data) → fault before value ≡ None → P before (of value))
    → (before : List A) (items : Items) → each fault of before items ≡ None → Follows P before (entries_of of items)
each_follows fault of P say before no_items h = tt
each_follows fault of P say before (item value values) h =
    let (here, more) = or_parts _ _ h in
    (say before value (within_clear _ _ here), each_follows fault of P say (before ++ of value ∷ []) values more)

follow_from : {A : Type 0} (P : List A → A → Type 0) (before xs : List A) → Follows P before xs
    → (k : ℕ) (d : A) → k < length xs → P (before ++ take k xs) (get_or xs k d)
follow_from P before [] h k d below = absurd (omega arith)
follow_from P before (x ∷ xs) h zero d below = rw (append-nil before) h.0
follow_from P before (x ∷ xs) h (suc k) d below = rw append_assoc at (follow_from P (before ++ x ∷ []) xs h.1 k d (omega arith))

pub follow_at : {A : Type 0} (P : List A → A → Type 0) (xs : List A) → Follows P [] xs
    → (k : ℕ) (d : A) → k < length xs → P (take k xs) (get_or xs k d)
follow_at P xs h k d below = follow_from P [] xs h k d below

pub all_follow : {A : Type 0} (P : List A → A → Type 0) (Q : A → Type 0) (xs : List A) → Follows P [] xs
    → ((before : List A) (x : A) → P before x → Q x) → All Q xs
all_follow P Q xs h to k d below = to (take k xs) (get_or xs k d) (follow_at P xs h k d below)

-- what an entry is to those before it, it is to each of them
pub earlier : {A : Type 0} (R : A → A → Type 0) (xs : List A) (i j : ℕ) (d : A) → i < j → j < length xs
    → All (λ y. R y (get_or xs j d)) (take j xs) → R (get_or xs i d) (get_or xs j d)
earlier R xs i j d below inside here =
    let long : length (take j xs) ≡ j = length-take-le j xs (omega arith) in
    let same : get_or (take j xs) i d ≡ get_or xs i d = get_or-take j xs i d below in
    rw same at (here i d (omega arith))

pub pairs_follow : {A : Type 0} (P : List A → A → Type 0) (R : A → A → Type 0) (xs : List A) → Follows P [] xs
    → ((before : List A) (x : A) → P before x → All (λ y. R y x) before) → AllPairs R xs
pairs_follow P R xs h to i j d below inside =
    earlier R xs i j d below inside (to (take j xs) (get_or xs j d) (follow_at P xs h j d inside))

-- entries that are numbered by what they are called are called differently
pub called_apart : {A B : Type 0} (P : List A → A → Type 0) (name : A → B) (number : B → Option ℕ) (xs : List A) → Follows P [] xs
    → ((before : List A) (x : A) → P before x → number (name x) ≡ Some (length before)) → AllPairs (λ a b. name a ≡ name b → ⊥) xs
called_apart P name number xs h to i j d below inside same =
    let first = to (take i xs) (get_or xs i d) (follow_at P xs h i d (omega arith)) in
    let second = to (take j xs) (get_or xs j d) (follow_at P xs h j d inside) in
    let long : length (take i xs) ≡ i = length-take-le i xs (omega arith) in
    let longer : length (take j xs) ≡ j = length-take-le j xs (omega arith) in
    let one : Some (length (take i xs)) ≡ Some (length (take j xs)) = sym first ∙ ap number same ∙ second in
    let counts : length (take i xs) ≡ length (take j xs) = cc in
    omega arith

-- each element passes
pub each_passes : {A : Type 0} (p : A → Bool) (xs : List A) → list_all p xs ≡ true → All (λ x. p x ≡ true) xs
each_passes p [] h = All-nil (λ x. p x ≡ true)
each_passes p (x ∷ xs) h =
    let (first, more) = and_parts (p x) (list_all p xs) h in
    All-cons (λ x. p x ≡ true) x xs first (each_passes p xs more)

-- no element passes
pub none_pass : {A : Type 0} (p : A → Bool) (xs : List A) → list_any p xs ≡ false → All (λ x. p x ≡ false) xs
none_pass p [] h = All-nil (λ x. p x ≡ false)
none_pass p (x ∷ xs) h =
    let parts = neither (p x) (list_any p xs) h in
    All-cons (λ x. p x ≡ false) x xs parts.0 (none_pass p xs parts.1)
  where
    neither : (a b : Bool) → (a || b) ≡ false → (a ≡ false) × (b ≡ false)
    neither true b h = (cc, cc)
    neither false b h = (refl, h)

-- what isn't so
pub not_so : (b : Bool) → not b ≡ true → b ≡ false
not_so true h = cc
not_so false h = refl

-- a test doesn't both hold and fail
pub never_both : (b : Bool) → b ≡ true → b ≡ false → ⊥
never_both b holds fails = cc
