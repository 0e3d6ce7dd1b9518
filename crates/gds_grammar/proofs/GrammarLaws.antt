-- What the words of a grammar are: how they begin, that there is one, and how parts are put together.
use Rattle.std.proofs.Common.{◌≡◌, ℕ, Bool, true, false, eqb, inl, inr, List, [], ◌∷◌, ◌++◌, length, get_or, Contains, refl, sym, ap, ◌∙◌, subst, arith}
use Rattle.std.specs.List.{concat, AllByRecursion}
use Rattle.std.proofs.lemmas.Bool.{true≢false, and_from, or_left, or_right, or_from}
use Rattle.std.proofs.lemmas.List.Folds.{list_any-append}
use Rattle.gds_grammar.specs.Grammar.{Grammar, nothing, one_of, ◌‣◌, ◌∣◌, many, In}
use Rattle.gds_grammar.specs.Words.{nullable, firsts}
use Rattle.gds_grammar.specs.Conditions.{is_in}
use Rattle.gds_grammar.proofs.Decided.{is_in_decides}

-- ---- lists of types

pub is_in_from : (codes : List ℕ) (code : ℕ) → Contains codes code → is_in codes code ≡ true
is_in_from codes code has = (is_in_decides codes code).1 has

pub is_in_to : (codes : List ℕ) (code : ℕ) → is_in codes code ≡ true → Contains codes code
is_in_to codes code has = (is_in_decides codes code).0 has

pub is_in_left : (codes others : List ℕ) (code : ℕ) → is_in codes code ≡ true → is_in (codes ++ others) code ≡ true
is_in_left codes others code has = list_any-append (λ c. eqb c code) codes others ∙ or_left _ _ has

pub is_in_right : (codes others : List ℕ) (code : ℕ) → is_in others code ≡ true → is_in (codes ++ others) code ≡ true
is_in_right codes others code has = list_any-append (λ c. eqb c code) codes others ∙ or_right (is_in codes code) _ has

-- a type that is in neither is not in both together
pub not_in_both : (codes others : List ℕ) (code : ℕ) → is_in codes code ≡ false → is_in others code ≡ false → is_in (codes ++ others) code ≡ false
not_in_both codes others code first second = list_any-append (λ c. eqb c code) codes others ∙ or_from _ _ first second

-- a test can't hold and fail
pub clash : {X : Type 0} (b : Bool) → b ≡ true → b ≡ false → X
clash b t f = absurd (true≢false (sym t ∙ f))

-- ---- parts of lists

-- the parts of an empty list are empty
pub left_empty : (first second : List ℕ) → [] ≡ first ++ second → first ≡ []
left_empty [] second e = refl
left_empty (c ∷ first) second e = absurd (let n = ap length e in omega arith)

pub right_empty : (first second : List ℕ) → [] ≡ first ++ second → second ≡ []
right_empty [] second e = sym e
right_empty (c ∷ first) second e = absurd (let n = ap length e in omega arith)

-- the first of a list
pub same_first : (c d : ℕ) (first second : List ℕ) → c ∷ first ≡ d ∷ second → c ≡ d
same_first c d first second e = ap (λ (l : List ℕ). get_or l 0 0) e

-- ---- how words begin

-- a grammar that allows nothing is nullable
pub nullable_empty : (g : Grammar) → In g [] → nullable g ≡ true
nullable_empty nothing here = refl
nullable_empty (one_of code codes) here = absurd (let n = ap length here.1 in omega arith)
nullable_empty (a ‣ b) here =
    and_from _ _
    (nullable_empty a (subst (In a) (left_empty here.0 here.1 here.2) here.3))
    (nullable_empty b (subst (In b) (right_empty here.0 here.1 here.2) here.4))
nullable_empty (a ∣ b) (inl here) = or_left _ _ (nullable_empty a here)
nullable_empty (a ∣ b) (inr here) = or_right (nullable a) _ (nullable_empty b here)
nullable_empty (many a) here = refl

-- the first type of two parts is that of the first part, or that of the second where the first part is nothing
firsts_joined : (a b : Grammar) (code : ℕ) (first second more : List ℕ)
    → ((c : ℕ) (w : List ℕ) → In a (c ∷ w) → is_in (firsts a) c ≡ true)
    → ((c : ℕ) (w : List ℕ) → In b (c ∷ w) → is_in (firsts b) c ≡ true)
    → code ∷ more ≡ first ++ second → In a first → In b second → is_in (firsts (a ‣ b)) code ≡ true
firsts_joined a b code [] second more by_a by_b e here there =
    let has : is_in (firsts b) code ≡ true = by_b code more (subst (In b) (sym e) there) in
    is_in_right (firsts a) _ code (rw (nullable_empty a here) has)
firsts_joined a b code (c ∷ first) second more by_a by_b e here there =
    let same : c ≡ code = sym (same_first code c more (first ++ second) e) in
    is_in_left (firsts a) _ code (subst (λ (x : ℕ). is_in (firsts a) x ≡ true) same (by_a c first here))

firsts_pieces : (a : Grammar) (code : ℕ) (pieces : List (List ℕ)) (more : List ℕ)
    → ((c : ℕ) (w : List ℕ) → In a (c ∷ w) → is_in (firsts a) c ≡ true)
    → code ∷ more ≡ concat pieces → AllByRecursion (In a) pieces → is_in (firsts a) code ≡ true
firsts_pieces a code [] more by_a e each = absurd (let n = ap length e in omega arith)
firsts_pieces a code ([] ∷ pieces) more by_a e each = firsts_pieces a code pieces more by_a e each.1
firsts_pieces a code ((c ∷ piece) ∷ pieces) more by_a e each =
    let same : c ≡ code = sym (same_first code c more (piece ++ concat pieces) e) in
    subst (λ (x : ℕ). is_in (firsts a) x ≡ true) same (by_a c piece each.0)

-- the first type of a word is one of the grammar's
pub firsts_has : (g : Grammar) (code : ℕ) (more : List ℕ) → In g (code ∷ more) → is_in (firsts g) code ≡ true
firsts_has nothing code more here = absurd (let n = ap length here in omega arith)
firsts_has (one_of c cs) code more here =
    let same : here.0 ≡ code = sym (same_first code here.0 more [] here.1) in
    subst (λ (x : ℕ). is_in (c ∷ cs) x ≡ true) same (is_in_from (c ∷ cs) here.0 here.2)
firsts_has (a ‣ b) code more here = firsts_joined a b code here.0 here.1 more (firsts_has a) (firsts_has b) here.2 here.3 here.4
firsts_has (a ∣ b) code more (inl here) = is_in_left (firsts a) (firsts b) code (firsts_has a code more here)
firsts_has (a ∣ b) code more (inr here) = is_in_right (firsts a) (firsts b) code (firsts_has b code more here)
firsts_has (many a) code more here = firsts_pieces a code here.0 more (firsts_has a) here.2 here.1

-- ---- words

-- a word of the grammar, with as little in it as is allowed
abbrev pub some_word : Grammar → List ℕ
some_word nothing = []
some_word (one_of code codes) = code ∷ []
some_word (a ‣ b) = some_word a ++ some_word b
some_word (a ∣ b) = some_word b
some_word (many a) = []

pub in_one_of : (code : ℕ) (codes : List ℕ) (c : ℕ) → is_in (code ∷ codes) c ≡ true → In (one_of code codes) (c ∷ [])
in_one_of code codes c has = (c, refl, is_in_to (code ∷ codes) c has)

pub some_word_in : (g : Grammar) → In g (some_word g)
some_word_in nothing = refl
some_word_in (one_of code codes) = (code, refl, (0, omega arith, refl))
some_word_in (a ‣ b) = (some_word a, some_word b, refl, some_word_in a, some_word_in b)
some_word_in (a ∣ b) = inr (some_word_in b)
some_word_in (many a) = ([], tt, refl)

-- where a grammar doesn't allow nothing, its word begins with a type
pub some_word_begins : (g : Grammar) → nullable g ≡ false → (code : ℕ) × (more : List ℕ) × (some_word g ≡ code ∷ more)
some_word_begins g no_null = begins (some_word g) (some_word_in g)
  where
    begins : (w : List ℕ) → In g w → (code : ℕ) × (more : List ℕ) × (w ≡ code ∷ more)
    begins [] here = clash (nullable g) (nullable_empty g here) no_null
    begins (c ∷ w) here = (c, w, refl)
