-- Which records a part of a stream doesn't hold, by its rule of the grammar.
use Rattle.std.proofs.Common.{◌≡◌, ℕ, zero, suc, Bool, true, false, not, ◌||◌, eqb, List, [], ◌∷◌, ◌++◌, length, Option, Some, None, Result, Ok, Err, refl, sym, ap, ap₂, ◌∙◌, subst, if◌then◌else◌}
use Rattle.std.proofs.lemmas.Bool.{cond_both, eqb-true, or_parts, not-false}
use Rattle.gds_records.specs.Records.{Item}
use Rattle.gds_grammar.specs.Grammar.{Grammar, nothing, one_of, ◌‣◌, ◌∣◌, many}
use Rattle.gds_grammar.specs.Conditions.{is_in}
use Rattle.gds_grammar.specs.Words.{firsts}
use Rattle.gds_grammar.specs.Tests.{counted, readable, is_repeated}
use Rattle.gds_grammar.specs.Reading.{Cursor, Fault, Taken, peek, accepted, take_one, alone, after, then_read, choose, rounds, read}
use Rattle.gds_stream.specs.Contents.{held}

-- the first of two, where there is one, else the second
abbrev pub or_else : {A : Type 0} → Option A → Option A → Option A
or_else None b = b
or_else (Some x) b = Some x

-- what records hold that follow others
pub held-append : (code : ℕ) (a b : List Item) → held code (a ++ b) ≡ or_else (held code a) (held code b)
held-append code [] b = refl
held-append code (i ∷ a) b =
    let later = held-append code a b in
    elim (eqb i.code code) as (λ t. (if t then Some i.body else held code (a ++ b)) ≡ or_else (if t then Some i.body else held code a) (held code b)) [ true ↦ refl | false ↦ later ]

-- whether a type stands in a rule
abbrev pub mentions : Grammar → ℕ → Bool
mentions nothing code = false
mentions (one_of first others) code = is_in (first ∷ others) code
mentions (a ‣ b) code = mentions a code || mentions b code
mentions (a ∣ b) code = mentions a code || mentions b code
mentions (many a) code = mentions a code

-- no record that is read has the type
abbrev pub Lacks : ℕ → Taken → Type 0
Lacks code (Err f) = Unit {0}
Lacks code (Ok r) = held code r.0 ≡ None

other_code : (codes : List ℕ) (code other : ℕ) (body : List ℕ) → is_in codes other ≡ true → is_in codes code ≡ false → (if eqb other code then Some body else None) ≡ None
other_code codes code other body has lacks =
    cond_both (eqb other code) _ _ (λ o. o ≡ None)
    (λ e. let same : other ≡ code = eqb-true other code e in let clash : true ≡ false = sym has ∙ ap (is_in codes) same ∙ lacks in cc)
    (λ e. refl)

one_lacks : (codes : List ℕ) (code : ℕ) (c : Cursor) (p : Result Item Fault) → is_in codes code ≡ false → Lacks code (alone (accepted codes c p))
one_lacks codes code c (Err f) lacks = tt
one_lacks codes code c (Ok i) lacks =
    let P : Result (Item × Cursor) Fault → Type 0 = λ r. Lacks code (alone r) in
    cond_both (not (is_in codes i.code)) _ _ P (λ _. tt)
    (λ e. cond_both (not (counted c.kind i)) _ _ P (λ _. tt)
    (λ _. cond_both (not (readable i)) _ _ P (λ _. tt)
    (λ _. cond_both (is_repeated c.names i) _ _ P (λ _. tt)
    (λ _. other_code codes code i.code i.body (not-false _ e) lacks))))

after_lacks : (code : ℕ) (items : List Item) (r : Taken) → held code items ≡ None → Lacks code r → Lacks code (after items r)
after_lacks code items (Err f) first later = tt
after_lacks code items (Ok r) first later = held-append code items r.0 ∙ ap₂ or_else first later

then_lacks : (code : ℕ) (r : Taken) (next : Cursor → Taken) → Lacks code r → ((d : Cursor) → Lacks code (next d)) → Lacks code (then_read r next)
then_lacks code (Err f) next first later = tt
then_lacks code (Ok r) next first later = after_lacks code r.0 (next r.1) first (later r.1)

choice_lacks : (code : ℕ) (codes : List ℕ) (p : Result Item Fault) (a b : Taken) → Lacks code a → Lacks code b → Lacks code (choose codes p a b)
choice_lacks code codes (Err f) a b one other = tt
choice_lacks code codes (Ok i) a b one other = cond_both (is_in codes i.code) a b (Lacks code) (λ _. one) (λ _. other)

rounds_lack : (code n : ℕ) (codes : List ℕ) (once : Cursor → Taken) (c : Cursor) → ((d : Cursor) → Lacks code (once d)) → Lacks code (rounds n codes once c)
rounds_lack code zero codes once c each = choice_lacks code codes (peek c) _ _ tt refl
rounds_lack code (suc n) codes once c each =
    choice_lacks code codes (peek c) _ _ (then_lacks code (once c) (rounds n codes once) (each c) (λ d. rounds_lack code n codes once d each)) refl

-- what is read by a rule has no type that doesn't stand in it
pub lacks : (g : Grammar) (code : ℕ) (c : Cursor) → mentions g code ≡ false → Lacks code (read g c)
unfolding take_one
lacks nothing code c never = refl
lacks (one_of first others) code c never = one_lacks (first ∷ others) code c (peek c) never
lacks (a ‣ b) code c never =
    let parts = or_parts (mentions a code) (mentions b code) never in then_lacks code (read a c) (read b) (lacks a code c parts.0) (λ d. lacks b code d parts.1)
lacks (a ∣ b) code c never =
    let parts = or_parts (mentions a code) (mentions b code) never in choice_lacks code (firsts a) (peek c) (read a c) (read b c) (lacks a code c parts.0) (lacks b code c parts.1)
lacks (many a) code c never = rounds_lack code (length c.rest) (firsts a) (read a) c (λ d. lacks a code d never)

-- so none is held
pub not_held : (g : Grammar) (code : ℕ) (c d : Cursor) (items : List Item) → read g c ≡ Ok (items, d) → mentions g code ≡ false → held code items ≡ None
not_held g code c d items is never = subst (Lacks code) is (lacks g code c never)

-- nothing is held behind
pub or_nothing : {A : Type 0} (a : Option A) → or_else a None ≡ a
or_nothing None = refl
or_nothing (Some x) = refl

-- what records hold of a type that none behind them has
pub same_held : (code : ℕ) (items more : List Item) → held code more ≡ None → held code (items ++ more) ≡ held code items
same_held code items more none = held-append code items more ∙ ap (or_else (held code items)) none ∙ or_nothing (held code items)
