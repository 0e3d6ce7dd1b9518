-- Grammars that one record of look-ahead is enough for.
use Rattle.std.proofs.Common.{◌≡◌, ℕ, ◌+◌, ◌≤◌, max, Bool, true, false, not, ◌&&◌, eqb, ⊎_elim, List, [], ◌∷◌, length, sym, subst, length-append, arith}
use Rattle.std.specs.List.{list_all}
use Rattle.std.proofs.lemmas.Bool.{true≢false, and_parts, or_cases, eqb-true, not-true}
use Rattle.gds_grammar.specs.Grammar.{Grammar, nothing, one_of, ◌‣◌, ◌∣◌, many}
use Rattle.gds_grammar.specs.Words.{nullable, firsts}
use Rattle.gds_grammar.specs.Conditions.{is_in}
use Rattle.gds_grammar.proofs.GrammarLaws.{some_word}

-- whether no type is in both lists
abbrev pub are_apart : List ℕ → List ℕ → Bool
are_apart codes others = list_all (λ c. not (is_in others c)) codes

-- whether the next type tells at each place which way to read, with a grammar behind
abbrev pub safe : Grammar → Grammar → Bool
safe nothing behind = true
safe (one_of code codes) behind = true
safe (a ‣ b) behind = safe a (b ‣ behind) && safe b behind
safe (a ∣ b) behind = (not (nullable a) && are_apart (firsts a) (firsts (b ‣ behind))) && (safe a behind && safe b behind)
safe (many a) behind = (not (nullable a) && are_apart (firsts a) (firsts behind)) && safe a (many a ‣ behind)

-- how many types at most are wanted to the end of the grammar, where reading it stops
abbrev pub closing : Grammar → ℕ
closing nothing = 0
closing (one_of code codes) = 1
closing (a ‣ b) = max (closing a + length (some_word b)) (closing b)
closing (a ∣ b) = max (closing a) (closing b)
closing (many a) = closing a

pub apart_at : (codes others : List ℕ) (code : ℕ) → are_apart codes others ≡ true → is_in codes code ≡ true → is_in others code ≡ false
apart_at [] others code apart has = absurd (true≢false (sym has))
apart_at (c ∷ codes) others code apart has =
    let both = and_parts (not (is_in others c)) (are_apart codes others) apart in
    ⊎_elim
    (λ e. subst (λ (x : ℕ). is_in others x ≡ false) (eqb-true c code e) (not-true _ both.0))
    (λ e. apart_at codes others code both.1 e)
    (or_cases (eqb c code) (is_in codes code) has)

-- the word of a grammar closes it
pub word_closes : (g : Grammar) → length (some_word g) ≤ closing g
word_closes nothing = omega arith
word_closes (one_of code codes) = omega arith
word_closes (a ‣ b) =
    let first = word_closes a in
    omega (arith, length-append (some_word a) (some_word b))
word_closes (a ∣ b) = let second = word_closes b in omega arith
word_closes (many a) = omega arith
