-- What is read stands there, each record as it should be, and the grammar allows it.
use Rattle.std.proofs.Common.{◌≡◌, ℕ, zero, suc, List, [], ◌∷◌, ◌++◌, length, Result, Ok, Err, refl, sym, ap, subst, inl, inr}
use Rattle.std.proofs.lemmas.List.{map-append}
use Rattle.gds_records.specs.Records.{Item}
use Rattle.gds_grammar.specs.Grammar.{Grammar, nothing, one_of, ◌‣◌, ◌∣◌, many, In}
use Rattle.gds_grammar.specs.Words.{firsts}
use Rattle.gds_grammar.specs.Reading.{Cursor, Fault, Taken, fault, peek, take_one, alone, after, then_read, rounds, read}
use Rattle.gds_grammar.specs.declared.cause.Cause.TheVariants.{NotClosed}
use Rattle.gds_grammar.proofs.Predicting.{AreBytes, Follows}
use Rattle.gds_grammar.proofs.GrammarLaws.{in_one_of}
use Rattle.gds_grammar.proofs.Following.{codes, follows_here, follows_then, follows_one, bytes_behind}
use Rattle.gds_grammar.proofs.Causes.{Takes, takes, chosen}

-- records were read that stand there and are a word of the grammar
pub record IsWord (g : Grammar) (c : Cursor) (items : List Item) (d : Cursor) : Type 0 where
  pub follows : Follows c items d
  pub word : In g (codes items)

-- what is read is a word
abbrev pub Words : Grammar → Cursor → Taken → Type 0
Words g c (Err f) = Unit {0}
Words g c (Ok r) = IsWord g c r.0 r.1

word_alone : (code : ℕ) (others : List ℕ) (c : Cursor) (r : Result (Item × Cursor) Fault) → Takes (code ∷ others) c r → Words (one_of code others) c (alone r)
word_alone code others c (Err f) here = tt
word_alone code others c (Ok r) here = record {
  follows = subst (Follows c (r.0 ∷ [])) (sym here.there) (follows_one c r.0 here.begins here.counted here.readable here.unused);
  word = in_one_of code others r.0.code here.allowed;
}

-- words of two parts put together are a word of the whole
abbrev Joins : Grammar → Grammar → Grammar → Type 0
Joins a b g = (first second : List ℕ) → In a first → In b second → In g (first ++ second)

word_after : (a b g : Grammar) (c d : Cursor) (items : List Item) (r : Taken) → Joins a b g → IsWord a c items d → Words b d r → Words g c (after items r)
word_after a b g c d items (Err f) joins first second = tt
word_after a b g c d items (Ok r) joins first second = record {
  follows = follows_then c d r.1 items r.0 first.follows second.follows;
  word = subst (In g) (sym (map-append (λ (i : Item). i.code) items r.0)) (joins (codes items) (codes r.0) first.word second.word);
}

word_then : (a b g : Grammar) (c : Cursor) (r : Taken) (next : Cursor → Taken) → Joins a b g → AreBytes c.rest → Words a c r
    → ((d : Cursor) → AreBytes d.rest → Words b d (next d)) → Words g c (then_read r next)
word_then a b g c (Err f) next joins bytes first second = tt
word_then a b g c (Ok r) next joins bytes first second = word_after a b g c r.1 r.0 (next r.1) joins first (second r.1 (bytes_behind c r.1 r.0 bytes first.follows))

word_of_either : (a b : Grammar) (c : Cursor) (r : Taken) → Words a c r → Words (a ∣ b) c r
word_of_either a b c (Err f) here = tt
word_of_either a b c (Ok r) here = record { follows = here.follows; word = inl here.word }

word_of_other : (a b : Grammar) (c : Cursor) (r : Taken) → Words b c r → Words (a ∣ b) c r
word_of_other a b c (Err f) here = tt
word_of_other a b c (Ok r) here = record { follows = here.follows; word = inr here.word }

-- a piece before pieces
pub one_more : (a : Grammar) → Joins a (many a) (many a)
one_more a first second here there = (first ∷ there.0, (here, there.1), ap (λ (w : List ℕ). first ++ w) there.2)

pub none_more : (a : Grammar) (c : Cursor) → IsWord (many a) c [] c
none_more a c = record { follows = follows_here c; word = ([], tt, refl) }

pub words_in_rounds : (a : Grammar) → ((d : Cursor) → AreBytes d.rest → Words a d (read a d)) → (n : ℕ) (c : Cursor) → AreBytes c.rest → Words (many a) c (rounds n (firsts a) (read a) c)
words_in_rounds a by_a zero c bytes = chosen (Words (many a) c) (firsts a) (peek c) (Err (fault c NotClosed)) (Ok ([], c)) (λ f e. tt) (λ i e has. tt) (λ i e has. none_more a c)
words_in_rounds a by_a (suc n) c bytes =
    chosen (Words (many a) c) (firsts a) (peek c) (then_read (read a c) (rounds n (firsts a) (read a))) (Ok ([], c)) (λ f e. tt)
    (λ i e has. word_then a (many a) (many a) c (read a c) (rounds n (firsts a) (read a)) (one_more a) bytes (by_a c bytes) (words_in_rounds a by_a n))
    (λ i e has. none_more a c)

-- what is read is a word of the grammar
pub reads : (g : Grammar) (c : Cursor) → AreBytes c.rest → Words g c (read g c)
reads nothing c bytes = record { follows = follows_here c; word = refl }
reads (one_of code others) c bytes = word_alone code others c (take_one (code ∷ others) c) (takes (code ∷ others) c bytes)
reads (a ‣ b) c bytes =
    word_then a b (a ‣ b) c (read a c) (read b) (λ first second here there. (first, second, refl, here, there)) bytes (reads a c bytes) (reads b)
reads (a ∣ b) c bytes =
    chosen (Words (a ∣ b) c) (firsts a) (peek c) (read a c) (read b c) (λ f e. tt)
    (λ i e has. word_of_either a b c (read a c) (reads a c bytes))
    (λ i e has. word_of_other a b c (read b c) (reads b c bytes))
reads (many a) c bytes = words_in_rounds a (reads a) (length c.rest) c bytes

-- the records that are read follow one another
pub read_follows : (g : Grammar) (c d : Cursor) (items : List Item) → AreBytes c.rest → read g c ≡ Ok (items, d) → Follows c items d
read_follows g c d items bytes e = (subst (Words g c) e (reads g c bytes)).follows

-- and are a word of the grammar
pub read_word : (g : Grammar) (c d : Cursor) (items : List Item) → AreBytes c.rest → read g c ≡ Ok (items, d) → In g (codes items)
read_word g c d items bytes e = (subst (Words g c) e (reads g c bytes)).word
