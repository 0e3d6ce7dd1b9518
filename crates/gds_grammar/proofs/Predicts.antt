-- One record of look-ahead is enough for a safe grammar: what is read is a word of it, and where reading stops no word goes on.
use Rattle.std.proofs.Common.{◌≡◌, ℕ, zero, suc, ◌+◌, ◌<◌, ◌≤◌, true, false, not, ◌&&◌, List, [], ◌∷◌, ◌++◌, length, Option, Some, Result, Ok, Err, refl, sym, ap, ap₂, ◌∙◌, subst, append_assoc, length-append, arith}
use Rattle.std.proofs.lemmas.Bool.{and_parts, and_right, not-true}
use Rattle.std.proofs.lemmas.List.{map-append}
use Rattle.gds_records.specs.Records.{Item, spelled, flat, Framed}
use Rattle.gds_records.specs.Framing.{framing}
use Rattle.gds_records.proofs.Deciding.{record_framing, length_spelled}
use Rattle.gds_grammar.specs.Grammar.{Grammar, nothing, one_of, ◌‣◌, ◌∣◌, many, In}
use Rattle.gds_grammar.specs.Words.{nullable, firsts}
use Rattle.gds_grammar.specs.Conditions.{is_in}
use Rattle.gds_grammar.specs.Reading.{Cursor, Fault, Taken, fault, or_fault, peeked, peek, behind, take_one, alone, after, then_read, rounds, read}
use Rattle.gds_grammar.specs.declared.cause.Cause.TheVariants.{NotClosed}
use Rattle.gds_grammar.proofs.Predicting.{AreBytes, Goes, Left, Follows, next_type, type_of}
use Rattle.gds_grammar.proofs.GrammarLaws.{some_word, some_word_in, in_one_of, not_in_both, firsts_has, clash}
use Rattle.gds_grammar.proofs.Following.{codes, follows_here, follows_then, bytes_behind}
use Rattle.gds_grammar.proofs.Causes.{Because, because_like, because_anyhow, peeks_fault, Takes, takes, chosen}
use Rattle.gds_grammar.proofs.WordsRead.{IsWord, Words, reads, words_in_rounds}
use Rattle.gds_grammar.proofs.Rounds.{peeks_some, word_shorter}
use Rattle.gds_grammar.proofs.Leaving.{Agrees, left_here, left_then, left_one, left_nothing, left_parts, left_first, left_second, left_again, left_no_more}
use Rattle.gds_grammar.proofs.Safe.{are_apart, safe, closing, apart_at, word_closes}

-- ---- the type that comes next

peeked_ok : (c : Cursor) (rest : List ℕ) (i : Item) → 0 < length rest → framing c.at rest ≡ Ok i → peeked c rest ≡ Ok i
peeked_ok c [] i some e = absurd (omega arith)
peeked_ok c (b ∷ rest) i some e = ap (or_fault c) e

-- a record that stands there is the one that comes next
pub peeks_spelled : (c : Cursor) (i : Item) (more : List ℕ) → Framed i → i.at ≡ c.at → c.rest ≡ spelled i ++ more → peek c ≡ Ok i
unfolding peek
peeks_spelled c i more framed place e =
    let n : length c.rest ≡ length (spelled i) + length more = ap length e ∙ length-append (spelled i) more in
    let found : framing c.at c.rest ≡ Ok i = ap₂ framing (sym place) e ∙ record_framing i more framed in
    peeked_ok c c.rest i (omega (arith, length_spelled i)) found

same_type : (c d : Cursor) (rest : List ℕ) → c.at ≡ d.at → type_of (peeked c rest) ≡ type_of (peeked d rest)
same_type c d [] e = refl
same_type c d (b ∷ rest) e = by_framing (framing c.at (b ∷ rest)) (framing d.at (b ∷ rest)) (ap (λ (n : ℕ). framing n (b ∷ rest)) e)
  where
    of_framing : (r : _) → type_of (or_fault c r) ≡ type_of (or_fault d r)
    of_framing (Ok i) = refl
    of_framing (Err f) = refl

    by_framing : (r s : _) → r ≡ s → type_of (or_fault c r) ≡ type_of (or_fault d s)
    by_framing r s e = of_framing r ∙ ap (λ x. type_of (or_fault d x)) e

-- what may come at the later place may come at the earlier one behind the records between
pub agrees : (c d : Cursor) (items : List Item) → Follows c items d → Agrees (next_type c) (codes items) (next_type d)
unfolding peek
agrees c d [] follows w goes =
    let place : c.at ≡ d.at = let e = follows.at in omega arith in
    let same : next_type c ≡ next_type d = ap (λ (l : List ℕ). type_of (peeked c l)) follows.spells ∙ same_type c d d.rest place in
    subst (λ (o : Option ℕ). Goes o w) (sym same) goes
agrees c d (i ∷ items) follows w goes =
    let found : peek c ≡ Ok i = peeks_spelled c i (flat items ++ d.rest) follows.each.0 follows.placed.0 (follows.spells ∙ append_assoc (spelled i) (flat items) d.rest) in
    subst (λ r. Goes (type_of r) (i.code ∷ (codes items ++ w))) (sym found) (codes items ++ w, refl)

-- ---- answers

-- some word of the grammar goes on with the type, and needs no more than its shortest
pub record May (want : Grammar) (code : ℕ) : Type 0 where
  pub more : List ℕ
  pub word : In want (code ∷ more)
  pub short : length (code ∷ more) ≤ length (some_word want)

-- no word of the grammar begins with the type
pub record Never (want : Grammar) (code : ℕ) : Type 0 where
  pub none : (more : List ℕ) → In want (code ∷ more) → ⊥

-- reading stops behind these records, where this is left of the grammar and what is behind it
pub record IsStuck (g behind : Grammar) (c : Cursor) (f : Fault) : Type 0 where
  pub items : List Item
  pub there : Cursor
  pub want : Grammar
  pub follows : Follows c items there
  pub place : f.place ≡ there.at
  pub left : Left (g ‣ behind) (codes items) (next_type there) want
  pub some : nullable want ≡ false
  pub short : length (some_word want) ≤ closing g + length (some_word behind)
  pub why : Because (May want) (Never want) there f.cause

-- what an answer tells of the grammar: behind what was read only what is behind it is left
abbrev pub Reading : Grammar → Grammar → Cursor → Taken → Type 0
Reading g behind c (Ok r) = Left (g ‣ behind) (codes r.0) (next_type r.1) behind
Reading g behind c (Err f) = IsStuck g behind c f

-- where no record comes next
stuck_here : (g k : Grammar) (c : Cursor) (f : Fault) → AreBytes c.rest → nullable k ≡ false → peek c ≡ Err f → IsStuck g k c f
stuck_here g k c f bytes some e =
    let why = peeks_fault c f bytes e in
    record {
      items = [];
      there = c;
      want = g ‣ k;
      follows = follows_here c;
      place = why.0;
      left = left_here (g ‣ k) (next_type c);
      some = and_right (nullable g) _ some;
      short = omega (arith, length-append (some_word g) (some_word k), word_closes g);
      why = because_anyhow (May (g ‣ k)) (Never (g ‣ k)) c f.cause why.1;
    }

-- one record
one_read : (code : ℕ) (others : List ℕ) (k : Grammar) (c : Cursor) (r : Result (Item × Cursor) Fault) → nullable k ≡ false → Takes (code ∷ others) c r
    → Reading (one_of code others) k c (alone r)
one_read code others k c (Ok r) some here = left_one code others k r.0.code (next_type r.1) here.allowed
one_read code others k c (Err f) some here =
    let want : Grammar = one_of code others ‣ k in
    record {
      items = [];
      there = c;
      want = want;
      follows = follows_here c;
      place = here.0;
      left = left_here want (next_type c);
      some = refl;
      short = omega arith;
      why = because_like (λ t. is_in (code ∷ others) t ≡ true) (λ t. is_in (code ∷ others) t ≡ false) (May want) (Never want) c f.cause
          (λ t has. record { more = some_word k; word = (t ∷ [], some_word k, refl, in_one_of code others t has, some_word_in k); short = omega arith })
          (λ i begins other. record { none = λ more here. clash (is_in (firsts want) i.code) (firsts_has want i.code more here) (not_in_both (code ∷ others) [] i.code other refl) })
          here.1;
    }

-- an answer and its word
pub record Both (g k : Grammar) (c : Cursor) (r : Taken) : Type 0 where
  pub words : Words g c r
  pub tells : Reading g k c r

read_after : (a b g k : Grammar) (c d : Cursor) (items : List Item) (r : Taken) → closing b ≤ closing g
    → Follows c items d → Left (g ‣ k) (codes items) (next_type d) (b ‣ k) → Both b k d r → Reading g k c (after items r)
read_after a b g k c d items (Ok r) closes follows first second =
    let whole = left_then (g ‣ k) (b ‣ k) k (codes items) (codes r.0) (next_type d) (next_type r.1) first second.tells (agrees d r.1 r.0 second.words.follows) in
    subst (λ (w : List ℕ). Left (g ‣ k) w (next_type r.1) k) (sym (map-append (λ (i : Item). i.code) items r.0)) whole
read_after a b g k c d items (Err f) closes follows first second =
    let s = second.tells in
    let whole = left_then (g ‣ k) (b ‣ k) s.want (codes items) (codes s.items) (next_type d) (next_type s.there) first s.left (agrees d s.there s.items s.follows) in
    record {
      items = items ++ s.items;
      there = s.there;
      want = s.want;
      follows = follows_then c d s.there items s.items follows s.follows;
      place = s.place;
      left = subst (λ (w : List ℕ). Left (g ‣ k) w (next_type s.there) s.want) (sym (map-append (λ (i : Item). i.code) items s.items)) whole;
      some = s.some;
      short = let n = s.short in omega arith;
      why = s.why;
    }

-- one part after the other
read_then : (a b g k : Grammar) (c : Cursor) (r : Taken) (next : Cursor → Taken)
    → closing b ≤ closing g → closing a + length (some_word (b ‣ k)) ≤ closing g + length (some_word k)
    → Left (g ‣ k) [] (next_type c) (a ‣ (b ‣ k)) → Both a (b ‣ k) c r
    → ((d : Cursor) (items : List Item) → IsWord a c items d → Both b k d (next d))
    → Reading g k c (then_read r next)
read_then a b g k c (Ok r) next closes longest joined first second =
    let left = left_then (g ‣ k) (a ‣ (b ‣ k)) (b ‣ k) [] (codes r.0) (next_type c) (next_type r.1) joined first.tells (agrees c r.1 r.0 first.words.follows) in
    read_after a b g k c r.1 r.0 (next r.1) closes first.words.follows left (second r.1 r.0 first.words)
read_then a b g k c (Err f) next closes longest joined first second =
    let s = first.tells in
    record {
      items = s.items;
      there = s.there;
      want = s.want;
      follows = s.follows;
      place = s.place;
      left = left_then (g ‣ k) (a ‣ (b ‣ k)) s.want [] (codes s.items) (next_type c) (next_type s.there) joined s.left (agrees c s.there s.items s.follows);
      some = s.some;
      short = let n = s.short in omega arith;
      why = s.why;
    }

-- one of two ways, where the next type tells which
read_way : (h g k : Grammar) (c : Cursor) (r : Taken) → closing h ≤ closing g → Left (g ‣ k) [] (next_type c) (h ‣ k) → Both h k c r → Reading g k c r
read_way h g k c (Ok r) closes way here =
    left_then (g ‣ k) (h ‣ k) k [] (codes r.0) (next_type c) (next_type r.1) way here.tells (agrees c r.1 r.0 here.words.follows)
read_way h g k c (Err f) closes way here =
    let s = here.tells in
    record {
      items = s.items;
      there = s.there;
      want = s.want;
      follows = s.follows;
      place = s.place;
      left = left_then (g ‣ k) (h ‣ k) s.want [] (codes s.items) (next_type c) (next_type s.there) way s.left (agrees c s.there s.items s.follows);
      some = s.some;
      short = let n = s.short in omega arith;
      why = s.why;
    }

-- the next type is that of the next record
by_next : (g h : Grammar) (c : Cursor) (i : Item) → peek c ≡ Ok i → Left g [] (Some i.code) h → Left g [] (next_type c) h
by_next g h c i e left = subst (λ p. Left g [] (type_of p) h) (sym e) left

-- ---- the law

read_rounds : (a k : Grammar) → nullable a ≡ false → are_apart (firsts a) (firsts k) ≡ true → nullable k ≡ false
    → ((d : Cursor) → AreBytes d.rest → Reading a (many a ‣ k) d (read a d))
    → (n : ℕ) (c : Cursor) → AreBytes c.rest → length c.rest ≤ n → Reading (many a) k c (rounds n (firsts a) (read a) c)
read_rounds a k some apart ends by_a zero c bytes enough =
    chosen (Reading (many a) k c) (firsts a) (peek c) (Err (fault c NotClosed)) (Ok ([], c))
    (λ f e. stuck_here (many a) k c f bytes ends e)
    (λ i e has. absurd (let n = peeks_some c i bytes e in omega arith))
    (λ i e has. by_next (many a ‣ k) k c i e (left_no_more a k i.code some has))
read_rounds a k some apart ends by_a (suc n) c bytes enough =
    chosen (Reading (many a) k c) (firsts a) (peek c) (then_read (read a c) (rounds n (firsts a) (read a))) (Ok ([], c))
    (λ f e. stuck_here (many a) k c f bytes ends e)
    (λ i e has.
    read_then a (many a) (many a) k c (read a c) (rounds n (firsts a) (read a)) (omega arith) (omega arith)
    (by_next (many a ‣ k) (a ‣ (many a ‣ k)) c i e (left_again a k i.code (apart_at (firsts a) (firsts k) i.code apart has)))
    (record { words = reads a c bytes; tells = by_a c bytes })
    (λ d items here.
    let left = bytes_behind c d items bytes here.follows in
    let less = word_shorter a c d items some here in
    record { words = words_in_rounds a (reads a) n d left; tells = read_rounds a k some apart ends by_a n d left (omega arith) }))
    (λ i e has. by_next (many a ‣ k) k c i e (left_no_more a k i.code some has))

-- what reading by a safe grammar tells of its words
pub predicts : (g k : Grammar) (c : Cursor) → safe g k ≡ true → nullable k ≡ false → AreBytes c.rest → Reading g k c (read g c)
predicts nothing k c sure some bytes = left_nothing k (next_type c)
predicts (one_of code others) k c sure some bytes = one_read code others k c (take_one (code ∷ others) c) some (takes (code ∷ others) c bytes)
predicts (a ‣ b) k c sure some bytes =
    let both = and_parts (safe a (b ‣ k)) (safe b k) sure in
    read_then a b (a ‣ b) k c (read a c) (read b) (omega arith) (omega (arith, length-append (some_word b) (some_word k))) (left_parts a b k (next_type c))
    (record { words = reads a c bytes; tells = predicts a (b ‣ k) c both.0 (and_right (nullable b) _ some) bytes })
    (λ d items here.
    let left = bytes_behind c d items bytes here.follows in
    record { words = reads b d left; tells = predicts b k d both.1 some left })
predicts (a ∣ b) k c sure some bytes =
    let both = and_parts (not (nullable a) && are_apart (firsts a) (firsts (b ‣ k))) (safe a k && safe b k) sure in
    let ways = and_parts (not (nullable a)) (are_apart (firsts a) (firsts (b ‣ k))) both.0 in
    let inner = and_parts (safe a k) (safe b k) both.1 in
    chosen (Reading (a ∣ b) k c) (firsts a) (peek c) (read a c) (read b c)
    (λ f e. stuck_here (a ∣ b) k c f bytes some e)
    (λ i e has.
    read_way a (a ∣ b) k c (read a c) (omega arith)
    (by_next ((a ∣ b) ‣ k) (a ‣ k) c i e (left_first a b k i.code (apart_at (firsts a) (firsts (b ‣ k)) i.code ways.1 has)))
    (record { words = reads a c bytes; tells = predicts a k c inner.0 some bytes }))
    (λ i e has.
    read_way b (a ∣ b) k c (read b c) (omega arith)
    (by_next ((a ∣ b) ‣ k) (b ‣ k) c i e (left_second a b k i.code (not-true _ ways.0) has))
    (record { words = reads b c bytes; tells = predicts b k c inner.1 some bytes }))
predicts (many a) k c sure some bytes =
    let both = and_parts (not (nullable a) && are_apart (firsts a) (firsts k)) (safe a (many a ‣ k)) sure in
    let ways = and_parts (not (nullable a)) (are_apart (firsts a) (firsts k)) both.0 in
    read_rounds a k (not-true _ ways.0) ways.1 some (λ d left. predicts a (many a ‣ k) d both.1 some left) (length c.rest) c bytes (omega arith)
