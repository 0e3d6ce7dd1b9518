-- Reading a part again and again, round by round.
use Rattle.std.proofs.Common.{◌≡◌, ℕ, zero, suc, ◌<◌, ◌≤◌, true, false, List, [], ◌∷◌, ◌++◌, length, Ok, Err, refl, sym, ap, ◌∙◌, subst, append_assoc, append-nil, length-append, drop, arith}
use Rattle.std.proofs.lemmas.Bool.{cond-true, cond-false}
use Rattle.gds_records.specs.Records.{Item, spelled}
use Rattle.gds_records.proofs.Deciding.{length_spelled}
use Rattle.gds_grammar.specs.Grammar.{Grammar, many}
use Rattle.gds_grammar.specs.Words.{nullable, firsts}
use Rattle.gds_grammar.specs.Conditions.{is_in}
use Rattle.gds_grammar.specs.Reading.{Cursor, Fault, Taken, fault, peek, after, then_read, choose, rounds, read}
use Rattle.gds_grammar.specs.declared.cause.Cause.TheVariants.{NotClosed}
use Rattle.gds_grammar.proofs.Predicting.{AreBytes}
use Rattle.gds_grammar.proofs.GrammarLaws.{nullable_empty, clash}
use Rattle.gds_grammar.proofs.Following.{bytes_behind, shorter_behind}
use Rattle.gds_grammar.proofs.Causes.{peeks_record}
use Rattle.gds_grammar.proofs.WordsRead.{IsWord, Words, reads}

-- ---- what is left

-- behind a word of a grammar that doesn't allow nothing less is left
pub word_shorter : (g : Grammar) (c d : Cursor) (items : List Item) → nullable g ≡ false → IsWord g c items d → length d.rest < length c.rest
word_shorter g c d [] some here = clash (nullable g) (nullable_empty g here.word) some
word_shorter g c d (i ∷ items) some here = shorter_behind c d i items here.follows

pub read_shorter : (g : Grammar) (c d : Cursor) (items : List Item) → nullable g ≡ false → AreBytes c.rest → read g c ≡ Ok (items, d) → length d.rest < length c.rest
read_shorter g c d items some bytes e = word_shorter g c d items some (subst (Words g c) e (reads g c bytes))

pub read_leaves_bytes : (g : Grammar) (c d : Cursor) (items : List Item) → AreBytes c.rest → read g c ≡ Ok (items, d) → AreBytes d.rest
read_leaves_bytes g c d items bytes e = let here : IsWord g c items d = subst (Words g c) e (reads g c bytes) in bytes_behind c d items bytes here.follows

-- where a record comes next something is left
pub peeks_some : (c : Cursor) (i : Item) → AreBytes c.rest → peek c ≡ Ok i → 0 < length c.rest
peeks_some c i bytes e =
    let begins = peeks_record c i bytes e in
    let n = ap length begins.spells ∙ length-append (spelled i) (drop (length (spelled i)) c.rest) in
    omega (arith, length_spelled i)

-- ---- a loop

-- these records were read in whole rounds from the start, and the rest is read in further ones from here
pub record RoundsFrom (a : Grammar) (start : Cursor) (items : List Item) (here : Cursor) : Type 0 where
  pub allowed : ℕ
  pub enough : length here.rest ≤ allowed
  pub bytes : AreBytes here.rest
  pub same : read (many a) start ≡ after items (rounds allowed (firsts a) (read a) here)

after_none : (r : Taken) → r ≡ after [] r
after_none (Err f) = refl
after_none (Ok r) = refl

after_both : (items more : List Item) (r : Taken) → after items (after more r) ≡ after (items ++ more) r
after_both items more (Err f) = refl
after_both items more (Ok r) = ap (λ (l : List Item). Ok (l, r.1)) (sym (append_assoc items more r.0))

-- before the first round
pub rounds_begin : (a : Grammar) (start : Cursor) → AreBytes start.rest → RoundsFrom a start [] start
rounds_begin a start bytes = record {
  allowed = length start.rest;
  enough = omega arith;
  bytes = bytes;
  same = after_none (rounds (length start.rest) (firsts a) (read a) start);
}

one_round : (a : Grammar) (start here there : Cursor) (items more : List Item) (i : Item) (n : ℕ) → nullable a ≡ false → AreBytes here.rest → length here.rest ≤ n
    → read (many a) start ≡ after items (rounds n (firsts a) (read a) here)
    → peek here ≡ Ok i → is_in (firsts a) i.code ≡ true → read a here ≡ Ok (more, there) → RoundsFrom a start (items ++ more) there
one_round a start here there items more i zero some bytes enough same next has e = absurd (let n = peeks_some here i bytes next in omega arith)
one_round a start here there items more i (suc n) some bytes enough same next has e =
    let less = read_shorter a here there more some bytes e in
    let further : Cursor → Taken = rounds n (firsts a) (read a) in
    record {
      allowed = n;
      enough = omega arith;
      bytes = read_leaves_bytes a here there more bytes e;
      same =
          same
          ∙ ap (λ p. after items (choose (firsts a) p (then_read (read a here) further) (Ok ([], here)))) next
          ∙ ap (after items) (cond-true _ _ _ has)
          ∙ ap (λ r. after items (then_read r further)) e
          ∙ after_both items more (further there);
    }

-- a round more
pub rounds_go_on : (a : Grammar) (start here there : Cursor) (items more : List Item) (i : Item) → nullable a ≡ false → RoundsFrom a start items here
    → peek here ≡ Ok i → is_in (firsts a) i.code ≡ true → read a here ≡ Ok (more, there) → RoundsFrom a start (items ++ more) there
rounds_go_on a start here there items more i some r next has e = one_round a start here there items more i r.allowed some r.bytes r.enough r.same next has e

-- a round more leaves less
pub rounds_less : (a : Grammar) (start here there : Cursor) (items more : List Item) → nullable a ≡ false → RoundsFrom a start items here
    → read a here ≡ Ok (more, there) → length there.rest < length here.rest
rounds_less a start here there items more some r e = read_shorter a here there more some r.bytes e

end_at : (a : Grammar) (here : Cursor) (i : Item) (n : ℕ) → peek here ≡ Ok i → is_in (firsts a) i.code ≡ false → rounds n (firsts a) (read a) here ≡ Ok ([], here)
end_at a here i zero next has = ap (λ p. choose (firsts a) p (Err (fault here NotClosed)) (Ok ([], here))) next ∙ cond-false _ _ _ has
end_at a here i (suc n) next has =
    ap (λ p. choose (firsts a) p (then_read (read a here) (rounds n (firsts a) (read a))) (Ok ([], here))) next ∙ cond-false _ _ _ has

-- where the next record begins no round, all is read
pub rounds_end : (a : Grammar) (start here : Cursor) (items : List Item) (i : Item) → RoundsFrom a start items here
    → peek here ≡ Ok i → is_in (firsts a) i.code ≡ false → read (many a) start ≡ Ok (items, here)
rounds_end a start here items i r next has =
    r.same ∙ ap (after items) (end_at a here i r.allowed next has) ∙ ap (λ (l : List Item). Ok (l, here)) (append-nil items)

stop_at : (a : Grammar) (here : Cursor) (f : Fault) (n : ℕ) → peek here ≡ Err f → rounds n (firsts a) (read a) here ≡ Err f
stop_at a here f zero next = ap (λ p. choose (firsts a) p (Err (fault here NotClosed)) (Ok ([], here))) next
stop_at a here f (suc n) next = ap (λ p. choose (firsts a) p (then_read (read a here) (rounds n (firsts a) (read a))) (Ok ([], here))) next

-- where no record comes next, reading stops
pub rounds_stop : (a : Grammar) (start here : Cursor) (items : List Item) (f : Fault) → RoundsFrom a start items here → peek here ≡ Err f → read (many a) start ≡ Err f
rounds_stop a start here items f r next = r.same ∙ ap (after items) (stop_at a here f r.allowed next)

fail_at : (a : Grammar) (here : Cursor) (i : Item) (f : Fault) (n : ℕ) → AreBytes here.rest → length here.rest ≤ n → peek here ≡ Ok i → is_in (firsts a) i.code ≡ true → read a here ≡ Err f
    → rounds n (firsts a) (read a) here ≡ Err f
fail_at a here i f zero bytes enough next has e = absurd (let n = peeks_some here i bytes next in omega arith)
fail_at a here i f (suc n) bytes enough next has e =
    let further : Cursor → Taken = rounds n (firsts a) (read a) in
    ap (λ p. choose (firsts a) p (then_read (read a here) further) (Ok ([], here))) next
    ∙ cond-true _ _ _ has
    ∙ ap (λ r. then_read r further) e

-- where a round stops, reading does
pub rounds_fail : (a : Grammar) (start here : Cursor) (items : List Item) (i : Item) (f : Fault) → RoundsFrom a start items here
    → peek here ≡ Ok i → is_in (firsts a) i.code ≡ true → read a here ≡ Err f → read (many a) start ≡ Err f
rounds_fail a start here items i f r next has e = r.same ∙ ap (after items) (fail_at a here i f r.allowed r.bytes r.enough next has e)
