-- Reading by a grammar that ends with a record, as that of streams does: what is left of it where reading stops.
use Rattle.std.proofs.Common.{◌≡◌, ℕ, ◌≤◌, Bool, true, false, ◌&&◌, List, [], ◌∷◌, ◌++◌, length, Result, Ok, Err, refl, sym, subst, arith}
use Rattle.std.proofs.lemmas.Bool.{true≢false, and_parts, and_right}
use Rattle.std.proofs.lemmas.List.{map-append}
use Rattle.gds_records.specs.Records.{Item}
use Rattle.gds_grammar.specs.Grammar.{Grammar, nothing, one_of, ◌‣◌, ◌∣◌, many}
use Rattle.gds_grammar.specs.Format.{skipped, head, turn, boundary, path, sref, aref, label, node, box, property, element, structure, stream}
use Rattle.gds_grammar.specs.Words.{nullable}
use Rattle.gds_grammar.specs.Conditions.{is_in}
use Rattle.gds_grammar.specs.Reading.{Cursor, Fault, Taken, take_one, alone, after, then_read, read}
use Rattle.gds_grammar.proofs.Predicting.{AreBytes, Left, Follows, next_type}
use Rattle.gds_grammar.proofs.GrammarLaws.{some_word, in_one_of, firsts_has, clash}
use Rattle.gds_grammar.proofs.Following.{codes, follows_here, follows_then, bytes_behind}
use Rattle.gds_grammar.proofs.Causes.{Because, because_like, Takes, takes}
use Rattle.gds_grammar.proofs.WordsRead.{Words, reads}
use Rattle.gds_grammar.proofs.Leaving.{left_here, left_then}
use Rattle.gds_grammar.proofs.Safe.{safe, closing}
use Rattle.gds_grammar.proofs.Predicts.{May, Never, Reading, predicts, agrees}

-- ---- a grammar with nothing behind it

-- whether the next type tells at each place which way to read, in a grammar that ends with a record
abbrev pub final : Grammar → Bool
final nothing = false
final (one_of code codes) = true
final (a ‣ b) = safe a b && final b
final (a ∣ b) = false
final (many a) = false

final_some : (g : Grammar) → final g ≡ true → nullable g ≡ false
final_some nothing sure = absurd (true≢false (sym sure))
final_some (one_of code codes) sure = refl
final_some (a ‣ b) sure = and_right (nullable a) _ (final_some b (and_parts (safe a b) (final b) sure).1)
final_some (a ∣ b) sure = absurd (true≢false (sym sure))
final_some (many a) sure = absurd (true≢false (sym sure))

-- reading stops behind these records, where this is left of the grammar
pub record StopsIn (g : Grammar) (c : Cursor) (f : Fault) : Type 0 where
  pub items : List Item
  pub there : Cursor
  pub want : Grammar
  pub follows : Follows c items there
  pub place : f.place ≡ there.at
  pub left : Left g (codes items) (next_type there) want
  pub some : nullable want ≡ false
  pub short : length (some_word want) ≤ closing g
  pub why : Because (May want) (Never want) there f.cause

-- an answer with a fault tells where reading stopped
abbrev pub StopsThere : Grammar → Cursor → Taken → Type 0
StopsThere g c (Ok r) = Unit {0}
StopsThere g c (Err f) = StopsIn g c f

last_stops : (code : ℕ) (others : List ℕ) (c : Cursor) (r : Result (Item × Cursor) Fault) → Takes (code ∷ others) c r → StopsThere (one_of code others) c (alone r)
last_stops code others c (Ok r) here = tt
last_stops code others c (Err f) here =
    let want : Grammar = one_of code others in
    record {
      items = [];
      there = c;
      want = want;
      follows = follows_here c;
      place = here.0;
      left = left_here want (next_type c);
      some = refl;
      short = omega arith;
      why = because_like (λ t. is_in (code ∷ others) t ≡ true) (λ t. is_in (code ∷ others) t ≡ false) (May want) (Never want) c f.cause
          (λ t has. record { more = []; word = in_one_of code others t has; short = omega arith })
          (λ i begins other. record { none = λ more here. clash (is_in (code ∷ others) i.code) (firsts_has want i.code more here) other })
          here.1;
    }

stops_after : (a b : Grammar) (c d : Cursor) (items : List Item) (r : Taken) → Follows c items d → Left (a ‣ b) (codes items) (next_type d) b → StopsThere b d r → StopsThere (a ‣ b) c (after items r)
stops_after a b c d items (Ok r) follows left here = tt
stops_after a b c d items (Err f) follows left s =
    let whole = left_then (a ‣ b) b s.want (codes items) (codes s.items) (next_type d) (next_type s.there) left s.left (agrees d s.there s.items s.follows) in
    record {
      items = items ++ s.items;
      there = s.there;
      want = s.want;
      follows = follows_then c d s.there items s.items follows s.follows;
      place = s.place;
      left = subst (λ (w : List ℕ). Left (a ‣ b) w (next_type s.there) s.want) (sym (map-append (λ (i : Item). i.code) items s.items)) whole;
      some = s.some;
      short = let n = s.short in omega arith;
      why = s.why;
    }

stops_then : (a b : Grammar) (c : Cursor) (r : Taken) (next : Cursor → Taken) → Words a c r → Reading a b c r → AreBytes c.rest
    → ((d : Cursor) → AreBytes d.rest → StopsThere b d (next d)) → StopsThere (a ‣ b) c (then_read r next)
stops_then a b c (Ok r) next word tells bytes further =
    stops_after a b c r.1 r.0 (next r.1) word.follows tells (further r.1 (bytes_behind c r.1 r.0 bytes word.follows))
stops_then a b c (Err f) next word s bytes further = record {
  items = s.items;
  there = s.there;
  want = s.want;
  follows = s.follows;
  place = s.place;
  left = s.left;
  some = s.some;
  short = let n = s.short in omega arith;
  why = s.why;
}

-- where reading by such a grammar stops, this is left of it
pub stops_there : (g : Grammar) (c : Cursor) → final g ≡ true → AreBytes c.rest → StopsThere g c (read g c)
stops_there nothing c sure bytes = absurd (true≢false (sym sure))
stops_there (one_of code others) c sure bytes = last_stops code others c (take_one (code ∷ others) c) (takes (code ∷ others) c bytes)
stops_there (a ‣ b) c sure bytes =
    let both = and_parts (safe a b) (final b) sure in
    stops_then a b c (read a c) (read b) (reads a c bytes) (predicts a b c both.0 (final_some b both.1) bytes) bytes (λ d left. stops_there b d both.1 left)
stops_there (a ∣ b) c sure bytes = absurd (true≢false (sym sure))
stops_there (many a) c sure bytes = absurd (true≢false (sym sure))

-- ---- the grammar of streams

pub stream_final : final stream ≡ true
unfolding stream structure element property box node label aref sref path boundary turn head skipped
stream_final = refl

pub stream_closes : closing stream ≤ 8
unfolding stream structure element property box node label aref sref path boundary turn head skipped
stream_closes = omega arith
