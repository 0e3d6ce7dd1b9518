-- Loops that read a rule again and again.
use Rattle.std.proofs.Common.{◌≡◌, ℕ, ◌<◌, Bool, true, false, List, [], ◌++◌, length, Result, Ok, Err, sym, ap, ◌∙◌, subst}
use Rattle.gds_records.specs.Records.{Item}
use Rattle.gds_grammar.specs.Grammar.{Grammar, many}
use Rattle.gds_grammar.specs.Words.{nullable, firsts}
use Rattle.gds_grammar.specs.Conditions.{is_in}
use Rattle.gds_grammar.specs.Reading.{Cursor, peek, read}
use Rattle.gds_grammar.proofs.Predicting.{AreBytes}
use Rattle.gds_grammar.proofs.Rounds.{RoundsFrom, rounds_begin, rounds_go_on, rounds_less, rounds_end, rounds_stop, rounds_fail}
use Rattle.gds_stream.specs.declared.error.StreamError.{StreamError}
use Rattle.gds_stream.specs.declared.error.StreamError.TheVariants.{At, OutOfMemory}
use Rattle.gds_stream.specs.Gives.{IsFault, Gives}

-- a loop has read records of which this holds, in whole rounds
pub record InRounds (a : Grammar) (Holds : List Item → Type 0) (start here : Cursor) : Type 0 where
  pub items : List Item
  pub rounds : RoundsFrom a start items here
  pub holds : Holds items

-- a record comes next, and whether it is of one of these types
abbrev pub Next : List ℕ → Cursor → Bool → Type 0
Next codes c seen = (i : Item) × (peek c ≡ Ok i) × (seen ≡ is_in codes i.code)

-- a rule that allows nothing less than a record, and the types that begin it
pub record Begins (a : Grammar) (codes : List ℕ) : Type 0 where
  pub some : nullable a ≡ false
  pub by : firsts a ≡ codes

known : (a : Grammar) (codes : List ℕ) (code : ℕ) (seen b : Bool) → Begins a codes → seen ≡ is_in codes code → seen ≡ b → is_in (firsts a) code ≡ b
known a codes code seen b begins is says = ap (λ (cs : List ℕ). is_in cs code) begins.by ∙ sym is ∙ says

pub loop_begins : (a : Grammar) (Holds : List Item → Type 0) (start : Cursor) → AreBytes start.rest → Holds [] → InRounds a Holds start start
loop_begins a Holds start bytes holds = record { items = []; rounds = rounds_begin a start bytes; holds = holds }

-- a round more
pub loop_goes_on : (a : Grammar) (codes : List ℕ) (Holds Later : List Item → Type 0) (start here there : Cursor) (more : List Item) (seen : Bool) → Begins a codes → InRounds a Holds start here
    → Next codes here seen → seen ≡ true → read a here ≡ Ok (more, there) → ((items : List Item) → Holds items → Later (items ++ more)) → InRounds a Later start there
loop_goes_on a codes Holds Later start here there more seen begins so_far next says is later = record {
  items = so_far.items ++ more;
  rounds = rounds_go_on a start here there so_far.items more next.0 begins.some so_far.rounds next.1 (known a codes next.0.code seen true begins next.2 says) is;
  holds = later so_far.items so_far.holds;
}

-- and less is left
pub loop_falls : (a : Grammar) (codes : List ℕ) (Holds : List Item → Type 0) (start here there : Cursor) (more : List Item) → Begins a codes → InRounds a Holds start here → read a here ≡ Ok (more, there) → length there.rest < length here.rest
loop_falls a codes Holds start here there more begins so_far is = rounds_less a start here there so_far.items more begins.some so_far.rounds is

-- no round more
pub loop_ends : (a : Grammar) (codes : List ℕ) (Holds : List Item → Type 0) (start here : Cursor) (seen : Bool) → Begins a codes → (so_far : InRounds a Holds start here)
    → Next codes here seen → seen ≡ false → read (many a) start ≡ Ok (so_far.items, here)
loop_ends a codes Holds start here seen begins so_far next says = rounds_end a start here so_far.items next.0 so_far.rounds next.1 (known a codes next.0.code seen false begins next.2 says)

-- no record comes
pub loop_stops : (a : Grammar) (Holds : List Item → Type 0) (start here : Cursor) (e : StreamError) → InRounds a Holds start here → IsFault (peek here) e → IsFault (read (many a) start) e
loop_stops a Holds start here (At place cause) so_far is = rounds_stop a start here so_far.items (record { place = place; cause = cause }) so_far.rounds is
loop_stops a Holds start here OutOfMemory so_far is = tt

-- a round fails
pub loop_fails : (a : Grammar) (codes : List ℕ) (Holds : List Item → Type 0) (start here : Cursor) (seen : Bool) (e : StreamError) → Begins a codes → InRounds a Holds start here
    → Next codes here seen → seen ≡ true → IsFault (read a here) e → IsFault (read (many a) start) e
loop_fails a codes Holds start here seen (At place cause) begins so_far next says is =
    rounds_fail a start here so_far.items next.0 (record { place = place; cause = cause }) so_far.rounds next.1 (known a codes next.0.code seen true begins next.2 says) is
loop_fails a codes Holds start here seen OutOfMemory begins so_far next says is = tt

-- so the loop's fault is the round's
pub loop_exits : {A : Type 0} (a : Grammar) (codes : List ℕ) (Holds : List Item → Type 0) (Says : List Item → A → Type 0) (start here new : Cursor) (seen : Bool) (r : Result A StreamError) (e f : StreamError) → Begins a codes
    → InRounds a Holds start here → Next codes here seen → seen ≡ true → IsFault (read a here) e → r ≡ Err f → f ≡ e → Gives (many a) Says start new r
loop_exits a codes Holds Says start here new seen r e f begins so_far next says is refused same =
    let Fails : StreamError → Type 0 = IsFault (read (many a) start) in
    let here_fails : Fails f = subst Fails (sym same) (loop_fails a codes Holds start here seen e begins so_far next says is) in
    rw refused here_fails
