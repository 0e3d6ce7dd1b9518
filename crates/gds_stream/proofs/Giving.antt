-- Reading by a rule that is made of others.
use Rattle.std.proofs.Common.{◌≡◌, ℕ, true, false, ◌||◌, Bool, eqb, List, [], ◌∷◌, ◌++◌, Option, Result, Ok, Err, refl, sym, ap, ◌∙◌, subst}
use Rattle.gds_records.specs.Records.{Item}
use Rattle.gds_records.specs.declared.reading.Part.{Part}
use Rattle.gds_records.specs.Framing.{item_at}
use Rattle.std.proofs.lemmas.Bool.{eqb-true, cond-true, cond-false}
use Rattle.gds_grammar.specs.Conditions.{is_in, Counted, Readable}
use Rattle.gds_records.specs.declared.types.TheConstants.{BOX, LAYER, BOXTYPE, XY, STRANS}
use Rattle.gds_grammar.specs.Grammar.{Grammar, ◌‣◌, type, maybe}
use Rattle.gds_grammar.specs.Format.{head, turn, box}
use Rattle.gds_grammar.specs.Reading.{read, Cursor, Taken, alone, after, then_read, choose, peek, take_one}
use Rattle.gds_stream.specs.declared.error.StreamError.{StreamError}
use Rattle.gds_stream.specs.declared.error.StreamError.TheVariants.{At, OutOfMemory}
use Rattle.gds_stream.specs.Gives.{IsFault, IsOne, Has, Gives}

-- one rule and then the other
pub ok_then : (r : Taken) (next : Cursor → Taken) (i j : List Item) (d e : Cursor) → r ≡ Ok (i, d) → next d ≡ Ok (j, e) → then_read r next ≡ Ok (i ++ j, e)
ok_then r next i j d e is then = ap (λ (x : Taken). then_read x next) is ∙ ap (after i) then

-- the first rule's fault
pub fault_first : (r : Taken) (next : Cursor → Taken) (e : StreamError) → IsFault r e → IsFault (then_read r next) e
fault_first r next (At place cause) is = ap (λ (x : Taken). then_read x next) is
fault_first r next OutOfMemory is = tt

-- the second rule's fault
pub fault_next : (r : Taken) (next : Cursor → Taken) (i : List Item) (d : Cursor) (e : StreamError) → r ≡ Ok (i, d) → IsFault (next d) e → IsFault (then_read r next) e
fault_next r next i d (At place cause) is then = ap (λ (x : Taken). then_read x next) is ∙ ap (after i) then
fault_next r next i d OutOfMemory is then = tt

-- one rule, and then what is given by the other
pub then_gives : {A : Type 0} (a b : Grammar) (Later Whole : List Item → A → Type 0) (old mid new : Cursor) (items : List Item) (r : Result A StreamError) → read a old ≡ Ok (items, mid)
    → ((more : List Item) (x : A) → Later more x → Whole (items ++ more) x) → Gives b Later mid new r → Gives (a ‣ b) Whole old new r
then_gives a b Later Whole old mid new items (Ok x) first behind is = (items ++ is.0, ok_then _ _ _ _ _ _ first is.1, behind is.0 x is.2)
then_gives a b Later Whole old mid new items (Err e) first behind is = fault_next _ _ _ _ e first is

-- the fault in the place of one record
pub fault_alone : (codes : List ℕ) (c : Cursor) (e : StreamError) → IsFault (take_one codes c) e → IsFault (alone (take_one codes c)) e
fault_alone codes c (At place cause) is = ap alone is
fault_alone codes c OutOfMemory is = tt

-- the fault in the place of the record that tells which way to go
pub fault_choice : (codes : List ℕ) (c : Cursor) (a b : Taken) (e : StreamError) → IsFault (peek c) e → IsFault (choose codes (peek c) a b) e
fault_choice codes c a b (At place cause) is = ap (λ p. choose codes p a b) is
fault_choice codes c a b OutOfMemory is = tt

or_no : (b : Bool) → (b || false) ≡ b
or_no true = refl
or_no false = refl

-- the one type
pub one_type : (code other : ℕ) → is_in (code ∷ []) other ≡ true → other ≡ code
one_type code other is = sym (eqb-true code other (sym (or_no (eqb code other)) ∙ is))

-- one record of a type
pub one_taken : (code : ℕ) (c d : Cursor) (p : Part) → is_in (code ∷ []) p.code ≡ true → take_one (code ∷ []) c ≡ Ok (item_at c.at p, d)
    → (items : List Item) × (alone (take_one (code ∷ []) c) ≡ Ok (items, d)) × IsOne c.at code p.body.now items
one_taken code c d p is taken =
    (item_at c.at p ∷ [], ap alone taken, (p.form, ap (λ (n : ℕ). let i : Item = record { at = c.at; code = n; form = p.form; body = p.body.now } in i ∷ []) (one_type code p.code is)))

-- and what its data are
pub has_it : (kind : Option ℕ) (at code : ℕ) (p : Part) → is_in (code ∷ []) p.code ≡ true → Counted kind (item_at at p) → Readable (item_at at p) → Has kind code p.body.now
has_it kind at code p is counts reads =
    let HasIt : ℕ → Type 0 = λ n. Has kind n p.body.now in
    subst HasIt (one_type code p.code is) (record { numbers = counts.numbers; points = counts.points; text = reads })

-- the first way
pub ok_first : (codes : List ℕ) (c : Cursor) (i : Item) (a b : Taken) → peek c ≡ Ok i → true ≡ is_in codes i.code → choose codes (peek c) a b ≡ a
ok_first codes c i a b next is = ap (λ p. choose codes p a b) next ∙ cond-true _ _ _ (sym is)

-- the second way
pub ok_second : (codes : List ℕ) (c : Cursor) (i : Item) (a b : Taken) → peek c ≡ Ok i → false ≡ is_in codes i.code → choose codes (peek c) a b ≡ b
ok_second codes c i a b next is = ap (λ p. choose codes p a b) next ∙ cond-false _ _ _ (sym is)

-- the steps of a rule
pub ruleset steps = (ok_then, fault_first, fault_next)

-- one record that tells the way
pub ruleset choices = (fault_choice, ok_first, ok_second)

-- reading a box is reading its parts
pub of_box : (c : Cursor) (e : StreamError) → IsFault (read (type BOX ‣ head ‣ type LAYER ‣ type BOXTYPE ‣ type XY) c) e → IsFault (read box c) e
unfolding box
of_box c e is = is

-- what reading by a rule gives, reading by another does that reads alike
pub gives_as : {A : Type 0} (g h : Grammar) (Holds : List Item → A → Type 0) (old new : Cursor) (r : Result A StreamError) → read g old ≡ read h old → Gives h Holds old new r → Gives g Holds old new r
gives_as g h Holds old new (Ok x) same is = (is.0, same ∙ is.1, is.2)
gives_as g h Holds old new (Err (At place cause)) same is = same ∙ is
gives_as g h Holds old new (Err OutOfMemory) same is = tt

-- a turn comes, or none
pub turn_comes : (c : Cursor) (i : Item) → peek c ≡ Ok i → is_in (STRANS ∷ []) i.code ≡ true → read (maybe turn) c ≡ read turn c
unfolding turn
turn_comes c i next is = ok_first (STRANS ∷ []) c i _ _ next (sym is)

pub no_turn_comes : (c : Cursor) (i : Item) → peek c ≡ Ok i → is_in (STRANS ∷ []) i.code ≡ false → read (maybe turn) c ≡ Ok ([], c)
unfolding turn
no_turn_comes c i next is = ok_second (STRANS ∷ []) c i _ _ next (sym is)
