-- The type of the next record tells which element comes.
use Rattle.std.proofs.Common.{◌≡◌, ◌≢◌, ℕ, false, ◌||◌, eqb, List, [], ◌∷◌, Ok, refl, sym, ap, ◌∙◌, eq-eqb}
use Rattle.std.proofs.lemmas.Bool.{or_from, ne_eqb, eqb-false}
use Rattle.gds_records.specs.declared.types.TheConstants.{BOUNDARY, PATH, SREF, AREF, TEXT, NODE}
use Rattle.gds_records.specs.Records.{Item}
use Rattle.gds_grammar.specs.Grammar.{Grammar, ◌∣◌}
use Rattle.gds_grammar.specs.Format.{boundary, path, sref, aref, label, node, box}
use Rattle.gds_grammar.specs.Words.{firsts}
use Rattle.gds_grammar.specs.Conditions.{is_in}
use Rattle.gds_grammar.specs.Reading.{Cursor, peek, read}
use Rattle.gds_stream.specs.Gives.{shape}
use Rattle.gds_stream.proofs.Giving.{ok_first, ok_second}

boundary_first : firsts boundary ≡ BOUNDARY ∷ []
unfolding boundary
boundary_first = refl

path_first : firsts path ≡ PATH ∷ []
unfolding path
path_first = refl

sref_first : firsts sref ≡ SREF ∷ []
unfolding sref
sref_first = refl

aref_first : firsts aref ≡ AREF ∷ []
unfolding aref
aref_first = refl

label_first : firsts label ≡ TEXT ∷ []
unfolding label
label_first = refl

node_first : firsts node ≡ NODE ∷ []
unfolding node
node_first = refl

-- this one comes
this : (a b : Grammar) (code : ℕ) (c : Cursor) (i : Item) → firsts a ≡ code ∷ [] → peek c ≡ Ok i → i.code ≡ code → read (a ∣ b) c ≡ read a c
this a b code c i first next is =
    ok_first (firsts a) c i (read a c) (read b c) next
    (sym (ap (λ (codes : List ℕ). is_in codes i.code) first ∙ ap (λ b. b || false) (eq-eqb code i.code (sym is))))

-- another one comes
another : (a b : Grammar) (code : ℕ) (c : Cursor) (i : Item) → firsts a ≡ code ∷ [] → peek c ≡ Ok i → i.code ≢ code → read (a ∣ b) c ≡ read b c
another a b code c i first next other =
    ok_second (firsts a) c i (read a c) (read b c) next
    (sym (ap (λ (codes : List ℕ). is_in codes i.code) first ∙ or_from _ _ (ne_eqb code i.code (λ e. other (sym e))) refl))

pub boundary_comes : (c : Cursor) (i : Item) → peek c ≡ Ok i → i.code ≡ BOUNDARY → read shape c ≡ read boundary c
boundary_comes c i next is = this boundary (path ∣ sref ∣ aref ∣ label ∣ node ∣ box) BOUNDARY c i boundary_first next is

-- a type isn't another
apart : (code a b : ℕ) → eqb a b ≡ false → code ≡ a → code ≢ b
apart code a b different is other = absurd (eqb-false a b different (sym is ∙ other))

pub path_comes : (c : Cursor) (i : Item) → peek c ≡ Ok i → i.code ≡ PATH → read shape c ≡ read path c
path_comes c i next is =
    another boundary (path ∣ sref ∣ aref ∣ label ∣ node ∣ box) BOUNDARY c i boundary_first next (apart i.code PATH BOUNDARY refl is)
    ∙ this path (sref ∣ aref ∣ label ∣ node ∣ box) PATH c i path_first next is

past_path : (c : Cursor) (i : Item) → peek c ≡ Ok i → i.code ≢ BOUNDARY → i.code ≢ PATH → read shape c ≡ read (sref ∣ aref ∣ label ∣ node ∣ box) c
past_path c i next b p =
    another boundary (path ∣ sref ∣ aref ∣ label ∣ node ∣ box) BOUNDARY c i boundary_first next b
    ∙ another path (sref ∣ aref ∣ label ∣ node ∣ box) PATH c i path_first next p

pub sref_comes : (c : Cursor) (i : Item) → peek c ≡ Ok i → i.code ≡ SREF → read shape c ≡ read sref c
sref_comes c i next is =
    past_path c i next (apart i.code SREF BOUNDARY refl is) (apart i.code SREF PATH refl is)
    ∙ this sref (aref ∣ label ∣ node ∣ box) SREF c i sref_first next is

pub aref_comes : (c : Cursor) (i : Item) → peek c ≡ Ok i → i.code ≡ AREF → read shape c ≡ read aref c
aref_comes c i next is =
    past_path c i next (apart i.code AREF BOUNDARY refl is) (apart i.code AREF PATH refl is)
    ∙ another sref (aref ∣ label ∣ node ∣ box) SREF c i sref_first next (apart i.code AREF SREF refl is)
    ∙ this aref (label ∣ node ∣ box) AREF c i aref_first next is

past_aref : (c : Cursor) (i : Item) → peek c ≡ Ok i → i.code ≢ BOUNDARY → i.code ≢ PATH → i.code ≢ SREF → i.code ≢ AREF → read shape c ≡ read (label ∣ node ∣ box) c
past_aref c i next b p s a =
    past_path c i next b p
    ∙ another sref (aref ∣ label ∣ node ∣ box) SREF c i sref_first next s
    ∙ another aref (label ∣ node ∣ box) AREF c i aref_first next a

pub label_comes : (c : Cursor) (i : Item) → peek c ≡ Ok i → i.code ≡ TEXT → read shape c ≡ read label c
label_comes c i next is =
    past_aref c i next (apart i.code TEXT BOUNDARY refl is) (apart i.code TEXT PATH refl is) (apart i.code TEXT SREF refl is) (apart i.code TEXT AREF refl is)
    ∙ this label (node ∣ box) TEXT c i label_first next is

pub node_comes : (c : Cursor) (i : Item) → peek c ≡ Ok i → i.code ≡ NODE → read shape c ≡ read node c
node_comes c i next is =
    past_aref c i next (apart i.code NODE BOUNDARY refl is) (apart i.code NODE PATH refl is) (apart i.code NODE SREF refl is) (apart i.code NODE AREF refl is)
    ∙ another label (node ∣ box) TEXT c i label_first next (apart i.code NODE TEXT refl is)
    ∙ this node box NODE c i node_first next is

pub box_comes : (c : Cursor) (i : Item) → peek c ≡ Ok i → i.code ≢ BOUNDARY → i.code ≢ PATH → i.code ≢ SREF → i.code ≢ AREF → i.code ≢ TEXT → i.code ≢ NODE → read shape c ≡ read box c
box_comes c i next b p s a t n =
    past_aref c i next b p s a
    ∙ another label (node ∣ box) TEXT c i label_first next t
    ∙ another node box NODE c i node_first next n
