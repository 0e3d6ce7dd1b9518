-- A word of the stream's grammar ends at its first ENDLIB.
use Rattle.std.proofs.Common.{◌≡◌, ◌≢◌, ℕ, Bool, true, false, not, ◌&&◌, inl, inr, eqb, List, [], ◌∷◌, ◌++◌, length, map, get_or, drop, All, Contains, refl, sym, ap, ◌∙◌, subst, append_assoc, arith}
use Rattle.std.specs.List.{concat, AllByRecursion}
use Rattle.std.proofs.lemmas.Bool.{true≢false, eqb-true, and_parts, not-true, both_ways}
use Rattle.std.proofs.lemmas.List.{map-append, length-append}
use Rattle.std.proofs.lemmas.List.Elements.{All-nil, All-append, All-weaker, All-head, All-tail, All-contains, All-from_recursion, Contains-append_left, Contains-append_right}
use Rattle.gds_records.specs.declared.types.TheConstants.{ENDLIB}
use Rattle.gds_records.specs.Records.{Item}
use Rattle.gds_grammar.specs.Grammar.{Grammar, nothing, one_of, ◌‣◌, ◌∣◌, many, In}
use Rattle.gds_grammar.specs.Format.{skipped, head, turn, boundary, path, sref, aref, label, node, box, property, element, structure, stream}
use Rattle.gds_grammar.specs.Conditions.{is_in, AreStream}
use Rattle.gds_grammar.proofs.Decided.{is_in_decides}

-- ---- the types of a grammar

-- the types that a grammar names
abbrev pub types : Grammar → List ℕ
types nothing = []
types (one_of code codes) = code ∷ codes
types (a ‣ b) = types a ++ types b
types (a ∣ b) = types a ++ types b
types (many a) = types a

all_left : (cs bs w : List ℕ) → All (Contains cs) w → All (Contains (cs ++ bs)) w
all_left cs bs w all = All-weaker (Contains cs) (Contains (cs ++ bs)) (λ x. Contains-append_left cs bs x) w all

all_right : (cs bs w : List ℕ) → All (Contains bs) w → All (Contains (cs ++ bs)) w
all_right cs bs w all = All-weaker (Contains bs) (Contains (cs ++ bs)) (λ x. Contains-append_right cs bs x) w all

all_pieces : (a : Grammar) → ((u : List ℕ) → In a u → All (Contains (types a)) u) → (us : List (List ℕ)) → AllByRecursion (In a) us → All (Contains (types a)) (concat us)
all_pieces a one [] each = All-nil (Contains (types a))
all_pieces a one (u ∷ us) each = All-append (Contains (types a)) u (concat us) (one u each.0) (all_pieces a one us each.1)

-- a word of a grammar has no other types
pub types_all : (g : Grammar) (w : List ℕ) → In g w → All (Contains (types g)) w
types_all nothing w h = subst (All (Contains [])) (sym h) (All-nil (Contains []))
types_all (one_of code codes) w h = subst (All (Contains (code ∷ codes))) (sym h.1) (All-from_recursion (Contains (code ∷ codes)) (h.0 ∷ []) (h.2, tt))
types_all (a ‣ b) w h =
    subst (All (Contains (types a ++ types b))) (sym h.2)
    (All-append (Contains (types a ++ types b)) h.0 h.1 (all_left (types a) (types b) h.0 (types_all a h.0 h.3)) (all_right (types a) (types b) h.1 (types_all b h.1 h.4)))
types_all (a ∣ b) w (inl h) = all_left (types a) (types b) w (types_all a w h)
types_all (a ∣ b) w (inr h) = all_right (types a) (types b) w (types_all b w h)
types_all (many a) w h = subst (All (Contains (types a))) (sym h.2) (all_pieces a (types_all a) h.0 h.1)

-- ---- the last type

-- the word ends at the first one of the type
pub record EndsAtFirst (code : ℕ) (w : List ℕ) : Type 0 where
  pub before : List ℕ
  pub splits : w ≡ before ++ code ∷ []
  pub others : All (λ c. c ≢ code) before

-- whether the grammar ends with the type, which stands nowhere else in it
abbrev pub closes : ℕ → Grammar → Bool
closes code nothing = false
closes code (one_of c []) = eqb c code
closes code (one_of c (d ∷ codes)) = false
closes code (a ‣ b) = not (is_in (types a) code) && closes code b
closes code (a ∣ b) = false
closes code (many a) = false

others_of : (codes : List ℕ) (code : ℕ) (w : List ℕ) → is_in codes code ≡ false → All (Contains codes) w → All (λ c. c ≢ code) w
others_of codes code w e all =
    All-weaker (Contains codes) (λ c. c ≢ code) (λ c here same. both_ways (is_in codes code) e ((is_in_decides codes code).1 (subst (Contains codes) same here))) w all

-- each word of such a grammar ends at its first one of the type
pub ends_at_first : (code : ℕ) (g : Grammar) (w : List ℕ) → closes code g ≡ true → In g w → EndsAtFirst code w
ends_at_first code nothing w e h = absurd (true≢false (sym e))
ends_at_first code (one_of c []) w e h =
    let t : h.0 ≡ code = All-contains (λ x. x ≡ code) (c ∷ []) h.0 (All-from_recursion (λ x. x ≡ code) (c ∷ []) (eqb-true c code e, tt)) h.2 in
    record { before = []; splits = h.1 ∙ ap (λ (x : ℕ). x ∷ []) t; others = All-nil _ }
ends_at_first code (one_of c (d ∷ codes)) w e h = absurd (true≢false (sym e))
ends_at_first code (a ‣ b) w e h =
    let both = and_parts (not (is_in (types a) code)) (closes code b) e in
    let last = ends_at_first code b h.1 both.1 h.4 in
    record {
      before = h.0 ++ last.before;
      splits = h.2 ∙ ap (λ (v : List ℕ). h.0 ++ v) last.splits ∙ sym (append_assoc h.0 last.before (code ∷ []));
      others = All-append (λ c. c ≢ code) h.0 last.before (others_of (types a) code h.0 (not-true _ both.0) (types_all a h.0 h.3)) last.others;
    }
ends_at_first code (a ∣ b) w e h = absurd (true≢false (sym e))
ends_at_first code (many a) w e h = absurd (true≢false (sym e))

-- ENDLIB is the last type of a stream, and stands nowhere else
pub endlib_last : (w : List ℕ) → In stream w → EndsAtFirst ENDLIB w
unfolding stream structure element property box node label aref sref path boundary turn head skipped
endlib_last w h = ends_at_first ENDLIB stream w refl h

-- ---- no stream goes on as another

not_longer : (code c : ℕ) (us more vs : List ℕ) → All (λ x. x ≢ code) vs → us ++ code ∷ c ∷ more ≡ vs ++ code ∷ [] → ⊥
not_longer code c us more [] others e = omega (arith, ap length e, length-append us (code ∷ c ∷ more))
not_longer code c [] more (v ∷ vs) others e = All-head (λ x. x ≢ code) v vs others (sym (ap (λ (l : List ℕ). get_or l 0 0) e))
not_longer code c (u ∷ us) more (v ∷ vs) others e = not_longer code c us more vs (All-tail (λ x. x ≢ code) v vs others) (ap (drop 1) e)

-- no word of the grammar of streams goes on as another
pub no_longer_word : (w : List ℕ) (c : ℕ) (more : List ℕ) → In stream w → In stream (w ++ c ∷ more) → ⊥
no_longer_word w c more short long =
    let a = endlib_last w short in
    let b = endlib_last (w ++ c ∷ more) long in
    not_longer ENDLIB c a.before more b.before b.others (sym (append_assoc a.before (ENDLIB ∷ []) (c ∷ more)) ∙ ap (λ (v : List ℕ). v ++ c ∷ more) (sym a.splits) ∙ b.splits)

-- no stream's records go on as another's
pub no_longer_stream : (items : List Item) (i : Item) (more : List Item) → AreStream items → AreStream (items ++ i ∷ more) → ⊥
no_longer_stream items i more short long =
    no_longer_word (map (λ j. j.code) items) i.code (map (λ j. j.code) more) short.grammar
    (subst (In stream) (map-append (λ (j : Item). j.code) items (i ∷ more)) long.grammar)
