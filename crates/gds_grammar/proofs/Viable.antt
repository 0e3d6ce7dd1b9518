-- Records that begin a stream go on as one by any types that the grammar allows.
use Rattle.std.proofs.Common.{◌≡◌, ◌≢◌, ℕ, ◌+◌, ◌*◌, ◌^◌, ◌<◌, ◌≤◌, eqb, List, [], ◌∷◌, ◌++◌, length, map, get_or, All, AllPairs, Contains, Option, Some, None, refl, sym, ap, ◌∙◌, subst, append_assoc, arith}
use Rattle.std.specs.List.{cons_option, AllByRecursion}
use Rattle.std.proofs.lemmas.Bool.{cond_both, eqb-true}
use Rattle.std.proofs.lemmas.List.{append-nil, map-append, length-append, drop_at}
use Rattle.std.proofs.lemmas.List.Elements.{filter_map-append, All-from_recursion, All-head, All-tail, All-drop}
use Rattle.std.proofs.lemmas.List.Quantifiers.{all_pairs_push}
use Rattle.gds_records.specs.declared.types.TheConstants.{STRNAME}
use Rattle.gds_records.specs.Records.{Item, spelled, flat}
use Rattle.gds_records.proofs.Deciding.{length_spelled}
use Rattle.gds_grammar.specs.Grammar.{In}
use Rattle.gds_grammar.specs.Format.{stream}
use Rattle.gds_grammar.specs.Conditions.{trim, kind_after, name_in, names_in, InContext, Placed, AreStream}
use Rattle.gds_grammar.specs.Stops.{GoesOn, Admits, kind_of}
use Rattle.gds_grammar.proofs.Appended.{placed_append, context_append}
use Rattle.gds_grammar.proofs.Last.{types, types_all}
use Rattle.gds_grammar.proofs.Model.{Model, model}

-- ---- names

abbrev Differ : List (List ℕ) → Type 0
Differ names = AllPairs (λ a b. a ≢ b) names

-- the names behind a record
abbrev names_after : List (List ℕ) → Item → List (List ℕ)
names_after names i = names ++ cons_option (name_in i) []

after_append : (names more : List (List ℕ)) (o : Option (List ℕ)) → (names ++ cons_option o []) ++ more ≡ names ++ cons_option o more
after_append names more None = ap (λ (l : List (List ℕ)). l ++ more) (append-nil names)
after_append names more (Some x) = append_assoc names (x ∷ []) more

differ_after : (names : List (List ℕ)) (i : Item) → Differ names → (i.code ≡ STRNAME → AllByRecursion (λ n. n ≢ trim i.body) names) → Differ (names_after names i)
differ_after names i differ new =
    cond_both (eqb i.code STRNAME) (Some (trim i.body)) None (λ o. Differ (names ++ cons_option o []))
    (λ e. all_pairs_push (λ a b. a ≢ b) names (trim i.body) differ (All-from_recursion (λ n. n ≢ trim i.body) names (new (eqb-true _ _ e))))
    (λ e. subst Differ (sym (append-nil names)) differ)

few_after : (names : List (List ℕ)) (i : Item) → length (names_after names i) ≤ length names + 1
few_after names i =
    cond_both (eqb i.code STRNAME) (Some (trim i.body)) None (λ o. length (names ++ cons_option o []) ≤ length names + 1)
    (λ e. omega (arith, length-append names (trim i.body ∷ [])))
    (λ e. omega (arith, length-append names []))

-- ---- records of the types

-- records of these types that may stand at the place, in the element, behind the names
record Models (place : ℕ) (kind : Option ℕ) (names : List (List ℕ)) (w : List ℕ) : Type 0 where
  items : List Item
  of_types : map (λ i. i.code) items ≡ w
  placed : Placed place items
  each : InContext kind items
  differ : Differ (names ++ names_in items)

one_more : (place : ℕ) (kind : Option ℕ) (names : List (List ℕ)) (c : ℕ) (w : List ℕ) (m : Model place kind names c) → Models (place + length (spelled m.item)) (kind_after kind m.item) (names_after names m.item) w
    → Models place kind names (c ∷ w)
one_more place kind names c w m rest = record {
  items = m.item ∷ rest.items;
  of_types = λ k. m.of_type k ∷ rest.of_types k;
  placed = (m.at, rest.placed);
  each = (m.framed, m.counted, m.readable, rest.each);
  differ = subst Differ (after_append names (names_in rest.items) (name_in m.item)) rest.differ;
}

models : (w : List ℕ) (place : ℕ) (kind : Option ℕ) (names : List (List ℕ)) → Differ names → All (Contains (types stream)) w → length names + length w < 2 ^ 64 → Models place kind names w
models [] place kind names differ there few = record { items = []; of_types = refl; placed = tt; each = tt; differ = subst Differ (sym (append-nil names)) differ }
models (c ∷ w) place kind names differ there few =
    let m = model place kind names c (All-head (Contains (types stream)) c w there) (omega arith) in
    one_more place kind names c w m
    (models w (place + length (spelled m.item)) (kind_after kind m.item) (names_after names m.item) (differ_after names m.item differ m.new) (All-tail (Contains (types stream)) c w there)
    (omega (arith, few_after names m.item)))

-- ---- a stream

behind_all : {X : Type 0} (P : X → Type 0) (xs ys : List X) → All P (xs ++ ys) → All P ys
behind_all P xs ys all = subst (All P) (drop_at xs ys (length xs) refl) (All-drop P (length xs) (xs ++ ys) all)

-- records that are placed, in context and of different names go on as a stream by each list of types by which their own go on in the grammar
pub viable : (items : List Item) (w : List ℕ) → Placed 0 items → InContext None items → AllPairs (λ a b. a ≢ b) (names_in items) → In stream (map (λ i. i.code) items ++ w) → length (names_in items) + length w < 2 ^ 64
    → (more : List Item) × (map (λ i. i.code) more ≡ w) × AreStream (items ++ more)
viable items w placed each differ grammar few =
    let codes : List ℕ = map (λ (i : Item). i.code) items in
    let there : All (Contains (types stream)) w = behind_all (Contains (types stream)) codes w (types_all stream (codes ++ w) grammar) in
    let m = models w (0 + length (flat items)) (kind_of items) (names_in items) differ there few in
    let all_codes : map (λ (i : Item). i.code) (items ++ m.items) ≡ codes ++ w = map-append (λ (i : Item). i.code) items m.items ∙ ap (λ (l : List ℕ). codes ++ l) m.of_types in (
      m.items,
      m.of_types,
      record {
        placed = placed_append 0 items m.items placed m.placed;
        grammar = subst (In stream) (sym all_codes) grammar;
        each = context_append None items m.items each m.each;
        differ = subst Differ (sym (filter_map-append name_in items m.items)) m.differ;
      },
    )

admits_from : (items more : List Item) (code : ℕ) (w : List ℕ) → map (λ i. i.code) more ≡ code ∷ w → AreStream (items ++ more) → Admits items code
admits_from items [] code w e s = absurd (omega (arith, ap length e))
admits_from items (i ∷ more) code w e s = record { next = i; more = more; stream = s; of_type = ap (λ (l : List ℕ). get_or l 0 0) e }

-- a stream goes on with a type by which the types of its records go on in the grammar
pub viable_admits : (items : List Item) (code : ℕ) (w : List ℕ) → Placed 0 items → InContext None items → AllPairs (λ a b. a ≢ b) (names_in items) → In stream (map (λ i. i.code) items ++ code ∷ w)
    → length (names_in items) + length (code ∷ w) < 2 ^ 64 → Admits items code
viable_admits items code w placed each differ grammar few =
    let v = viable items (code ∷ w) placed each differ grammar few in
    admits_from items v.0 code w v.1 v.2

-- and so it goes on
pub admits_goes_on : (items : List Item) (code : ℕ) → Admits items code → GoesOn items
admits_goes_on items code a = record { next = a.next; more = a.more; stream = a.stream }

-- each name takes the four bytes of a record's header, so that bytes have few
pub few_names : (items : List Item) → 4 * length (names_in items) ≤ length (flat items)
few_names [] = omega arith
few_names (i ∷ items) =
    let one : length (cons_option (name_in i) (names_in items)) ≤ 1 + length (names_in items) =
    cond_both (eqb i.code STRNAME) (Some (trim i.body)) None (λ o. length (cons_option o (names_in items)) ≤ 1 + length (names_in items)) (λ e. omega arith) (λ e. omega arith) in
    omega (arith, few_names items, length_spelled i, length-append (spelled i) (flat items))
