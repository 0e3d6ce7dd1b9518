-- A record of each type that is as it should be, whatever stands before it.
use Rattle.std.proofs.Common.{◌≡◌, ◌≢◌, ℕ, zero, suc, ◌-◌, ◌*◌, ◌%◌, ◌^◌, ◌<◌, ◌≤◌, Bool, true, false, cond, ◌&&◌, ◌||◌, inl, inr, eqb, ltb, leb, List, [], ◌∷◌, length, take, drop, replicate, All, Contains, Option, Some, None, IfSome, MatchBool, refl, sym, ap, ◌∙◌, subst, lit<, arith}
use Rattle.std.specs.Bool.{OnTrue}
use Rattle.std.specs.List.{list_all, AllByRecursion}
use Rattle.std.proofs.lemmas.Bool.{cond_both, eqb-true, ltb-true, leb-true, and_parts, or_cases, cases_eq, OnTrue_from}
use Rattle.std.proofs.lemmas.Bool.Decides.{Decides-by_and, Decides-ltb}
use Rattle.std.proofs.lemmas.List.{length-replicate, take-replicate, drop-replicate}
use Rattle.std.proofs.lemmas.List.Elements.{All-from_recursion, All-weaker, All-contains, All-replicate}
use Rattle.rt_base.specs.Text.{IsText, IsPrintable}
use Rattle.gds_records.specs.declared.types.TheConstants.{CHARACTERS, FOUR_BYTES, BOUNDARY, STRNAME, XY, SNAME}
use Rattle.gds_records.specs.Records.{Item, known, data_of, unit, Framed}
use Rattle.gds_records.specs.Framing.{fits}
use Rattle.gds_records.proofs.DataTests.{fits_true}
use Rattle.gds_grammar.specs.Format.{skipped, head, turn, boundary, path, sref, aref, label, node, box, property, element, structure, stream}
use Rattle.gds_grammar.specs.Conditions.{without_zero, trim, form_of, is_number, number_count, point_counts, EnoughPoints, Counted, Readable}
use Rattle.gds_grammar.specs.Tests.{counted, readable}
use Rattle.gds_grammar.proofs.Decided.{counted_decides, readable_decides}
use Rattle.gds_grammar.proofs.Last.{types}
use Rattle.gds_grammar.proofs.Fresh.{Fresh, fresh}

-- a record of the type that may stand at the place, in the element, behind the names
pub record Model (place : ℕ) (kind : Option ℕ) (names : List (List ℕ)) (code : ℕ) : Type 0 where
  pub item : Item
  pub at : item.at ≡ place
  pub of_type : item.code ≡ code
  pub framed : Framed item
  pub counted : Counted kind item
  pub readable : Readable item
  pub new : item.code ≡ STRNAME → AllByRecursion (λ n. n ≢ trim item.body) names

-- ---- types whose record is the same everywhere

-- its data: two letters, zeros, or none
abbrev plain_body : ℕ → List ℕ
plain_body code = cond (eqb code SNAME) (65 ∷ 65 ∷ []) (cond (is_number code) (replicate (number_count code * unit (form_of code)) 0) [])

abbrev plain : ℕ → ℕ → Item
plain place code = record { at = place; code = code; form = form_of code; body = plain_body code }

-- whether it is as it should be
abbrev plain_test : ℕ → Bool
plain_test code =
    known code && (eqb (length (plain_body code) % 2) 0 && (leb (length (plain_body code)) 65530 && (fits (data_of code) (form_of code) (plain_body code) && (ltb code 256 && (ltb (form_of code) 256
    && (list_all (λ b. ltb b 256) (plain_body code) && (counted None (plain 0 code) && readable (plain 0 code))))))))

-- whether that, or points or a structure's name
abbrev test : ℕ → Bool
test code = eqb code XY || (eqb code STRNAME || plain_test code)

tested : list_all test (types stream) ≡ true
unfolding stream structure element property box node label aref sref path boundary turn head skipped counted readable
tested = refl

test_of : (code : ℕ) → Contains (types stream) code → test code ≡ true
test_of code here =
    All-contains (λ c. test c ≡ true) (types stream) code
    ((Decides-by_and test (λ c. test c ≡ true) (list_all test) (λ c. (λ e. e, λ e. e)) refl (λ _ _. refl) (types stream)).0 tested) here

plain_model : (place : ℕ) (kind : Option ℕ) (names : List (List ℕ)) (code : ℕ) → code ≢ XY → code ≢ STRNAME → plain_test code ≡ true → Model place kind names code
unfolding counted readable
plain_model place kind names code points name e =
    let a = and_parts (known code) _ e in
    let b = and_parts (eqb (length (plain_body code) % 2) 0) _ a.1 in
    let c = and_parts (leb (length (plain_body code)) 65530) _ b.1 in
    let d = and_parts (fits (data_of code) (form_of code) (plain_body code)) _ c.1 in
    let f = and_parts (ltb code 256) _ d.1 in
    let g = and_parts (ltb (form_of code) 256) _ f.1 in
    let h = and_parts (list_all (λ b. ltb b 256) (plain_body code)) _ g.1 in
    let k = and_parts (counted None (plain 0 code)) (readable (plain 0 code)) h.1 in
    let owed : Counted None (plain place code) = (counted_decides None (plain place code)).0 k.0 in
    record {
      item = plain place code;
      at = refl;
      of_type = refl;
      framed = record {
        even = eqb-true _ _ b.0;
        short = leb-true _ _ c.0;
        type_is_known = a.0;
        items = fits_true (data_of code) (form_of code) (plain_body code) d.0;
        code_is_byte = ltb-true _ _ f.0;
        form_is_byte = ltb-true _ _ g.0;
        body_is_bytes = (Decides-by_and (λ b. ltb b 256) (λ (b : ℕ). b < 256) (list_all (λ b. ltb b 256)) (λ b. Decides-ltb b 256) refl (λ _ _. refl) (plain_body code)).0 h.0;
      };
      counted = record {
        numbers = owed.numbers;
        points = OnTrue_from (eqb code XY) _ (λ t. absurd (points (eqb-true code XY t)));
        names = owed.names;
      };
      readable = (readable_decides (plain place code)).0 k.1;
      new = λ t. absurd (name t);
    }

-- ---- points

-- the fewest points of a table
abbrev least : List (ℕ × ℕ × Option ℕ) → ℕ → ℕ
least [] code = 1
least (row ∷ rows) code = cond (eqb row.0 code) row.1 (least rows code)

abbrev Fair : List (ℕ × ℕ × Option ℕ) → Type 0
Fair rows = AllByRecursion (λ row. (1 ≤ row.1) × (row.1 ≤ 5) × IfSome row.2 (λ most. row.1 ≤ most)) rows

least_within : (rows : List (ℕ × ℕ × Option ℕ)) (code : ℕ) → Fair rows → (1 ≤ least rows code) × (least rows code ≤ 5)
least_within [] code fair = (omega arith, omega arith)
least_within (row ∷ rows) code fair = cond_both (eqb row.0 code) row.1 (least rows code) (λ n. (1 ≤ n) × (n ≤ 5)) (λ e. (fair.0.0, fair.0.1)) (λ e. least_within rows code fair.1)

enough_by : (b : Bool) (few m : ℕ) (most : Option ℕ) (P : ℕ → Type 0) → IfSome most (λ k. few ≤ k) → P m → MatchBool b ((few ≤ cond b few m) × IfSome most (λ k. cond b few m ≤ k)) (P (cond b few m))
enough_by true few m most P h p = (omega arith, h)
enough_by false few m most P h p = p

least_enough : (rows : List (ℕ × ℕ × Option ℕ)) (code : ℕ) → Fair rows → EnoughPoints rows code (least rows code)
least_enough [] code fair = tt
least_enough (row ∷ rows) code fair = enough_by (eqb row.0 code) row.1 (least rows code) row.2 (EnoughPoints rows code) fair.0.2 (least_enough rows code fair.1)

abbrev points_of : Option ℕ → ℕ
points_of None = 1
points_of (Some code) = least point_counts code

fair_counts : Fair point_counts
fair_counts = omega arith

points_within : (kind : Option ℕ) → (1 ≤ points_of kind) × (points_of kind ≤ 5)
points_within None = (omega arith, omega arith)
points_within (Some code) = least_within point_counts code fair_counts

points_enough : (kind : Option ℕ) (n : ℕ) → n ≡ points_of kind → IfSome kind (λ code. EnoughPoints point_counts code n)
points_enough None n e = tt
points_enough (Some code) n e = subst (EnoughPoints point_counts code) (sym e) (least_enough point_counts code fair_counts)

-- equal points are closed
closed_zeros : (m long : ℕ) → 8 ≤ m → long ≡ m → take 8 (replicate {A = ℕ} m 0) ≡ drop (long - 8) (replicate {A = ℕ} m 0)
closed_zeros m long eight same =
    let left : m - (long - 8) ≡ 8 = omega arith in
    take-replicate 8 m 0 eight ∙ sym (drop-replicate (long - 8) m 0 ∙ ap (λ (k : ℕ). replicate {A = ℕ} k 0) left)

closed_of : (kind : Option ℕ) (m long : ℕ) → 8 ≤ m → long ≡ m → IfSome kind (λ code. OnTrue (eqb code BOUNDARY) (take 8 (replicate {A = ℕ} m 0) ≡ drop (long - 8) (replicate {A = ℕ} m 0)))
closed_of None m long eight same = tt
closed_of (Some code) m long eight same = OnTrue_from (eqb code BOUNDARY) _ (λ e. closed_zeros m long eight same)

points_model : (place : ℕ) (kind : Option ℕ) (names : List (List ℕ)) → Model place kind names XY
points_model place kind names =
    let n : ℕ = points_of kind in
    let within = points_within kind in
    let long : length (replicate {A = ℕ} (8 * n) 0) ≡ 8 * n = length-replicate (8 * n) 0 in
    record {
      item = record { at = place; code = XY; form = FOUR_BYTES; body = replicate (8 * n) 0 };
      at = refl;
      of_type = refl;
      framed = record {
        even = omega arith;
        short = omega (arith, within.1);
        type_is_known = refl;
        items = (refl, omega arith);
        code_is_byte = lit< tt;
        form_is_byte = lit< tt;
        body_is_bytes = All-replicate (λ (b : ℕ). b < 256) (8 * n) 0 (lit< tt);
      };
      counted = record {
        numbers = tt;
        points = record { whole = omega arith; enough = points_enough kind _ (omega arith); closed = closed_of kind (8 * n) _ (omega (arith, within.0)) long };
        names = tt;
      };
      readable = tt;
      new = λ e. absurd (omega (arith, e));
    }

-- ---- names of structures

trim_letters : (text : List ℕ) → AllByRecursion (λ b. (65 ≤ b) × (b ≤ 66)) text → trim text ≡ text
trim_letters [] h = refl
trim_letters (zero ∷ text) h = absurd (omega (arith, h.0.0))
trim_letters (suc b ∷ text) h = ap (without_zero (suc b)) (trim_letters text h.1) ∙ stays text
  where
    stays : (bytes : List ℕ) → without_zero (suc b) bytes ≡ suc b ∷ bytes
    stays [] = refl
    stays (c ∷ bytes) = refl

name_model : (place : ℕ) (kind : Option ℕ) (names : List (List ℕ)) → Fresh 64 names → Model place kind names STRNAME
name_model place kind names f =
    let letters : All (λ b. (65 ≤ b) × (b ≤ 66)) f.text = All-from_recursion (λ b. (65 ≤ b) × (b ≤ 66)) f.text f.letters in
    let whole : trim f.text ≡ f.text = trim_letters f.text f.letters in
    record {
      item = record { at = place; code = STRNAME; form = CHARACTERS; body = f.text };
      at = refl;
      of_type = refl;
      framed = record {
        even = omega (arith, f.long);
        short = omega (arith, f.long);
        type_is_known = refl;
        items = (refl, omega arith);
        code_is_byte = lit< tt;
        form_is_byte = lit< tt;
        body_is_bytes = All-weaker (λ b. (65 ≤ b) × (b ≤ 66)) (λ b. b < 256) (λ b h. omega (arith, h.1)) f.text letters;
      };
      counted = record { numbers = tt; points = tt; names = omega (arith, f.long, ap length whole) };
      readable = subst IsText (sym whole) (All-weaker (λ b. (65 ≤ b) × (b ≤ 66)) IsPrintable (λ b h. (omega (arith, h.0), omega (arith, h.1))) f.text letters);
      new = λ e. subst (λ (t : List ℕ). AllByRecursion (λ n. n ≢ t) names) (sym whole) f.new;
    }

-- ---- any type

pub model : (place : ℕ) (kind : Option ℕ) (names : List (List ℕ)) (code : ℕ) → Contains (types stream) code → length names < 2 ^ 64 → Model place kind names code
model place kind names code here few =
    elim (cases_eq code XY) [
      | inl points ↦ subst (Model place kind names) (sym points) (points_model place kind names)
      | inr other ↦
          elim (cases_eq code STRNAME) [
            | inl named ↦ subst (Model place kind names) (sym named) (name_model place kind names (fresh 64 names few))
            | inr others ↦
                let parts = or_cases (eqb code XY) (eqb code STRNAME || plain_test code) (test_of code here) in
                elim parts [
                  | inl e ↦ absurd (other (eqb-true code XY e))
                  | inr e ↦
                      elim (or_cases (eqb code STRNAME) (plain_test code) e) [
                        | inl f ↦ absurd (others (eqb-true code STRNAME f))
                        | inr f ↦ plain_model place kind names code other others f
                      ]
                ]
          ]
    ]
