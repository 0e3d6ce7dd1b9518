-- The tests of records decide what they test.
use Rattle.std.proofs.Common.{◌≡◌, ℕ, ◌-◌, ◌*◌, ◌/◌, ◌%◌, ◌<◌, ◌≤◌, Bool, true, false, cond, ◌&&◌, eqb, ltb, leb, List, [], ◌∷◌, length, take, drop, Option, Some, None, IfSome, MatchBool, Contains, refl, sym}
use Rattle.std.specs.Prelude.{nat_eq, ◌==◌}
use Rattle.std.specs.Bool.{OnTrue, Decides}
use Rattle.std.specs.List.{list_any, list_all}
use Rattle.std.specs.Cmp.Lexicographic.{pointwise, bytes_decides}
use Rattle.std.proofs.lemmas.Bool.{leb-true, le-leb}
use Rattle.std.proofs.lemmas.Bool.Decides.{Decides-eqb, Decides-ltb, Decides-and, Decides-by_and, Decides-by_or, Decides-like, not_from_Decides}
use Rattle.std.proofs.lemmas.List.Elements.{Contains-from_at, at_from_Contains}
use Rattle.rt_base.specs.Text.{IsText, IsPrintable}
use Rattle.gds_records.specs.declared.types.TheConstants.{BOUNDARY, XY, LIBNAME, STRNAME, SNAME, STRING}
use Rattle.gds_records.specs.Records.{Item, unit}
use Rattle.gds_grammar.specs.Conditions.{is_in, trim, form_of, is_number, number_count, point_counts, EnoughPoints, AreCountedPoints, Counted, Readable}
use Rattle.gds_grammar.specs.Tests.{at_most, enough_points, is_closed, has_points, counted, is_printable, readable, is_repeated}

-- ---- tests of tests

on_decides : (b t : Bool) {P : Type 0} → Decides t P → Decides (cond b t true) (OnTrue b P)
on_decides true t d = d
on_decides false t d = (λ e. tt, λ h. refl)

either_decides : (b s t : Bool) {P Q : Type 0} → Decides s P → Decides t Q → Decides (cond b s t) (MatchBool b P Q)
either_decides true s t d e = d
either_decides false s t d e = e

Decides-leb : (a b : ℕ) → Decides (leb a b) (a ≤ b)
Decides-leb a b = (leb-true a b, le-leb a b)

-- ---- counts

at_most_decides : (n : ℕ) (o : Option ℕ) → Decides (at_most n o) (IfSome o (λ most. n ≤ most))
at_most_decides n None = (λ e. tt, λ h. refl)
at_most_decides n (Some most) = Decides-leb n most

enough_decides : (rows : List (ℕ × ℕ × Option ℕ)) (code n : ℕ) → Decides (enough_points rows code n) (EnoughPoints rows code n)
enough_decides [] code n = (λ e. tt, λ h. refl)
enough_decides (row ∷ rows) code n =
    either_decides (eqb row.0 code) (leb row.1 n && at_most n row.2) (enough_points rows code n)
    (Decides-and (leb row.1 n) (at_most n row.2) (Decides-leb row.1 n) (at_most_decides n row.2))
    (enough_decides rows code n)

-- what the element wants of its points
abbrev ArePointsOf : Option ℕ → List ℕ → Type 0
ArePointsOf kind body = IfSome kind (λ code. EnoughPoints point_counts code (length body / 8)) × IfSome kind (λ code. OnTrue (code == BOUNDARY) (take 8 body ≡ drop (length body - 8) body))

has_points_decides : (kind : Option ℕ) (body : List ℕ) → Decides (has_points kind body) (ArePointsOf kind body)
has_points_decides None body = (λ e. (tt, tt), λ h. refl)
has_points_decides (Some code) body =
    Decides-and (enough_points point_counts code (length body / 8)) (cond (eqb code BOUNDARY) (is_closed body) true)
    (enough_decides point_counts code (length body / 8))
    (on_decides (eqb code BOUNDARY) (is_closed body) (bytes_decides (take 8 body) (drop (length body - 8) body)))

points_decide : (kind : Option ℕ) (body : List ℕ) → Decides (eqb (length body % 8) 0 && has_points kind body) (AreCountedPoints kind body)
points_decide kind body =
    Decides-like (eqb (length body % 8) 0 && has_points kind body)
    (λ (h : (length body % 8 ≡ 0) × ArePointsOf kind body). record { whole = h.0; enough = h.1.0; closed = h.1.1 })
    (λ (h : AreCountedPoints kind body). (h.whole, (h.enough, h.closed)))
    (Decides-and (eqb (length body % 8) 0) (has_points kind body) (Decides-eqb (length body % 8) 0) (has_points_decides kind body))

-- what a record owes by its count, test by test
abbrev CountsOf : Option ℕ → Item → Type 0
CountsOf kind i =
    (OnTrue (is_number i.code) (length i.body ≡ number_count i.code * unit (form_of i.code)) × OnTrue (i.code == XY) (AreCountedPoints kind i.body))
    × OnTrue (is_in (STRNAME ∷ SNAME ∷ []) i.code) (0 < length (trim i.body))

-- `counted` decides whether there are as many numbers or points as there should be, and a name that isn't empty
pub counted_decides : (kind : Option ℕ) (i : Item) → Decides (counted kind i) (Counted kind i)
unfolding counted
counted_decides kind i =
    let numbers : Bool = cond (is_number i.code) (eqb (length i.body) (number_count i.code * unit (form_of i.code))) true in
    let points : Bool = cond (eqb i.code XY) (eqb (length i.body % 8) 0 && has_points kind i.body) true in
    let names : Bool = cond (is_in (STRNAME ∷ SNAME ∷ []) i.code) (ltb 0 (length (trim i.body))) true in
    Decides-like (counted kind i)
    (λ (h : CountsOf kind i). record { numbers = h.0.0; points = h.0.1; names = h.1 })
    (λ (h : Counted kind i). ((h.numbers, h.points), h.names))
    (Decides-and (numbers && points) names
    (Decides-and numbers points
    (on_decides (is_number i.code) _ (Decides-eqb (length i.body) (number_count i.code * unit (form_of i.code))))
    (on_decides (eqb i.code XY) _ (points_decide kind i.body)))
    (on_decides (is_in (STRNAME ∷ SNAME ∷ []) i.code) _ (Decides-ltb 0 (length (trim i.body)))))

pub counted_true : (kind : Option ℕ) (i : Item) → counted kind i ≡ true → Counted kind i
counted_true kind i e = (counted_decides kind i).0 e

pub counted_false : (kind : Option ℕ) (i : Item) → counted kind i ≡ false → ¬ Counted kind i
counted_false kind i e = not_from_Decides (counted kind i) (counted_decides kind i) e

-- ---- texts

printable_decides : (b : ℕ) → Decides (is_printable b) (IsPrintable b)
printable_decides b = Decides-and (leb 32 b) (leb b 126) (Decides-leb 32 b) (Decides-leb b 126)

text_decides : (bytes : List ℕ) → Decides (list_all is_printable bytes) (IsText bytes)
text_decides bytes = Decides-by_and is_printable IsPrintable (list_all is_printable) printable_decides refl (λ _ _. refl) bytes

-- `readable` decides whether a text that is looked at is printable
pub readable_decides : (i : Item) → Decides (readable i) (Readable i)
unfolding readable
readable_decides i = on_decides (is_in (LIBNAME ∷ STRNAME ∷ SNAME ∷ STRING ∷ []) i.code) (list_all is_printable (trim i.body)) (text_decides (trim i.body))

pub readable_true : (i : Item) → readable i ≡ true → Readable i
readable_true i e = (readable_decides i).0 e

pub readable_false : (i : Item) → readable i ≡ false → ¬ Readable i
readable_false i e = not_from_Decides (readable i) (readable_decides i) e

-- ---- names

-- a test of membership among lists of bytes
among_decides : (names : List (List ℕ)) (name : List ℕ) → Decides (list_any (pointwise nat_eq name) names) (Contains names name)
among_decides names name =
    let at : Decides (list_any (pointwise nat_eq name) names) _ = Decides-by_or (pointwise nat_eq name) (λ (n : List ℕ). n ≡ name) (list_any (pointwise nat_eq name))
    (λ (n : List ℕ). Decides-like (pointwise nat_eq name n) sym sym (bytes_decides name n)) refl (λ _ _. refl) names in
    Decides-like (list_any (pointwise nat_eq name) names) (Contains-from_at names name) (at_from_Contains names name) at

-- `is_repeated` decides whether the record names a structure by one of the names
pub repeated_decides : (names : List (List ℕ)) (i : Item) → Decides (is_repeated names i) ((i.code ≡ STRNAME) × Contains names (trim i.body))
unfolding is_repeated
repeated_decides names i =
    Decides-and (eqb i.code STRNAME) (list_any (pointwise nat_eq (trim i.body)) names) (Decides-eqb i.code STRNAME) (among_decides names (trim i.body))

pub repeated_true : (names : List (List ℕ)) (i : Item) → is_repeated names i ≡ true → (i.code ≡ STRNAME) × Contains names (trim i.body)
repeated_true names i e = (repeated_decides names i).0 e

pub repeated_false : (names : List (List ℕ)) (i : Item) → is_repeated names i ≡ false → i.code ≡ STRNAME → ¬ Contains names (trim i.body)
repeated_false names i e named here = not_from_Decides (is_repeated names i) (repeated_decides names i) e (named, here)

-- ---- membership among types

pub is_in_decides : (codes : List ℕ) (code : ℕ) → Decides (is_in codes code) (Contains codes code)
is_in_decides codes code =
    let at : Decides (is_in codes code) _ = Decides-by_or (λ c. eqb c code) (λ (c : ℕ). c ≡ code) (λ cs. is_in cs code) (λ c. Decides-eqb c code) refl (λ _ _. refl) codes in
    Decides-like (is_in codes code) (Contains-from_at codes code) (at_from_Contains codes code) at
