-- Closed lines and slanted sides, by tests.
use Rattle.std.proofs.Common.{Some, ◌-◌, ◌<◌, length, get_or, arith, ◌≡◌, Bool, true, false, not, List, [], ◌∷◌, IsTrue, ◌↔◌, refl, sym, ◌∙◌, ap, subst, inl, inr}
use Rattle.std.specs.List.{list_any}
use Rattle.std.specs.Ordering.{int_eq}
use Rattle.std.proofs.lemmas.Bool.{or_cases, and_parts, and_from, not_from_false, or_left, or_right, false_from_ne_true}
use Rattle.std.proofs.lemmas.Bool.Decides.{Decides-int_eq}
use Rattle.std.proofs.lemmas.Option.{same_Some}
use Rattle.rt_base.specs.declared.plane.Point.{Point}
use Rattle.gds_slabs.specs.Polygon.{sides_from, sides, slanted, IsSlantedSide, IsSlanted, IsClosed}
use Rattle.gds_slabs.proofs.Members.{Among, contains_from_among, among_from_contains}
use Rattle.gds_slabs.proofs.Odds.{clash}
use Rattle.gds_slabs.proofs.Paths.{got}

not_true : (b : Bool) → not b ≡ true → b ≡ false
not_true true e = absurd (cc e)
not_true false e = refl

pub slanted_says : (s : Point × Point) → slanted s ≡ true → IsSlantedSide s
slanted_says (p, q) e =
    let h = and_parts (not (int_eq p.x q.x)) (not (int_eq p.y q.y)) e in (
      (λ k. clash (int_eq p.x q.x) ((Decides-int_eq p.x q.x).1 k) (not_true (int_eq p.x q.x) h.0)),
      (λ k. clash (int_eq p.y q.y) ((Decides-int_eq p.y q.y).1 k) (not_true (int_eq p.y q.y) h.1)),
    )

pub slanted_yes : (s : Point × Point) → IsSlantedSide s → slanted s ≡ true
slanted_yes (p, q) h =
    and_from (not (int_eq p.x q.x)) (not (int_eq p.y q.y))
    (not_from_false (int_eq p.x q.x) (false_from_ne_true (int_eq p.x q.x) (λ e. h.0 ((Decides-int_eq p.x q.x).0 e))))
    (not_from_false (int_eq p.y q.y) (false_from_ne_true (int_eq p.y q.y) (λ e. h.1 ((Decides-int_eq p.y q.y).0 e))))

any_says : (ss : List (Point × Point)) → list_any slanted ss ≡ true → (s : Point × Point) × Among ss s × IsSlantedSide s
any_says [] e = clash false e refl
any_says (s ∷ ss) e =
    elim (or_cases (slanted s) (list_any slanted ss) e) [
      | inl h ↦ (s, inl refl, slanted_says s h)
      | inr h ↦ (let f = any_says ss h in (f.0, inr f.1, f.2))
    ]

any_yes : (ss : List (Point × Point)) (s : Point × Point) → Among ss s → IsSlantedSide s → list_any slanted ss ≡ true
any_yes [] s h k = elim h [ ]
any_yes (t ∷ ss) s (inl e) k = or_left (slanted t) (list_any slanted ss) (subst (λ u. slanted u ≡ true) (sym e) (slanted_yes s k))
any_yes (t ∷ ss) s (inr h) k = or_right (slanted t) (list_any slanted ss) (any_yes ss s h k)

-- some side passes the test exactly where the line is slanted
pub any_slanted : (points : List Point) → (list_any slanted (sides points) ≡ true) ↔ IsSlanted points
any_slanted points = (
  (λ e. let f = any_says (sides points) e in (f.0, contains_from_among (sides points) f.0 f.1, f.2)),
  (λ h. any_yes (sides points) h.0 (among_from_contains (sides points) h.0 h.1) h.2),
)

-- the test of the line decides
pub decided : (points : List Point) (first : Point) (rest : List Point) (answer : Bool) → points ≡ first ∷ rest → answer ≡ list_any slanted (sides_from first rest)
    → IsTrue answer ↔ IsSlanted points
decided points first rest answer e f =
    let g : answer ≡ list_any slanted (sides points) = f ∙ ap (λ v. list_any slanted (sides v)) (sym e) in
    subst (λ b. IsTrue b ↔ IsSlanted points) (sym g) (any_slanted points)

-- the test of the ends decides
pub closed_decided : (points : List Point) (d e : Point) (answer : Bool) → 0 < length points
    → (IsTrue answer ↔ (get_or points (length points - 1) d ≡ get_or points 0 e)) → IsTrue answer ↔ IsClosed points
closed_decided points d e answer some h =
    let last : length points - 1 < length points = omega arith in
    let f = got points (length points - 1) d last in
    let g = got points 0 e some in
    ((λ k. f ∙ ap Some (h.0 k) ∙ sym g), (λ k. h.1 (same_Some _ _ (sym f ∙ k ∙ g))))
