-- The toggles of a line over points: their parity is that of the sides that cross, and their heights are those of the points.
use Rattle.std.proofs.Common.{◌≡◌, ◌-◌, ℤ, ◌⊎◌, Bool, true, false, not, ◌&&◌, Some, List, [], ◌∷◌, length, refl, sym, ◌∙◌, ap, subst, inl, inr, arith}
use Rattle.std.specs.Prelude.{int_le, int_lt, slice_get}
use Rattle.std.specs.Int.{int_min, int_max}
use Rattle.std.specs.Ordering.{int_eq}
use Rattle.std.proofs.lemmas.Int.{ints, clamps, by_lt_z}
use Rattle.std.proofs.lemmas.Bool.Decides.{Decides-int_eq}
use Rattle.std.proofs.lemmas.Option.{same_Some}
use Rattle.rt_base.specs.declared.plane.Point.{Point}
use Rattle.gds_slabs.specs.declared.toggles.Toggle.{Toggle}
use Rattle.gds_slabs.specs.Polygon.{sides_from, sides, crosses, IsClosed, IsSlantedSide, IsSlanted}
use Rattle.gds_slabs.specs.Slabs.{IsHeight}
use Rattle.gds_slabs.specs.Sweep.{toggles_from, toggles}
use Rattle.gds_slabs.proofs.Parity.{xor, xor_assoc, xor_self, xor_twice, parity}
use Rattle.gds_slabs.proofs.Members.{Among, contains_from_among, among_from_contains}
use Rattle.gds_slabs.proofs.Odds.{le_yes, le_no, clash}
use Rattle.gds_slabs.proofs.Levels.{under, lt_yes, lt_no}

-- ---- one side

-- the side's ends are on different sides of the row, and the test passes at its column
abbrev pub passes : (ℤ → Bool) → ℤ → Point × Point → Bool
passes f y (p, q) = f p.x && xor (int_le p.y y) (int_le q.y y)

two_ends : (a b g rest : Bool) → xor (a && g) (xor (b && g) rest) ≡ xor (g && xor a b) rest
two_ends true true true rest = elim rest as (λ v. not (not v) ≡ v) [ true ↦ refl | false ↦ refl ]
two_ends true true false rest = refl
two_ends true false g rest = elim g as (λ v. xor v rest ≡ xor (v && true) rest) [ true ↦ refl | false ↦ refl ]
two_ends false true g rest = elim g as (λ v. xor v rest ≡ xor (v && true) rest) [ true ↦ refl | false ↦ refl ]
two_ends false false g rest = elim g as (λ v. rest ≡ xor (v && false) rest) [ true ↦ refl | false ↦ refl ]

-- the toggles of the sides, by the sides
pub toggles_parity : (f : ℤ → Bool) (y : ℤ) (p : Point) (points : List Point)
    → parity (under f y) (toggles_from p points) ≡ parity (passes f y) (sides_from p points)
toggles_parity f y p [] = refl
toggles_parity f y p (q ∷ points) =
    two_ends (int_le p.y y) (int_le q.y y) (f p.x) (parity (under f y) (toggles_from q points))
    ∙ ap (xor (passes f y (p, q))) (toggles_parity f y q points)

pub between_says : (a b y : ℤ) → (int_le (int_min a b) y && int_lt y (int_max a b)) ≡ xor (int_le a y) (int_le b y)
between_says a b y =
    by_lt_z y a
    (λ l. by_lt_z y b
    (λ m. rw (le_no a y l, le_no b y m, le_no (int_min a b) y (omega (arith, ints, clamps))) refl)
    (λ m. rw (le_no a y l, le_yes b y m, le_yes (int_min a b) y (omega (arith, ints, clamps)), lt_yes y (int_max a b) (omega (arith, ints, clamps))) refl))
    (λ l. by_lt_z y b
    (λ m. rw (le_yes a y l, le_no b y m, le_yes (int_min a b) y (omega (arith, ints, clamps)), lt_yes y (int_max a b) (omega (arith, ints, clamps))) refl)
    (λ m. rw (le_yes a y l, le_yes b y m, le_yes (int_min a b) y (omega (arith, ints, clamps)), lt_no y (int_max a b) (omega (arith, ints, clamps))) refl))

pub and_false : (b : Bool) → (b && false) ≡ false
and_false true = refl
and_false false = refl

pub same_row : (p q : Point) → (IsSlantedSide (p, q) → ⊥) → int_eq p.x q.x ≡ false → p.y ≡ q.y
same_row p q straight e =
    let d = Decides-int_eq p.x q.x in
    let c = Decides-int_eq p.y q.y in
    by_test (int_eq p.y q.y) refl
  where
    by_test : (b : Bool) → b ≡ int_eq p.y q.y → p.y ≡ q.y
    by_test true h = (Decides-int_eq p.y q.y).0 (sym h)
    by_test false h =
        absurd (straight ((λ k. clash (int_eq p.x q.x) ((Decides-int_eq p.x q.x).1 k) e), (λ k. clash (int_eq p.y q.y) ((Decides-int_eq p.y q.y).1 k) (sym h))))

-- a side that isn't slanted crosses where it passes the row at the column or left of it
pub crossing : (x y : ℤ) (p q : Point) → (IsSlantedSide (p, q) → ⊥) → passes (λ c. int_le c x) y (p, q) ≡ crosses x y (p, q)
crossing x y p q straight = by_test (int_eq p.x q.x) refl
  where
    by_test : (b : Bool) → int_eq p.x q.x ≡ b → passes (λ c. int_le c x) y (p, q) ≡ crosses x y (p, q)
    by_test true h = rw (h, between_says p.y q.y y) refl
    by_test false h =
        let e = same_row p q straight h in
        let f : xor (int_le p.y y) (int_le q.y y) ≡ false = subst (λ v. xor (int_le p.y y) (int_le v y) ≡ false) e (xor_self (int_le p.y y)) in
        rw (h, f) (and_false (int_le p.x x))

pub parity_same : {X : Type 0} (f g : X → Bool) (xs : List X) → ((x : X) → Among xs x → f x ≡ g x) → parity f xs ≡ parity g xs
parity_same f g [] same = refl
parity_same f g (x ∷ xs) same = let e = same x (inl refl) in let h = parity_same f g xs (λ y k. same y (inr k)) in cc

-- the toggles at the row and below it, at the column and left of it, are odd in number where the sides that cross are
pub toggles_cross : (x y : ℤ) (points : List Point) → (IsSlanted points → ⊥)
    → parity (under (λ c. int_le c x) y) (toggles points) ≡ parity (crosses x y) (sides points)
toggles_cross x y [] straight = refl
toggles_cross x y (p ∷ points) straight =
    toggles_parity (λ c. int_le c x) y p points
    ∙ parity_same (passes (λ c. int_le c x) y) (crosses x y) (sides_from p points)
    (λ s h. crossing x y s.0 s.1 (λ k. straight (s, contains_from_among (sides_from p points) s h, k)))

-- ---- closed lines

-- the last point of the line that goes on from p
abbrev pub last_from : Point → List Point → Point
last_from p [] = p
last_from p (q ∷ points) = last_from q points

get_last : (p : Point) (points : List Point) → slice_get (p ∷ points) (length points) ≡ Some (last_from p points)
get_last p [] = refl
get_last p (q ∷ points) = get_last q points

pub closed_last : (p : Point) (points : List Point) → IsClosed (p ∷ points) → last_from p points ≡ p
closed_last p points h =
    let e : length (p ∷ points) - 1 ≡ length points = omega arith in
    let k = subst (λ n. slice_get (p ∷ points) n ≡ Some p) e h in
    same_Some (last_from p points) p (sym (get_last p points) ∙ k)

joined : (a b c : Bool) → xor (xor a b) (xor b c) ≡ xor a c
joined a b c = xor_assoc a b (xor b c) ∙ ap (xor a) (xor_twice b c)

sides_pass : (y : ℤ) (p : Point) (points : List Point)
    → parity (passes (λ _. true) y) (sides_from p points) ≡ xor (int_le p.y y) (int_le (last_from p points).y y)
sides_pass y p [] = sym (xor_self (int_le p.y y))
sides_pass y p (q ∷ points) =
    ap (xor (xor (int_le p.y y) (int_le q.y y))) (sides_pass y q points)
    ∙ joined (int_le p.y y) (int_le q.y y) (int_le (last_from q points).y y)

-- a closed line has an even number of toggles up to each height
pub toggles_even : (y : ℤ) (points : List Point) → IsClosed points → parity (under (λ _. true) y) (toggles points) ≡ false
toggles_even y [] closed = refl
toggles_even y (p ∷ points) closed =
    toggles_parity (λ _. true) y p points ∙ sides_pass y p points
    ∙ subst (λ q. xor (int_le p.y y) (int_le q.y y) ≡ false) (sym (closed_last p points closed)) (xor_self (int_le p.y y))

toggles_end_from : (x : ℤ) (p : Point) (points : List Point) → parity (λ (t : Toggle). int_le t.x x) (toggles_from p points) ≡ false
toggles_end_from x p [] = refl
toggles_end_from x p (q ∷ points) =
    xor_twice (int_le p.x x) (parity (λ (t : Toggle). int_le t.x x) (toggles_from q points)) ∙ toggles_end_from x q points

-- an even number of all toggles is at each column
pub toggles_end : (x : ℤ) (points : List Point) → parity (λ (t : Toggle). int_le t.x x) (toggles points) ≡ false
toggles_end x [] = refl
toggles_end x (p ∷ points) = toggles_end_from x p points

-- ---- heights

-- one of the points is at the height
abbrev pub At : List Point → ℤ → Type 0
At [] y = ⊥
At (p ∷ points) y = (p.y ≡ y) ⊎ At points y

pub at_from_height : (points : List Point) (y : ℤ) → IsHeight points y → At points y
at_from_height points y h = found points h.0 (among_from_contains points h.0 h.1) h.2
  where
    found : (points : List Point) (p : Point) → Among points p → p.y ≡ y → At points y
    found [] p k e = elim k [ ]
    found (q ∷ points) p (inl k) e = inl (ap (λ (t : Point). t.y) k ∙ e)
    found (q ∷ points) p (inr k) e = inr (found points p k e)

pub height_from_at : (points : List Point) (y : ℤ) → At points y → IsHeight points y
height_from_at points y h = let f = found points h in (f.0, contains_from_among points f.0 f.1, f.2)
  where
    found : (points : List Point) → At points y → (p : Point) × Among points p × (p.y ≡ y)
    found [] k = elim k [ ]
    found (q ∷ points) (inl e) = (q, inl refl, e)
    found (q ∷ points) (inr k) = let f = found points k in (f.0, inr f.1, f.2)

-- one of the toggles is at the height
abbrev pub Toggles : List Toggle → ℤ → Type 0
Toggles ts y = (t : Toggle) × Among ts t × (t.y ≡ y)

later_toggle : (p q : Point) (points : List Point) (y : ℤ) → Toggles (toggles_from q points) y → Toggles (toggles_from p (q ∷ points)) y
later_toggle p q points y h = (h.0, inr (inr h.1), h.2)

-- each point's height is a toggle's, where there is a side
pub toggle_from_at : (p q : Point) (points : List Point) (y : ℤ) → At (p ∷ q ∷ points) y → Toggles (toggles_from p (q ∷ points)) y
toggle_from_at p q points y (inl e) = (record { y = p.y; x = p.x }, inl refl, e)
toggle_from_at p q points y (inr (inl e)) = (record { y = q.y; x = p.x }, inr (inl refl), e)
toggle_from_at p q [] y (inr (inr h)) = elim h [ ]
toggle_from_at p q (r ∷ points) y (inr (inr h)) = later_toggle p q (r ∷ points) y (toggle_from_at q r points y (inr h))

-- each toggle's height is a point's
pub at_from_toggle : (p : Point) (points : List Point) (t : Toggle) → Among (toggles_from p points) t → At (p ∷ points) t.y
at_from_toggle p [] t h = elim h [ ]
at_from_toggle p (q ∷ points) t (inl e) = inl (ap (λ (u : Toggle). u.y) e)
at_from_toggle p (q ∷ points) t (inr (inl e)) = inr (inl (ap (λ (u : Toggle). u.y) e))
at_from_toggle p (q ∷ points) t (inr (inr h)) = inr (at_from_toggle q points t h)
