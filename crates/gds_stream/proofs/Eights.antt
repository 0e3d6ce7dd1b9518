-- Points, eight bytes each.
use Rattle.std.proofs.Common.{◌≡◌, ℕ, ◌+◌, ◌-◌, ◌<◌, ◌≤◌, List, [], ◌∷◌, ◌++◌, length, take, drop, refl, sym, ap, ap₂, ◌∙◌, append_assoc, arith, length-drop}
use Rattle.std.proofs.lemmas.List.{take_all, drop-drop}
use Rattle.rt_base.specs.declared.plane.Point.{Point}
use Rattle.gds_stream.specs.Contents.{points_in, first_of}

-- fewer than eight bytes are none
pub no_point : (bytes : List ℕ) → length bytes < 8 → points_in bytes ≡ []
no_point [] few = refl
no_point (a ∷ []) few = refl
no_point (a ∷ (b ∷ [])) few = refl
no_point (a ∷ (b ∷ (c ∷ []))) few = refl
no_point (a ∷ (b ∷ (c ∷ (d ∷ [])))) few = refl
no_point (a ∷ (b ∷ (c ∷ (d ∷ (e ∷ []))))) few = refl
no_point (a ∷ (b ∷ (c ∷ (d ∷ (e ∷ (f ∷ [])))))) few = refl
no_point (a ∷ (b ∷ (c ∷ (d ∷ (e ∷ (f ∷ (g ∷ []))))))) few = refl
no_point (a ∷ (b ∷ (c ∷ (d ∷ (e ∷ (f ∷ (g ∷ (h ∷ bytes)))))))) few = absurd (omega arith)

-- eight bytes or more begin with one
pub one_point : (bytes : List ℕ) → 8 ≤ length bytes → points_in bytes ≡ first_of (points_in bytes) ∷ points_in (drop 8 bytes)
one_point [] few = absurd (omega arith)
one_point (a ∷ []) few = absurd (omega arith)
one_point (a ∷ (b ∷ [])) few = absurd (omega arith)
one_point (a ∷ (b ∷ (c ∷ []))) few = absurd (omega arith)
one_point (a ∷ (b ∷ (c ∷ (d ∷ [])))) few = absurd (omega arith)
one_point (a ∷ (b ∷ (c ∷ (d ∷ (e ∷ []))))) few = absurd (omega arith)
one_point (a ∷ (b ∷ (c ∷ (d ∷ (e ∷ (f ∷ [])))))) few = absurd (omega arith)
one_point (a ∷ (b ∷ (c ∷ (d ∷ (e ∷ (f ∷ (g ∷ []))))))) few = absurd (omega arith)
one_point (a ∷ (b ∷ (c ∷ (d ∷ (e ∷ (f ∷ (g ∷ (h ∷ bytes)))))))) few = refl

-- one more point
pub points_go_on : (front : List Point) (rest : List ℕ) (p : Point) (total : List Point) → 8 ≤ length rest → p ≡ first_of (points_in rest)
    → front ++ points_in rest ≡ total → (front ++ p ∷ []) ++ points_in (drop 8 rest) ≡ total
points_go_on front rest p total enough is so_far =
    append_assoc front (p ∷ []) (points_in (drop 8 rest))
    ∙ ap (λ (q : Point). front ++ (q ∷ points_in (drop 8 rest))) is
    ∙ sym (ap (λ (ps : List Point). front ++ ps) (one_point rest enough))
    ∙ so_far

-- what a slice from a place on holds
pub tail_of : (bytes : List ℕ) (n : ℕ) → take (length bytes - n) (drop n bytes) ≡ drop n bytes
tail_of bytes n = let k : length (drop n bytes) ≤ length bytes - n = omega (arith, length-drop n bytes) in take_all (length bytes - n) (drop n bytes) k

-- behind the points before, what is left begins with one
pub next_point : (bytes left behind : List ℕ) (n : ℕ) (p : Point) → n + 8 ≤ length bytes → left ≡ drop n bytes → behind ≡ drop (n + 8) bytes
    → p ≡ first_of (points_in left) → p ∷ points_in behind ≡ points_in left
next_point bytes left behind n p enough is_left is_behind is =
    let long : length left ≡ length bytes - n = ap length is_left ∙ length-drop n bytes in
    let again : drop 8 left ≡ behind = ap (drop 8) is_left ∙ drop-drop 8 n bytes ∙ sym is_behind in
    sym (one_point left (omega arith) ∙ ap₂ (λ (x : Point) (y : List ℕ). x ∷ points_in y) (sym is) again)

-- the last point
pub last_point : (bytes left : List ℕ) (n : ℕ) (p : Point) → n + 8 ≡ length bytes → left ≡ drop n bytes → p ≡ first_of (points_in left) → p ∷ [] ≡ points_in left
last_point bytes left n p long is_left is =
    let none : points_in (drop (n + 8) bytes) ≡ [] = no_point (drop (n + 8) bytes) (omega (arith, length-drop (n + 8) bytes)) in
    ap (λ (ps : List Point). p ∷ ps) (sym none) ∙ next_point bytes left (drop (n + 8) bytes) n p (omega arith) is_left refl is

-- three points
pub three : (bytes second third : List ℕ) (p q r : Point) → length bytes ≡ 24 → second ≡ drop 8 bytes → third ≡ drop 16 bytes
    → p ≡ first_of (points_in bytes) → q ≡ first_of (points_in second) → r ≡ first_of (points_in third) → p ∷ q ∷ r ∷ [] ≡ points_in bytes
three bytes second third p q r long is_second is_third is_p is_q is_r =
    ap (λ (ps : List Point). p ∷ q ∷ ps) (last_point bytes third 16 r (omega arith) is_third is_r)
    ∙ ap (λ (ps : List Point). p ∷ ps) (next_point bytes second third 8 q (omega arith) is_second is_third is_q)
    ∙ next_point bytes bytes second 0 p (omega arith) refl is_second is_p

-- five points
pub five : (bytes second third fourth fifth : List ℕ) (p q r s t : Point) → length bytes ≡ 40 → second ≡ drop 8 bytes → third ≡ drop 16 bytes
    → fourth ≡ drop 24 bytes → fifth ≡ drop 32 bytes → p ≡ first_of (points_in bytes) → q ≡ first_of (points_in second) → r ≡ first_of (points_in third)
    → s ≡ first_of (points_in fourth) → t ≡ first_of (points_in fifth) → p ∷ q ∷ r ∷ s ∷ t ∷ [] ≡ points_in bytes
five bytes second third fourth fifth p q r s t long is_second is_third is_fourth is_fifth is_p is_q is_r is_s is_t =
    ap (λ (ps : List Point). p ∷ q ∷ r ∷ s ∷ ps) (last_point bytes fifth 32 t (omega arith) is_fifth is_t)
    ∙ ap (λ (ps : List Point). p ∷ q ∷ r ∷ ps) (next_point bytes fourth fifth 24 s (omega arith) is_fourth is_fifth is_s)
    ∙ ap (λ (ps : List Point). p ∷ q ∷ ps) (next_point bytes third fourth 16 r (omega arith) is_third is_fourth is_r)
    ∙ ap (λ (ps : List Point). p ∷ ps) (next_point bytes second third 8 q (omega arith) is_second is_third is_q)
    ∙ next_point bytes bytes second 0 p (omega arith) refl is_second is_p
