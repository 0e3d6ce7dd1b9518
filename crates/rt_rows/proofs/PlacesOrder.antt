-- The order of places is strict and total, and a place is that of one name alone.
use Rattle.std.proofs.Common.{◌≡◌, ℕ, ◌<◌, ◌⊎◌, Bool, true, false, [], ◌∷◌, get_or, refl, sym, ap, subst, ◌∙◌, inl, inr, arith, Ordering, Less, Equal, Greater, nat_cmp, is_lt}
use Rattle.std.proofs.lemmas.Cmp.{ranked}
use Rattle.std.specs.Bool.{MatchBool}
use Rattle.std.specs.Ordering.{ordering_then, MatchOrdering}
use Rattle.rt_rows.specs.declared.name.Name.{Name}
use Rattle.rt_rows.specs.declared.name.Name.TheVariants.{Lo, Hi, Zero, Top, Wide, Tall, Size, Ll, Rr, Share, On, Under, Gap, Run, Off, Inl, Inr, Inb, Int, Chl, Chr, Chb, Cht, Eql, Eqr, Eqb, Eqt, MirLo, MirHi, SameB, SameT}
use Rattle.rt_rows.specs.Order.{Place, place_of, IsEarlier}
use Rattle.rt_rows.specs.Order.IsEarlier.{by_kind, by_first, by_second, by_third}

-- no place stands before itself
pub never_itself : (p : Place) → ¬ IsEarlier p p
never_itself p (by_kind h) = omega (arith, h)
never_itself p (by_first _ h) = omega (arith, h)
never_itself p (by_second _ _ h) = omega (arith, h)
never_itself p (by_third _ _ _ h) = omega (arith, h)

below_below : (a b c : ℕ) → a < b → b < c → a < c
below_below a b c h g = omega arith

below_same : (a b c : ℕ) → a < b → b ≡ c → a < c
below_same a b c h g = omega arith

same_below : (a b c : ℕ) → a ≡ b → b < c → a < c
same_below a b c h g = omega arith

-- what stands before a place stands before what it stands before
pub still_earlier : (p q r : Place) → IsEarlier p q → IsEarlier q r → IsEarlier p r
still_earlier p q r (by_kind a) (by_kind b) = by_kind (below_below p.kind q.kind r.kind a b)
still_earlier p q r (by_kind a) (by_first b _) = by_kind (below_same p.kind q.kind r.kind a b)
still_earlier p q r (by_kind a) (by_second b _ _) = by_kind (below_same p.kind q.kind r.kind a b)
still_earlier p q r (by_kind a) (by_third b _ _ _) = by_kind (below_same p.kind q.kind r.kind a b)
still_earlier p q r (by_first a _) (by_kind b) = by_kind (same_below p.kind q.kind r.kind a b)
still_earlier p q r (by_first a c) (by_first b d) = by_first (a ∙ b) (below_below p.first q.first r.first c d)
still_earlier p q r (by_first a c) (by_second b d _) = by_first (a ∙ b) (below_same p.first q.first r.first c d)
still_earlier p q r (by_first a c) (by_third b d _ _) = by_first (a ∙ b) (below_same p.first q.first r.first c d)
still_earlier p q r (by_second a _ _) (by_kind b) = by_kind (same_below p.kind q.kind r.kind a b)
still_earlier p q r (by_second a c _) (by_first b d) = by_first (a ∙ b) (same_below p.first q.first r.first c d)
still_earlier p q r (by_second a c e) (by_second b d f) = by_second (a ∙ b) (c ∙ d) (below_below p.second q.second r.second e f)
still_earlier p q r (by_second a c e) (by_third b d f _) = by_second (a ∙ b) (c ∙ d) (below_same p.second q.second r.second e f)
still_earlier p q r (by_third a _ _ _) (by_kind b) = by_kind (same_below p.kind q.kind r.kind a b)
still_earlier p q r (by_third a c _ _) (by_first b d) = by_first (a ∙ b) (same_below p.first q.first r.first c d)
still_earlier p q r (by_third a c e _) (by_second b d f) = by_second (a ∙ b) (c ∙ d) (same_below p.second q.second r.second e f)
still_earlier p q r (by_third a c e g) (by_third b d f h) = by_third (a ∙ b) (c ∙ d) (e ∙ f) (below_below p.third q.third r.third g h)

-- the places are one, or one of them stands before the other
data Compared (p q : Place) : Type 0 where
  earlier : IsEarlier p q → Compared p q
  one_place : p ≡ q → Compared p q
  later : IsEarlier q p → Compared p q

by_numbers : (p q : Place) (r s t u : Ordering)
    → MatchOrdering r (p.kind < q.kind) (p.kind ≡ q.kind) (q.kind < p.kind)
    → MatchOrdering s (p.first < q.first) (p.first ≡ q.first) (q.first < p.first)
    → MatchOrdering t (p.second < q.second) (p.second ≡ q.second) (q.second < p.second)
    → MatchOrdering u (p.third < q.third) (p.third ≡ q.third) (q.third < p.third)
    → MatchBool (is_lt (ordering_then (ordering_then (ordering_then r s) t) u)) (IsEarlier p q) ((p ≡ q) ⊎ IsEarlier q p)
by_numbers p q Less s t u a b c d = by_kind a
by_numbers p q Greater s t u a b c d = inr (by_kind a)
by_numbers p q Equal Less t u a b c d = by_first a b
by_numbers p q Equal Greater t u a b c d = inr (by_first (sym a) b)
by_numbers p q Equal Equal Less u a b c d = by_second a b c
by_numbers p q Equal Equal Greater u a b c d = inr (by_second (sym a) (sym b) c)
by_numbers p q Equal Equal Equal Less a b c d = by_third a b c d
by_numbers p q Equal Equal Equal Greater a b c d = inr (by_third (sym a) (sym b) (sym c) d)
by_numbers p q Equal Equal Equal Equal a b c d = inl (λ i. record { kind = a i; first = b i; second = c i; third = d i })

-- how two places compare, number by number
abbrev pub compare_places : Place → Place → Ordering
compare_places p q = ordering_then (ordering_then (ordering_then (nat_cmp p.kind q.kind) (nat_cmp p.first q.first)) (nat_cmp p.second q.second)) (nat_cmp p.third q.third)

pub compared : (p q : Place) → MatchBool (is_lt (compare_places p q)) (IsEarlier p q) ((p ≡ q) ⊎ IsEarlier q p)
compared p q =
    by_numbers p q _ _ _ _ (ranked p.kind q.kind _ refl) (ranked p.first q.first _ refl) (ranked p.second q.second _ refl) (ranked p.third q.third _ refl)

not_earlier : (p q : Place) → (p ≡ q) ⊎ IsEarlier q p → ¬ IsEarlier p q
not_earlier p q (inl e) h = never_itself q (subst (λ r. IsEarlier r q) e h)
not_earlier p q (inr g) h = never_itself p (still_earlier p q p h g)

tells_it : (p q : Place) (b : Bool) → MatchBool b (IsEarlier p q) ((p ≡ q) ⊎ IsEarlier q p) → MatchBool b (IsEarlier p q) (¬ IsEarlier p q)
tells_it p q true h = h
tells_it p q false h = not_earlier p q h

-- the comparison tells whether a place stands before another
pub tells_earlier : (p q : Place) → MatchBool (is_lt (compare_places p q)) (IsEarlier p q) (¬ IsEarlier p q)
tells_earlier p q = tells_it p q (is_lt (compare_places p q)) (compared p q)

one_or_before : (p q : Place) (b : Bool) → MatchBool b (IsEarlier p q) ((p ≡ q) ⊎ IsEarlier q p) → (¬ IsEarlier p q) → (p ≡ q) ⊎ IsEarlier q p
one_or_before p q true h n = absurd (n h)
one_or_before p q false h n = h

-- of two places of which the first doesn't stand before the second they are one, or the second stands before the first
pub one_or_later : (p q : Place) → (¬ IsEarlier p q) → (p ≡ q) ⊎ IsEarlier q p
one_or_later p q n = one_or_before p q (is_lt (compare_places p q)) (compared p q) n

pub one_if_neither : (p q : Place) → (¬ IsEarlier p q) → (¬ IsEarlier q p) → p ≡ q
one_if_neither p q n m = elim (one_or_later p q n) [ inl e ↦ e | inr h ↦ absurd (m h) ]

-- what doesn't stand behind a place stands before what that place stands before
pub earlier_too : (p q r : Place) → (¬ IsEarlier q p) → IsEarlier q r → IsEarlier p r
earlier_too p q r n h =
    elim (one_or_later q p n) [ inl e ↦ subst (λ s. IsEarlier s r) e h | inr g ↦ still_earlier p q r g h ]

-- the name that has a place
abbrev name_at : Place → Name
name_at p =
    let i = p.first in
    let j = p.second in
    let k = p.third in
    get_or (Lo i ∷ Hi i ∷ Zero ∷ Top ∷ Wide i ∷ Tall i ∷ Size i ∷ Ll i j ∷ Rr i j ∷ Share i j ∷ On i j ∷ Under i j ∷ Gap i j ∷ Run i j ∷ Off i j k
    ∷ Inl i j k ∷ Inr i j k ∷ Inb i j k ∷ Int i j k ∷ Chl i j ∷ Chr i j ∷ Chb i j ∷ Cht i j ∷ Eql i j ∷ Eqr i j ∷ Eqb i j ∷ Eqt i j
    ∷ MirLo i j ∷ MirHi i j ∷ SameB i j ∷ SameT i j ∷ []) p.kind Zero

back_again : (name : Name) → name_at (place_of name) ≡ name
back_again (Lo i) = refl
back_again (Hi i) = refl
back_again Zero = refl
back_again Top = refl
back_again (Wide i) = refl
back_again (Tall i) = refl
back_again (Size i) = refl
back_again (Ll i j) = refl
back_again (Rr i j) = refl
back_again (Share i j) = refl
back_again (On i j) = refl
back_again (Under i j) = refl
back_again (Gap i j) = refl
back_again (Run i j) = refl
back_again (Off i j k) = refl
back_again (Inl i j k) = refl
back_again (Inr i j k) = refl
back_again (Inb i j k) = refl
back_again (Int i j k) = refl
back_again (Chl i j) = refl
back_again (Chr i j) = refl
back_again (Chb i j) = refl
back_again (Cht i j) = refl
back_again (Eql i j) = refl
back_again (Eqr i j) = refl
back_again (Eqb i j) = refl
back_again (Eqt i j) = refl
back_again (MirLo i j) = refl
back_again (MirHi i j) = refl
back_again (SameB i j) = refl
back_again (SameT i j) = refl

-- two names of one place are one name
pub one_name : (a b : Name) → place_of a ≡ place_of b → a ≡ b
one_name a b e = sym (back_again a) ∙ ap name_at e ∙ back_again b
