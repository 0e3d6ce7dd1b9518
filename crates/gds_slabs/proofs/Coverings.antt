-- A polygon's slabs: there is one list of them, and they cover the cells inside, each once.
use Rattle.std.proofs.Common.{◌≡◌, ℤ, pos, ◌≤ℤ◌, ◌<ℤ◌, Bool, true, false, cond, List, [], ◌∷◌, Contains, refl, sym, ◌∙◌, ap, subst, inl, inr, arith}
use Rattle.std.specs.Prelude.{int_le}
use Rattle.std.proofs.lemmas.Int.{ints, by_lt_z}
use Rattle.std.proofs.lemmas.Bool.{cond_both}
use Rattle.rt_cells.specs.Line.{Within, IsRun}
use Rattle.rt_cells.specs.Rectangles.{Rectangle, Holds, Covers}
use Rattle.rt_cells.proofs.Lines.{antisymmetric, one_run}
use Rattle.rt_cells.proofs.Rectangles.{same_sides}
use Rattle.rt_base.specs.declared.plane.Point.{Point}
use Rattle.gds_slabs.specs.declared.toggles.Toggle.{Toggle}
use Rattle.gds_slabs.specs.Polygon.{Inside, IsClosed, IsSlanted}
use Rattle.gds_slabs.specs.Slabs.{AreAdjacent, IsHeight, IsSlab, IsBefore, AreInOrder, IsSlabs}
use Rattle.gds_slabs.specs.Sweep.{toggles, swept, Ascending, AreAscending}
use Rattle.gds_slabs.proofs.Parity.{xor, xor_left_comm, parity}
use Rattle.gds_slabs.proofs.Members.{Among, among_all, contains_from_among, among_from_contains}
use Rattle.gds_slabs.proofs.Odds.{clash}
use Rattle.gds_slabs.proofs.Levels.{none_under, row, swept_covers, swept_held}
use Rattle.gds_slabs.proofs.Polygons.{AreSorted, swept_are_slabs, start_anywhere, reached, inside_from_row, row_from_inside}

-- ---- one list

before_itself : (r : Rectangle) → IsBefore r r → ⊥
before_itself r (inl l) = omega (arith, ints)
before_itself r (inr h) = let l = h.1 in omega (arith, ints)

not_both_before : (r q : Rectangle) → IsBefore r q → IsBefore q r → ⊥
not_both_before r q (inl l) (inl m) = omega (arith, ints)
not_both_before r q (inl l) (inr m) = let e = m.0 in omega (arith, ints)
not_both_before r q (inr l) (inl m) = let e = l.0 in omega (arith, ints)
not_both_before r q (inr l) (inr m) = let a = l.1 in let b = m.1 in omega (arith, ints)

same_first : (r q : Rectangle) (rs qs : List Rectangle) → AreInOrder (r ∷ rs) → AreInOrder (q ∷ qs) → Among (q ∷ qs) r → Among (r ∷ rs) q → r ≡ q
same_first r q rs qs h k (inl e) n = sym e
same_first r q rs qs h k (inr m) (inl e) = e
same_first r q rs qs h k (inr m) (inr n) = absurd (not_both_before r q (among_all (IsBefore r) rs q h.0 n) (among_all (IsBefore q) qs r k.0 m))

in_tail : (r s : Rectangle) (rs qs : List Rectangle) → AreInOrder (r ∷ rs) → Among rs s → Among (r ∷ qs) s → Among qs s
in_tail r s rs qs h k (inl e) = absurd (before_itself r (among_all (IsBefore r) rs r h.0 (subst (Among rs) (sym e) k)))
in_tail r s rs qs h k (inr m) = m

-- two lists in order with the same members are one
pub same_in_order : (rs qs : List Rectangle) → AreInOrder rs → AreInOrder qs → ((r : Rectangle) → Among rs r → Among qs r) → ((r : Rectangle) → Among qs r → Among rs r) → rs ≡ qs
same_in_order [] [] h k to from = refl
same_in_order [] (q ∷ qs) h k to from = absurd (from q (inl refl))
same_in_order (r ∷ rs) [] h k to from = absurd (to r (inl refl))
same_in_order (r ∷ rs) (q ∷ qs) h k to from =
    let e = same_first r q rs qs h k (to r (inl refl)) (from q (inl refl)) in
    let k' : AreInOrder (r ∷ qs) = subst (λ v. AreInOrder (v ∷ qs)) (sym e) k in
    let to' : (s : Rectangle) → Among (r ∷ rs) s → Among (r ∷ qs) s = λ s m. subst (λ v. Among (v ∷ qs) s) (sym e) (to s m) in
    let from' : (s : Rectangle) → Among (r ∷ qs) s → Among (r ∷ rs) s = λ s m. from s (subst (λ v. Among (v ∷ qs) s) e m) in
    let tails = same_in_order rs qs h.1 k.1
    (λ s m. in_tail r s rs qs h m (to' s (inr m)))
    (λ s m. in_tail r s qs rs k' m (from' s (inr m))) in
    ap (λ v. r ∷ v) tails ∙ ap (λ v. v ∷ qs) e

-- two lists of a polygon's slabs are one
pub slabs_are_one : (points : List Point) (rs qs : List Rectangle) → IsSlabs points rs → IsSlabs points qs → rs ≡ qs
slabs_are_one points rs qs h k =
    same_in_order rs qs h.order k.order
    (λ r m. among_from_contains qs r (k.complete r (h.sound r (contains_from_among rs r m))))
    (λ r m. among_from_contains rs r (h.complete r (k.sound r (contains_from_among qs r m))))

-- ---- no cell twice

bottom_first : (height : ℤ → Type 0) (a b p q y : ℤ) → AreAdjacent height a b → AreAdjacent height p q → Within a b y → Within p q y → a <ℤ p → ⊥
bottom_first height a b p q y r s h k l = r.none_between p s.bottom l (omega (arith, ints, h.to, k.from))

top_first : (height : ℤ → Type 0) (a b p q y : ℤ) → AreAdjacent height a b → AreAdjacent height p q → Within a b y → Within p q y → q <ℤ b → ⊥
top_first height a b p q y r s h k l = r.none_between q s.top (omega (arith, ints, h.from, k.to)) l

adjacent_are_one : (height : ℤ → Type 0) (a b p q y : ℤ) → AreAdjacent height a b → AreAdjacent height p q → Within a b y → Within p q y → (a ≡ p) × (b ≡ q)
adjacent_are_one height a b p q y r s h k = (
  by_lt_z a p (λ l. absurd (bottom_first height a b p q y r s h k l)) (λ l. by_lt_z p a (λ m. absurd (bottom_first height p q a b y s r k h m)) (λ m. antisymmetric a p m l)),
  by_lt_z b q (λ l. absurd (top_first height p q a b y s r k h l)) (λ l. by_lt_z q b (λ m. absurd (top_first height a b p q y r s h k m)) (λ m. antisymmetric b q m l)),
)

-- slabs that share a cell are one
pub slabs_apart : (points : List Point) (r q : Rectangle) → IsSlab points r → IsSlab points q → (x y : ℤ) → Holds r x y → Holds q x y → r ≡ q
slabs_apart points r q h k x y m n =
    let rows = adjacent_are_one (IsHeight points) r.bottom r.top q.bottom q.top y h.heights k.heights m.row n.row in
    let run' : IsRun (λ z. Inside points z r.bottom) q.left q.right = subst (λ b. IsRun (λ z. Inside points z b) q.left q.right) (sym rows.0) k.run in
    let columns = one_run (λ z. Inside points z r.bottom) r.left r.right q.left q.right x h.run run' m.column n.column in
    same_sides r q columns.0 columns.1 rows.0 rows.1

-- ---- the toggles by height, as a list

pub le_says : (a b : ℤ) → int_le a b ≡ true → a ≤ℤ b
le_says a b h = grind (arith, ints)

not_le_says : (a b : ℤ) → int_le a b ≡ false → b ≤ℤ a
not_le_says a b h = grind (arith, ints)

at_itself : (a : ℤ) → a ≤ℤ a
at_itself a = omega (arith, ints)

abbrev placed : Toggle → List Toggle → List Toggle
placed t [] = t ∷ []
placed t (u ∷ rest) = cond (int_le t.y u.y) (t ∷ u ∷ rest) (u ∷ placed t rest)

abbrev by_height : List Toggle → List Toggle
by_height [] = []
by_height (t ∷ rest) = placed t (by_height rest)

placed_parity : (f : Toggle → Bool) (t : Toggle) (rest : List Toggle) → parity f (placed t rest) ≡ xor (f t) (parity f rest)
placed_parity f t [] = refl
placed_parity f t (u ∷ rest) =
    cond_both (int_le t.y u.y) (t ∷ u ∷ rest) (u ∷ placed t rest) (λ v. parity f v ≡ xor (f t) (parity f (u ∷ rest)))
    (λ _. refl) (λ _. ap (xor (f u)) (placed_parity f t rest) ∙ xor_left_comm (f u) (f t) (parity f rest))

placed_into : (t u : Toggle) (rest : List Toggle) → Among (t ∷ rest) u → Among (placed t rest) u
placed_into t u [] h = h
placed_into t u (v ∷ rest) h =
    cond_both (int_le t.y v.y) (t ∷ v ∷ rest) (v ∷ placed t rest) (λ w. Among w u)
    (λ _. h)
    (λ _. elim h [
      | inl e ↦ inr (placed_into t u rest (inl e))
      | inr (inl e) ↦ inl e
      | inr (inr m) ↦ inr (placed_into t u rest (inr m))
    ])

placed_out : (t u : Toggle) (rest : List Toggle) → Among (placed t rest) u → Among (t ∷ rest) u
placed_out t u [] h = h
placed_out t u (v ∷ rest) h =
    cond_both (int_le t.y v.y) (t ∷ v ∷ rest) (v ∷ placed t rest) (λ w. Among w u → Among (t ∷ v ∷ rest) u)
    (λ _ k. k)
    (λ _ k. elim k [
      | inl e ↦ inr (inl e)
      | inr m ↦ elim (placed_out t u rest m) [ inl e ↦ inl e | inr n ↦ inr (inr n) ]
    ])
    h

placed_from : (low : ℤ) (t : Toggle) (rest : List Toggle) → low ≤ℤ t.y → Ascending low rest → Ascending low (placed t rest)
placed_from low t [] l h = (l, tt)
placed_from low t (u ∷ rest) l h =
    cond_both (int_le t.y u.y) (t ∷ u ∷ rest) (u ∷ placed t rest) (Ascending low)
    (λ e. (l, (le_says t.y u.y e, h.1)))
    (λ e. (h.0, placed_from u.y t rest (not_le_says t.y u.y e) h.1))

placed_ascending : (t : Toggle) (rest : List Toggle) → AreAscending rest → AreAscending (placed t rest)
placed_ascending t [] h = tt
placed_ascending t (u ∷ rest) h =
    cond_both (int_le t.y u.y) (t ∷ u ∷ rest) (u ∷ placed t rest) AreAscending
    (λ e. (le_says t.y u.y e, h))
    (λ e. placed_from u.y t rest (not_le_says t.y u.y e) h)

by_height_parity : (f : Toggle → Bool) (ts : List Toggle) → parity f (by_height ts) ≡ parity f ts
by_height_parity f [] = refl
by_height_parity f (t ∷ ts) = placed_parity f t (by_height ts) ∙ ap (xor (f t)) (by_height_parity f ts)

by_height_into : (ts : List Toggle) (u : Toggle) → Among ts u → Among (by_height ts) u
by_height_into [] u h = h
by_height_into (t ∷ ts) u (inl e) = placed_into t u (by_height ts) (inl e)
by_height_into (t ∷ ts) u (inr h) = placed_into t u (by_height ts) (inr (by_height_into ts u h))

by_height_out : (ts : List Toggle) (u : Toggle) → Among (by_height ts) u → Among ts u
by_height_out [] u h = h
by_height_out (t ∷ ts) u h = elim (placed_out t u (by_height ts) h) [ inl e ↦ inl e | inr k ↦ inr (by_height_out ts u k) ]

by_height_ascending : (ts : List Toggle) → AreAscending (by_height ts)
by_height_ascending [] = tt
by_height_ascending (t ∷ ts) = placed_ascending t (by_height ts) (by_height_ascending ts)

sorted_by_height : (points : List Point) → AreSorted points (by_height (toggles points))
sorted_by_height points = record {
  same_parity = λ f. by_height_parity f (toggles points);
  into = by_height_into (toggles points);
  out = by_height_out (toggles points);
  ascending = by_height_ascending (toggles points);
}

-- ---- the cells inside

module _ (points : List Point) (closed : IsClosed points) (straight : IsSlanted points → ⊥) where
  row_covered : (ts : List Toggle) → AreSorted points ts → (low : ℤ) (x y : ℤ) → row [] ts y x ≡ true
      → (r : Rectangle) × Among (swept low [] ts) r × Holds r x y
  row_covered [] sorted low x y h = clash false h refl
  row_covered (t ∷ rest) sorted low x y h =
      by_lt_z y t.y
      (λ l. clash (row [] (t ∷ rest) y x) h (none_under (λ c. int_le c x) t.y y (t ∷ rest) (at_itself t.y, sorted.ascending) l))
      (λ l.
      let c = swept_covers t.y [] (t ∷ rest) (reached points closed straight t rest sorted) x y l h in
      (c.0, subst (λ rects. Among rects c.0) (sym (start_anywhere low t rest)) c.1, c.2))

  row_held : (ts : List Toggle) → AreSorted points ts → (low : ℤ) (x y : ℤ) (r : Rectangle) → Among (swept low [] ts) r → Holds r x y → row [] ts y x ≡ true
  row_held [] sorted low x y r h k = elim h [ ]
  row_held (t ∷ rest) sorted low x y r h k =
      swept_held t.y [] (t ∷ rest) (reached points closed straight t rest sorted) x y r
      (subst (λ rects. Among rects r) (start_anywhere low t rest) h) k

  abbrev ours : List Rectangle
  ours = swept (pos 0) [] (by_height (toggles points))

  ours_are_slabs : IsSlabs points ours
  ours_are_slabs = swept_are_slabs points closed straight (by_height (toggles points)) (sorted_by_height points) (pos 0)

  -- the cells inside are covered
  pub inside_covered : (rs : List Rectangle) → IsSlabs points rs → (x y : ℤ) → Inside points x y → Covers rs x y
  inside_covered rs slabs x y h =
      let ts = by_height (toggles points) in
      let c = row_covered ts (sorted_by_height points) (pos 0) x y (row_from_inside points closed straight ts (sorted_by_height points) x y h) in
      (c.0, subst (λ rects. Contains rects c.0) (slabs_are_one points _ rs ours_are_slabs slabs) (contains_from_among _ c.0 c.1), c.2)

  -- what is covered is inside
  pub covered_inside : (rs : List Rectangle) → IsSlabs points rs → (x y : ℤ) → Covers rs x y → Inside points x y
  covered_inside rs slabs x y c =
      let ts = by_height (toggles points) in
      let m = among_from_contains _ c.0 (subst (λ rects. Contains rects c.0) (slabs_are_one points rs _ slabs ours_are_slabs) c.1) in
      inside_from_row points closed straight ts (sorted_by_height points) x y (row_held ts (sorted_by_height points) (pos 0) x y c.0 m c.2)

-- a polygon has its slabs
pub has_slabs : (points : List Point) → IsClosed points → (IsSlanted points → ⊥) → (rs : List Rectangle) × IsSlabs points rs
has_slabs points closed straight = (ours points closed straight, ours_are_slabs points closed straight)
