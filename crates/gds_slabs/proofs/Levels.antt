-- The sweep: what it lists are the slabs of its heights.
use Rattle.std.proofs.Common.{◌≡◌, ℤ, pos, ◌-ℤ◌, ◌≤ℤ◌, ◌<ℤ◌, ◌⊎◌, Bool, true, false, cond, ◌&&◌, List, [], ◌∷◌, ◌++◌, refl, sym, ◌∙◌, ap, subst, inl, inr, arith}
use Rattle.std.specs.Prelude.{int_le, int_lt}
use Rattle.std.proofs.lemmas.Int.{ints, by_lt_z}
use Rattle.rt_cells.specs.Line.{IsRun}
use Rattle.rt_cells.specs.Rectangles.{Rectangle, Holds}
use Rattle.rt_cells.proofs.Lines.{antisymmetric}
use Rattle.std.proofs.lemmas.List.Elements.{All-append}
use Rattle.gds_slabs.specs.declared.toggles.Toggle.{Toggle}
use Rattle.gds_slabs.specs.Slabs.{AreAdjacent, IsBefore, AreInOrder}
use Rattle.gds_slabs.specs.Sweep.{toggled, slab, step, swept, Ascending}
use Rattle.gds_slabs.proofs.Parity.{xor, xor_assoc, xor_comm, xor_false, parity}
use Rattle.gds_slabs.proofs.Members.{Among, among_append_left, among_append_right, among_append_cases, all_from_among}
use Rattle.gds_slabs.proofs.Odds.{le_yes, le_no, below, odd_length, Rising, Has, clash, parity-toggled, toggled_rising, slab_sound, slab_complete, slab_covers, slab_in_order}

-- ---- heights

-- it is the height, or that of one of the toggles
abbrev pub Height : ℤ → List Toggle → ℤ → Type 0
Height low [] y = y ≡ low
Height low (t ∷ rest) y = (y ≡ low) ⊎ Height t.y rest y

pub height_first : (low : ℤ) (rest : List Toggle) → Height low rest low
height_first low [] = refl
height_first low (t ∷ rest) = inl refl

height_from : (low : ℤ) (rest : List Toggle) → Ascending low rest → (y : ℤ) → Height low rest y → low ≤ℤ y
height_from low [] k y h = omega (arith, ints)
height_from low (t ∷ rest) k y (inl e) = omega (arith, ints)
height_from low (t ∷ rest) k y (inr h) = let f = height_from t.y rest k.1 y h in omega (arith, ints, k.0)

-- the height, or one of those from another height on
abbrev pub With : ℤ → (ℤ → Type 0) → ℤ → Type 0
With low higher y = (y ≡ low) ⊎ higher y

module _ (low next : ℤ) (higher : ℤ → Type 0) (rises : low ≤ℤ next) (first : higher next) (from : (y : ℤ) → higher y → next ≤ℤ y) where
  adjacent_first : low <ℤ next → AreAdjacent (With low higher) low next
  adjacent_first l = record {
    bottom = inl refl;
    top = inr first;
    upwards = l;
    none_between = λ y h k m. elim h [ inl e ↦ omega (arith, ints) | inr n ↦ let f = from y n in omega (arith, ints) ];
  }

  adjacent_later : (p q : ℤ) → AreAdjacent higher p q → AreAdjacent (With low higher) p q
  adjacent_later p q h = record {
    bottom = inr h.bottom;
    top = inr h.top;
    upwards = h.upwards;
    none_between = λ y k m n. elim k [ inl e ↦ let f = from p h.bottom in omega (arith, ints) | inr o ↦ h.none_between y o m n ];
  }

  top_higher : (p q : ℤ) → low ≤ℤ p → AreAdjacent (With low higher) p q → higher q
  top_higher p q l h = elim h.top [ inl e ↦ (let u = h.upwards in absurd (omega (arith, ints))) | inr k ↦ k ]

  bottom_higher : (p : ℤ) → next ≤ℤ p → With low higher p → higher p
  bottom_higher p l (inl e) = let s : next ≡ p = omega (arith, ints) in subst higher s first
  bottom_higher p l (inr h) = h

  bottom_low : (p : ℤ) → p <ℤ next → With low higher p → p ≡ low
  bottom_low p l (inl e) = e
  bottom_low p l (inr h) = let f = from p h in absurd (omega (arith, ints))

  top_next : (p q : ℤ) → p <ℤ next → AreAdjacent (With low higher) p q → q ≡ next
  top_next p q l h =
      let e = bottom_low p l h.bottom in
      let f = from q (top_higher p q (omega (arith, ints)) h) in
      by_lt_z next q
      (λ m. absurd (h.none_between next (inr first) l m))
      (λ m. antisymmetric q next m f)

  adjacent_beyond : (p q : ℤ) → next ≤ℤ p → AreAdjacent (With low higher) p q → AreAdjacent higher p q
  adjacent_beyond p q l h = record {
    bottom = bottom_higher p l h.bottom;
    top = top_higher p q (omega (arith, ints)) h;
    upwards = h.upwards;
    none_between = λ y k m n. h.none_between y (inr k) m n;
  }

-- ---- the row at a height

-- whether a toggle is at the height or below it, and its column passes the test
abbrev pub under : (ℤ → Bool) → ℤ → Toggle → Bool
under f y t = int_le t.y y && f t.x

-- the parity of the test over the columns at the height: those that are there, and the toggles up to the height
abbrev pub level : (ℤ → Bool) → List ℤ → List Toggle → ℤ → Bool
level f columns rest y = xor (parity f columns) (parity (under f y) rest)

pub none_under : (f : ℤ → Bool) (low y : ℤ) (rest : List Toggle) → Ascending low rest → y <ℤ low → parity (under f y) rest ≡ false
none_under f low y [] k l = refl
none_under f low y (t ∷ rest) k l =
    let e = le_no t.y y (omega (arith, ints, k.0)) in
    let g = none_under f t.y y rest k.1 (omega (arith, ints, k.0)) in
    rw (e, g) refl

level_here : (f : ℤ → Bool) (low y : ℤ) (columns : List ℤ) (t : Toggle) (rest : List Toggle) → Ascending low (t ∷ rest) → y <ℤ t.y
    → level f columns (t ∷ rest) y ≡ parity f columns
level_here f low y columns t rest k l =
    let e = le_no t.y y l in
    let g = none_under f t.y y rest k.1 l in
    rw (e, g) (xor_false (parity f columns))

moved_over : (a b c : Bool) → xor a (xor b c) ≡ xor (xor b a) c
moved_over a b c = sym (xor_assoc a b c) ∙ ap (λ v. xor v c) (xor_comm a b)

level_above : (f : ℤ → Bool) (y : ℤ) (columns : List ℤ) (t : Toggle) (rest : List Toggle) → t.y ≤ℤ y
    → level f columns (t ∷ rest) y ≡ level f (toggled t.x columns) rest y
level_above f y columns t rest l =
    let e = le_yes t.y y l in
    rw e (moved_over (parity f columns) (f t.x) (parity (under f y) rest) ∙ ap (λ v. xor v (parity (under f y) rest)) (sym (parity-toggled f t.x columns)))

-- the row at the height
abbrev pub row : List ℤ → List Toggle → ℤ → ℤ → Bool
row columns rest y x = level (λ c. int_le c x) columns rest y

-- a height of the sweep, with its columns and the toggles that are left
pub record IsReached (low : ℤ) (columns : List ℤ) (rest : List Toggle) : Type 0 where
  pub rising : Rising columns
  pub ascending : Ascending low rest
  pub even : (y : ℤ) → low ≤ℤ y → level (λ _. true) columns rest y ≡ false
  pub ends : (x : ℤ) → xor (below columns x) (parity (λ t. int_le t.x x) rest) ≡ false

pub next_reached : (low : ℤ) (columns : List ℤ) (t : Toggle) (rest : List Toggle) → IsReached low columns (t ∷ rest) → IsReached t.y (toggled t.x columns) rest
next_reached low columns t rest at = record {
  rising = toggled_rising t.x columns at.rising;
  ascending = at.ascending.1;
  even = λ y l. sym (level_above (λ _. true) y columns t rest l) ∙ at.even y (omega (arith, ints, at.ascending.0));
  ends = λ x.
      ap (λ v. xor v (parity (λ u. int_le u.x x) rest)) (parity-toggled (λ c. int_le c x) t.x columns)
      ∙ sym (moved_over (below columns x) (int_le t.x x) (parity (λ u. int_le u.x x) rest)) ∙ at.ends x;
}

even_here : (low : ℤ) (columns : List ℤ) (t : Toggle) (rest : List Toggle) → IsReached low columns (t ∷ rest) → low <ℤ t.y → odd_length columns ≡ false
even_here low columns t rest at l =
    sym (level_here (λ _. true) low low columns t rest at.ascending l) ∙ at.even low (omega (arith, ints))

same_runs : (line other : ℤ → Bool) → ((z : ℤ) → line z ≡ other z) → (p q : ℤ) → IsRun (Has line) p q → IsRun (Has other) p q
same_runs line other same p q run = record {
  nonempty = run.nonempty;
  inside = λ z w. sym (same z) ∙ run.inside z w;
  before = λ h. run.before (same (p -ℤ pos 1) ∙ h);
  after = λ h. run.after (same q ∙ h);
}

lt_says : (a b : ℤ) → int_lt a b ≡ true → a <ℤ b
lt_says a b h = grind (arith, ints)

pub lt_yes : (a b : ℤ) → a <ℤ b → int_lt a b ≡ true
lt_yes a b h = grind (arith, ints)

pub lt_no : (a b : ℤ) → b ≤ℤ a → int_lt a b ≡ false
lt_no a b h = grind (arith, ints)

if_there : (b : Bool) (rects : List Rectangle) (r : Rectangle) → Among (cond b rects []) r → (b ≡ true) × Among rects r
if_there true rects r h = (refl, h)
if_there false rects r h = elim h [ ]

step_sound : (low high : ℤ) (columns : List ℤ) (r : Rectangle) → Among (step low high columns) r → (low <ℤ high) × Among (slab low high columns) r
step_sound low high columns r h =
    let f = if_there (int_lt low high) (slab low high columns) r h in
    (lt_says low high f.0, f.1)

step_complete : (low high : ℤ) (columns : List ℤ) (r : Rectangle) → low <ℤ high → Among (slab low high columns) r → Among (step low high columns) r
step_complete low high columns r l h = subst (λ b. Among (cond b (slab low high columns) []) r) (sym (lt_yes low high l)) h

-- what the sweep lists are runs from one height up to the next
pub swept_sound : (low : ℤ) (columns : List ℤ) (rest : List Toggle) → IsReached low columns rest → (r : Rectangle) → Among (swept low columns rest) r
    → AreAdjacent (Height low rest) r.bottom r.top × IsRun (Has (row columns rest r.bottom)) r.left r.right
swept_sound low columns [] at r h = elim h [ ]
swept_sound low columns (t ∷ rest) at r h =
    let rises = at.ascending.0 in
    let first = height_first t.y rest in
    let from = height_from t.y rest at.ascending.1 in
    elim (among_append_cases (step low t.y columns) (swept t.y (toggled t.x columns) rest) r h) [
      | inl k ↦
          (let f = step_sound low t.y columns r k in
          let g = slab_sound low t.y columns at.rising r f.1 in
          let a : AreAdjacent (Height low (t ∷ rest)) low t.y = adjacent_first low t.y (Height t.y rest) rises first from f.0 in
          let a' : AreAdjacent (Height low (t ∷ rest)) r.bottom t.y = subst (λ b. AreAdjacent (Height low (t ∷ rest)) b t.y) (sym g.0) a in
          let l : r.bottom <ℤ t.y = a'.upwards in (
            subst (λ b. AreAdjacent (Height low (t ∷ rest)) r.bottom b) (sym g.1) a',
            same_runs (below columns) (row columns (t ∷ rest) r.bottom)
                (λ z. sym (level_here (λ c. int_le c z) low r.bottom columns t rest at.ascending l)) r.left r.right g.2,
          ))
      | inr k ↦
          (let f = swept_sound t.y (toggled t.x columns) rest (next_reached low columns t rest at) r k in
          let l : t.y ≤ℤ r.bottom = from r.bottom f.0.bottom in (
            adjacent_later low t.y (Height t.y rest) rises first from r.bottom r.top f.0,
            same_runs (row (toggled t.x columns) rest r.bottom) (row columns (t ∷ rest) r.bottom)
                (λ z. sym (level_above (λ c. int_le c z) r.bottom columns t rest l)) r.left r.right f.1,
          ))
    ]

of_heights : (rects : List Rectangle) (r : Rectangle) (low high : ℤ) → r.bottom ≡ low → r.top ≡ high
    → Among rects (record { left = r.left; right = r.right; bottom = low; top = high }) → Among rects r
of_heights rects r low high e f h =
    let h' = subst (λ b. Among rects (record { left = r.left; right = r.right; bottom = b; top = high })) (sym e) h in
    subst (λ b. Among rects (record { left = r.left; right = r.right; bottom = r.bottom; top = b })) (sym f) h'

-- each run from one height up to the next is in what the sweep lists
pub swept_complete : (low : ℤ) (columns : List ℤ) (rest : List Toggle) → IsReached low columns rest → (r : Rectangle)
    → AreAdjacent (Height low rest) r.bottom r.top → IsRun (Has (row columns rest r.bottom)) r.left r.right → Among (swept low columns rest) r
swept_complete low columns [] at r h run = let a = h.bottom in let b = h.top in let l = h.upwards in absurd (omega (arith, ints))
swept_complete low columns (t ∷ rest) at r h run =
    let rises = at.ascending.0 in
    let first = height_first t.y rest in
    let from = height_from t.y rest at.ascending.1 in
    by_lt_z r.bottom t.y
    (λ l.
    let e = bottom_low low t.y (Height t.y rest) rises first from r.bottom l h.bottom in
    let f = top_next low t.y (Height t.y rest) rises first from r.bottom r.top l h in
    let m : low <ℤ t.y = omega (arith, ints, e) in
    let run' = same_runs (row columns (t ∷ rest) r.bottom) (below columns)
    (λ z. level_here (λ c. int_le c z) low r.bottom columns t rest at.ascending l) r.left r.right run in
    among_append_left (step low t.y columns) (swept t.y (toggled t.x columns) rest) r
    (step_complete low t.y columns r m
    (of_heights (slab low t.y columns) r low t.y e f
    (slab_complete low t.y columns at.rising (even_here low columns t rest at m) r.left r.right run'))))
    (λ l.
    among_append_right (step low t.y columns) (swept t.y (toggled t.x columns) rest) r
    (swept_complete t.y (toggled t.x columns) rest (next_reached low columns t rest at) r
    (adjacent_beyond low t.y (Height t.y rest) rises first from r.bottom r.top l h)
    (same_runs (row columns (t ∷ rest) r.bottom) (row (toggled t.x columns) rest r.bottom)
    (λ z. level_above (λ c. int_le c z) r.bottom columns t rest l) r.left r.right run)))

-- each cell of a row is held
pub swept_covers : (low : ℤ) (columns : List ℤ) (rest : List Toggle) → IsReached low columns rest → (x y : ℤ) → low ≤ℤ y → row columns rest y x ≡ true
    → (r : Rectangle) × Among (swept low columns rest) r × Holds r x y
swept_covers low columns [] at x y l h = clash (xor (below columns x) false) h (at.ends x)
swept_covers low columns (t ∷ rest) at x y l h =
    by_lt_z y t.y
    (λ m.
    let n : low <ℤ t.y = omega (arith, ints) in
    let c = slab_covers low t.y columns at.rising (even_here low columns t rest at n) x
    (sym (level_here (λ c. int_le c x) low y columns t rest at.ascending m) ∙ h) in
    let f = slab_sound low t.y columns at.rising c.0 c.1 in (
      c.0,
      among_append_left (step low t.y columns) (swept t.y (toggled t.x columns) rest) c.0 (step_complete low t.y columns c.0 n c.1),
      record { column = c.2; row = record { from = (let e = f.0 in omega (arith, ints)); to = (let e = f.1 in omega (arith, ints)) } },
    ))
    (λ m.
    let c = swept_covers t.y (toggled t.x columns) rest (next_reached low columns t rest at) x y m
    (sym (level_above (λ c. int_le c x) y columns t rest m) ∙ h) in
    (c.0, among_append_right (step low t.y columns) (swept t.y (toggled t.x columns) rest) c.0 c.1, c.2))

-- what is held is a cell of its row
pub swept_held : (low : ℤ) (columns : List ℤ) (rest : List Toggle) → IsReached low columns rest → (x y : ℤ) (r : Rectangle)
    → Among (swept low columns rest) r → Holds r x y → row columns rest y x ≡ true
swept_held low columns [] at x y r h k = elim h [ ]
swept_held low columns (t ∷ rest) at x y r h k =
    elim (among_append_cases (step low t.y columns) (swept t.y (toggled t.x columns) rest) r h) [
      | inl m ↦
          (let f = step_sound low t.y columns r m in
          let g = slab_sound low t.y columns at.rising r f.1 in
          let l : y <ℤ t.y = omega (arith, ints, g.1, k.row.to) in
          level_here (λ c. int_le c x) low y columns t rest at.ascending l ∙ g.2.inside x k.column)
      | inr m ↦
          (let next = next_reached low columns t rest at in
          let f = swept_sound t.y (toggled t.x columns) rest next r m in
          let b = height_from t.y rest at.ascending.1 r.bottom f.0.bottom in
          let l : t.y ≤ℤ y = omega (arith, ints, k.row.from) in
          level_above (λ c. int_le c x) y columns t rest l ∙ swept_held t.y (toggled t.x columns) rest next x y r m k)
    ]

in_order_append : (rs qs : List Rectangle) → AreInOrder rs → AreInOrder qs → ((r q : Rectangle) → Among rs r → Among qs q → IsBefore r q) → AreInOrder (rs ++ qs)
in_order_append [] qs h k f = k
in_order_append (r ∷ rs) qs h k f = (
  All-append (IsBefore r) rs qs h.0 (all_from_among (IsBefore r) qs (λ q m. f r q (inl refl) m)),
  in_order_append rs qs h.1 k (λ p q m n. f p q (inr m) n),
)

step_in_order : (low high : ℤ) (columns : List ℤ) → Rising columns → AreInOrder (step low high columns)
step_in_order low high columns k =
    elim (int_lt low high) as (λ b. AreInOrder (cond b (slab low high columns) [])) [ true ↦ slab_in_order low high columns k | false ↦ tt ]

-- the sweep lists by rows, then by columns
pub swept_in_order : (low : ℤ) (columns : List ℤ) (rest : List Toggle) → IsReached low columns rest → AreInOrder (swept low columns rest)
swept_in_order low columns [] at = tt
swept_in_order low columns (t ∷ rest) at =
    let next = next_reached low columns t rest at in
    in_order_append (step low t.y columns) (swept t.y (toggled t.x columns) rest)
    (step_in_order low t.y columns at.rising)
    (swept_in_order t.y (toggled t.x columns) rest next)
    (λ r q m n.
    let f = step_sound low t.y columns r m in
    let g = slab_sound low t.y columns at.rising r f.1 in
    let s = swept_sound t.y (toggled t.x columns) rest next q n in
    let b = height_from t.y rest at.ascending.1 q.bottom s.0.bottom in
    let l : r.bottom <ℤ q.bottom = omega (arith, ints, f.0, g.0) in
    inl l)
