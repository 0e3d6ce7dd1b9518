-- Rising lists of columns, each of which begins or ends the cells of a row: the runs are the pairs.
use Rattle.std.proofs.Common.{Ordering, ◌/◌, length, Less, Equal, Greater, ◌≡◌, ℤ, pos, ◌-ℤ◌, ◌≤ℤ◌, ◌<ℤ◌, ◌⊎◌, Bool, true, false, not, cond, ◌||◌, List, [], ◌∷◌, refl, sym, ◌∙◌, ap, subst, inl, inr, arith}
use Rattle.std.specs.Prelude.{int_le}
use Rattle.std.specs.Ordering.{MatchOrdering, match_ordering, int_cmp, int_eq, is_eq}
use Rattle.std.specs.List.{list_any}
use Rattle.std.specs.Set.{remove_key}
use Rattle.std.specs.BTreeSet.{insert_key}
use Rattle.std.proofs.lemmas.Bool.{or_parts, cond_both}
use Rattle.std.specs.Cmp.{int_ranks}
use Rattle.std.proofs.lemmas.Int.{ints, by_lt_z}
use Rattle.rt_cells.specs.Line.{Within, IsRun}
use Rattle.rt_cells.proofs.Lines.{within, first_place, antisymmetric}
use Rattle.rt_cells.specs.Rectangles.{Rectangle}
use Rattle.gds_slabs.specs.Sweep.{toggled, slab}
use Rattle.gds_slabs.proofs.Parity.{xor, xor_twice, xor_left_comm, parity}
use Rattle.gds_slabs.proofs.Members.{Among, all_from_among}
use Rattle.gds_slabs.specs.Slabs.{IsBefore, AreInOrder}

pub le_yes : (a z : ℤ) → a ≤ℤ z → int_le a z ≡ true
le_yes a z h = grind (arith, ints)

pub le_no : (a z : ℤ) → z <ℤ a → int_le a z ≡ false
le_no a z h = grind (arith, ints)

-- a test has one answer
pub clash : {P : Type 0} (v : Bool) → v ≡ true → v ≡ false → P
clash v h k = absurd (cc (h, k))

-- an odd number of the columns are at the place or left of it
abbrev pub below : List ℤ → ℤ → Bool
below columns z = parity (λ c. int_le c z) columns

-- there is an odd number of columns
abbrev pub odd_length : List ℤ → Bool
odd_length columns = parity (λ _. true) columns

-- the columns rise, and the first is beyond a
abbrev pub Beyond : ℤ → List ℤ → Type 0
Beyond a [] = Unit {0}
Beyond a (c ∷ columns) = (a <ℤ c) × Beyond c columns

-- the columns rise
abbrev pub Rising : List ℤ → Type 0
Rising [] = Unit {0}
Rising (c ∷ columns) = Beyond c columns

-- ---- a column that is put in or taken out

parity_put : (f : ℤ → Bool) (x c : ℤ) (columns rest : List ℤ) (r : Ordering) → MatchOrdering r (x <ℤ c) (x ≡ c) (c <ℤ x) → is_eq r ≡ false
    → parity f rest ≡ xor (f x) (parity f columns)
    → parity f (match_ordering r (x ∷ c ∷ columns) (c ∷ columns) (c ∷ rest)) ≡ xor (f x) (parity f (c ∷ columns))
parity_put f x c columns rest Less h n e = refl
parity_put f x c columns rest Equal h n e = clash true refl n
parity_put f x c columns rest Greater h n e = ap (xor (f c)) e ∙ xor_left_comm (f c) (f x) (parity f columns)

parity_inserted : (f : ℤ → Bool) (x : ℤ) (columns : List ℤ) → list_any (int_eq x) columns ≡ false
    → parity f (insert_key int_cmp columns x) ≡ xor (f x) (parity f columns)
parity_inserted f x [] n = refl
parity_inserted f x (c ∷ columns) n =
    let p = or_parts (int_eq x c) (list_any (int_eq x) columns) n in
    parity_put f x c columns (insert_key int_cmp columns x) (int_cmp x c) (int_ranks x c) p.0 (parity_inserted f x columns p.1)

parity_taken : (f : ℤ → Bool) (x c : ℤ) (columns rest : List ℤ) (r : Ordering) → MatchOrdering r (x <ℤ c) (x ≡ c) (c <ℤ x)
    → (is_eq r ≡ false → parity f rest ≡ xor (f x) (parity f columns))
    → parity f (cond (is_eq r) columns (c ∷ rest)) ≡ xor (f x) (parity f (c ∷ columns))
parity_taken f x c columns rest Less h e = ap (xor (f c)) (e refl) ∙ xor_left_comm (f c) (f x) (parity f columns)
parity_taken f x c columns rest Equal h e = sym (subst (λ v. xor (f x) (xor (f v) (parity f columns)) ≡ parity f columns) h (xor_twice (f x) (parity f columns)))
parity_taken f x c columns rest Greater h e = ap (xor (f c)) (e refl) ∙ xor_left_comm (f c) (f x) (parity f columns)

parity_removed : (f : ℤ → Bool) (x : ℤ) (columns : List ℤ) → list_any (int_eq x) columns ≡ true
    → parity f (remove_key (int_eq x) columns) ≡ xor (f x) (parity f columns)
parity_removed f x [] h = clash false h refl
parity_removed f x (c ∷ columns) h =
    parity_taken f x c columns (remove_key (int_eq x) columns) (int_cmp x c) (int_ranks x c)
    (λ n. parity_removed f x columns (later (int_eq x c) (list_any (int_eq x) columns) h n))
  where
    later : (a b : Bool) → (a || b) ≡ true → a ≡ false → b ≡ true
    later true b k m = clash true refl m
    later false b k m = k

-- one test more or less
pub parity-toggled : (f : ℤ → Bool) (x : ℤ) (columns : List ℤ) → parity f (toggled x columns) ≡ xor (f x) (parity f columns)
parity-toggled f x columns =
    cond_both (list_any (int_eq x) columns) (remove_key (int_eq x) columns) (insert_key int_cmp columns x)
    (λ v. parity f v ≡ xor (f x) (parity f columns)) (parity_removed f x columns) (parity_inserted f x columns)

beyond_weaker : (a c : ℤ) (columns : List ℤ) → a <ℤ c → Beyond c columns → Beyond a columns
beyond_weaker a c [] h k = tt
beyond_weaker a c (d ∷ columns) h k = let l : a <ℤ d = omega (arith, ints, k.0) in (l, k.1)

rising_from_beyond : (a : ℤ) (columns : List ℤ) → Beyond a columns → Rising columns
rising_from_beyond a [] h = tt
rising_from_beyond a (c ∷ columns) h = h.1

beyond_put : (a x c : ℤ) (columns rest : List ℤ) (r : Ordering) → MatchOrdering r (x <ℤ c) (x ≡ c) (c <ℤ x) → a <ℤ x → Beyond a (c ∷ columns)
    → (c <ℤ x → Beyond c rest) → Beyond a (match_ordering r (x ∷ c ∷ columns) (c ∷ columns) (c ∷ rest))
beyond_put a x c columns rest Less h l k more = (l, (h, k.1))
beyond_put a x c columns rest Equal h l k more = k
beyond_put a x c columns rest Greater h l k more = (k.0, more h)

inserted_beyond : (a x : ℤ) (columns : List ℤ) → a <ℤ x → Beyond a columns → Beyond a (insert_key int_cmp columns x)
inserted_beyond a x [] l k = (l, tt)
inserted_beyond a x (c ∷ columns) l k =
    beyond_put a x c columns (insert_key int_cmp columns x) (int_cmp x c) (int_ranks x c) l k (λ h. inserted_beyond c x columns h k.1)

rising_put : (x c : ℤ) (columns rest : List ℤ) (r : Ordering) → MatchOrdering r (x <ℤ c) (x ≡ c) (c <ℤ x) → Beyond c columns
    → (c <ℤ x → Beyond c rest) → Rising (match_ordering r (x ∷ c ∷ columns) (c ∷ columns) (c ∷ rest))
rising_put x c columns rest Less h k more = (h, k)
rising_put x c columns rest Equal h k more = k
rising_put x c columns rest Greater h k more = more h

inserted_rising : (x : ℤ) (columns : List ℤ) → Rising columns → Rising (insert_key int_cmp columns x)
inserted_rising x [] k = tt
inserted_rising x (c ∷ columns) k =
    rising_put x c columns (insert_key int_cmp columns x) (int_cmp x c) (int_ranks x c) k (λ h. inserted_beyond c x columns h k)

removed_beyond : (a x : ℤ) (columns : List ℤ) → Beyond a columns → Beyond a (remove_key (int_eq x) columns)
removed_beyond a x [] k = tt
removed_beyond a x (c ∷ columns) k =
    cond_both (int_eq x c) columns (c ∷ remove_key (int_eq x) columns) (Beyond a)
    (λ _. beyond_weaker a c columns k.0 k.1) (λ _. (k.0, removed_beyond c x columns k.1))

removed_rising : (x : ℤ) (columns : List ℤ) → Rising columns → Rising (remove_key (int_eq x) columns)
removed_rising x [] k = tt
removed_rising x (c ∷ columns) k =
    cond_both (int_eq x c) columns (c ∷ remove_key (int_eq x) columns) Rising
    (λ _. rising_from_beyond c columns k) (λ _. removed_beyond c x columns k)

-- the columns go on rising
pub toggled_rising : (x : ℤ) (columns : List ℤ) → Rising columns → Rising (toggled x columns)
toggled_rising x columns k =
    cond_both (list_any (int_eq x) columns) (remove_key (int_eq x) columns) (insert_key int_cmp columns x) Rising
    (λ _. removed_rising x columns k) (λ _. inserted_rising x columns k)

twice : (v : Bool) → not (not v) ≡ v
twice true = refl
twice false = refl

-- ---- a pair of columns, and what is beyond it

-- none is at a place up to the bound
pub none_below : (a z : ℤ) (columns : List ℤ) → Beyond a columns → z ≤ℤ a → below columns z ≡ false
none_below a z [] h k = refl
none_below a z (c ∷ columns) h k =
    let e = le_no c z (omega (arith, ints, h.0)) in
    let f = none_below c z columns h.1 (omega (arith, ints, h.0)) in
    rw (e, f) refl

-- the line is the places from a up to b, and those of a line beyond b
record IsPairThen (a b : ℤ) (later line : ℤ → Bool) : Type 0 where
  rises : a <ℤ b
  beyond : (z : ℤ) → z ≤ℤ b → later z ≡ false
  left : (z : ℤ) → z <ℤ a → line z ≡ false
  middle : (z : ℤ) → a ≤ℤ z → z <ℤ b → line z ≡ true
  right : (z : ℤ) → b ≤ℤ z → line z ≡ later z

pair_then : (a b : ℤ) (columns : List ℤ) → a <ℤ b → Beyond b columns → IsPairThen a b (below columns) (below (a ∷ b ∷ columns))
pair_then a b columns l k = record {
  rises = l;
  beyond = λ z h. none_below b z columns k h;
  left = λ z h.
      let e = le_no a z h in
      let f = le_no b z (omega (arith, ints)) in
      let g = none_below b z columns k (omega (arith, ints)) in
      rw (e, f, g) refl;
  middle = λ z h n.
      let e = le_yes a z h in
      let f = le_no b z n in
      let g = none_below b z columns k (omega (arith, ints)) in
      rw (e, f, g) refl;
  right = λ z h.
      let e = le_yes a z (omega (arith, ints)) in
      let f = le_yes b z h in
      rw (e, f) (twice (below columns z));
}

-- the places of a line
abbrev pub Has : (ℤ → Bool) → ℤ → Type 0
Has line z = line z ≡ true

module _ (a b : ℤ) (later line : ℤ → Bool) (pair : IsPairThen a b later line) where
  first_run : IsRun (Has line) a b
  first_run = record {
    nonempty = pair.rises;
    inside = λ z w. pair.middle z w.from w.to;
    before = λ h. clash (line (a -ℤ pos 1)) h (pair.left (a -ℤ pos 1) (omega (arith, ints)));
    after = λ h. clash (later b) (sym (pair.right b (omega (arith, ints))) ∙ h) (pair.beyond b (omega (arith, ints)));
  }

  is_beyond : (z : ℤ) → later z ≡ true → b <ℤ z
  is_beyond z h = by_lt_z b z (λ l. l) (λ l. clash (later z) h (pair.beyond z l))

  later_run : (p q : ℤ) → IsRun (Has later) p q → IsRun (Has line) p q
  later_run p q run =
      let l = is_beyond p (run.inside p (first_place p q run.nonempty)) in
      let n = run.nonempty in
      record {
        nonempty = n;
        inside = λ z w. pair.right z (omega (arith, ints, w.from)) ∙ run.inside z w;
        before = λ h. run.before (sym (pair.right (p -ℤ pos 1) (omega (arith, ints))) ∙ h);
        after = λ h. run.after (sym (pair.right q (omega (arith, ints))) ∙ h);
      }

  earlier_run : (p q : ℤ) → b ≤ℤ p → IsRun (Has line) p q → IsRun (Has later) p q
  earlier_run p q k run =
      let l = is_beyond p (sym (pair.right p k) ∙ run.inside p (first_place p q run.nonempty)) in
      let n = run.nonempty in
      record {
        nonempty = n;
        inside = λ z w. sym (pair.right z (omega (arith, ints, w.from))) ∙ run.inside z w;
        before = λ h. run.before (pair.right (p -ℤ pos 1) (omega (arith, ints)) ∙ h);
        after = λ h. run.after (pair.right q (omega (arith, ints)) ∙ h);
      }

  first_left : (p q : ℤ) → a ≤ℤ p → p <ℤ b → IsRun (Has line) p q → a ≡ p
  first_left p q k l run =
      by_lt_z a p
      (λ m. absurd (run.before (pair.middle (p -ℤ pos 1) (omega (arith, ints)) (omega (arith, ints)))))
      (λ m. antisymmetric a p k m)

  first_right : (p q : ℤ) → a ≤ℤ p → p <ℤ b → IsRun (Has line) p q → b ≡ q
  first_right p q k l run =
      let n = run.nonempty in
      by_lt_z q b
      (λ m. absurd (run.after (pair.middle q (omega (arith, ints)) m)))
      (λ m. by_lt_z b q
      (λ o. clash (later b) (sym (pair.right b (omega (arith, ints))) ∙ run.inside b (within p q b (omega (arith, ints)) o)) (pair.beyond b (omega (arith, ints))))
      (λ o. antisymmetric b q m o))

  -- a run is the pair, or a run beyond it
  first_or_later : (p q : ℤ) → IsRun (Has line) p q → ((a ≡ p) × (b ≡ q)) ⊎ IsRun (Has later) p q
  first_or_later p q run =
      by_lt_z p a
      (λ l. clash (line p) (run.inside p (first_place p q run.nonempty)) (pair.left p l))
      (λ k. by_lt_z p b
      (λ l. inl (first_left p q k l run, first_right p q k l run))
      (λ l. inr (earlier_run p q l run)))

-- ---- the rectangles of a slab

-- each rectangle of the slab is of these heights, over a run
pub slab_sound : (low high : ℤ) (columns : List ℤ) → Rising columns → (r : Rectangle) → Among (slab low high columns) r
    → (r.bottom ≡ low) × (r.top ≡ high) × IsRun (Has (below columns)) r.left r.right
slab_sound low high [] k r h = elim h [ ]
slab_sound low high (a ∷ []) k r h = elim h [ ]
slab_sound low high (a ∷ b ∷ columns) k r (inl e) =
    let pair = pair_then a b columns k.0 k.1 in
    subst (λ (t : Rectangle). (t.bottom ≡ low) × (t.top ≡ high) × IsRun (Has (below (a ∷ b ∷ columns))) t.left t.right) e
    (refl, refl, first_run a b (below columns) (below (a ∷ b ∷ columns)) pair)
slab_sound low high (a ∷ b ∷ columns) k r (inr h) =
    let pair = pair_then a b columns k.0 k.1 in
    let f = slab_sound low high columns (rising_from_beyond b columns k.1) r h in
    (f.0, f.1, later_run a b (below columns) (below (a ∷ b ∷ columns)) pair r.left r.right f.2)

-- each run is a rectangle of the slab
pub slab_complete : (low high : ℤ) (columns : List ℤ) → Rising columns → odd_length columns ≡ false → (p q : ℤ) → IsRun (Has (below columns)) p q
    → Among (slab low high columns) (record { left = p; right = q; bottom = low; top = high })
slab_complete low high [] k even p q run = clash false (run.inside p (first_place p q run.nonempty)) refl
slab_complete low high (a ∷ []) k even p q run = clash true refl even
slab_complete low high (a ∷ b ∷ columns) k even p q run =
    elim (first_or_later a b (below columns) (below (a ∷ b ∷ columns)) (pair_then a b columns k.0 k.1) p q run) [
      | inl e ↦ inl (cc)
      | inr later ↦ inr (slab_complete low high columns (rising_from_beyond b columns k.1) (sym (twice (odd_length columns)) ∙ even) p q later)
    ]

-- each place of the row is in a rectangle of the slab
pub slab_covers : (low high : ℤ) (columns : List ℤ) → Rising columns → odd_length columns ≡ false → (z : ℤ) → below columns z ≡ true
    → (r : Rectangle) × Among (slab low high columns) r × Within r.left r.right z
slab_covers low high [] k even z h = clash false h refl
slab_covers low high (a ∷ []) k even z h = clash true refl even
slab_covers low high (a ∷ b ∷ columns) k even z h =
    let pair = pair_then a b columns k.0 k.1 in
    by_lt_z z a
    (λ l. clash (below (a ∷ b ∷ columns) z) h (pair.left z l))
    (λ m. by_lt_z z b
    (λ l. (record { left = a; right = b; bottom = low; top = high }, inl refl, within a b z m l))
    (λ l.
    let c = slab_covers low high columns (rising_from_beyond b columns k.1) (sym (twice (odd_length columns)) ∙ even) z (sym (pair.right z l) ∙ h) in
    (c.0, inr c.1, c.2)))

-- the rectangles of a slab are beyond what the columns are beyond
pub slab_beyond : (a low high : ℤ) (columns : List ℤ) → Beyond a columns → (r : Rectangle) → Among (slab low high columns) r
    → (low ≡ r.bottom) × (a <ℤ r.left)
slab_beyond a low high [] k r h = elim h [ ]
slab_beyond a low high (b ∷ []) k r h = elim h [ ]
slab_beyond a low high (b ∷ c ∷ columns) k r (inl e) = subst (λ (t : Rectangle). (low ≡ t.bottom) × (a <ℤ t.left)) e (refl, k.0)
slab_beyond a low high (b ∷ c ∷ columns) k r (inr h) =
    slab_beyond a low high columns (beyond_weaker a b columns k.0 (beyond_weaker b c columns k.1.0 k.1.1)) r h

pub slab_in_order : (low high : ℤ) (columns : List ℤ) → Rising columns → AreInOrder (slab low high columns)
slab_in_order low high [] k = tt
slab_in_order low high (a ∷ []) k = tt
slab_in_order low high (a ∷ b ∷ columns) k =
    let first : Rectangle = record { left = a; right = b; bottom = low; top = high } in (
      all_from_among (IsBefore first) (slab low high columns) (λ r h.
          let f = slab_beyond b low high columns k.1 r h in
          let rises = k.0 in
          let l : a <ℤ r.left = omega (arith, ints, f.1) in
          inr (f.0, l)),
      slab_in_order low high columns (rising_from_beyond b columns k.1),
    )

-- two columns for each rectangle
pub length-slab : (low high : ℤ) (columns : List ℤ) → length (slab low high columns) ≡ length columns / 2
length-slab low high [] = refl
length-slab low high (a ∷ []) = refl
length-slab low high (a ∷ b ∷ columns) = let e = length-slab low high columns in omega arith
