-- A list of strips that a piece of the next row is put onto: a strip is raised by it, or it begins a new one.
use Rattle.std.proofs.Common.{◌≡◌, ◌≢◌, ℕ, ◌<◌, ℤ, pos, ◌-ℤ◌, ◌≤ℤ◌, ◌<ℤ◌, ◌⊎◌, List, [], ◌∷◌, ◌++◌, length, get_or, set, sym, ap, subst, ◌∙◌, arith, inl, inr, get_or-set_same, get_or-set_other}
use Rattle.std.specs.List.{All, Contains}
use Rattle.std.proofs.lemmas.Int.{ints, by_lt_z}
use Rattle.std.proofs.lemmas.Bool.{cases_lt}
use Rattle.std.proofs.lemmas.List.{get_or_default, length-set}
use Rattle.std.proofs.lemmas.List.Elements.{All-contains, All-push, Contains-get_or, Contains-append_left, Contains-push, Contains-push_cases}
use Rattle.std.proofs.lemmas.List.Quantifiers.{all_pairs_push}
use Rattle.std.proofs.Math.Logic.{◌↔◌}
use Rattle.rt_cells.specs.Line.{Within, IsRun}
use Rattle.rt_cells.specs.Cells.{row_of}
use Rattle.rt_cells.specs.Rectangles.{Rectangle, IsNonempty, Holds, Covers}
use Rattle.rt_cells.proofs.Lines.{within, first_place, last_place, antisymmetric, one_run}
use Rattle.rt_strips.specs.OneMask.{IsBefore}
use Rattle.rt_strips.specs.Stacks.{HasRun, IsStripOf, AreStacked, area_at, no_area, raised}
use Rattle.rt_strips.proofs.Grown.{IsBehind, AreBehind, still_strip, raised_strip, new_strip}

pub same_or_not : (j k : ℕ) → (j ≡ k) ⊎ (j ≢ k)
same_or_not j k = elim (cases_lt j k) [
  | inl l ↦ inr (omega arith)
  | inr l ↦ elim (cases_lt k j) [ inl m ↦ inr (omega arith) | inr m ↦ inl (omega arith) ]
]

-- the rows of a strip aren't empty, nor its columns
pub strip_upwards : (cells : ℤ → ℤ → Type 0) (s : Rectangle) → IsStripOf cells s → s.bottom <ℤ s.top
strip_upwards cells s strip = strip.rows.nonempty

pub strip_across : (cells : ℤ → ℤ → Type 0) (s : Rectangle) → IsStripOf cells s → s.left <ℤ s.right
strip_across cells s strip = (strip.rows.inside s.bottom (first_place s.bottom s.top strip.rows.nonempty)).nonempty

-- strips of one cell set with the same columns and top have the same bottom
one_bottom : (cells : ℤ → ℤ → Type 0) (a b : Rectangle) → IsStripOf cells a → IsStripOf cells b → a.left ≡ b.left → a.right ≡ b.right → a.top ≡ b.top → a.bottom ≡ b.bottom
one_bottom cells a b s t left right top =
    let rows : IsRun (HasRun cells a.left a.right) b.bottom b.top =
    subst (λ l. IsRun (HasRun cells l a.right) b.bottom b.top) (sym left) (subst (λ r. IsRun (HasRun cells b.left r) b.bottom b.top) (sym right) t.rows) in
    let y = a.top -ℤ pos 1 in
    let inside : Within b.bottom b.top y = subst (λ z. Within b.bottom b.top (z -ℤ pos 1)) (sym top) (last_place b.bottom b.top t.rows.nonempty) in
    (one_run (HasRun cells a.left a.right) a.bottom a.top b.bottom b.top y s.rows rows (last_place a.bottom a.top s.rows.nonempty) inside).0

not_before_itself : (a b : Rectangle) → a.bottom ≡ b.bottom → a.left ≡ b.left → IsBefore a b → ⊥
not_before_itself a b bottom left (inl l) = omega (arith, ints)
not_before_itself a b bottom left (inr l) = omega (arith, ints, l.1)

module _ (strips : List Rectangle) (stacked : AreStacked strips) where
  strip_there : (k : ℕ) (d : Rectangle) → k < length strips → IsStripOf (Covers strips) (get_or strips k d)
  strip_there k d h = stacked.each k d h

  -- two strips with the same columns and top are one
  pub one_place : (j k : ℕ) (d : Rectangle) → j < length strips → k < length strips → (get_or strips j d).top ≡ (get_or strips k d).top
      → (get_or strips j d).left ≡ (get_or strips k d).left → (get_or strips j d).right ≡ (get_or strips k d).right → j ≢ k → ⊥
  one_place j k d h l top left right other =
      let bottom = one_bottom (Covers strips) (get_or strips j d) (get_or strips k d) (strip_there j d h) (strip_there k d l) left right top in
      elim (cases_lt j k) [
        | inl m ↦ not_before_itself (get_or strips j d) (get_or strips k d) bottom left (stacked.in_order j k d m l)
        | inr m ↦ not_before_itself (get_or strips k d) (get_or strips j d) (sym bottom) (sym left) (stacked.in_order k j d (omega arith) h)
      ]

  module _ (q : Rectangle) (some : IsNonempty q) (behind : All (λ s. IsBehind s q) strips) where
    cells_behind : AreBehind (Covers strips) q
    cells_behind = record {
      behind = λ x y c.
          let at : IsBehind c.0 q = All-contains (λ s. IsBehind s q) strips c.0 behind c.1 in
          elim at.ends [
            | inl l ↦ inl (omega (arith, ints, c.2.row.to))
            | inr l ↦ inr (omega (arith, ints, c.2.row.to, l.0), omega (arith, ints, c.2.column.to, l.1))
          ];
    }

    -- no strip ends under the piece at its columns
    pub record IsAlone : Type 0 where
      pub alone : (k : ℕ) → k < length strips → (area_at strips k).top ≡ q.bottom → (area_at strips k).left ≡ q.left → (area_at strips k).right ≡ q.right → ⊥

    pub covers_pushed : (x y : ℤ) → Covers (strips ++ q ∷ []) x y ↔ (Covers strips x y ⊎ Holds q x y)
    covers_pushed x y = (
      λ c. elim (Contains-push_cases strips q c.0 c.1) [ inl l ↦ inl (c.0, l, c.2) | inr e ↦ inr (subst (λ r. Holds r x y) (sym e) c.2) ],
      λ c. elim c [ inl l ↦ (l.0, Contains-append_left strips (q ∷ []) l.0 l.1, l.2) | inr h ↦ (q, Contains-push strips q, h) ],
    )

    comes_before : (s : Rectangle) → IsStripOf (Covers strips) s → IsBehind s q → IsBefore s q
    comes_before s strip at =
        by_lt_z s.bottom q.bottom inl
        (λ l. inr (
          antisymmetric _ _ at.begins l,
          elim at.ends [
            | inl k ↦ absurd (omega (arith, ints, strip_upwards _ s strip))
            | inr k ↦ omega (arith, ints, k.1, strip_across _ s strip)
          ],
        ))

    module _ (alone : IsAlone) where
      alone_at : (k : ℕ) (d : Rectangle) → k < length strips → (get_or strips k d).top ≡ q.bottom → (get_or strips k d).left ≡ q.left → (get_or strips k d).right ≡ q.right → ⊥
      alone_at k d h = subst (λ (s : Rectangle). s.top ≡ q.bottom → s.left ≡ q.left → s.right ≡ q.right → ⊥) (get_or_default strips k no_area d h) (alone.alone k h)

      no_run_under : ¬ HasRun (Covers strips) q.left q.right (q.bottom -ℤ pos 1)
      no_run_under run =
          let y = q.bottom -ℤ pos 1 in
          let c = run.inside q.left (first_place q.left q.right some.across) in
          let s = c.0 in
          let strip : IsStripOf (Covers strips) s = All-contains (IsStripOf (Covers strips)) strips s stacked.each c.1 in
          let same = one_run (row_of (Covers strips) y) s.left s.right q.left q.right q.left (strip.rows.inside y c.2.row) run c.2.column (first_place q.left q.right some.across) in
          let at : IsBehind s q = All-contains (λ s. IsBehind s q) strips s behind c.1 in
          let low : s.top ≤ℤ q.bottom = elim at.ends [ inl l ↦ l | inr l ↦ absurd (omega (arith, ints, l.1, c.2.column.to)) ] in
          let top : s.top ≡ q.bottom = antisymmetric _ _ low (omega (arith, ints, c.2.row.to)) in
          subst (λ (r : Rectangle). r.top ≡ q.bottom → r.left ≡ q.left → r.right ≡ q.right → ⊥) c.1.2 (alone_at c.1.0 s c.1.1) top same.0 same.1

      pub pushed : AreStacked (strips ++ q ∷ [])
      pushed = record {
        each = All-push (IsStripOf (Covers (strips ++ q ∷ []))) strips q
            (λ k d h. still_strip (Covers strips) (Covers (strips ++ q ∷ [])) q some covers_pushed cells_behind _ (stacked.each k d h) (behind k d h) (alone_at k d h))
            (new_strip (Covers strips) (Covers (strips ++ q ∷ [])) q some covers_pushed cells_behind no_run_under);
        in_order = all_pairs_push IsBefore strips q stacked.in_order (λ k d h. comes_before _ (stacked.each k d h) (behind k d h));
      }

    module _ (k : ℕ) (there : k < length strips) (top : (area_at strips k).top ≡ q.bottom) (left : (area_at strips k).left ≡ q.left) (right : (area_at strips k).right ≡ q.right) where
      abbrev under : Rectangle
      under = area_at strips k

      abbrev higher : List Rectangle
      higher = set strips k (raised under q.top)

      at_place : (d : Rectangle) → get_or higher k d ≡ raised under q.top
      at_place d = get_or-set_same strips k (raised under q.top) d there

      at_other : (j : ℕ) (d : Rectangle) → j ≢ k → get_or higher j d ≡ get_or strips j d
      at_other j d other = get_or-set_other strips k j (raised under q.top) d other

      under_is : (d : Rectangle) → get_or strips k d ≡ under
      under_is d = get_or_default strips k d no_area there

      contains_other : (j : ℕ) (r : Rectangle) → j < length strips → get_or strips j r ≡ r → j ≢ k → Contains higher r
      contains_other j r h e other = (j, omega (arith, length-set strips k (raised under q.top)), at_other j r other ∙ e)

      contains_raised : Contains higher (raised under q.top)
      contains_raised = (k, omega (arith, length-set strips k (raised under q.top)), at_place (raised under q.top))

      under_holds : (x y : ℤ) → Holds (raised under q.top) x y → Covers strips x y ⊎ Holds q x y
      under_holds x y h =
          by_lt_z y q.bottom
          (λ l. inl (under, Contains-get_or strips k no_area there, record { column = h.column; row = within _ _ _ h.row.from (omega (arith, ints)) }))
          (λ l. inr (record { column = record { from = omega (arith, ints, h.column.from); to = omega (arith, ints, h.column.to) }; row = within _ _ _ l h.row.to }))

      under_upwards : under.bottom <ℤ under.top
      under_upwards = strip_upwards _ under (stacked.each k no_area there)

      pub covers_higher : (x y : ℤ) → Covers higher x y ↔ (Covers strips x y ⊎ Holds q x y)
      covers_higher x y = (
        λ c. elim (same_or_not c.1.0 k) [
          | inl e ↦
              let is : raised under q.top ≡ c.0 = sym (at_place c.0) ∙ ap (λ n. get_or higher n c.0) (sym e) ∙ c.1.2 in
              under_holds x y (subst (λ r. Holds r x y) (sym is) c.2)
          | inr other ↦ inl (c.0, (c.1.0, omega (arith, length-set strips k (raised under q.top), c.1.1), sym (at_other c.1.0 c.0 other) ∙ c.1.2), c.2)
        ],
        λ c. elim c [
          | inl l ↦ elim (same_or_not l.1.0 k) [
            | inl e ↦
                let is : under ≡ l.0 = sym (under_is l.0) ∙ ap (λ n. get_or strips n l.0) (sym e) ∙ l.1.2 in
                let h : Holds under x y = subst (λ r. Holds r x y) (sym is) l.2 in
                (raised under q.top, contains_raised, record { column = h.column; row = within _ _ _ h.row.from (omega (arith, ints, h.row.to, some.upwards)) })
            | inr other ↦ (l.0, contains_other l.1.0 l.0 l.1.1 l.1.2 other, l.2)
          ]
          | inr h ↦ (
            raised under q.top,
            contains_raised,
            record {
              column = record { from = omega (arith, ints, h.column.from); to = omega (arith, ints, h.column.to) };
              row = let up = under_upwards in within _ _ _ (omega (arith, ints, h.row.from)) h.row.to;
            },
          )
        ],
      )

      same_corner : (j : ℕ) (d : Rectangle) → ((get_or higher j d).bottom ≡ (get_or strips j d).bottom) × ((get_or higher j d).left ≡ (get_or strips j d).left)
      same_corner j d = elim (same_or_not j k) [
        | inl e ↦
            let now : get_or higher j d ≡ raised under q.top = ap (λ n. get_or higher n d) e ∙ at_place d in
            let was : get_or strips j d ≡ under = ap (λ n. get_or strips n d) e ∙ under_is d in
            (ap (λ (r : Rectangle). r.bottom) now ∙ ap (λ (r : Rectangle). r.bottom) (sym was), ap (λ (r : Rectangle). r.left) now ∙ ap (λ (r : Rectangle). r.left) (sym was))
        | inr other ↦ (ap (λ (r : Rectangle). r.bottom) (at_other j d other), ap (λ (r : Rectangle). r.left) (at_other j d other))
      ]

      other_strip : (j : ℕ) (d : Rectangle) → j < length strips → j ≢ k
          → (get_or strips j d).top ≡ q.bottom → (get_or strips j d).left ≡ q.left → (get_or strips j d).right ≡ q.right → ⊥
      other_strip j d h other t l r =
          one_place j k d h there
          (t ∙ sym top ∙ ap (λ (s : Rectangle). s.top) (sym (under_is d)))
          (l ∙ sym left ∙ ap (λ (s : Rectangle). s.left) (sym (under_is d)))
          (r ∙ sym right ∙ ap (λ (s : Rectangle). s.right) (sym (under_is d))) other

      higher_before : (a b a' b' : Rectangle) → a'.bottom ≡ a.bottom → a'.left ≡ a.left → b'.bottom ≡ b.bottom → b'.left ≡ b.left → IsBefore a b → IsBefore a' b'
      higher_before a b a' b' e f g h (inl l) = inl (omega (arith, ints))
      higher_before a b a' b' e f g h (inr l) = inr (omega (arith, ints, l.0), omega (arith, ints, l.1))

      pub put_higher : AreStacked higher
      put_higher = record {
        each = λ j d h.
            let lt : j < length strips = omega (arith, length-set strips k (raised under q.top)) in
            elim (same_or_not j k) [
              | inl e ↦
                  subst (IsStripOf (Covers higher)) (sym (at_place d) ∙ ap (λ n. get_or higher n d) (sym e))
                  (raised_strip (Covers strips) (Covers higher) q some covers_higher cells_behind under (stacked.each k no_area there) top left right)
              | inr other ↦
                  subst (IsStripOf (Covers higher)) (sym (at_other j d other))
                  (still_strip (Covers strips) (Covers higher) q some covers_higher cells_behind _ (stacked.each j d lt) (behind j d lt) (other_strip j d lt other))
            ];
        in_order = λ i j d h l.
            let a = same_corner i d in
            let b = same_corner j d in
            higher_before (get_or strips i d) (get_or strips j d) (get_or higher i d) (get_or higher j d) a.0 a.1 b.0 b.1 (stacked.in_order i j d h (omega (arith, length-set strips k (raised under q.top))));
      }
