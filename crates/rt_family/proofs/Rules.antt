-- The drawing of a carried mask keeps the rules of width and space.
use Rattle.std.proofs.Common.{◌≡◌, ℕ, ℤ, pos, ◌+ℤ◌, ◌-ℤ◌, ◌≤ℤ◌, ◌<ℤ◌, ◌⊎◌, refl, sym, subst, arith, inl, inr}
use Rattle.std.proofs.lemmas.Int.{ints, clamps, by_lt_z}
use Rattle.std.specs.Int.{int_max, int_min}
use Rattle.rt_cells.specs.Line.{Within, IsGap, gap_of}
use Rattle.rt_cells.specs.Cells.{row_of, transposed, Adjacent, Joined, MeetAtCornerAlone}
use Rattle.rt_rules.specs.Width.{KeepsWidthAlongRows, KeepsWidth}
use Rattle.rt_rules.specs.Space.{KeepsPiecesApart, KeepsSpace}
use Rattle.rt_cells.specs.Rectangles.{Rectangle}
use Rattle.rt_family.specs.Strips.{IsListed, ShareColumn, HoldsCell, CoveredBy, AreConnected}
use Rattle.rt_family.specs.Carried.{IsCarried, IsCarriedInColumns}
use Rattle.rt_family.proofs.Joins.{turned_adjacent}
use Rattle.rt_family.proofs.Strips.{adjacent_close, held_on, run_is_row, stands_above}
use Rattle.rt_family.proofs.Drawn.{drawn_family, drawn_rows, drawn_column_gap, source_stands, drawn_stands, climbed_or_far, climbing_lifts, climbing_parts, pieces_joined, pieces_connected, pieces_apart}
use Rattle.rt_family.proofs.Columns.{covered_height}

first_begins : (a a' : ℤ) → a' ≤ℤ a → int_max a a' ≡ a
first_begins a a' h = omega (arith, ints, clamps)

second_begins : (a a' : ℤ) → a <ℤ a' → int_max a a' ≡ a'
second_begins a a' h = omega (arith, ints, clamps)

end_inside : (m b top w : ℤ) → m <ℤ b → b <ℤ top → Within m top b
end_inside m b top w h k = record { from = omega (arith, ints); to = k }

high_run : (w m b top : ℤ) → (m +ℤ w) ≤ℤ top → top ≤ℤ b → w ≤ℤ (b -ℤ m)
high_run w m b top h k = omega (arith, ints)

high_shared : (w a b a' b' top : ℤ) → (int_max a a' +ℤ w) ≤ℤ top → top ≤ℤ b → top ≤ℤ b' → w ≤ℤ (int_min b b' -ℤ int_max a a')
high_shared w a b a' b' top h k l = omega (arith, ints, clamps)

-- the gap of a row
gap_as_space : (high low' a b s : ℤ) → (a -ℤ pos 1) <ℤ high → low' ≤ℤ b → (high +ℤ s) ≤ℤ low' → s ≤ℤ (b -ℤ a)
gap_as_space high low' a b s h k l = omega (arith, ints)

-- neighbours of two intervals that meet lie in one of them
meeting_right : (low high low' high' x u : ℤ) → Within low high x → Within low' high' u → u ≡ x +ℤ pos 1 → low' <ℤ high → Within low high u ⊎ Within low' high' x
meeting_right low high low' high' x u h k e l =
    by_lt_z u high (λ m. inl (record { from = omega (arith, ints); to = m })) (λ m. inr (record { from = omega (arith, ints); to = omega (arith, ints) }))

meeting_left : (low high low' high' x u : ℤ) → Within low high x → Within low' high' u → x ≡ u +ℤ pos 1 → low <ℤ high' → Within low high u ⊎ Within low' high' x
meeting_left low high low' high' x u h k e l =
    by_lt_z x high' (λ m. inr (record { from = omega (arith, ints); to = m })) (λ m. inl (record { from = omega (arith, ints); to = omega (arith, ints) }))

meeting_at : (a b : Rectangle) (x u : ℤ) → Within a.left a.right x → Within b.left b.right u → Adjacent x u → ShareColumn a b
    → Within a.left a.right u ⊎ Within b.left b.right x
meeting_at a b x u h k (inl e) over = meeting_right _ _ _ _ x u h k e over.second
meeting_at a b x u h k (inr e) over = meeting_left _ _ _ _ x u h k e over.first

no_gap_beside : (s low high low' high' x u : ℤ) → pos 1 ≤ℤ s → Within low high x → Within low' high' u → Adjacent x u → s ≤ℤ gap_of low high low' high' → ⊥
no_gap_beside s low high low' high' x u p h k (inl e) g = omega (arith, ints, clamps)
no_gap_beside s low high low' high' x u p h k (inr e) g = omega (arith, ints, clamps)

module _ (member : ℕ → Type 0) (source drawn : ℕ → Rectangle) (w : ℤ) (s : ℕ → ℕ → ℤ) (carried : IsCarried member source drawn w s) where
  width_of_rows : KeepsWidthAlongRows w (CoveredBy member drawn)
  width_of_rows =
      let family = drawn_family member source drawn w s carried in
      record {
        runs = λ y a b run. let r = run_is_row member drawn family y a b run in omega (arith, ints, r.3, r.4, carried.wide r.0 r.1);
        shared = λ y a b a' b' run run' touch.
            let r = run_is_row member drawn family y a b run in
            let q = run_is_row member drawn family (y +ℤ pos 1) a' b' run' in
            let h : HoldsCell member drawn r.0 (int_max a a') y = record { strip = r.1; cell = record { column = record { from = omega (arith, ints, clamps, r.3, r.4); to = omega (arith, ints, clamps, r.3, r.4) }; row = r.2 } } in
            let k : HoldsCell member drawn q.0 (int_max a a') (y +ℤ pos 1) = record { strip = q.1; cell = record { column = record { from = omega (arith, ints, clamps, q.3, q.4); to = omega (arith, ints, clamps, q.3, q.4) }; row = q.2 } } in
            elim (stands_above member drawn family r.0 q.0 (int_max a a') y h k) [
              | inl e ↦ omega (arith, ints, clamps, r.3, r.4, subst (λ t. (drawn t).left ≡ a') (sym e) q.3, subst (λ t. (drawn t).right ≡ b') (sym e) q.4, carried.wide r.0 r.1)
              | inr stands ↦ omega (arith, ints, clamps, r.3, r.4, q.3, q.4, carried.share r.0 q.0 (source_stands member source drawn w s carried r.0 q.0 stands))
            ];
      }

  width_of_columns : (count : ℕ) → IsListed member count → IsCarriedInColumns member source drawn w → KeepsWidthAlongRows w (transposed (CoveredBy member drawn))
  width_of_columns count listed columns =
      let family = drawn_family member source drawn w s carried in
      record {
        runs = λ x a b run.
            let c = run.inside a (first_of a b run.nonempty) in
            let t = covered_height member source drawn w s carried count listed x x columns (inl refl) a c.number c.holds c.holds (λ before _. run.before before) in
            by_lt_z b t.0
            (λ l. absurd (run.after (t.2 b (end_inside a b t.0 w run.nonempty l)).0))
            (λ l. high_run w a b t.0 t.1 l);
        shared = λ x a b a' b' run run' touch.
            let m = int_max a a' in
            let c = run.inside m (shared_in a b a' b' touch) in
            let d = run'.inside m (shared_in' a b a' b' touch) in
            let h = held_on member drawn family c.number x (x +ℤ pos 1) m c.holds (adjacent_close x (x +ℤ pos 1) (inl refl)) d in
            let t = covered_height member source drawn w s carried count listed x (x +ℤ pos 1) columns (inr refl) m c.number c.holds h
            (λ before before'.
            by_lt_z a a'
            (λ l. run'.before (subst (λ z. CoveredBy member drawn (x +ℤ pos 1) (z -ℤ pos 1)) (second_begins a a' l) before'))
            (λ l. run.before (subst (λ z. CoveredBy member drawn x (z -ℤ pos 1)) (first_begins a a' l) before))) in
            high_shared w a b a' b' t.0 t.1
            (by_lt_z b t.0 (λ l. absurd (run.after (t.2 b (end_inside m b t.0 w (omega (arith, ints, clamps)) l)).0)) (λ l. l))
            (by_lt_z b' t.0 (λ l. absurd (run'.after (t.2 b' (end_inside m b' t.0 w (omega (arith, ints, clamps)) l)).1)) (λ l. l));
      }
    where
      first_of : (a b : ℤ) → a <ℤ b → Within a b a
      first_of a b h = record { from = omega (arith, ints); to = h }

      shared_in : (a b a' b' : ℤ) → int_max a a' <ℤ int_min b b' → Within a b (int_max a a')
      shared_in a b a' b' h = record { from = omega (arith, ints, clamps); to = omega (arith, ints, clamps) }

      shared_in' : (a b a' b' : ℤ) → int_max a a' <ℤ int_min b b' → Within a' b' (int_max a a')
      shared_in' a b a' b' h = record { from = omega (arith, ints, clamps); to = omega (arith, ints, clamps) }

  -- the drawing keeps the width
  pub carried_width : (count : ℕ) → IsListed member count → IsCarriedInColumns member source drawn w → KeepsWidth w (CoveredBy member drawn)
  carried_width count listed columns = record { rows = width_of_rows; columns = width_of_columns count listed columns }

  -- a gap of a drawn row is as wide as the space of the strips beside it
  pub drawn_row_gap : (i j : ℕ) (y a b : ℤ) → IsGap (row_of (CoveredBy member drawn) y) a b
      → HoldsCell member drawn i (a -ℤ pos 1) y → HoldsCell member drawn j b y → s i j ≤ℤ (b -ℤ a)
  drawn_row_gap i j y a b gap h k =
      elim (drawn_rows member source drawn w s carried i j h.strip k.strip (record { first = rows_meet _ _ _ _ y h.cell.row k.cell.row; second = rows_meet _ _ _ _ y k.cell.row h.cell.row })) [
        | inl e ↦ absurd (gap.empty a (record { from = same_place a; to = gap.nonempty }) (record {
          number = i;
          holds = record {
            strip = h.strip;
            cell = record {
              column = record { from = omega (arith, ints, h.cell.column, subst (λ t. Within (drawn t).left (drawn t).right b) (sym e) k.cell.column, gap.nonempty); to = omega (arith, ints, h.cell.column, subst (λ t. Within (drawn t).left (drawn t).right b) (sym e) k.cell.column, gap.nonempty) };
              row = h.cell.row;
            };
          };
        }))
        | inr (inl l) ↦ gap_as_space _ _ a b (s i j) h.cell.column.to k.cell.column.from l
        | inr (inr l) ↦ absurd (omega (arith, ints, h.cell.column.from, k.cell.column.to, gap.nonempty, carried.numbers.some_space i j h.strip k.strip))
      ]
    where
      rows_meet : (low high low' high' y : ℤ) → Within low high y → Within low' high' y → low <ℤ high'
      rows_meet low high low' high' y h k = omega (arith, ints)

      same_place : (a : ℤ) → a ≤ℤ a
      same_place a = omega (arith, ints)

  no_corner_up : (x y u v : ℤ) → v ≡ y +ℤ pos 1 → ¬ MeetAtCornerAlone (CoveredBy member drawn) x y u v
  no_corner_up x y u v e meet =
      let c = meet.first in
      let d = meet.second in
      let i = c.number in
      let j = d.number in
      let h = c.holds in
      let k = d.holds in
      let beside : Within (drawn i).left (drawn i).right u → ⊥ = λ column. meet.beside_first (record { number = i; holds = record { strip = h.strip; cell = record { column = column; row = h.cell.row } } }) in
      let beside' : Within (drawn j).left (drawn j).right x → ⊥ = λ column. meet.beside_second (record { number = j; holds = record { strip = k.strip; cell = record { column = column; row = k.cell.row } } }) in
      elim (climbed_or_far member source drawn w s carried i j h.strip k.strip) [
        | inl same ↦ beside (subst (λ t. Within (drawn t).left (drawn t).right u) (sym same) k.cell.column)
        | inr (inl (inl climbed)) ↦ elim (climbing_parts member source drawn w s carried i j climbed) [
          | inl stands ↦ elim (meeting_at (drawn i) (drawn j) x u h.cell.column k.cell.column meet.columns (drawn_stands member source drawn w s carried i j stands).over) [
            | inl column ↦ beside column
            | inr column ↦ beside' column
          ]
          | inr rows ↦ omega (arith, ints, h.cell.row.to, k.cell.row.from)
        ]
        | inr (inl (inr climbed)) ↦ omega (arith, ints, h.cell.row.from, k.cell.row.to, (climbing_lifts member source drawn w s carried j i climbed).1)
        | inr (inr (inl gap)) ↦ no_gap_beside (s i j) (drawn i).left (drawn i).right (drawn j).left (drawn j).right x u (carried.numbers.some_space i j h.strip k.strip) h.cell.column k.cell.column meet.columns gap
        | inr (inr (inr gap)) ↦ no_gap_beside (s i j) (drawn i).bottom (drawn i).top (drawn j).bottom (drawn j).top y v (carried.numbers.some_space i j h.strip k.strip) h.cell.row k.cell.row meet.rows gap
      ]

  -- no two drawn cells meet at a corner alone
  pub no_corner : (x y u v : ℤ) → ¬ MeetAtCornerAlone (CoveredBy member drawn) x y u v
  no_corner x y u v meet =
      elim meet.rows [
        | inl e ↦ no_corner_up x y u v e meet
        | inr e ↦ no_corner_up u v x y e (record {
          first = meet.second;
          second = meet.first;
          columns = turned_adjacent x u meet.columns;
          rows = inl e;
          beside_first = meet.beside_second;
          beside_second = meet.beside_first;
        })
      ]

  -- the drawing keeps a space that no two strips fall below
  pub carried_space : (space : ℤ) → ((i j : ℕ) → member i → member j → space ≤ℤ s i j) → KeepsSpace space (CoveredBy member drawn)
  carried_space space least = record {
    rows = λ y a b gap. reach _ _ _ (least gap.before.number gap.after.number gap.before.holds.strip gap.after.holds.strip) (drawn_row_gap gap.before.number gap.after.number y a b gap gap.before.holds gap.after.holds);
    columns = λ x a b gap. reach _ _ _ (least gap.before.number gap.after.number gap.before.holds.strip gap.after.holds.strip)
        (drawn_column_gap member source drawn w s carried gap.before.number gap.after.number x a b gap gap.before.holds gap.after.holds);
    pieces = λ x y u v c d. elim (pieces_apart member source drawn w s carried c.number d.number x y u v c.holds d.holds) [
      | inl walk ↦ inl walk
      | inr (inl g) ↦ inr (inl (reach _ _ _ (least c.number d.number c.holds.strip d.holds.strip) g))
      | inr (inr g) ↦ inr (inr (reach _ _ _ (least c.number d.number c.holds.strip d.holds.strip) g))
    ];
    corners = no_corner;
  }
    where
      reach : (a b c : ℤ) → a ≤ℤ b → b ≤ℤ c → a ≤ℤ c
      reach a b c h k = omega (arith, ints)

  -- cells of strips that aren't connected are the space apart; the spaces of connected strips may be less
  pub carried_pieces : (space : ℤ) → ((i j : ℕ) → member i → member j → AreConnected member source i j ⊎ (space ≤ℤ s i j)) → KeepsPiecesApart space (CoveredBy member drawn)
  carried_pieces space least x y u v c d =
      elim (least c.number d.number c.holds.strip d.holds.strip) [
        | inl connected ↦ inl (pieces_joined member source drawn w s carried c.number d.number x y u v connected c.holds d.holds)
        | inr l ↦ elim (pieces_apart member source drawn w s carried c.number d.number x y u v c.holds d.holds) [
          | inl walk ↦ inl walk
          | inr (inl g) ↦ inr (inl (omega (arith, ints)))
          | inr (inr g) ↦ inr (inr (omega (arith, ints)))
        ]
      ]

  -- a gap of a row within a piece is as wide as the least space of connected strips
  pub carried_notch_of_rows : (notch : ℤ) → ((i j : ℕ) → AreConnected member source i j → notch ≤ℤ s i j)
      → (y a b : ℤ) → IsGap (row_of (CoveredBy member drawn) y) a b → Joined (CoveredBy member drawn) (a -ℤ pos 1) y b y → notch ≤ℤ (b -ℤ a)
  carried_notch_of_rows notch least y a b gap walk =
      let c = gap.before in
      let d = gap.after in
      let wide = drawn_row_gap c.number d.number y a b gap c.holds d.holds in
      let n = least c.number d.number (pieces_connected member source drawn w s carried c.number d.number (a -ℤ pos 1) y b y c.holds d.holds walk) in
      omega (arith, ints, wide, n)

  -- a gap of a column within a piece is as high
  pub carried_notch_of_columns : (notch : ℤ) → ((i j : ℕ) → AreConnected member source i j → notch ≤ℤ s i j)
      → (x a b : ℤ) → IsGap (row_of (transposed (CoveredBy member drawn)) x) a b → Joined (CoveredBy member drawn) x (a -ℤ pos 1) x b → notch ≤ℤ (b -ℤ a)
  carried_notch_of_columns notch least x a b gap walk =
      let c = gap.before in
      let d = gap.after in
      let high = drawn_column_gap member source drawn w s carried c.number d.number x a b gap c.holds d.holds in
      let n = least c.number d.number (pieces_connected member source drawn w s carried c.number d.number x (a -ℤ pos 1) x b c.holds d.holds walk) in
      omega (arith, ints, high, n)
