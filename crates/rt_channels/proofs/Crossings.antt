-- All channels of two masks: which strips cross is kept, the drawn channels are those of the source, and the rule cross is kept.
use Rattle.std.proofs.Common.{◌≡◌, ℕ, ℤ, pos, ◌+ℤ◌, ◌-ℤ◌, ◌≤ℤ◌, ◌<ℤ◌, ◌⊎◌, sym, subst, arith}
use Rattle.std.proofs.lemmas.Int.{ints, clamps, by_lt_z}
use Rattle.std.proofs.lemmas.List.Elements.{All-contains, All-weaker}
use Rattle.std.specs.Int.{int_max}
use mathlib.Core.Logic.{inl, inr}
use Rattle.rt_cells.specs.Line.{Within, between}
use Rattle.rt_cells.specs.Cells.{ShareSide, Joined}
use Rattle.rt_cells.specs.Cells.Joined.{here, onward}
use Rattle.rt_cells.specs.Rectangles.{Rectangle, IsNonempty, Holds}
use Rattle.rt_cells.proofs.Lines.{first_place}
use Rattle.rt_cells.proofs.Rectangles.{joined_inside}
use Rattle.rt_family.specs.Strips.{ShareColumn, ShareRow, SpansColumns, HoldsCell, CoveredBy, IsHost}
use Rattle.rt_family.specs.Carried.{AreFar}
use Rattle.rt_family.proofs.Strips.{same_close, common_row, common_column, common_place, one_holder}
use Rattle.rt_family.proofs.Drawn.{drawn_nonempty}
use Rattle.rt_family.proofs.Hosted.{drawn_hosts_cover, clear_apart}
use Rattle.rt_channels.specs.Channels.{widened, SpansRows, IsChannel, IsCarriedChannel, AreCarriedTogether}
use Rattle.rt_channels.specs.Crossings.{IsCrossing, IsKeptCrossing, IsOfBoth, KeepsCross, AreCarriedChannels, CrossIn, AreDrawnChannels}
use Rattle.rt_channels.proofs.Clear.{turned_clear, source_overlap}
use Rattle.rt_channels.proofs.Drawn.{drawn_channel, the_single, drawn_many, many_jut, single_holds, in_target, single_family, many_family}

-- a walk stays where no step leads out
joined_stays : (cells inside : ℤ → ℤ → Type 0) → ((x y u v : ℤ) → inside x y → ShareSide x y u v → cells u v → inside u v)
    → (x y u v : ℤ) → inside x y → Joined cells x y u v → inside u v
joined_stays cells inside kept x y u v h (here c) = h
joined_stays cells inside kept x y u v h (onward p q _ _ walk next c) = kept p q u v (joined_stays cells inside kept x y p q h walk) next c

crossing : (box : ℕ → Rectangle) (area : Rectangle) (o a : ℕ) → (box o).left ≡ area.left → (box o).right ≡ area.right → SpansRows (box o) area
    → SpansColumns (box a) (widened (pos 1) area) → SpansRows area (box a) → IsCrossing box area o a
crossing box area o a e f r wide rows = record {
  columns = record { left = omega (arith, ints); right = omega (arith, ints) };
  rows = record { bottom = omega (arith, ints); top = omega (arith, ints) };
  inside = λ x y h k. record { column = record { from = omega (arith, ints); to = omega (arith, ints) }; row = record { from = omega (arith, ints); to = omega (arith, ints) } };
}

at_least_one : (n : ℤ) (a b : Rectangle) → pos 1 ≤ℤ n → SpansColumns a (widened n b) → SpansColumns a (widened (pos 1) b)
at_least_one n a b p h = record { left = omega (arith, ints); right = omega (arith, ints) }

spans_rows : (a b : Rectangle) → (a.bottom +ℤ pos 1) ≤ℤ b.bottom → (b.top +ℤ pos 1) ≤ℤ a.top → SpansRows a b
spans_rows a b h k = record { bottom = omega (arith, ints); top = omega (arith, ints) }

-- a crossing has a cell of both strips
crossing_cell : (box : ℕ → Rectangle) (area : Rectangle) (o a : ℕ) → IsNonempty (box o) → IsNonempty (box a) → IsCrossing box area o a
    → (x : ℤ) × (y : ℤ) × Holds (box o) x y × Holds (box a) x y
crossing_cell box area o a h k cross = (
  (box o).left,
  (box a).bottom,
  record { column = first_place _ _ h.across; row = inner (box o) (box a) cross.rows k.upwards },
  record { column = outer (box a) (box o) cross.columns h.across; row = first_place _ _ k.upwards },
)
  where
    inner : (a b : Rectangle) → SpansRows a b → b.bottom <ℤ b.top → Within a.bottom a.top b.bottom
    inner a b r h = record { from = omega (arith, ints); to = omega (arith, ints) }

    outer : (a b : Rectangle) → SpansColumns a b → b.left <ℤ b.right → Within a.left a.right b.left
    outer a b r h = record { from = omega (arith, ints); to = omega (arith, ints) }

module _ (single many : ℕ → Type 0) (source drawn : ℕ → Rectangle) (both : AreCarriedTogether single many source drawn)
    (area target : Rectangle) (ns nm rs rm : ℤ) (c : IsCarriedChannel single many source drawn area target ns nm rs rm) where
  -- the strips that meet a channel cross in it, in the source and in the drawing
  pub hosts_cross : (i j : ℕ) → IsHost single source area i → IsHost many source area j → IsKeptCrossing source drawn area target i j
  hosts_cross i j host other =
      let s = the_single single many source drawn both area target ns nm rs rm c in
      let m = drawn_many single many source drawn both area target ns nm rs rm c in
      let k : IsKeptCrossing source drawn area target s.0 j = record {
        in_source = crossing source area s.0 j s.1.in_source.left s.1.in_source.right s.1.in_source.rows (m.3.source_strips.across j other) (m.3.source_strips.rows j other);
        in_drawing = crossing drawn target s.0 j s.1.left s.1.right (spans_rows (drawn s.0) target s.1.below s.1.above)
            (at_least_one rm (drawn j) target c.some_reach_many (many_jut single many source drawn both area target ns nm rs rm c j other)) (m.3.rows j other);
      } in
      subst (λ t. IsKeptCrossing source drawn area target t j) (sym (s.1.in_source.only i host)) k

  -- strips that have a cell of the drawn channel meet it in the source
  pub back_to_hosts : (i j : ℕ) (x y : ℤ) → Holds target x y → HoldsCell single drawn i x y → HoldsCell many drawn j x y
      → IsHost single source area i × IsHost many source area j
  back_to_hosts i j x y cell h k =
      let s = the_single single many source drawn both area target ns nm rs rm c in
      let m = drawn_many single many source drawn both area target ns nm rs rm c in
      let own = single_holds single many source drawn both area target ns nm rs rm c s.0 s.1 x y cell.column (in_target single many source drawn both area target ns nm rs rm c y cell.row) in
      let r = drawn_hosts_cover many source drawn both.many_width both.many_space both.many_carried m.0 m.1 m.2 m.3.source_strips.hosts.stacked target
      (All-weaker (IsHost many source area) (λ t. SpansColumns (drawn t) target)
      (λ t host. inner (drawn t) (at_least_one rm (drawn t) target c.some_reach_many (many_jut single many source drawn both area target ns nm rs rm c t host))) m.2 m.3.source_strips.hosts.hosts)
      (omega (arith, ints, m.3.bottom)) (omega (arith, ints, m.3.top)) x y cell in (
        subst (IsHost single source area) (one_holder single drawn (single_family single many source drawn both area target ns nm rs rm c) s.0 i x x y own h (same_close x)) s.1.host,
        subst (IsHost many source area) (one_holder many drawn (many_family single many source drawn both area target ns nm rs rm c) r.0 j x x y r.2 k (same_close x))
            (All-contains (IsHost many source area) m.2 r.0 m.3.source_strips.hosts.hosts r.1),
      )
    where
      inner : (a : Rectangle) → SpansColumns a (widened (pos 1) target) → SpansColumns a target
      inner a h = record { left = omega (arith, ints); right = omega (arith, ints) }

next_within : (low high x u : ℤ) → Within low high x → u ≡ x +ℤ pos 1 → Within low high u ⊎ (u ≡ high)
next_within low high x u h e = by_lt_z u high (λ l. inl (record { from = omega (arith, ints); to = l })) (λ l. inr (omega (arith, ints)))

last_within : (low high x u : ℤ) → Within low high x → x ≡ u +ℤ pos 1 → Within low high u ⊎ (u ≡ low -ℤ pos 1)
last_within low high x u h e = by_lt_z u low (λ l. inr (omega (arith, ints))) (λ l. inl (record { from = l; to = omega (arith, ints) }))

-- a cell of both masks beside a cell of a channel is of the channel
channel_closed : (single many : ℤ → ℤ → Type 0) (area : Rectangle) → IsChannel single many area
    → (x y u v : ℤ) → Holds area x y → ShareSide x y u v → single u v → many u v → Holds area u v
channel_closed single many area channel x y u v h (inl (inl e, f)) s m =
    let row : Within area.bottom area.top v = subst (Within area.bottom area.top) (sym f) h.row in
    elim (next_within area.left area.right x u h.column e) [
      | inl w ↦ record { column = w; row = row }
      | inr g ↦ absurd (channel.right_single v row (subst (λ t. single t v) g s))
    ]
channel_closed single many area channel x y u v h (inl (inr e, f)) s m =
    let row : Within area.bottom area.top v = subst (Within area.bottom area.top) (sym f) h.row in
    elim (last_within area.left area.right x u h.column e) [
      | inl w ↦ record { column = w; row = row }
      | inr g ↦ absurd (channel.left_single v row (subst (λ t. single t v) g s))
    ]
channel_closed single many area channel x y u v h (inr (f, inl e)) s m =
    let column : Within area.left area.right u = subst (Within area.left area.right) (sym f) h.column in
    elim (next_within area.bottom area.top y v h.row e) [
      | inl w ↦ record { column = column; row = w }
      | inr g ↦ absurd (channel.above_many u column (subst (many u) g m))
    ]
channel_closed single many area channel x y u v h (inr (f, inr e)) s m =
    let column : Within area.left area.right u = subst (Within area.left area.right) (sym f) h.column in
    elim (last_within area.bottom area.top y v h.row e) [
      | inl w ↦ record { column = column; row = w }
      | inr g ↦ absurd (channel.below_many u column (subst (many u) g m))
    ]

-- a walk over cells of both masks stays in a channel
pub channel_whole : (single many : ℤ → ℤ → Type 0) (area : Rectangle) → IsChannel single many area
    → (cells : ℤ → ℤ → Type 0) → ((u v : ℤ) → cells u v → single u v × many u v)
    → (x y u v : ℤ) → Holds area x y → Joined cells x y u v → Holds area u v
channel_whole single many area channel cells of =
    joined_stays cells (Holds area) (λ x y u v h next d. channel_closed single many area channel x y u v h next (of u v d).0 (of u v d).1)

host_of : (member : ℕ → Type 0) (box : ℕ → Rectangle) (area : Rectangle) (i : ℕ) (x y : ℤ) → HoldsCell member box i x y → Holds area x y → IsHost member box area i
host_of member box area i x y h k = record {
  strip = h.strip;
  columns = common_column (box i) area x h.cell.column k.column;
  rows = common_row (box i) area y h.cell.row k.row;
}

common_cell : (a b : Rectangle) → IsNonempty a → IsNonempty b → ShareColumn a b → ShareRow a b → (x : ℤ) × (y : ℤ) × Holds a x y × Holds b x y
common_cell a b h k over row =
    let x = common_place a b h k over in (
      int_max a.left b.left,
      int_max a.bottom b.bottom,
      record { column = x.0; row = record { from = omega (arith, ints, clamps); to = omega (arith, ints, clamps, h.upwards, row) } },
      record { column = x.1; row = record { from = omega (arith, ints, clamps); to = omega (arith, ints, clamps, k.upwards, row) } },
    )

-- two masks that are carried together, the other way round
pub turned_together : (single many : ℕ → Type 0) (source drawn : ℕ → Rectangle) → AreCarriedTogether single many source drawn → AreCarriedTogether many single source drawn
turned_together single many source drawn both = record {
  single_width = both.many_width;
  single_space = both.many_space;
  many_width = both.single_width;
  many_space = both.single_space;
  near = both.near;
  clear = both.clear;
  some_near = both.some_near;
  some_clear = both.some_clear;
  single_carried = both.many_carried;
  many_carried = both.single_carried;
  kept = turned_clear single many source drawn both.near both.clear both.kept;
  single_unstacked = both.many_unstacked;
  many_unstacked = both.single_unstacked;
}

far_in_row : (n : ℤ) (a b : Rectangle) (x u y : ℤ) → pos 1 ≤ℤ n → AreFar n a b → Holds a x y → Holds b u y → n ≤ℤ between x u
far_in_row n a b x u y p (inl g) h k = omega (arith, ints, clamps, h.column, k.column)
far_in_row n a b x u y p (inr g) h k = absurd (omega (arith, ints, clamps, h.row, k.row))

far_in_column : (n : ℤ) (a b : Rectangle) (x y v : ℤ) → pos 1 ≤ℤ n → AreFar n a b → Holds a x y → Holds b x v → n ≤ℤ between y v
far_in_column n a b x y v p (inl g) h k = absurd (omega (arith, ints, clamps, h.column, k.column))
far_in_column n a b x y v p (inr g) h k = omega (arith, ints, clamps, h.row, k.row)

module _ (first second : ℕ → Type 0) (source drawn : ℕ → Rectangle) (upright lying : ℕ → Type 0) (area target : ℕ → Rectangle)
    (all : AreCarriedChannels first second source drawn upright lying area target) where
  turned : AreCarriedTogether second first source drawn
  turned = turned_together first second source drawn all.together

  -- strips that share a cell of the source cross in a channel, in the source and in the drawing
  pub crossing_at : (i j : ℕ) (x y : ℤ) → HoldsCell first source i x y → HoldsCell second source j x y → (c : ℕ) × CrossIn first second source drawn upright lying area target c i j
  crossing_at i j x y h k =
      let e = all.every x y (record { of_first = record { number = i; holds = h }; of_second = record { number = j; holds = k } }) in
      elim e.1 [
        | inl u ↦ (e.0, inl (u, hosts_cross first second source drawn all.together (area e.0) (target e.0) _ _ _ _ (all.upright_carried e.0 u) i j (host_of first source (area e.0) i x y h e.2) (host_of second source (area e.0) j x y k e.2)))
        | inr l ↦ (e.0, inr (l, hosts_cross second first source drawn turned (area e.0) (target e.0) _ _ _ _ (all.lying_carried e.0 l) j i (host_of second source (area e.0) j x y k e.2) (host_of first source (area e.0) i x y h e.2)))
      ]

  -- and so do strips with a common cell that is known by its ends
  overlap_crosses : (i j : ℕ) → first i → second j → ShareColumn (source i) (source j) → ShareRow (source i) (source j)
      → (c : ℕ) × CrossIn first second source drawn upright lying area target c i j
  overlap_crosses i j m n over row =
      let h = all.together.single_carried.family.nonempty i m in
      let k = all.together.many_carried.family.nonempty j n in
      let cell = common_cell (source i) (source j) h k over row in
      crossing_at i j cell.0 cell.1 (record { strip = m; cell = cell.2 }) (record { strip = n; cell = cell.3 })

  first_drawn : (i : ℕ) → first i → IsNonempty (drawn i)
  first_drawn = drawn_nonempty first source drawn all.together.single_width all.together.single_space all.together.single_carried

  second_drawn : (j : ℕ) → second j → IsNonempty (drawn j)
  second_drawn = drawn_nonempty second source drawn all.together.many_width all.together.many_space all.together.many_carried

  -- strips that share a drawn cell cross in a channel
  pub drawn_crossing_at : (i j : ℕ) (x y : ℤ) → HoldsCell first drawn i x y → HoldsCell second drawn j x y → (c : ℕ) × CrossIn first second source drawn upright lying area target c i j
  drawn_crossing_at i j x y h k =
      let t = all.together in
      let m = source_overlap first second source drawn t.near t.clear t.some_near t.some_clear t.kept i j h.strip k.strip
      (t.single_carried.family.nonempty i h.strip) (t.many_carried.family.nonempty j k.strip)
      (first_drawn i h.strip) (second_drawn j k.strip)
      (common_column (drawn i) (drawn j) x h.cell.column k.cell.column) (common_row (drawn i) (drawn j) y h.cell.row k.cell.row) in
      overlap_crosses i j h.strip k.strip m.0 m.1

  upright_channel : (c : ℕ) → upright c → IsChannel (CoveredBy first drawn) (CoveredBy second drawn) (target c)
  upright_channel c u = drawn_channel first second source drawn all.together (area c) (target c) _ _ _ _ (all.upright_carried c u)

  lying_channel : (c : ℕ) → lying c → IsChannel (CoveredBy second drawn) (CoveredBy first drawn) (target c)
  lying_channel c l = drawn_channel second first source drawn turned (area c) (target c) _ _ _ _ (all.lying_carried c l)

  -- the cells of a drawn channel are of both masks
  pub of_channel : (c : ℕ) (x y : ℤ) → upright c ⊎ lying c → Holds (target c) x y → IsOfBoth (CoveredBy first drawn) (CoveredBy second drawn) x y
  of_channel c x y (inl u) h = record { of_first = (upright_channel c u).of_single.covered x y h; of_second = (upright_channel c u).of_many.covered x y h }
  of_channel c x y (inr l) h = record { of_first = (lying_channel c l).of_many.covered x y h; of_second = (lying_channel c l).of_single.covered x y h }

  -- the strips of a cell of a drawn channel cross in that channel
  cross_of_channel : (c i j : ℕ) (x y : ℤ) → upright c ⊎ lying c → Holds (target c) x y → HoldsCell first drawn i x y → HoldsCell second drawn j x y
      → CrossIn first second source drawn upright lying area target c i j
  cross_of_channel c i j x y (inl u) cell h k =
      let b = back_to_hosts first second source drawn all.together (area c) (target c) _ _ _ _ (all.upright_carried c u) i j x y cell h k in
      inl (u, hosts_cross first second source drawn all.together (area c) (target c) _ _ _ _ (all.upright_carried c u) i j b.0 b.1)
  cross_of_channel c i j x y (inr l) cell h k =
      let b = back_to_hosts second first source drawn turned (area c) (target c) _ _ _ _ (all.lying_carried c l) j i x y cell k h in
      inr (l, hosts_cross second first source drawn turned (area c) (target c) _ _ _ _ (all.lying_carried c l) j i b.0 b.1)

  stands_or_lies : (c i j : ℕ) → CrossIn first second source drawn upright lying area target c i j → upright c ⊎ lying c
  stands_or_lies c i j (inl k) = inl k.0
  stands_or_lies c i j (inr k) = inr k.0

  -- what two crossing strips have in common is of the channel, in the source
  cross_source : (c i j : ℕ) (x y : ℤ) → CrossIn first second source drawn upright lying area target c i j → Holds (source i) x y → Holds (source j) x y → Holds (area c) x y
  cross_source c i j x y (inl k) h g = k.1.in_source.inside x y h.column g.row
  cross_source c i j x y (inr k) h g = k.1.in_source.inside x y g.column h.row

  -- and in the drawing
  cross_drawn : (c i j : ℕ) (x y : ℤ) → CrossIn first second source drawn upright lying area target c i j → Holds (drawn i) x y → Holds (drawn j) x y → Holds (target c) x y
  cross_drawn c i j x y (inl k) h g = k.1.in_drawing.inside x y h.column g.row
  cross_drawn c i j x y (inr k) h g = k.1.in_drawing.inside x y g.column h.row

  -- crossing strips have a common cell in the source
  pub cross_cell : (c i j : ℕ) → first i → second j → CrossIn first second source drawn upright lying area target c i j → (x : ℤ) × (y : ℤ) × Holds (source i) x y × Holds (source j) x y
  cross_cell c i j m n (inl k) =
      crossing_cell source (area c) i j (all.together.single_carried.family.nonempty i m) (all.together.many_carried.family.nonempty j n) k.1.in_source
  cross_cell c i j m n (inr k) =
      let r = crossing_cell source (area c) j i (all.together.many_carried.family.nonempty j n) (all.together.single_carried.family.nonempty i m) k.1.in_source in
      (r.0, r.1, r.3, r.2)

  -- and in the drawing
  pub cross_drawn_cell : (c i j : ℕ) → first i → second j → CrossIn first second source drawn upright lying area target c i j
      → (x : ℤ) × (y : ℤ) × Holds (drawn i) x y × Holds (drawn j) x y
  cross_drawn_cell c i j m n (inl k) = crossing_cell drawn (target c) i j (first_drawn i m) (second_drawn j n) k.1.in_drawing
  cross_drawn_cell c i j m n (inr k) = let r = crossing_cell drawn (target c) j i (second_drawn j n) (first_drawn i m) k.1.in_drawing in (r.0, r.1, r.3, r.2)

  -- every drawn cell of both masks is of a channel
  pub drawn_every : (x y : ℤ) → IsOfBoth (CoveredBy first drawn) (CoveredBy second drawn) x y → (c : ℕ) × (upright c ⊎ lying c) × Holds (target c) x y
  drawn_every x y b =
      let r = drawn_crossing_at b.of_first.number b.of_second.number x y b.of_first.holds b.of_second.holds in
      (r.0, stands_or_lies r.0 _ _ r.1, cross_drawn r.0 _ _ x y r.1 b.of_first.holds.cell b.of_second.holds.cell)

  -- and of one alone
  pub drawn_once : (c d : ℕ) (x y : ℤ) → upright c ⊎ lying c → upright d ⊎ lying d → Holds (target c) x y → Holds (target d) x y → c ≡ d
  drawn_once c d x y is_c is_d h k =
      let b = of_channel c x y is_c h in
      let i = b.of_first.number in
      let j = b.of_second.number in
      let p = cross_of_channel c i j x y is_c h b.of_first.holds b.of_second.holds in
      let q = cross_of_channel d i j x y is_d k b.of_first.holds b.of_second.holds in
      let cell = cross_cell c i j b.of_first.holds.strip b.of_second.holds.strip p in
      all.once c d cell.0 cell.1 is_c is_d (cross_source c i j cell.0 cell.1 p cell.2 cell.3) (cross_source d i j cell.0 cell.1 q cell.2 cell.3)

  drawn_whole : (c : ℕ) (x y u v : ℤ) → upright c ⊎ lying c → Holds (target c) x y → Joined (IsOfBoth (CoveredBy first drawn) (CoveredBy second drawn)) x y u v → Holds (target c) u v
  drawn_whole c x y u v (inl is) h walk =
      channel_whole (CoveredBy first drawn) (CoveredBy second drawn) (target c) (upright_channel c is) (IsOfBoth (CoveredBy first drawn) (CoveredBy second drawn)) (λ p q b. (b.of_first, b.of_second)) x y u v h walk
  drawn_whole c x y u v (inr is) h walk =
      channel_whole (CoveredBy second drawn) (CoveredBy first drawn) (target c) (lying_channel c is) (IsOfBoth (CoveredBy first drawn) (CoveredBy second drawn)) (λ p q b. (b.of_second, b.of_first)) x y u v h walk

  -- the drawn channels are those of the source
  pub drawn_channels : AreDrawnChannels first second source drawn upright lying area target
  drawn_channels = record {
    upright_drawn = upright_channel;
    lying_drawn = lying_channel;
    every = drawn_every;
    once = drawn_once;
    whole = drawn_whole;
    connected = λ c x y u v is h k. joined_inside (IsOfBoth (CoveredBy first drawn) (CoveredBy second drawn)) (target c) (λ p q cell. of_channel c p q is cell) x y u v h k;
  }

  -- a cell of the first mask alone and one of the second alone, in one row or one column
  row_cross : (i j : ℕ) (x u y : ℤ) → HoldsCell first drawn i x y → ¬ CoveredBy second drawn x y → HoldsCell second drawn j u y → ¬ CoveredBy first drawn u y
      → (c : ℕ) → ¬ CrossIn first second source drawn upright lying area target c i j
  row_cross i j x u y h none k empty c (inl cross) = none (of_channel c x y (inl cross.0) (cross.1.in_drawing.inside x y h.cell.column k.cell.row)).of_second
  row_cross i j x u y h none k empty c (inr cross) = empty (of_channel c u y (inr cross.0) (cross.1.in_drawing.inside u y k.cell.column h.cell.row)).of_first

  column_cross : (i j : ℕ) (x y v : ℤ) → HoldsCell first drawn i x y → ¬ CoveredBy second drawn x y → HoldsCell second drawn j x v → ¬ CoveredBy first drawn x v
      → (c : ℕ) → ¬ CrossIn first second source drawn upright lying area target c i j
  column_cross i j x y v h none k empty c (inl cross) = empty (of_channel c x v (inl cross.0) (cross.1.in_drawing.inside x v h.cell.column k.cell.row)).of_first
  column_cross i j x y v h none k empty c (inr cross) = none (of_channel c x y (inr cross.0) (cross.1.in_drawing.inside x y k.cell.column h.cell.row)).of_second

  cross_or_far : (i j : ℕ) → first i → second j → ((c : ℕ) × CrossIn first second source drawn upright lying area target c i j) ⊎ AreFar all.together.clear (drawn i) (drawn j)
  cross_or_far i j m n =
      let t = all.together in
      elim (clear_apart first second source drawn t.near t.clear t.some_near t.kept i j m n (t.single_carried.family.nonempty i m) (t.many_carried.family.nonempty j n)) [
        | inl meet ↦ inl (overlap_crosses i j m n meet.0 meet.1)
        | inr far ↦ inr far
      ]

  -- the drawing keeps the rule cross
  pub keeps_cross : KeepsCross all.together.clear (CoveredBy first drawn) (CoveredBy second drawn)
  keeps_cross = record {
    rows = λ x u y f none g empty. elim (cross_or_far f.number g.number f.holds.strip g.holds.strip) [
      | inl k ↦ absurd (row_cross f.number g.number x u y f.holds none g.holds empty k.0 k.1)
      | inr far ↦ far_in_row all.together.clear (drawn f.number) (drawn g.number) x u y all.together.some_clear far f.holds.cell g.holds.cell
    ];
    columns = λ x y v f none g empty. elim (cross_or_far f.number g.number f.holds.strip g.holds.strip) [
      | inl k ↦ absurd (column_cross f.number g.number x y v f.holds none g.holds empty k.0 k.1)
      | inr far ↦ far_in_column all.together.clear (drawn f.number) (drawn g.number) x y v all.together.some_clear far f.holds.cell g.holds.cell
    ];
  }
