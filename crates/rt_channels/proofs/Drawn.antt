-- A channel in the drawing: the same strips meet it in the same way, so the rectangle that is drawn for a channel is a channel.
use Rattle.std.proofs.Common.{◌≡◌, ℕ, ℤ, pos, ◌+ℤ◌, ◌-ℤ◌, ◌≤ℤ◌, ◌<ℤ◌, List, [], All, sym, subst, ◌∙◌, arith}
use Rattle.std.proofs.lemmas.Int.{ints, by_lt_z}
use Rattle.std.proofs.lemmas.List.Elements.{All-nil, All-cons, All-contains, All-weaker}
use Rattle.std.specs.Int.{int_max}
use mathlib.Core.Logic.{inl, inr}
use Rattle.rt_cells.specs.Line.{Within}
use Rattle.rt_cells.specs.Rectangles.{Rectangle, IsNonempty}
use Rattle.rt_cells.proofs.Lines.{first_place, last_place, one_before, not_before, not_after, antisymmetric}
use Rattle.rt_family.specs.Strips.{ShareColumn, ShareRow, SpansColumns, HoldsCell, CoveredBy, IsFamily, StandsOn, IsChain, IsHost}
use Rattle.rt_family.specs.Strips.IsChain.{one, more}
use Rattle.rt_family.specs.Carried.{IsCarried}
use Rattle.rt_family.proofs.Strips.{common_row, common_column, common_place, held_on, held_covered, stands_above}
use Rattle.rt_family.proofs.Chains.{spans_place, head_of, has_hosts}
use Rattle.rt_family.proofs.Drawn.{drawn_nonempty, drawn_family, source_stands}
use Rattle.rt_family.proofs.Columns.{chain_drawn}
use Rattle.rt_family.proofs.Hosted.{drawn_hosts_cover}
use Rattle.rt_channels.specs.Channels.{widened, stretched, SpansRows, IsFilled, IsChannel, IsSingleStrip, AreManyStrips, IsCarriedChannel, AreCarriedTogether}
use Rattle.rt_channels.proofs.Clear.{source_overlap, above_over, below_over}
use Rattle.rt_channels.proofs.Source.{end_of, single_strip, many_strips, close_before, close_after, same_first}

up_seam : (bottom top next high : ℤ) → bottom <ℤ top → top ≡ next → next ≤ℤ high → top ≤ℤ high
up_seam bottom top next high h e k = omega (arith, ints)

-- the strips of a chain that begins and ends within a rectangle keep to its rows
chain_rows : (member : ℕ → Type 0) (box : ℕ → Rectangle) (area : Rectangle) → ((i : ℕ) → member i → IsNonempty (box i))
    → (first : ℕ) (chain : List ℕ) (last : ℕ) → IsChain member box first chain last → area.bottom ≤ℤ (box first).bottom → (box last).top ≤ℤ area.top
    → All (λ k. SpansRows area (box k)) chain × ((box first).top ≤ℤ area.top)
chain_rows member box area nonempty i _ _ (one _ m) h k =
    (All-cons (λ k. SpansRows area (box k)) i [] (record { bottom = h; top = k }) (All-nil (λ k. SpansRows area (box k))), k)
chain_rows member box area nonempty i _ last (more _ j _ rest stands c) h k =
    let r = chain_rows member box area nonempty j rest last c (omega (arith, ints, stands.adjoin, (nonempty i stands.lower).upwards)) k in
    let t : (box i).top ≤ℤ area.top = omega (arith, ints, stands.adjoin, (nonempty j stands.upper).upwards, r.1) in
    (All-cons (λ k. SpansRows area (box k)) i rest (record { bottom = h; top = t }) r.0, t)

spans_both : (a b c : Rectangle) → SpansColumns a c → SpansColumns b c → c.left <ℤ c.right → ShareColumn a b
spans_both a b c h k l = record { first = omega (arith, ints); second = omega (arith, ints) }

spans_inside : (n : ℤ) (a b : Rectangle) → pos 1 ≤ℤ n → SpansColumns a (widened n b) → SpansColumns a b
spans_inside n a b p h = record { left = omega (arith, ints); right = omega (arith, ints) }

same_below : (a b c : ℤ) → a ≤ℤ b → b ≡ c → a ≤ℤ c
same_below a b c h e = omega (arith, ints)

below_by : (n a b : ℤ) → pos 1 ≤ℤ n → (a +ℤ n) ≤ℤ b → (a +ℤ pos 1) ≤ℤ b
below_by n a b p h = omega (arith, ints)

module _ (single many : ℕ → Type 0) (source drawn : ℕ → Rectangle) (both : AreCarriedTogether single many source drawn)
    (area target : Rectangle) (ns nm rs rm : ℤ) (c : IsCarriedChannel single many source drawn area target ns nm rs rm) where
  of_single : IsCarried single source drawn both.single_width both.single_space
  of_single = both.single_carried

  of_many : IsCarried many source drawn both.many_width both.many_space
  of_many = both.many_carried

  pub single_drawn : (i : ℕ) → single i → IsNonempty (drawn i)
  single_drawn = drawn_nonempty single source drawn both.single_width both.single_space both.single_carried

  pub many_drawn : (i : ℕ) → many i → IsNonempty (drawn i)
  many_drawn = drawn_nonempty many source drawn both.many_width both.many_space both.many_carried

  pub single_family : IsFamily single drawn
  single_family = drawn_family single source drawn both.single_width both.single_space both.single_carried

  pub many_family : IsFamily many drawn
  many_family = drawn_family many source drawn both.many_width both.many_space both.many_carried

  -- what meets the channel meets what it reaches
  pub reached : (i : ℕ) → IsHost single source area i → IsHost single source (stretched ns area) i
  reached i host = record {
    strip = host.strip;
    columns = record { first = host.columns.first; second = host.columns.second };
    rows = stretched_rows ns (source i) area c.some_near_single host.rows;
  }
    where
      stretched_rows : (n : ℤ) (a b : Rectangle) → pos 1 ≤ℤ n → ShareRow a b → ShareRow a (stretched n b)
      stretched_rows n a b p h = record { first = omega (arith, ints); second = omega (arith, ints) }

  pub reached_across : (i : ℕ) → IsHost many source area i → IsHost many source (widened nm area) i
  reached_across i host = record {
    strip = host.strip;
    columns = widened_columns nm (source i) area c.some_near_many host.columns;
    rows = record { first = host.rows.first; second = host.rows.second };
  }
    where
      widened_columns : (n : ℤ) (a b : Rectangle) → pos 1 ≤ℤ n → ShareColumn a b → ShareColumn a (widened n b)
      widened_columns n a b p h = record { first = omega (arith, ints); second = omega (arith, ints) }

  -- the strips of the many mask that meet the channel are drawn over its columns and more, within its rows
  pub many_jut : (i : ℕ) → IsHost many source area i → SpansColumns (drawn i) (widened rm target)
  many_jut i host = c.many_across i (reached_across i host)

  -- the same strips, from the lowest to the highest, are drawn from the bottom of the channel to its top
  pub record AreDrawnMany (first last : ℕ) (chain : List ℕ) : Type 0 where
    pub source_strips : AreManyStrips single many source area first last chain
    pub first_host : IsHost many source area first
    pub last_host : IsHost many source area last
    pub bottom : (drawn first).bottom ≡ target.bottom
    pub top : (drawn last).top ≡ target.top
    pub rows : (i : ℕ) → IsHost many source area i → SpansRows target (drawn i)

  pub drawn_many : (first : ℕ) × (last : ℕ) × (chain : List ℕ) × AreDrawnMany first last chain
  drawn_many =
      let h = many_strips single many source area c.channel of_many.family in
      let hosts = h.3.hosts in
      let head : IsHost many source area h.0 = All-contains (IsHost many source area) h.2 h.0 hosts.hosts (head_of many source h.0 h.2 h.1 hosts.stacked) in
      let end : IsHost many source area h.1 = All-contains (IsHost many source area) h.2 h.1 hosts.hosts (end_of many source h.0 h.2 h.1 hosts.stacked) in
      let low : (drawn h.0).bottom ≡ target.bottom = c.many_below h.0 (record { host = head; lowest = hosts.lowest.from }) in
      let high : (drawn h.1).top ≡ target.top = c.many_above h.1 (record { host = end; highest = hosts.highest_ends }) in
      let r = chain_rows many drawn target many_drawn h.0 h.2 h.1 (chain_drawn many source drawn both.many_width both.many_space both.many_carried h.0 h.2 h.1 hosts.stacked) (omega (arith, ints, low)) (omega (arith, ints, high)) in (
        h.0,
        h.1,
        h.2,
        record {
          source_strips = h.3;
          first_host = head;
          last_host = end;
          bottom = low;
          top = high;
          rows = λ i host. All-contains (λ k. SpansRows target (drawn k)) h.2 i r.0 (hosts.every i host);
        },
      )

  -- the many mask covers the drawn channel and its reach across
  pub many_filled : IsFilled (CoveredBy many drawn) (widened rm target)
  many_filled = record {
    covered = λ x y cell.
        let h = drawn_many in
        let r = drawn_hosts_cover many source drawn both.many_width both.many_space both.many_carried h.0 h.1 h.2 h.3.source_strips.hosts.stacked (widened rm target)
        (All-weaker (IsHost many source area) (λ k. SpansColumns (drawn k) (widened rm target)) many_jut h.2 h.3.source_strips.hosts.hosts)
        (omega (arith, ints, h.3.bottom)) (omega (arith, ints, h.3.top)) x y cell in
        record { number = r.0; holds = r.2 };
  }

  -- the single mask covers the drawn channel and its reach upwards
  pub single_filled : IsFilled (CoveredBy single drawn) (stretched rs target)
  single_filled = record {
    covered = λ x y cell.
        let h = has_hosts single source of_single.family (stretched ns area) (stretched_nonempty ns area c.some_near_single c.channel.nonempty) c.single_reaches.covered in
        let hosts = h.3 in
        let head : IsHost single source (stretched ns area) h.0 = All-contains (IsHost single source (stretched ns area)) h.2 h.0 hosts.hosts (head_of single source h.0 h.2 h.1 hosts.stacked) in
        let end : IsHost single source (stretched ns area) h.1 = All-contains (IsHost single source (stretched ns area)) h.2 h.1 hosts.hosts (end_of single source h.0 h.2 h.1 hosts.stacked) in
        let r = drawn_hosts_cover single source drawn both.single_width both.single_space both.single_carried h.0 h.1 h.2 hosts.stacked (stretched rs target)
        (All-weaker (IsHost single source (stretched ns area)) (λ k. SpansColumns (drawn k) (stretched rs target)) (λ k host. same_columns (drawn k) (c.single_across k host)) h.2 hosts.hosts)
        (less _ _ _ (c.single_below h.0 (record { host = head; lowest = hosts.lowest.from })))
        (c.single_above h.1 (record { host = end; highest = hosts.highest_ends })) x y cell in
        record { number = r.0; holds = r.2 };
  }
    where
      stretched_nonempty : (n : ℤ) (a : Rectangle) → pos 1 ≤ℤ n → IsNonempty a → IsNonempty (stretched n a)
      stretched_nonempty n a p h = record { across = h.across; upwards = omega (arith, ints) }

      same_columns : (a : Rectangle) → SpansColumns a target → SpansColumns a (stretched rs target)
      same_columns a h = record { left = h.left; right = h.right }

      less : (a n b : ℤ) → (a +ℤ n) ≤ℤ b → a ≤ℤ (b -ℤ n)
      less a n b h = omega (arith, ints)

  -- the single strip in the drawing has the drawn channel's columns, and rows below and above it
  pub record IsDrawnSingle (o : ℕ) : Type 0 where
    pub in_source : IsSingleStrip single many source area o
    pub host : IsHost single source area o
    pub left : (drawn o).left ≡ target.left
    pub right : (drawn o).right ≡ target.right
    pub below : ((drawn o).bottom +ℤ pos 1) ≤ℤ target.bottom
    pub above : (target.top +ℤ pos 1) ≤ℤ (drawn o).top

  -- a strip of the single mask below the one in the channel is drawn so far below the strips of the many mask
  seam_below : (h o : ℕ) → StandsOn single source h o → IsHost single source (stretched ns area) h → (source o).bottom ≤ℤ area.bottom
      → ((drawn o).bottom +ℤ pos 1) ≤ℤ target.bottom
  seam_below h o stands host low =
      let chain = drawn_many in
      let kept = above_over single many source drawn both.near both.clear both.some_near both.some_clear both.kept h chain.0 host.strip chain.3.first_host.strip
      (single_drawn h host.strip) (many_drawn chain.0 chain.3.first_host.strip)
      (spans_both (drawn h) (drawn chain.0) target (c.single_across h host) (spans_inside rm (drawn chain.0) target c.some_reach_many (many_jut chain.0 chain.3.first_host)) c.nonempty.across)
      (through _ _ _ _ stands.adjoin low chain.3.source_strips.bottom) in
      lifted both.clear _ _ _ _ both.some_clear kept (of_single.adjoin h o stands) chain.3.bottom
    where
      through : (t b a l : ℤ) → t ≡ b → b ≤ℤ a → l ≡ a → t ≤ℤ l
      through t b a l e h f = omega (arith, ints)

      lifted : (n t b l a : ℤ) → pos 1 ≤ℤ n → (t +ℤ n) ≤ℤ l → t ≡ b → l ≡ a → (b +ℤ pos 1) ≤ℤ a
      lifted n t b l a p h e f = omega (arith, ints)

  -- and one above it so far above them
  seam_above : (o h : ℕ) → StandsOn single source o h → IsHost single source (stretched ns area) h → area.top ≤ℤ (source o).top
      → (target.top +ℤ pos 1) ≤ℤ (drawn o).top
  seam_above o h stands host high =
      let chain = drawn_many in
      let kept = below_over single many source drawn both.near both.clear both.some_near both.some_clear both.kept h chain.1 host.strip chain.3.last_host.strip
      (single_drawn h host.strip) (many_drawn chain.1 chain.3.last_host.strip)
      (spans_both (drawn h) (drawn chain.1) target (c.single_across h host) (spans_inside rm (drawn chain.1) target c.some_reach_many (many_jut chain.1 chain.3.last_host)) c.nonempty.across)
      (through _ _ _ _ stands.adjoin high chain.3.source_strips.top) in
      lifted both.clear _ _ _ _ both.some_clear kept (of_single.adjoin o h stands) chain.3.top
    where
      through : (t b a l : ℤ) → t ≡ b → a ≤ℤ t → l ≡ a → l ≤ℤ b
      through t b a l e h f = omega (arith, ints)

      lifted : (n t b l a : ℤ) → pos 1 ≤ℤ n → (l +ℤ n) ≤ℤ b → t ≡ b → l ≡ a → (a +ℤ pos 1) ≤ℤ t
      lifted n t b l a p h e f = omega (arith, ints)

  module _ (o : ℕ) (strip : IsSingleStrip single many source area o) where
    single_host : IsHost single source area o
    single_host = record {
      strip = strip.strip;
      columns = same_columns_share (source o) area c.channel.nonempty strip.left strip.right;
      rows = spans_rows_share (source o) area c.channel.nonempty strip.rows;
    }
      where
        same_columns_share : (a b : Rectangle) → IsNonempty b → a.left ≡ b.left → a.right ≡ b.right → ShareColumn a b
        same_columns_share a b h e f = record { first = omega (arith, ints, h.across); second = omega (arith, ints, h.across) }

        spans_rows_share : (a b : Rectangle) → IsNonempty b → SpansRows a b → ShareRow a b
        spans_rows_share a b h r = record { first = omega (arith, ints, h.upwards); second = omega (arith, ints, h.upwards) }

    holds_first : (y : ℤ) → Within (source o).bottom (source o).top y → HoldsCell single source o area.left y
    holds_first y h = record { strip = strip.strip; cell = record { column = same_first _ _ _ _ strip.left strip.right c.channel.nonempty.across; row = h } }

    own_rows : (source o).bottom <ℤ (source o).top
    own_rows = (of_single.family.nonempty o strip.strip).upwards

    host_at : (h : ℕ) (y : ℤ) → HoldsCell single source h area.left y → Within (area.bottom -ℤ ns) (area.top +ℤ ns) y → IsHost single source (stretched ns area) h
    host_at h y holds inside = record {
      strip = holds.strip;
      columns = common_column (source h) (stretched ns area) area.left holds.cell.column (first_place _ _ c.channel.nonempty.across);
      rows = common_row (source h) (stretched ns area) y holds.cell.row inside;
    }

    -- the single strip is drawn from below the channel
    begins_below : ((drawn o).bottom +ℤ pos 1) ≤ℤ target.bottom
    begins_below =
        by_lt_z (area.bottom -ℤ ns) (source o).bottom
        (λ l.
        let y = (source o).bottom -ℤ pos 1 in
        let inside = in_reach area.bottom area.top ns (source o).bottom c.some_near_single c.channel.nonempty.upwards l strip.rows.bottom in
        let k = c.single_reaches.covered area.left y (record { column = first_place _ _ c.channel.nonempty.across; row = inside }) in
        let high : HoldsCell single source o area.left (y +ℤ pos 1) = subst (HoldsCell single source o area.left) (one_before (source o).bottom) (holds_first (source o).bottom (first_place _ _ own_rows)) in
        elim (stands_above single source of_single.family k.number o area.left y k.holds high) [
          | inl same ↦ absurd (not_before _ _ (subst (λ t. HoldsCell single source t area.left y) same k.holds).cell.row)
          | inr stands ↦ seam_below k.number o stands (host_at k.number y k.holds inside) strip.rows.bottom
        ])
        (λ l. below_by rs _ _ c.some_reach_single (c.single_below o (record { host = reached o single_host; lowest = l })))
      where
        in_reach : (bottom top n b : ℤ) → pos 1 ≤ℤ n → bottom <ℤ top → (bottom -ℤ n) <ℤ b → b ≤ℤ bottom → Within (bottom -ℤ n) (top +ℤ n) (b -ℤ pos 1)
        in_reach bottom top n b p h k l = record { from = omega (arith, ints); to = omega (arith, ints) }

    -- and ends above it
    ends_above : (target.top +ℤ pos 1) ≤ℤ (drawn o).top
    ends_above =
        by_lt_z (source o).top (area.top +ℤ ns)
        (λ l.
        let y = (source o).top in
        let inside = in_reach area.bottom area.top ns (source o).top c.some_near_single c.channel.nonempty.upwards l strip.rows.top in
        let k = c.single_reaches.covered area.left y (record { column = first_place _ _ c.channel.nonempty.across; row = inside }) in
        let high : HoldsCell single source k.number area.left ((y -ℤ pos 1) +ℤ pos 1) = subst (HoldsCell single source k.number area.left) (one_before y) k.holds in
        elim (stands_above single source of_single.family o k.number area.left (y -ℤ pos 1) (holds_first (y -ℤ pos 1) (last_place _ _ own_rows)) high) [
          | inl same ↦ absurd (not_after _ _ (subst (λ t. HoldsCell single source t area.left y) (sym same) k.holds).cell.row)
          | inr stands ↦ seam_above o k.number stands (host_at k.number y k.holds inside) strip.rows.top
        ])
        (λ l. below_by rs _ _ c.some_reach_single (c.single_above o (record { host = reached o single_host; highest = l })))
      where
        in_reach : (bottom top n t : ℤ) → pos 1 ≤ℤ n → bottom <ℤ top → t <ℤ (top +ℤ n) → top ≤ℤ t → Within (bottom -ℤ n) (top +ℤ n) t
        in_reach bottom top n t p h k l = record { from = omega (arith, ints); to = k }

    pub drawn_single : IsDrawnSingle o
    drawn_single =
        let wide = c.single_across o (reached o single_host) in
        let equal = c.single_equal o single_host in
        record {
          in_source = strip;
          host = single_host;
          left = antisymmetric _ _ wide.left equal.left;
          right = antisymmetric _ _ equal.right wide.right;
          below = begins_below;
          above = ends_above;
        }

  -- the single strip holds the cells of the drawn channel, and those below and above it
  pub single_holds : (o : ℕ) → IsDrawnSingle o → (x y : ℤ) → Within target.left target.right x → Within (target.bottom -ℤ pos 1) (target.top +ℤ pos 1) y → HoldsCell single drawn o x y
  single_holds o s x y h k = record {
    strip = s.host.strip;
    cell = record { column = same_columns _ _ _ _ _ s.left s.right h; row = wider_rows (drawn o).bottom (drawn o).top target.bottom target.top y s.below s.above k };
  }
    where
      same_columns : (low high a b x : ℤ) → low ≡ a → high ≡ b → Within a b x → Within low high x
      same_columns low high a b x e f h = record { from = omega (arith, ints); to = omega (arith, ints) }

      wider_rows : (low high a b y : ℤ) → (low +ℤ pos 1) ≤ℤ a → (b +ℤ pos 1) ≤ℤ high → Within (a -ℤ pos 1) (b +ℤ pos 1) y → Within low high y
      wider_rows low high a b y e f h = record { from = omega (arith, ints); to = omega (arith, ints) }

  pub the_single : (o : ℕ) × IsDrawnSingle o
  the_single =
      let s = single_strip single many source area c.channel of_single.family both.single_unstacked in
      (s.0, drawn_single s.0 s.1)

  pub in_target : (y : ℤ) → Within target.bottom target.top y → Within (target.bottom -ℤ pos 1) (target.top +ℤ pos 1) y
  in_target y h = record { from = omega (arith, ints, h); to = omega (arith, ints, h) }

  just_below : Within (target.bottom -ℤ pos 1) (target.top +ℤ pos 1) (target.bottom -ℤ pos 1)
  just_below = record { from = omega (arith, ints); to = omega (arith, ints, c.nonempty.upwards) }

  just_above : Within (target.bottom -ℤ pos 1) (target.top +ℤ pos 1) target.top
  just_above = record { from = omega (arith, ints, c.nonempty.upwards); to = omega (arith, ints) }

  -- a cell that the many mask has in the columns of the drawn channel and in the rows of its single strip: in the source the two strips meet
  meet_in_source : (o a : ℕ) (x y : ℤ) → HoldsCell single drawn o x y → HoldsCell many drawn a x y → ShareColumn (source o) (source a) × ShareRow (source o) (source a)
  meet_in_source o a x y h k =
      source_overlap single many source drawn both.near both.clear both.some_near both.some_clear both.kept o a h.strip k.strip
      (of_single.family.nonempty o h.strip) (of_many.family.nonempty a k.strip) (single_drawn o h.strip) (many_drawn a k.strip)
      (common_column (drawn o) (drawn a) x h.cell.column k.cell.column) (common_row (drawn o) (drawn a) y h.cell.row k.cell.row)

  -- a strip of the many mask over a column of the single strip: the column is one of the channel
  over_channel : (o a : ℕ) → IsSingleStrip single many source area o → single o → many a → ShareColumn (source o) (source a)
      → (x : ℤ) × Within area.left area.right x × Within (source a).left (source a).right x
  over_channel o a s m n over =
      let x = common_place (source o) (source a) (of_single.family.nonempty o m) (of_many.family.nonempty a n) over in
      (int_max (source o).left (source a).left, same_columns _ _ _ _ _ s.left s.right x.0, x.1)
    where
      same_columns : (low high a b x : ℤ) → low ≡ a → high ≡ b → Within low high x → Within a b x
      same_columns low high a b x e f h = record { from = omega (arith, ints); to = omega (arith, ints) }

  -- no strip of the many mask is drawn right below the channel
  none_below : (x : ℤ) → Within target.left target.right x → ¬ CoveredBy many drawn x (target.bottom -ℤ pos 1)
  none_below x h k =
      let s = the_single in
      let chain = drawn_many in
      let first : HoldsCell many drawn chain.0 x ((target.bottom -ℤ pos 1) +ℤ pos 1) =
      subst (HoldsCell many drawn chain.0 x) (chain.3.bottom ∙ one_before target.bottom)
      (record {
        strip = chain.3.first_host.strip;
        cell = record { column = spans_place (drawn chain.0) target x (spans_inside rm (drawn chain.0) target c.some_reach_many (many_jut chain.0 chain.3.first_host)) h; row = first_place _ _ (many_drawn chain.0 chain.3.first_host.strip).upwards };
      }) in
      elim (stands_above many drawn many_family k.number chain.0 x (target.bottom -ℤ pos 1) k.holds first) [
        | inl same ↦ absurd (starts_later _ _ _ chain.3.bottom (subst (λ t. HoldsCell many drawn t x (target.bottom -ℤ pos 1)) same k.holds).cell.row)
        | inr stands ↦
            let below = source_stands many source drawn both.many_width both.many_space both.many_carried k.number chain.0 stands in
            let over = over_channel s.0 k.number s.1.in_source s.1.host.strip k.holds.strip (meet_in_source s.0 k.number x (target.bottom -ℤ pos 1) (single_holds s.0 s.1 x _ h just_below) k.holds).0 in
            c.channel.below_many over.0 over.1 (record {
              number = k.number;
              holds = record {
                strip = k.holds.strip;
                cell = record { column = over.2; row = last_row _ _ _ _ (of_many.family.nonempty k.number k.holds.strip).upwards below.adjoin chain.3.source_strips.bottom };
              };
            })
      ]
    where
      starts_later : (low high a : ℤ) → low ≡ a → Within low high (a -ℤ pos 1) → ⊥
      starts_later low high a e h = omega (arith, ints)

      last_row : (low high next a : ℤ) → low <ℤ high → high ≡ next → next ≡ a → Within low high (a -ℤ pos 1)
      last_row low high next a h e f = record { from = omega (arith, ints); to = omega (arith, ints) }

  -- and none right above it
  none_above : (x : ℤ) → Within target.left target.right x → ¬ CoveredBy many drawn x target.top
  none_above x h k =
      let s = the_single in
      let chain = drawn_many in
      let last : HoldsCell many drawn chain.1 x (target.top -ℤ pos 1) =
      subst (λ t. HoldsCell many drawn chain.1 x (t -ℤ pos 1)) chain.3.top
      (record {
        strip = chain.3.last_host.strip;
        cell = record { column = spans_place (drawn chain.1) target x (spans_inside rm (drawn chain.1) target c.some_reach_many (many_jut chain.1 chain.3.last_host)) h; row = last_place _ _ (many_drawn chain.1 chain.3.last_host.strip).upwards };
      }) in
      let next : HoldsCell many drawn k.number x ((target.top -ℤ pos 1) +ℤ pos 1) = subst (HoldsCell many drawn k.number x) (one_before target.top) k.holds in
      elim (stands_above many drawn many_family chain.1 k.number x (target.top -ℤ pos 1) last next) [
        | inl same ↦ absurd (ends_before _ _ _ chain.3.top (subst (λ t. HoldsCell many drawn t x target.top) (sym same) k.holds).cell.row)
        | inr stands ↦
            let above = source_stands many source drawn both.many_width both.many_space both.many_carried chain.1 k.number stands in
            let over = over_channel s.0 k.number s.1.in_source s.1.host.strip k.holds.strip (meet_in_source s.0 k.number x target.top (single_holds s.0 s.1 x _ h just_above) k.holds).0 in
            c.channel.above_many over.0 over.1 (record {
              number = k.number;
              holds = record {
                strip = k.holds.strip;
                cell = record { column = over.2; row = first_row _ _ _ _ (of_many.family.nonempty k.number k.holds.strip).upwards above.adjoin chain.3.source_strips.top };
              };
            })
      ]
    where
      ends_before : (low high a : ℤ) → high ≡ a → Within low high a → ⊥
      ends_before low high a e h = omega (arith, ints)

      first_row : (low high t a : ℤ) → low <ℤ high → t ≡ low → t ≡ a → Within low high a
      first_row low high t a h e f = record { from = omega (arith, ints); to = omega (arith, ints) }

  -- what is drawn for a channel is a channel
  pub drawn_channel : IsChannel (CoveredBy single drawn) (CoveredBy many drawn) target
  drawn_channel =
      let s = the_single in
      let first = first_place _ _ c.nonempty.across in
      let last = last_place _ _ c.nonempty.across in
      let held : (x y : ℤ) → Within target.left target.right x → Within (target.bottom -ℤ pos 1) (target.top +ℤ pos 1) y → CoveredBy single drawn x y =
      λ x y h k. held_covered single drawn single_family s.0 x y (single_holds s.0 s.1 x y h k) in
      record {
        nonempty = c.nonempty;
        of_single = record { covered = λ x y cell. held x y cell.column (in_target y cell.row) };
        of_many = record { covered = λ x y cell. many_filled.covered x y (record { column = wider rm target.left target.right x c.some_reach_many cell.column; row = cell.row }) };
        left_many = λ y h. many_filled.covered _ y (record { column = left_of rm target.left target.right c.some_reach_many c.nonempty.across; row = h });
        right_many = λ y h. many_filled.covered _ y (record { column = right_of rm target.left target.right c.some_reach_many c.nonempty.across; row = h });
        left_single = λ y h k. starts_there _ _ _ s.1.left (held_on single drawn single_family s.0 _ _ y (single_holds s.0 s.1 target.left y first (in_target y h)) (close_before _) k).cell.column;
        right_single = λ y h k. ends_there _ _ _ s.1.right (held_on single drawn single_family s.0 _ _ y (single_holds s.0 s.1 (target.right -ℤ pos 1) y last (in_target y h)) (close_after _) k).cell.column;
        below_single = λ x h. held x _ h just_below;
        above_single = λ x h. held x _ h just_above;
        below_many = none_below;
        above_many = none_above;
      }
    where
      wider : (n low high x : ℤ) → pos 1 ≤ℤ n → Within low high x → Within (low -ℤ n) (high +ℤ n) x
      wider n low high x p h = record { from = omega (arith, ints); to = omega (arith, ints) }

      left_of : (n low high : ℤ) → pos 1 ≤ℤ n → low <ℤ high → Within (low -ℤ n) (high +ℤ n) (low -ℤ pos 1)
      left_of n low high p h = record { from = omega (arith, ints); to = omega (arith, ints) }

      right_of : (n low high : ℤ) → pos 1 ≤ℤ n → low <ℤ high → Within (low -ℤ n) (high +ℤ n) high
      right_of n low high p h = record { from = omega (arith, ints); to = omega (arith, ints) }

      starts_there : (low high a : ℤ) → low ≡ a → Within low high (a -ℤ pos 1) → ⊥
      starts_there low high a e h = omega (arith, ints)

      ends_there : (low high a : ℤ) → high ≡ a → Within low high a → ⊥
      ends_there low high a e h = omega (arith, ints)
