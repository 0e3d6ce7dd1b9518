-- The hosts of a covered rectangle: from the lowest to the highest, each stands on the one before, and all span its columns.
use Rattle.std.proofs.Common.{◌≡◌, ℕ, zero, suc, ℤ, pos, ◌+ℤ◌, ◌-ℤ◌, ◌≤ℤ◌, ◌<ℤ◌, List, [], ◌∷◌, All, Contains, sym, subst, arith, inl, inr}
use Rattle.std.proofs.lemmas.Int.{ints, clamps, by_lt_z}
use Rattle.std.proofs.lemmas.List.Elements.{All-nil, All-cons, All-contains, Contains-push, Contains-append_left, Contains-append_right}
use Rattle.std.specs.Int.{int_max}
use Rattle.rt_cells.specs.Line.{Within}
use Rattle.rt_cells.specs.Rectangles.{Rectangle, IsNonempty, Holds}
use Rattle.rt_cells.proofs.Lines.{within, first_place, last_place, one_before, at_most}
use Rattle.rt_family.specs.Strips.{ShareRow, SpansColumns, HoldsCell, CoveredBy, IsFamily, StandsOn, IsChain, IsHost, AreHosts}
use Rattle.rt_family.specs.Strips.IsChain.{one, more}
use Rattle.rt_family.proofs.Places.{steps_to}
use Rattle.rt_family.proofs.Strips.{same_close, common_row, common_place, one_holder, spanned, stands_above}

-- the first of a list is in it
pub Contains-head : (i : ℕ) (rest : List ℕ) → Contains (i ∷ rest) i
Contains-head i rest = Contains-append_left (i ∷ []) rest i (Contains-push [] i)

-- what is in the rest of a list is in it
pub Contains-rest : (i : ℕ) (rest : List ℕ) (k : ℕ) → Contains rest k → Contains (i ∷ rest) k
Contains-rest i rest k c = Contains-append_right (i ∷ []) rest k c

at_top : (low high top y : ℤ) → Within low top y → high <ℤ top → y <ℤ high → Within low top high
at_top low high top y h k l = record { from = omega (arith, ints); to = k }

pub spans_place : (a b : Rectangle) (x : ℤ) → SpansColumns a b → Within b.left b.right x → Within a.left a.right x
spans_place a b x h k = record { from = omega (arith, ints); to = omega (arith, ints) }

common_row_place : (a b : Rectangle) → IsNonempty a → IsNonempty b → ShareRow a b
    → Within a.bottom a.top (int_max a.bottom b.bottom) × Within b.bottom b.top (int_max a.bottom b.bottom)
common_row_place a b h k over = (within _ _ _ (omega (arith, ints, clamps)) (omega (arith, ints, clamps)), within _ _ _ (omega (arith, ints, clamps)) (omega (arith, ints, clamps)))

-- the first strip of a chain is in it
pub head_of : (member : ℕ → Type 0) (box : ℕ → Rectangle) (first : ℕ) (chain : List ℕ) (last : ℕ) → IsChain member box first chain last → Contains chain first
head_of member box i _ _ (one _ m) = Contains-head i []
head_of member box i _ last (more _ j _ rest stands c) = Contains-head i rest

-- each row from the lowest of a chain up to its highest is of a strip of the chain
pub chain_holds : (member : ℕ → Type 0) (box : ℕ → Rectangle) (y : ℤ) (first : ℕ) (chain : List ℕ) (last : ℕ) → IsChain member box first chain last
    → (box first).bottom ≤ℤ y → y <ℤ (box last).top → (k : ℕ) × Contains chain k × member k × Within (box k).bottom (box k).top y
chain_holds member box y i _ _ (one _ m) h k = (i, Contains-head i [], m, within _ _ _ h k)
chain_holds member box y i _ last (more _ j _ rest stands c) h k =
    by_lt_z y (box i).top
    (λ l. (i, Contains-head i rest, stands.lower, within _ _ _ h l))
    (λ l. let r = chain_holds member box y j rest last c (omega (arith, ints, stands.adjoin)) k in (r.0, Contains-rest i rest r.0 r.1, r.2, r.3))

module _ (member : ℕ → Type 0) (box : ℕ → Rectangle) (family : IsFamily member box) (area : Rectangle) (nonempty : IsNonempty area)
    (filled : (x y : ℤ) → Holds area x y → CoveredBy member box x y) where
  -- strip i spans the columns of the rectangle at the row y
  record Spans (i : ℕ) (y : ℤ) : Type 0 where
    holds : HoldsCell member box i area.left y
    right : area.right ≤ℤ (box i).right

  -- what leads from strip i up to the highest host
  record LeadsUp (i : ℕ) : Type 0 where
    last : ℕ
    chain : List ℕ
    stacked : IsChain member box i chain last
    wide : All (λ k. SpansColumns (box k) area) chain
    hosts : All (IsHost member box area) chain
    highest_begins : (box last).bottom <ℤ area.top
    highest_ends : area.top ≤ℤ (box last).top

  span_at : (y : ℤ) → Within area.bottom area.top y → (i : ℕ) × Spans i y
  span_at y h =
      let s = spanned member box family area.left area.right y nonempty.across (λ x k. filled x y (record { column = k; row = h })) in
      (s.0, record { holds = s.1; right = s.2 })

  spans_columns : (i : ℕ) (y : ℤ) → Spans i y → SpansColumns (box i) area
  spans_columns i y span = record { left = span.holds.cell.column.from; right = span.right }

  spans_host : (i : ℕ) (y : ℤ) → Within area.bottom area.top y → Spans i y → IsHost member box area i
  spans_host i y h span = record {
    strip = span.holds.strip;
    columns = record { first = omega (arith, ints, (family.nonempty i span.holds.strip).across, nonempty.across, spans_columns i y span); second = omega (arith, ints, (family.nonempty i span.holds.strip).across, nonempty.across, spans_columns i y span) };
    rows = common_row (box i) area y span.holds.cell.row h;
  }

  next_host : (i j : ℕ) (y : ℤ) → Spans i y → Spans j (box i).top → StandsOn member box i j
  next_host i j y span next =
      let m = span.holds.strip in
      let low : HoldsCell member box i area.left ((box i).top -ℤ pos 1) =
      record { strip = m; cell = record { column = span.holds.cell.column; row = last_place _ _ (family.nonempty i m).upwards } } in
      let high : HoldsCell member box j area.left (((box i).top -ℤ pos 1) +ℤ pos 1) = subst (HoldsCell member box j area.left) (one_before (box i).top) next.holds in
      elim (stands_above member box family i j area.left ((box i).top -ℤ pos 1) low high) [
        | inl e ↦ absurd (omega (arith, ints, (subst (λ t. HoldsCell member box t area.left (box i).top) (sym e) next.holds).cell.row))
        | inr stands ↦ stands
      ]

  leads_up : (n : ℕ) (i : ℕ) (y : ℤ) → Within area.bottom area.top y → area.top ≤ℤ (y +ℤ pos n) → Spans i y → LeadsUp i
  leads_up zero i y h near span = absurd (omega (arith, ints, h.to))
  leads_up (suc n) i y h near span =
      by_lt_z (box i).top area.top
      (λ l.
      let inside = at_top area.bottom (box i).top area.top y h l span.holds.cell.row.to in
      let next = span_at (box i).top inside in
      let rest = leads_up n next.0 (box i).top inside (omega (arith, ints, span.holds.cell.row.to)) next.1 in
      record {
        last = rest.last;
        chain = i ∷ rest.chain;
        stacked = more i next.0 rest.last rest.chain (next_host i next.0 y span next.1) rest.stacked;
        wide = All-cons (λ k. SpansColumns (box k) area) i rest.chain (spans_columns i y span) rest.wide;
        hosts = All-cons (IsHost member box area) i rest.chain (spans_host i y h span) rest.hosts;
        highest_begins = rest.highest_begins;
        highest_ends = rest.highest_ends;
      })
      (λ l. record {
        last = i;
        chain = i ∷ [];
        stacked = one i span.holds.strip;
        wide = All-cons (λ k. SpansColumns (box k) area) i [] (spans_columns i y span) (All-nil (λ k. SpansColumns (box k) area));
        hosts = All-cons (IsHost member box area) i [] (spans_host i y h span) (All-nil (IsHost member box area));
        highest_begins = omega (arith, ints, span.holds.cell.row, h.to);
        highest_ends = l;
      })

  -- two hosts that hold one row are one
  pub one_host : (i k : ℕ) (y : ℤ)
      → IsHost member box area i → IsHost member box area k → SpansColumns (box k) area
      → Within (box i).bottom (box i).top y → Within (box k).bottom (box k).top y → i ≡ k
  one_host i k y host other wide h j =
      let column = common_place (box i) area (family.nonempty i host.strip) nonempty host.columns in
      let x = int_max (box i).left area.left in
      one_holder member box family i k x x y
      (record { strip = host.strip; cell = record { column = column.0; row = h } })
      (record { strip = other.strip; cell = record { column = spans_place (box k) area x wide column.1; row = j } })
      (same_close x)

  -- a covered rectangle has hosts
  pub has_hosts : (first : ℕ) × (last : ℕ) × (chain : List ℕ) × AreHosts member box area first last chain
  has_hosts =
      let bottom = first_place _ _ nonempty.upwards in
      let start = span_at area.bottom bottom in
      let d = steps_to area.bottom area.top (at_most _ _ nonempty.upwards) in
      let up = leads_up d.0 start.0 area.bottom bottom d.1 start.1 in (
        start.0,
        up.last,
        up.chain,
        record {
          stacked = up.stacked;
          wide = up.wide;
          hosts = up.hosts;
          every = λ i host.
              let column = common_place (box i) area (family.nonempty i host.strip) nonempty host.columns in
              let row = common_row_place (box i) area (family.nonempty i host.strip) nonempty host.rows in
              let x = int_max (box i).left area.left in
              let y = int_max (box i).bottom area.bottom in
              let r = chain_holds member box y start.0 up.chain up.last up.stacked (omega (arith, ints, start.1.holds.cell.row.from, row.1.from)) (omega (arith, ints, row.1.to, up.highest_ends)) in
              let k : HoldsCell member box r.0 x y = record {
                strip = r.2;
                cell = record {
                  column = spans_place (box r.0) area x (All-contains (λ t. SpansColumns (box t) area) up.chain r.0 up.wide r.1) column.1;
                  row = r.3;
                };
              } in
              subst (Contains up.chain) (one_holder member box family r.0 i x x y k (record { strip = host.strip; cell = record { column = column.0; row = row.0 } }) (same_close x)) r.1;
          lowest = start.1.holds.cell.row;
          highest_begins = up.highest_begins;
          highest_ends = up.highest_ends;
        },
      )
