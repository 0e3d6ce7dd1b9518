-- Bars that stand in order of their left ends, walked from the first to the last; and a sweep over slabs.
use Rattle.std.proofs.Common.{◌≡◌, ℕ, ◌+◌, ◌-◌, ◌<◌, ◌≤◌, ℤ, ◌≤ℤ◌, ◌<ℤ◌, List, length, get_or, All, AllPairs, Contains, sym, ap, subst, ◌∙◌, arith, inl, inr}
use Rattle.std.proofs.lemmas.Int.{ints, clamps, by_lt_z}
use Rattle.std.proofs.lemmas.List.{get_or_default}
use Rattle.std.proofs.lemmas.List.Elements.{All-contains}
use Rattle.std.specs.Prelude.{IsPermutation}
use Rattle.std.proofs.lemmas.List.Sorted.{Contains-permutation, IsPermutation-sym}
use Rattle.std.specs.Int.{int_max}
use Rattle.rt_cells.specs.Line.{Within}
use Rattle.rt_cells.specs.Rectangles.{Rectangle}
use Rattle.rt_base.specs.Plane.{area}
use Rattle.rt_sweep.specs.declared.bar.Bar.{Bar}
use Rattle.rt_sweep.specs.Slabs.{IsActive, IsSlab, Passing, AreBelow, PassesSlab}
use Rattle.rt_family.specs.Strips.{ShareColumn}
use Rattle.rt_drc.specs.declared.clash.Clash.{Clash}
use Rattle.rt_drc.specs.Clashing.{group_of, HasGroup, AreGroupedAcross, ClashAcross, AreGrouped, DoClash, IsStrange, IsFamiliar}
use Rattle.rt_cells.proofs.Numbers.{last_or_before, by_lt_n}

-- of the bars before number n any two that have a column in common are of one group
pub record AreGroupedBefore (groups : List ℕ) (bar : ℕ → Bar) (n : ℕ) : Type 0 where
  pub grouped : (i j : ℕ) → i < n → j < n → ShareColumn (area (bar i).at) (area (bar j).at) → group_of groups (bar i) ≡ group_of groups (bar j)

-- and none of them reaches further to the right than bar number `far`
pub record AreWalked (groups : List ℕ) (bar : ℕ → Bar) (n far : ℕ) : Type 0 where
  pub before : AreGroupedBefore groups bar n
  pub reach : (i : ℕ) → i < n → (bar i).at.x2 ≤ℤ (bar far).at.x2

-- bar number `far` is among those that were walked, or the first one where none was
pub record IsFarthest (n far : ℕ) : Type 0 where
  pub walked : far ≤ n - 1

turned_columns : (a b : Rectangle) → ShareColumn a b → ShareColumn b a
turned_columns a b h = record { first = h.second; second = h.first }

module _ (groups : List ℕ) (bar : ℕ → Bar) (n far : ℕ) (is_far : IsFarthest n far) (walked : AreWalked groups bar n far)
    (in_order : (i j : ℕ) → i < j → j < n + 1 → (bar i).at.x1 ≤ℤ (bar j).at.x1)
    (same : (bar n).at.x1 <ℤ (bar far).at.x2 → group_of groups (bar far) ≡ group_of groups (bar n)) where
  with_last : (i : ℕ) → i < n → ShareColumn (area (bar i).at) (area (bar n).at) → group_of groups (bar i) ≡ group_of groups (bar n)
  with_last i h share =
      let f : far < n = omega (arith, is_far.walked, h) in
      let o : (bar i).at.x1 ≤ℤ (bar n).at.x1 = in_order i n h (omega arith) in
      let p : (bar far).at.x1 ≤ℤ (bar n).at.x1 = in_order far n f (omega arith) in
      let r : (bar i).at.x2 ≤ℤ (bar far).at.x2 = walked.reach i h in
      let reached : (bar n).at.x1 <ℤ (bar far).at.x2 = omega (arith, ints, r, share.second) in
      walked.before.grouped i far h f (record { first = omega (arith, ints, o, reached); second = omega (arith, ints, p, share.second) }) ∙ same reached

  pub grouped_more : AreGroupedBefore groups bar (n + 1)
  grouped_more = record {
    grouped = λ i j h k share.
        elim (last_or_before n i h) [
          | inl e ↦ elim (last_or_before n j k) [
            | inl f ↦ ap (λ t. group_of groups (bar t)) (e ∙ sym f)
            | inr l ↦
                subst (λ t. group_of groups (bar t) ≡ group_of groups (bar j)) (sym e)
                (sym (with_last j l (turned_columns (area (bar n).at) (area (bar j).at) (subst (λ t. ShareColumn (area (bar t).at) (area (bar j).at)) e share))))
          ]
          | inr m ↦ elim (last_or_before n j k) [
            | inl f ↦
                subst (λ t. group_of groups (bar i) ≡ group_of groups (bar t)) (sym f)
                (with_last i m (subst (λ t. ShareColumn (area (bar i).at) (area (bar t).at)) f share))
            | inr l ↦ walked.before.grouped i j m l share
          ]
        ];
  }

  reach_stays : (bar n).at.x2 ≤ℤ (bar far).at.x2 → (i : ℕ) → i < n + 1 → (bar i).at.x2 ≤ℤ (bar far).at.x2
  reach_stays l i h = elim (last_or_before n i h) [ inl e ↦ subst (λ t. (bar t).at.x2 ≤ℤ (bar far).at.x2) (sym e) l | inr m ↦ walked.reach i m ]

  reach_grows : (bar far).at.x2 ≤ℤ (bar n).at.x2 → (i : ℕ) → i < n + 1 → (bar i).at.x2 ≤ℤ (bar n).at.x2
  reach_grows l i h =
      elim (last_or_before n i h) [
        | inl e ↦ subst (λ t. (bar t).at.x2 ≤ℤ (bar n).at.x2) (sym e) (omega (arith, ints))
        | inr m ↦ omega (arith, ints, l, walked.reach i m)
      ]

  pub walked_same : (bar n).at.x2 ≤ℤ (bar far).at.x2 → AreWalked groups bar (n + 1) far
  walked_same l = record { before = grouped_more; reach = reach_stays l }

  pub walked_further : (bar far).at.x2 ≤ℤ (bar n).at.x2 → AreWalked groups bar (n + 1) n
  walked_further l = record { before = grouped_more; reach = reach_grows l }

-- bars of a list that were all walked are grouped
pub walked_all : (groups : List ℕ) (bars : List Bar) (far : ℕ) → ((d : Bar) → AreWalked groups (λ k. get_or bars k d) (length bars) far) → AreGroupedAcross groups bars
walked_all groups bars far walked = record {
  grouped = λ a b c e share.
      let first : get_or bars c.0 a ≡ a = c.2 in
      let second : get_or bars e.0 a ≡ b = get_or_default bars e.0 a b e.1 ∙ e.2 in
      let moved : ShareColumn (area (get_or bars c.0 a).at) (area (get_or bars e.0 a).at) =
      subst (λ t. ShareColumn (area t.at) (area (get_or bars e.0 a).at)) (sym first) (subst (λ t. ShareColumn (area a.at) (area t.at)) (sym second) share) in
      sym (ap (group_of groups) first) ∙ ((walked a).before.grouped c.0 e.0 c.1 e.1 moved ∙ ap (group_of groups) second);
}

-- bars that share a cell below the height are of one group
pub record AreGroupedBelow (groups : List ℕ) (bars : List Bar) (height : ℤ) : Type 0 where
  pub grouped : (a b : Bar) (y : ℤ) → Contains bars a → Contains bars b → ShareColumn (area a.at) (area b.at)
      → Within a.at.y1 a.at.y2 y → Within b.at.y1 b.at.y2 y → y <ℤ height → group_of groups a ≡ group_of groups b

-- the same of the same bars in another order
pub grouped_along : (groups : List ℕ) (bars others : List Bar) (height : ℤ) → IsPermutation bars others → AreGroupedBelow groups bars height → AreGroupedBelow groups others height
grouped_along groups bars others height same below =
    let back = IsPermutation-sym bars others same in
    record { grouped = λ a b y c d. below.grouped a b y (Contains-permutation others bars a back c) (Contains-permutation others bars b back d) }

pub clash_along : (groups : List ℕ) (bars others : List Bar) (clash : Clash) → IsPermutation bars others → DoClash groups bars clash → DoClash groups others clash
clash_along groups bars others clash same is = record {
  first = Contains-permutation bars others clash.first same is.first;
  second = Contains-permutation bars others clash.second same is.second;
  share = is.share;
  different = is.different;
}

-- the active bars have groups, as all have
pub active_groups : (groups : List ℕ) (bars others active : List Bar) (bottom top : ℤ) → IsPermutation bars others → All (HasGroup groups) bars
    → All (IsActive others bottom top) active → All (HasGroup groups) active
active_groups groups bars others active bottom top same all are =
    let back = IsPermutation-sym bars others same in
    λ k d h. All-contains (HasGroup groups) bars (get_or active k d) all (Contains-permutation others bars (get_or active k d) back (are k d h).listed)

-- above all bars all that share a cell do so below
pub grouped_below_all : (groups : List ℕ) (bars : List Bar) (height : ℤ) → AreGroupedBelow groups bars height → AreBelow bars height → AreGrouped groups bars
grouped_below_all groups bars height below ended = record {
  grouped = λ a b c d share.
      let y = int_max a.at.y1 b.at.y1 in
      let h = common a.at.y1 a.at.y2 b.at.y1 b.at.y2 height (omega (arith, ints)) (omega (arith, ints)) share.rows.first share.rows.second
      (All-contains (λ (bar : Bar). bar.at.y2 ≤ℤ height) bars a ended c) in
      below.grouped a b y c d share.columns h.0 h.1 h.2;
}
  where
    common : (low high low' high' height : ℤ) → low <ℤ high → low' <ℤ high' → low <ℤ high' → low' <ℤ high → high ≤ℤ height
        → Within low high (int_max low low') × Within low' high' (int_max low low') × (int_max low low' <ℤ height)
    common low high low' high' height h h' k l m = (
      record { from = omega (arith, ints, clamps); to = omega (arith, ints, clamps) },
      record { from = omega (arith, ints, clamps); to = omega (arith, ints, clamps) },
      omega (arith, ints, clamps),
    )

active_there : (bars active : List Bar) (bottom top y : ℤ) → IsSlab bars bottom top active → (a : Bar) → Contains bars a → Within a.at.y1 a.at.y2 y → bottom ≤ℤ y → y <ℤ top
    → Contains active a
active_there bars active bottom top y slab a c h k l =
    elim (slab.each a c) [
      | inl there ↦ there.0
      | inr (inl below) ↦ absurd (omega (arith, ints))
      | inr (inr above) ↦ absurd (omega (arith, ints))
    ]

-- one slab more
pub slab_passed : (groups : List ℕ) (before after : Passing) (bottom top : ℤ) → PassesSlab before bottom top after
    → AreGroupedBelow groups before.bars before.height → AreGroupedAcross groups after.active → AreGroupedBelow groups before.bars after.height
slab_passed groups before after bottom top passes below across = record {
  grouped = λ a b y c d share h k l.
      by_lt_z y before.height
      (λ m. below.grouped a b y c d share h k m)
      (λ m. by_lt_z y bottom
      (λ o. absurd (passes.free.free a c y (record { from = m; to = o }) h))
      (λ o.
      let t : y <ℤ top = omega (arith, ints, passes.at_top, l) in
      across.grouped a b (active_there before.bars after.active bottom top y passes.slab a c h o t) (active_there before.bars after.active bottom top y passes.slab b d k o t) share));
}

-- bars that clash in a slab share a cell
pub clash_in_slab : (groups : List ℕ) (bars active : List Bar) (bottom top : ℤ) (clash : Clash) → IsSlab bars bottom top active → ClashAcross groups active clash → DoClash groups bars clash
clash_in_slab groups bars active bottom top clash slab across =
    let a = All-contains (IsActive bars bottom top) active clash.first slab.are_active across.first in
    let b = All-contains (IsActive bars bottom top) active clash.second slab.are_active across.second in
    record {
      first = a.listed;
      second = b.listed;
      share = record { columns = across.columns; rows = record { first = omega (arith, ints, slab.some_rows, a.crosses, b.crosses); second = omega (arith, ints, slab.some_rows, a.crosses, b.crosses) } };
      different = across.different;
    }

in_list_order : (bars : List Bar) → AllPairs (λ a b. a.at.x1 ≤ℤ b.at.x1) bars → (d : Bar) (n i j : ℕ) → n < length bars → i < j → j < n + 1
    → (get_or bars i d).at.x1 ≤ℤ (get_or bars j d).at.x1
in_list_order bars in_order d n i j h k l = in_order i j d k (omega arith)

pub is_far_more : (n far : ℕ) → IsFarthest n far → IsFarthest (n + 1) far
is_far_more n far f = record { walked = omega (arith, f.walked) }

pub is_far_here : (n : ℕ) → IsFarthest (n + 1) n
is_far_here n = record { walked = omega arith }

familiar_at : (groups : List ℕ) (bars : List Bar) (d : Bar) (far n : ℕ) (first second : Bar) → far < length bars → n < length bars
    → first ≡ get_or bars far first → second ≡ get_or bars n second → IsFamiliar groups first second → IsFamiliar groups (get_or bars far d) (get_or bars n d)
familiar_at groups bars d far n first second h k e f familiar =
    subst (λ t. IsFamiliar groups t (get_or bars n d)) (e ∙ get_or_default bars far first d h)
    (subst (λ t. IsFamiliar groups first t) (f ∙ get_or_default bars n second d k) familiar)

module _ (groups : List ℕ) (bars : List Bar) (n far : ℕ) (first second : Bar) (there : n < length bars) (is_far : IsFarthest n far)
    (walked : (d : Bar) → AreWalked groups (λ k. get_or bars k d) n far) (in_order : AllPairs (λ a b. a.at.x1 ≤ℤ b.at.x1) bars)
    (is_first : first ≡ get_or bars far first) (is_second : second ≡ get_or bars n second) where
  far_there : far < length bars
  far_there = omega (arith, is_far.walked)

  -- one bar more, which is of the group of the one that reaches furthest where it begins before that one's end
  pub walk_same : IsFamiliar groups first second → second.at.x2 ≤ℤ first.at.x2 → (d : Bar) → AreWalked groups (λ k. get_or bars k d) (n + 1) far
  walk_same familiar l d =
      walked_same groups (λ k. get_or bars k d) n far is_far (walked d) (λ i j. in_list_order bars in_order d n i j there)
      (familiar_at groups bars d far n first second far_there there is_first is_second familiar).one_group
      (subst (λ t. t.at.x2 ≤ℤ (get_or bars far d).at.x2) (is_second ∙ get_or_default bars n second d there)
      (subst (λ t. second.at.x2 ≤ℤ t.at.x2) (is_first ∙ get_or_default bars far first d far_there) l))

  pub walk_further : IsFamiliar groups first second → first.at.x2 ≤ℤ second.at.x2 → (d : Bar) → AreWalked groups (λ k. get_or bars k d) (n + 1) n
  walk_further familiar l d =
      walked_further groups (λ k. get_or bars k d) n far is_far (walked d) (λ i j. in_list_order bars in_order d n i j there)
      (familiar_at groups bars d far n first second far_there there is_first is_second familiar).one_group
      (subst (λ t. (get_or bars far d).at.x2 ≤ℤ t.at.x2) (is_second ∙ get_or_default bars n second d there)
      (subst (λ t. t.at.x2 ≤ℤ second.at.x2) (is_first ∙ get_or_default bars far first d far_there) l))

  -- a bar of another group clashes with it
  pub strange_clashes : IsStrange groups first second → ClashAcross groups bars (record { first = first; second = second })
  strange_clashes strange = record {
    first = (far, far_there, sym is_first);
    second = (n, there, sym is_second);
    columns = record { first = begins_before; second = strange.before_end };
    different = strange.different;
  }
    where
      begins_before : first.at.x1 <ℤ second.at.x2
      begins_before =
          let own : second.at.x1 <ℤ second.at.x2 = second.at.across in
          by_lt_n far n
          (λ h.
          let o : (get_or bars far first).at.x1 ≤ℤ (get_or bars n first).at.x1 = in_order far n first h there in
          let p : first.at.x1 ≤ℤ (get_or bars n first).at.x1 = subst (λ t. t.at.x1 ≤ℤ (get_or bars n first).at.x1) (sym is_first) o in
          let q : first.at.x1 ≤ℤ second.at.x1 = subst (λ t. first.at.x1 ≤ℤ t.at.x1) (sym (is_second ∙ get_or_default bars n second first there)) p in
          omega (arith, ints, own, q))
          (λ h.
          let e : far ≡ n = omega (arith, is_far.walked, h) in
          let f : first ≡ second = is_first ∙ (get_or_default bars far first second far_there ∙ (ap (λ k. get_or bars k second) e ∙ sym is_second)) in
          subst (λ t. t.at.x1 <ℤ second.at.x2) (sym f) own)
