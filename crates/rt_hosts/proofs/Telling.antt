-- What a sweep over rectangles and strips has told of the rows below a height.
use Rattle.std.proofs.Common.{◌≡◌, ℕ, ◌<◌, ℤ, ◌≤ℤ◌, ◌<ℤ◌, List, length, get_or, Contains, sym, ap, subst, ◌∙◌, refl, arith, inl, inr, [], ◌∷◌, ◌++◌, ◌+◌, suc, zero}
use Rattle.std.specs.Prelude.{Option, None, Some, MatchOption}
use Rattle.std.specs.Int.{int_max}
use Rattle.std.proofs.lemmas.Int.{ints, clamps, by_lt_z}
use Rattle.std.proofs.lemmas.List.{length-append, get_or_default}
use Rattle.std.proofs.lemmas.List.Elements.{All-contains}
use Rattle.rt_cells.specs.Line.{Within}
use Rattle.rt_cells.specs.Rectangles.{Rectangle}
use Rattle.rt_base.specs.declared.plane.Rect.{Rect}
use Rattle.rt_base.specs.Plane.{area}
use Rattle.rt_family.specs.Strips.{ShareColumn, ShareRow}
use Rattle.rt_family.specs.Laws.{IsOfMask}
use Rattle.rt_sweep.specs.declared.bar.Bar.{Bar}
use Rattle.rt_sweep.specs.Slabs.{IsActive, IsSlab, Passing, AreAbove, AreBelow, PassesSlab}
use Rattle.rt_strips.specs.Placed.{Placed, strip_at, mask_of}
use Rattle.rt_hosts.specs.Hosts.{host_at, AreNone, IsHostOf, HasNoHost, AreSomeHosts}
use Rattle.rt_hosts.specs.Bars.{counted_together, AreBarsOf}
use Rattle.rt_hosts.specs.Across.{AreOverAt, AreAnyTwo, AreLookedAt}
use Rattle.rt_hosts.proofs.Listing.{area_taken, area_at, strip_rectangle, strip_taken}
use Rattle.rt_hosts.proofs.Reading.{not_none}

-- hosts that are noted are hosts, and the rectangles that have none noted have no row below the height in common with one
pub record AreToldBelow (m : ℕ) (strips : List Placed) (areas : List Rect) (height : ℤ) (hosts : List (Option ℕ)) : Type 0 where
  pub counted : length hosts ≡ length areas
  pub host : (t h : ℕ) (d : Rect) → t < length areas → host_at hosts t ≡ Some h → IsHostOf m strips (area (get_or areas t d)) h
  pub apart : (t i : ℕ) (d : Rect) → t < length areas → host_at hosts t ≡ None → IsHostOf m strips (area (get_or areas t d)) i → (y : ℤ)
      → Within (get_or areas t d).y1 (get_or areas t d).y2 y → Within (strip_at strips i).area.bottom (strip_at strips i).area.top y → height ≤ℤ y

module _ (m : ℕ) (strips : List Placed) (areas : List Rect) (bars : List Bar) (are : AreBarsOf m strips areas (length areas + length strips) bars) where
  -- the bar of a rectangle
  area_bar : (t : ℕ) → t < length areas → (bar : Bar) × Contains bars bar × (bar.tag ≡ t)
  area_bar t h = are.every t (omega (arith, h)) (area_taken m strips areas t h)

  area_of : (t : ℕ) (d : Rect) (bar : Bar) → t < length areas → Contains bars bar → bar.tag ≡ t → area bar.at ≡ area (get_or areas t d)
  area_of t d bar h c tagged =
      sym ((are.each bar c).at (area bar.at))
      ∙ (ap (λ k. get_or (counted_together strips areas) k (area bar.at)) tagged ∙ area_at m strips areas t d h (area bar.at))

  -- the bar of a strip of the mask
  strip_bar : (i : ℕ) → IsOfMask (length strips) (mask_of strips) m i → (bar : Bar) × Contains bars bar × (bar.tag ≡ length areas + i)
  strip_bar i w = are.every (length areas + i) (omega (arith, w.below)) (strip_taken m strips areas i w.of_mask)

  strip_of : (i : ℕ) (bar : Bar) → i < length strips → Contains bars bar → bar.tag ≡ length areas + i → area bar.at ≡ (strip_at strips i).area
  strip_of i bar h c tagged =
      sym ((are.each bar c).at (area bar.at))
      ∙ (ap (λ k. get_or (counted_together strips areas) k (area bar.at)) tagged ∙ strip_rectangle m strips areas i h (area bar.at))

  -- below all bars nothing is told
  pub told_first : (height : ℤ) (hosts : List (Option ℕ)) → AreAbove bars height → AreNone (length areas) hosts → AreToldBelow m strips areas height hosts
  told_first height hosts above none = record {
    counted = none.counted;
    host = λ t h d l e. absurd (not_none h (sym e ∙ none.no_host t));
    apart = λ t i d l e host y w v.
        let b = area_bar t l in
        let low : height ≤ℤ b.0.at.y1 = All-contains (λ (bar : Bar). height ≤ℤ bar.at.y1) bars b.0 above b.1 in
        let is : b.0.at.y1 ≡ (get_or areas t d).y1 = ap (λ (r : Rectangle). r.bottom) (area_of t d b.0 l b.1 b.2) in
        omega (arith, ints, low, is, w.from);
  }

  by_option : (o : Option ℕ) (N : Type 0) (S : ℕ → Type 0) → (o ≡ None → N) → ((h : ℕ) → o ≡ Some h → S h) → MatchOption o N S
  by_option None N S f g = f refl
  by_option (Some h) N S f g = g h refl

  common : (a b c d : ℤ) → a <ℤ b → c <ℤ d → a <ℤ d → c <ℤ b → Within a b (int_max a c) × Within c d (int_max a c)
  common a b c d h k p q = (
    record { from = omega (arith, ints, clamps); to = omega (arith, ints, clamps, h, q) },
    record { from = omega (arith, ints, clamps); to = omega (arith, ints, clamps, k, p) },
  )

  -- above all bars all is told
  pub told_all : (height : ℤ) (hosts : List (Option ℕ)) → AreBelow bars height → AreToldBelow m strips areas height hosts → AreSomeHosts m strips areas hosts
  told_all height hosts below told = record {
    counted = told.counted;
    each = λ t d l.
        by_option (host_at hosts t) (HasNoHost m strips (area (get_or areas t d))) (IsHostOf m strips (area (get_or areas t d)))
        (λ e. record {
          none = λ i host.
              let b = area_bar t l in
              let a = strip_bar i host.strip in
              let high : b.0.at.y2 ≤ℤ height = All-contains (λ (bar : Bar). bar.at.y2 ≤ℤ height) bars b.0 below b.1 in
              let top : b.0.at.y2 ≡ (get_or areas t d).y2 = ap (λ (r : Rectangle). r.top) (area_of t d b.0 l b.1 b.2) in
              let some : (strip_at strips i).area.bottom <ℤ (strip_at strips i).area.top =
              subst (λ (r : Rectangle). r.bottom <ℤ r.top) (strip_of i a.0 host.strip.below a.1 a.2) a.0.at.upwards in
              let both = common (get_or areas t d).y1 (get_or areas t d).y2 (strip_at strips i).area.bottom (strip_at strips i).area.top
              (get_or areas t d).upwards some host.rows.second host.rows.first in
              let y = int_max (get_or areas t d).y1 (strip_at strips i).area.bottom in
              let over : height ≤ℤ y = told.apart t i d l e host y both.0 both.1 in
              absurd (omega (arith, ints, over, both.0.to, high, top));
        })
        (λ h e. told.host t h d l e);
  }

  module _ (active : List Bar) (bottom top : ℤ) (slab : IsSlab bars bottom top active) where
    active_there : (y : ℤ) → Within bottom top y → (a : Bar) → Contains bars a → Within a.at.y1 a.at.y2 y → Contains active a
    active_there y w a c h = elim (slab.each a c) [
      | inl there ↦ there.0
      | inr (inl below) ↦ absurd (omega (arith, ints, w.from, h.to, below))
      | inr (inr above) ↦ absurd (omega (arith, ints, w.to, h.from, above))
    ]

    is_active : (bar : Bar) → Contains active bar → IsActive bars bottom top bar
    is_active bar c = All-contains (IsActive bars bottom top) active bar slab.are_active c

    over_host : (t h : ℕ) (d : Rect) → t < length areas → AreOverAt active (length areas) t h → IsHostOf m strips (area (get_or areas t d)) h
    over_host t h d l o =
        let bar = is_active o.bar o.bar_listed in
        let strip = is_active o.strip o.strip_listed in
        let of = are.each o.strip strip.listed in
        let below : h < length strips = omega (arith, of.below, o.strip_numbered) in
        let some = slab.some_rows in
        let rows : ShareRow (area o.strip.at) (area o.bar.at) = record {
          first = omega (arith, ints, strip.crosses.from, bar.crosses.to, some);
          second = omega (arith, ints, bar.crosses.from, strip.crosses.to, some);
        } in
        let is = strip_of h o.strip below strip.listed o.strip_numbered in
        let at = area_of t d o.bar l bar.listed o.bar_numbered in
        record {
          strip = record { below = below; of_mask = of.taken.of_mask h o.strip_numbered };
          columns = subst (λ r. ShareColumn r (area (get_or areas t d))) is (subst (ShareColumn (area o.strip.at)) at o.over);
          rows = subst (λ r. ShareRow r (area (get_or areas t d))) is (subst (ShareRow (area o.strip.at)) at rows);
        }

    -- in a row of the slab a rectangle that has no host noted has none
    apart_here : (before after : List (Option ℕ)) (t i : ℕ) (d : Rect) → t < length areas → AreLookedAt active (length areas) AreAnyTwo before after
        → host_at after t ≡ None → IsHostOf m strips (area (get_or areas t d)) i → (y : ℤ)
        → Within (get_or areas t d).y1 (get_or areas t d).y2 y → Within (strip_at strips i).area.bottom (strip_at strips i).area.top y → Within bottom top y → ⊥
    apart_here before after t i d l looked e host y w v in_slab =
        let b = area_bar t l in
        let a = strip_bar i host.strip in
        let at = area_of t d b.0 l b.1 b.2 in
        let is = strip_of i a.0 host.strip.below a.1 a.2 in
        let p = active_there y in_slab b.0 b.1 (subst (λ (r : Rectangle). Within r.bottom r.top y) (sym at) w) in
        let q = active_there y in_slab a.0 a.1 (subst (λ (r : Rectangle). Within r.bottom r.top y) (sym is) v) in
        let tag_is : (get_or active p.0 b.0).tag ≡ t = ap (λ (x : Bar). x.tag) p.2 ∙ b.2 in
        let strip_is : get_or active q.0 b.0 ≡ a.0 = at_any active q.0 b.0 a.0 q.1 q.2 in
        let low : (get_or active q.0 b.0).tag ≡ length areas + i = ap (λ (x : Bar). x.tag) strip_is ∙ a.2 in
        looked.apart p.0 q.0 b.0 tt
        (record { first = p.1; second = q.1; of_rectangle = omega (arith, tag_is, l); of_strip = omega (arith, low) })
        (ap (host_at after) tag_is ∙ e)
        (subst (λ (x : Bar). ShareColumn (area x.at) (area (get_or active p.0 b.0).at)) (sym strip_is)
        (subst (λ (x : Bar). ShareColumn (area a.0.at) (area x.at)) (sym p.2)
        (subst (λ r. ShareColumn r (area b.0.at)) (sym is) (subst (ShareColumn (strip_at strips i).area) (sym at) host.columns))))
      where
        at_any : (bars : List Bar) (k : ℕ) (d e : Bar) → k < length bars → get_or bars k e ≡ e → get_or bars k d ≡ e
        at_any bars k d e h is = get_or_default bars k d e h ∙ is

-- one slab more
pub told_more : (m : ℕ) (strips : List Placed) (areas : List Rect) (before after : Passing) (bottom top : ℤ) (hosts hosts' : List (Option ℕ))
    → AreBarsOf m strips areas (length areas + length strips) before.bars → PassesSlab before bottom top after
    → AreToldBelow m strips areas before.height hosts → AreLookedAt after.active (length areas) AreAnyTwo hosts hosts'
    → AreToldBelow m strips areas after.height hosts'
told_more m strips areas before after bottom top hosts hosts' are passes told looked = record {
  counted = looked.counted;
  host = λ t h d l e. elim (looked.noted t h e) [
    | inl old ↦ told.host t h d l old
    | inr over ↦ over_host m strips areas before.bars are after.active bottom top passes.slab t h d l over
  ];
  apart = λ t i d l e host y w v.
      by_lt_z y after.height
      (λ below. absurd (
      let low : before.height ≤ℤ y = told.apart t i d l (looked.kept t e) host y w v in
      by_lt_z y bottom
      (λ o.
      let b = area_bar m strips areas before.bars are t l in
      passes.free.free b.0 b.1 y (record { from = low; to = o })
      (subst (λ (r : Rectangle). Within r.bottom r.top y) (sym (area_of m strips areas before.bars are t d b.0 l b.1 b.2)) w))
      (λ o.
      apart_here m strips areas before.bars are after.active bottom top passes.slab hosts hosts' t i d l looked e host y w v
      (record { from = o; to = omega (arith, ints, passes.at_top, below) }))))
      (λ above. above);
}

-- one place more with no host
none_pushed : (hosts : List (Option ℕ)) → ((t : ℕ) → host_at hosts t ≡ None) → (t : ℕ) → host_at (hosts ++ None ∷ []) t ≡ None
none_pushed [] h zero = refl
none_pushed [] h (suc t) = refl
none_pushed (x ∷ xs) h zero = h 0
none_pushed (x ∷ xs) h (suc t) = none_pushed xs (λ k. h (suc k)) t

pub none_more : (count : ℕ) (hosts : List (Option ℕ)) → AreNone count hosts → AreNone (count + 1) (hosts ++ None ∷ [])
none_more count hosts none = record { counted = omega (arith, none.counted, length-append hosts (None ∷ [])); no_host = none_pushed hosts none.no_host }
