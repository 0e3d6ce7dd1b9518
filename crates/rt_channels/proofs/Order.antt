-- Channels and strips beside and above each other keep their order in the drawing.
use Rattle.std.proofs.Common.{◌≡◌, ℕ, ℤ, pos, ◌+ℤ◌, ◌≤ℤ◌, ◌<ℤ◌, ◌⊎◌, refl, sym, subst, ◌∙◌, arith}
use Rattle.std.proofs.lemmas.Int.{ints, clamps}
use mathlib.Core.Logic.{inl, inr}
use Rattle.rt_cells.specs.Line.{Within}
use Rattle.rt_cells.specs.Rectangles.{Rectangle}
use Rattle.rt_cells.specs.Rectangles.{rows_between}
use Rattle.rt_family.specs.Strips.{ShareRow, SpansColumns, StandsOn, IsHost}
use Rattle.rt_family.proofs.Drawn.{column_seen}
use Rattle.rt_channels.specs.Channels.{widened, SpansRows, IsCarriedChannel, AreCarriedTogether}
use Rattle.rt_channels.proofs.Drawn.{the_single, drawn_many, many_jut}

spans_share : (a b c : Rectangle) → SpansRows a c → SpansRows b c → c.bottom <ℤ c.top → ShareRow a b
spans_share a b c h k l = record { first = omega (arith, ints); second = omega (arith, ints) }

spans_on : (a b c : Rectangle) → SpansRows a b → SpansRows b c → SpansRows a c
spans_on a b c h k = record { bottom = omega (arith, ints); top = omega (arith, ints) }

close_rows : (near : ℤ) (a b c : Rectangle) → pos 1 ≤ℤ near → SpansRows a b → b.bottom <ℤ b.top → c.bottom <ℤ c.top → (b.top ≡ c.bottom) ⊎ (c.top ≡ b.bottom) → rows_between a c <ℤ near
close_rows near a b c p h k l (inl e) = omega (arith, ints, clamps)
close_rows near a b c p h k l (inr e) = omega (arith, ints, clamps)

module _ (single many : ℕ → Type 0) (source drawn : ℕ → Rectangle) (both : AreCarriedTogether single many source drawn) where
  -- the single strip of a channel has the rows of every strip that it crosses there
  record CrossesRows (area target : Rectangle) (a o : ℕ) : Type 0 where
    strip : single o
    left : (source o).left ≡ area.left
    right : (source o).right ≡ area.right
    drawn_left : (drawn o).left ≡ target.left
    drawn_right : (drawn o).right ≡ target.right
    rows : SpansRows (source o) (source a)

  crosses_rows : (area target : Rectangle) (ns nm rs rm : ℤ) → IsCarriedChannel single many source drawn area target ns nm rs rm → (a : ℕ) → IsHost many source area a
      → (o : ℕ) × CrossesRows area target a o
  crosses_rows area target ns nm rs rm c a host =
      let s = the_single single many source drawn both area target ns nm rs rm c in
      let m = drawn_many single many source drawn both area target ns nm rs rm c in (
        s.0,
        record {
          strip = s.1.in_source.strip;
          left = s.1.in_source.left;
          right = s.1.in_source.right;
          drawn_left = s.1.left;
          drawn_right = s.1.right;
          rows = spans_on (source s.0) area (source a) s.1.in_source.rows (m.3.source_strips.rows a host);
        },
      )

  upper_or_lower : (a z : ℕ) → StandsOn many source a z ⊎ StandsOn many source z a → many z
  upper_or_lower a z (inl s) = s.upper
  upper_or_lower a z (inr s) = s.lower

  touching : (a z : ℕ) → StandsOn many source a z ⊎ StandsOn many source z a → ((source a).top ≡ (source z).bottom) ⊎ ((source z).top ≡ (source a).bottom)
  touching a z (inl s) = inl s.adjoin
  touching a z (inr s) = inr s.adjoin

  few_rows : (o a z : ℕ) → {area : Rectangle} → IsHost many source area a → SpansRows (source o) (source a) → StandsOn many source a z ⊎ StandsOn many source z a
      → rows_between (source o) (source z) <ℤ both.near
  few_rows o a z host rows near =
      close_rows both.near (source o) (source a) (source z) both.some_near rows (both.many_carried.family.nonempty a host.strip).upwards
      (both.many_carried.family.nonempty z (upper_or_lower a z near)).upwards (touching a z near)

  module _ (area target : Rectangle) (ns nm rs rm : ℤ) (c : IsCarriedChannel single many source drawn area target ns nm rs rm) where
    -- two channels of one strip of the many mask, beside each other
    pub beside : (area' target' : Rectangle) (ns' nm' rs' rm' : ℤ) → IsCarriedChannel single many source drawn area' target' ns' nm' rs' rm'
        → (a : ℕ) → IsHost many source area a → IsHost many source area' a → area.right ≤ℤ area'.left → target.right <ℤ target'.left
    beside area' target' ns' nm' rs' rm' d a host host' l =
        let o = crosses_rows area target ns nm rs rm c a host in
        let p = crosses_rows area' target' ns' nm' rs' rm' d a host' in
        let row = spans_share (source o.0) (source p.0) (source a) o.1.rows p.1.rows (both.many_carried.family.nonempty a host.strip).upwards in
        let far = both.single_carried.across o.0 p.0 o.1.strip p.1.strip row (between _ _ _ _ o.1.right p.1.left l) in
        parted _ _ _ _ _ (both.single_carried.numbers.some_space o.0 p.0 o.1.strip p.1.strip) far o.1.drawn_right p.1.drawn_left
      where
        between : (r l a b : ℤ) → r ≡ a → l ≡ b → a ≤ℤ b → r ≤ℤ l
        between r l a b e f h = omega (arith, ints)

        parted : (r l s a b : ℤ) → pos 1 ≤ℤ s → (r +ℤ s) ≤ℤ l → r ≡ a → l ≡ b → a <ℤ b
        parted r l s a b p h e f = omega (arith, ints)

    -- a strip of the many mask beside a channel, next above or below one that the channel crosses, keeps the number to it
    pub right_of_channel : (a z : ℕ) → IsHost many source area a → StandsOn many source a z ⊎ StandsOn many source z a → area.right ≤ℤ (source z).left
        → (target.right +ℤ both.clear) ≤ℤ (drawn z).left
    right_of_channel a z host near l =
        let o = crosses_rows area target ns nm rs rm c a host in
        moved_right _ _ _ _ (both.kept.right o.0 z o.1.strip (upper_or_lower a z near) (at_most_by _ _ _ o.1.right l) (few_rows o.0 a z host o.1.rows near)) o.1.drawn_right
      where
        at_most_by : (r a b : ℤ) → r ≡ a → a ≤ℤ b → r ≤ℤ b
        at_most_by r a b e h = omega (arith, ints)

        moved_right : (r n l a : ℤ) → (r +ℤ n) ≤ℤ l → r ≡ a → (a +ℤ n) ≤ℤ l
        moved_right r n l a h e = omega (arith, ints)

    pub left_of_channel : (a z : ℕ) → IsHost many source area a → StandsOn many source a z ⊎ StandsOn many source z a → (source z).right ≤ℤ area.left
        → ((drawn z).right +ℤ both.clear) ≤ℤ target.left
    left_of_channel a z host near l =
        let o = crosses_rows area target ns nm rs rm c a host in
        moved_left _ _ _ (both.kept.left o.0 z o.1.strip (upper_or_lower a z near) (at_least_by _ _ _ o.1.left l) (few_rows o.0 a z host o.1.rows near)) o.1.drawn_left
      where
        at_least_by : (l a b : ℤ) → l ≡ a → b ≤ℤ a → b ≤ℤ l
        at_least_by l a b e h = omega (arith, ints)

        moved_left : (p l a : ℤ) → p ≤ℤ l → l ≡ a → p ≤ℤ a
        moved_left p l a h e = omega (arith, ints)

    -- two channels of one single strip, one above the other
    pub above : (area' target' : Rectangle) (ns' nm' rs' rm' : ℤ) → IsCarriedChannel single many source drawn area' target' ns' nm' rs' rm'
        → (g : ℕ) → IsHost single source area g → IsHost single source area' g → area.top <ℤ area'.bottom → target.top <ℤ target'.bottom
    above area' target' ns' nm' rs' rm' d g host host' l =
        let m = drawn_many single many source drawn both area target ns nm rs rm c in
        let n = drawn_many single many source drawn both area' target' ns' nm' rs' rm' d in
        let s = the_single single many source drawn both area target ns nm rs rm c in
        let t = the_single single many source drawn both area' target' ns' nm' rs' rm' d in
        let e : s.0 ≡ t.0 = sym (s.1.in_source.only g host) ∙ t.1.in_source.only g host' in
        let left : target.left ≡ target'.left = sym s.1.left ∙ (subst (λ k. (drawn k).left ≡ target'.left) (sym e) t.1.left) in
        let right : target.right ≡ target'.right = sym s.1.right ∙ (subst (λ k. (drawn k).right ≡ target'.right) (sym e) t.1.right) in
        let low = many_jut single many source drawn both area target ns nm rs rm c m.1 m.3.last_host in
        let high = many_jut single many source drawn both area' target' ns' nm' rs' rm' d n.0 n.3.first_host in
        let under = under_other _ _ _ _ m.3.source_strips.top n.3.source_strips.bottom l in
        elim (column_seen many source drawn both.many_width both.many_space both.many_carried m.1 n.0 target.left m.3.last_host.strip n.3.first_host.strip (weak _ _ under)
        (over_left rm (drawn m.1) target target c.some_reach_many low refl refl c.nonempty.across) (over_left rm' (drawn n.0) target' target d.some_reach_many high left right c.nonempty.across)) [
          | inl stands ↦ absurd (strict _ _ under stands.adjoin)
          | inr (inl far) ↦ lifted _ _ _ _ _ (both.many_carried.numbers.some_space m.1 n.0 m.3.last_host.strip n.3.first_host.strip) far m.3.top n.3.bottom
          | inr (inr (k, b, p, q)) ↦ lifted_over _ _ _ _ _ _ p (both.many_carried.tall k b.strip) q m.3.top n.3.bottom
        ]
      where
        under_other : (t b p q : ℤ) → t ≡ p → b ≡ q → p <ℤ q → t <ℤ b
        under_other t b p q e f h = omega (arith, ints)

        weak : (p q : ℤ) → p <ℤ q → p ≤ℤ q
        weak p q h = omega (arith, ints)

        strict : (p q : ℤ) → p <ℤ q → p ≡ q → ⊥
        strict p q h e = omega (arith, ints)

        over_left : (n : ℤ) (a b t : Rectangle) → pos 1 ≤ℤ n → SpansColumns a (widened n b) → t.left ≡ b.left → t.right ≡ b.right → t.left <ℤ t.right → Within a.left a.right t.left
        over_left n a b t p h e f l = record { from = omega (arith, ints, h.left); to = omega (arith, ints, h.right) }

        lifted : (t s b p q : ℤ) → pos 1 ≤ℤ s → (t +ℤ s) ≤ℤ b → t ≡ p → b ≡ q → p <ℤ q
        lifted t s b p q h k e f = omega (arith, ints)

        lifted_over : (t k l b p q : ℤ) → t ≤ℤ k → k <ℤ l → l ≤ℤ b → t ≡ p → b ≡ q → p <ℤ q
        lifted_over t k l b p q h i j e f = omega (arith, ints)
