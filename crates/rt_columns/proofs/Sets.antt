-- The names of bars are those of the strips over a column.
use Rattle.std.proofs.Common.{◌≡◌, ℕ, ◌<◌, ℤ, ◌≤ℤ◌, List, length, refl, sym, ap, ap₂, subst, subst₂, ◌∙◌}
use Rattle.rt_sweep.proofs.Passing.{some_bar}
use Rattle.rt_sweep.specs.declared.bar.Bar.{Bar}
use Rattle.rt_rows.specs.declared.name.Name.{Name}
use Rattle.rt_rows.specs.declared.name.Name.TheVariants.{Gap, Run}
use Rattle.rt_strips.specs.Placed.{Placed, bottom_of, top_of}
use Rattle.rt_strips.specs.Standing.{StandsOn}
use Rattle.rt_columns.specs.Bars.IsReached.{here, onward}
use Rattle.rt_columns.specs.Bars.{line_at, IsGapAmong, IsReached, IsRunAmong}
use Rattle.rt_columns.specs.Columns.IsChainIn.{one as alone, onward as and_on}
use Rattle.rt_columns.specs.Columns.{IsGapIn, IsChainIn, IsRunIn, AreBarsOver}
use Rattle.rt_columns.proofs.Places.{tag_is, line_of}

-- a chain begins in the set
pub first_over : (strips : List Placed) (Over : ℕ → Type 0) (i j : ℕ) → IsChainIn strips Over i j → Over i
first_over strips Over i _ (alone o) = o
first_over strips Over i _ (and_on j k chain on o) = first_over strips Over i j chain

module _ (strips : List Placed) (Over : ℕ → Type 0) (over : List Bar) (are : AreBarsOver strips Over over) where
  -- the place of a strip
  record HasPlace (i : ℕ) : Type 0 where
    p : ℕ
    there : p < length over
    is : (line_at over p).tag ≡ i

  place_of : (i : ℕ) → Over i → HasPlace i
  place_of i h =
      let b = are.every i h in
      record { p = b.listed.0; there = b.listed.1; is = tag_is over b.listed.0 b.bar b.listed.1 ∙ ap (λ (c : Bar). c.tag) b.listed.2 ∙ b.of }

  over_at : (p : ℕ) → p < length over → Over (line_at over p).tag
  over_at p h =
      let d = some_bar over p h in
      subst Over (sym (tag_is over p d h)) (are.each p d h)

  top_at : (p i : ℕ) → p < length over → (line_at over p).tag ≡ i → (line_at over p).top ≡ top_of strips i
  top_at p i h e = (line_of strips over are.bars p h).top ∙ ap (top_of strips) e

  bottom_at : (p i : ℕ) → p < length over → (line_at over p).tag ≡ i → (line_at over p).bottom ≡ bottom_of strips i
  bottom_at p i h e = (line_of strips over are.bars p h).bottom ∙ ap (bottom_of strips) e

  pub gap_to : (name : Name) → IsGapAmong strips over name → IsGapIn strips Over name
  gap_to name g =
      let p = g.p in
      let q = g.gap.q in
      let seen = g.gap.seen in
      let i = (line_at over p).tag in
      let j = (line_at over q).tag in
      let a = top_at p i g.below refl in
      let b = bottom_at q j seen.there refl in
      record {
        i = i;
        j = j;
        lower = over_at p g.below;
        upper = over_at q seen.there;
        above = subst₂ (λ (y z : ℤ). y ≤ℤ z) a b seen.above;
        none_between = λ k h up down.
            let r = place_of k h in
            seen.none_between r.p r.there
            (subst₂ (λ (y z : ℤ). y ≤ℤ z) (sym a) (sym (bottom_at r.p k r.there r.is)) up)
            (subst₂ (λ (y z : ℤ). y ≤ℤ z) (sym (top_at r.p k r.there r.is)) (sym b) down);
        apart = g.gap.gap.apart;
        named = g.gap.gap.named;
      }

  pub gap_from : (name : Name) → IsGapIn strips Over name → IsGapAmong strips over name
  gap_from name g =
      let p = place_of g.i g.lower in
      let q = place_of g.j g.upper in
      let a = top_at p.p g.i p.there p.is in
      let b = bottom_at q.p g.j q.there q.is in
      record {
        p = p.p;
        below = p.there;
        gap = record {
          q = q.p;
          seen = record {
            there = q.there;
            above = subst₂ (λ (y z : ℤ). y ≤ℤ z) (sym a) (sym b) g.above;
            none_between = λ r l up down. g.none_between (line_at over r).tag (over_at r l)
                (subst₂ (λ (y z : ℤ). y ≤ℤ z) a (bottom_at r (line_at over r).tag l refl) up)
                (subst₂ (λ (y z : ℤ). y ≤ℤ z) (top_at r (line_at over r).tag l refl) b down);
          };
          gap = record {
            apart = λ on. g.apart (subst₂ (λ (y z : ℕ). StandsOn strips y z) p.is q.is on);
            named = g.named ∙ sym (ap₂ Gap p.is q.is);
          };
        };
      }

  chain_to : (p q : ℕ) → p < length over → IsReached strips over p q → IsChainIn strips Over (line_at over p).tag (line_at over q).tag
  chain_to p _ h here = alone (over_at p h)
  chain_to p _ h (onward q r reached l on) = and_on (line_at over q).tag (line_at over r).tag (chain_to p q h reached) on (over_at r l)

  -- the end of a chain from the strip at place p
  record IsEnd (p j : ℕ) : Type 0 where
    q : ℕ
    there : q < length over
    is : (line_at over q).tag ≡ j
    reached : IsReached strips over p q

  chain_from : (p i j : ℕ) → p < length over → (line_at over p).tag ≡ i → IsChainIn strips Over i j → IsEnd p j
  chain_from p i _ h e (alone o) = record { q = p; there = h; is = e; reached = here }
  chain_from p i _ h e (and_on j k chain on o) =
      let before = chain_from p i j h e chain in
      let place = place_of k o in
      record {
        q = place.p;
        there = place.there;
        is = place.is;
        reached = onward before.q place.p before.reached place.there (subst₂ (λ (y z : ℕ). StandsOn strips y z) (sym before.is) (sym place.is) on);
      }

  pub run_to : (name : Name) → IsRunAmong strips over name → IsRunIn strips Over name
  run_to name g = record {
    i = (line_at over g.p).tag;
    j = (line_at over g.run.run.q).tag;
    chain = chain_to g.p g.run.run.q g.below g.run.run.reached;
    lowest = λ k h on. let r = place_of k h in g.run.lowest r.p r.there (subst (λ n. StandsOn strips n (line_at over g.p).tag) (sym r.is) on);
    highest = λ k h on. let r = place_of k h in g.run.run.run.highest r.p r.there (subst (λ n. StandsOn strips (line_at over g.run.run.q).tag n) (sym r.is) on);
    named = g.run.run.run.named;
  }

  pub run_from : (name : Name) → IsRunIn strips Over name → IsRunAmong strips over name
  run_from name g =
      let p = place_of g.i (first_over strips Over g.i g.j g.chain) in
      let q = chain_from p.p g.i g.j p.there p.is g.chain in
      record {
        p = p.p;
        below = p.there;
        run = record {
          lowest = λ r l on. g.lowest (line_at over r).tag (over_at r l) (subst (λ n. StandsOn strips (line_at over r).tag n) p.is on);
          run = record {
            q = q.q;
            there = q.there;
            reached = q.reached;
            run = record {
              highest = λ r l on. g.highest (line_at over r).tag (over_at r l) (subst (λ n. StandsOn strips n (line_at over r).tag) q.is on);
              named = g.named ∙ sym (ap₂ Run p.is q.is);
            };
          };
        };
      }
