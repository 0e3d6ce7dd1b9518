-- A cut that keeps its side of each channel lies in linked parts in two layouts, wherever its lower left cell is in each.
use Rattle.std.proofs.Common.{refl, ◌≡◌, ℕ, ◌<◌, ◌≤◌, Bool, true, false, ℤ, ◌≤ℤ◌, ◌<ℤ◌, List, [], Contains, subst, arith}
use Rattle.std.proofs.lemmas.Int.{ints}
use mathlib.Core.Logic.{inl}
use Rattle.rt_cells.specs.Line.{Within}
use Rattle.rt_cells.specs.Rectangles.{Rectangle, IsNonempty}
use Rattle.rt_family.specs.Strips.{IsChain}
use Rattle.rt_family.specs.Strips.IsChain.{one, more}
use Rattle.rt_family.proofs.Chains.{Contains-head, Contains-rest, head_of}
use Rattle.rt_links.specs.Links.{AreLinked}
use Rattle.rt_links.proofs.Walks.{linked_both}
use Rattle.rt_parts.specs.Parts.{IsInPart, along, Cuts, low_of, high_of, CutsLying, Adjoin, IsBesideCut, IsCutting}
use Rattle.rt_parts.proofs.Inside.{part}
use Rattle.rt_parts.proofs.Touching.{IsAtColumn, adjoin_at, at_end, none_below, first_below}

-- the last strip of a chain is in its list
pub last_of : (member : ℕ → Type 0) (box : ℕ → Rectangle) (first : ℕ) (chain : List ℕ) (last : ℕ) → IsChain member box first chain last → Contains chain last
last_of member box i _ _ (one _ m) = Contains-head i []
last_of member box i _ last (more _ j _ rest stands c) = Contains-rest i rest last (last_of member box j rest last c)

too_high : (strip channel cut : Rectangle) → CutsLying strip channel → IsNonempty channel → IsNonempty cut → strip.top ≤ℤ cut.bottom → cut.top ≤ℤ channel.bottom → ⊥
too_high strip channel cut c n m h k = omega (arith, ints, c, n, m)

too_low : (strip channel cut : Rectangle) → CutsLying strip channel → IsNonempty channel → cut.bottom <ℤ strip.bottom → channel.top ≤ℤ cut.bottom → ⊥
too_low strip channel cut c n h k = omega (arith, ints, c, n)

before_end : (a b c : ℤ) → a <ℤ b → b ≤ℤ c → a <ℤ c
before_end a b c h k = omega (arith, ints)

to_bottom : (a b c : ℤ) → a ≡ b → b ≤ℤ c → a ≤ℤ c
to_bottom a b c e h = omega (arith, ints)

from_top : (a b c : ℤ) → b ≡ c → a <ℤ b → a <ℤ c
from_top a b c e h = omega (arith, ints)

next_top : (a b c d : ℤ) → b ≡ c → a <ℤ b → c <ℤ d → a <ℤ d
next_top a b c d e h k = omega (arith, ints)

lower_bottom : (a b c d : ℤ) → a <ℤ b → b ≡ c → c ≤ℤ d → a ≤ℤ d
lower_bottom a b c d h e k = omega (arith, ints)

module _ (member : ℕ → Type 0) (stands : ℕ → ℕ → Type 0) (cuts : Cuts)
    (box channel : ℕ → Rectangle) (gate : ℤ → ℤ → Type 0) (first_cutting : IsCutting member box channel gate stands cuts)
    (other other_channel : ℕ → Rectangle) (other_gate : ℤ → ℤ → Type 0) (second_cutting : IsCutting member other other_channel other_gate stands cuts)
    (cut other_cut : Rectangle) (cut_nonempty : IsNonempty cut) (other_nonempty : IsNonempty other_cut) (place : ℕ → ℕ) where
  abbrev Here : ℕ → Type 0
  Here = IsBesideCut member box channel cuts place cut

  abbrev There : ℕ → Type 0
  There = IsBesideCut member other other_channel cuts place other_cut

  past_as : (h : ℕ) → Here h → (b : Bool) → cuts.lies h ≡ b → (j : ℕ) → j < place h → high_of b (channel (cuts.number h j)) ≤ℤ low_of b cut
  past_as h at b e = subst (λ t. (j : ℕ) → j < place h → high_of t (channel (cuts.number h j)) ≤ℤ low_of t cut) e at.past

  ahead_as : (h : ℕ) → Here h → (b : Bool) → cuts.lies h ≡ b → (j : ℕ) → place h ≤ j → j < cuts.count h → high_of b cut ≤ℤ low_of b (channel (cuts.number h j))
  ahead_as h at b e = subst (λ t. (j : ℕ) → place h ≤ j → j < cuts.count h → high_of t cut ≤ℤ low_of t (channel (cuts.number h j))) e at.ahead

  ahead_there : (h : ℕ) → There h → (b : Bool) → cuts.lies h ≡ b → (j : ℕ) → place h ≤ j → j < cuts.count h → high_of b other_cut ≤ℤ low_of b (other_channel (cuts.number h j))
  ahead_there h at b e = subst (λ t. (j : ℕ) → place h ≤ j → j < cuts.count h → high_of t other_cut ≤ℤ low_of t (other_channel (cuts.number h j))) e at.ahead

  at_cut : (h : ℕ) → Here h → IsAtColumn member box channel gate stands cuts first_cutting (part h (place h)) cut.left
  at_cut h at = record {
    column = record { from = at.wide.left; to = before_end _ _ _ cut_nonempty.across at.wide.right };
    few = at.few;
    slot = λ e. record {
      few = at.few;
      past = λ j l. past_as h at false e j l;
      ahead = λ j l m. before_end _ _ _ cut_nonempty.across (ahead_as h at false e j l m);
    };
  }

  -- of two hosts, of which one stands on the other, that lie between the rows of the cut in the two layouts, the parts adjoin
  hosts_adjoin : (h k : ℕ) → stands h k → Here h → Here k → There h → (other h).top ≤ℤ other_cut.bottom → cut.bottom <ℤ (box k).bottom
      → Adjoin stands cuts (part h (place h)) (part k (place k))
  hosts_adjoin h k s a b c up down =
      adjoin_at member box channel gate stands cuts first_cutting (part h (place h)) (part k (place k)) cut.left a.strip b.strip s (at_cut h a) (at_cut k b)
      (λ e. at_end (place h) (cuts.count h) a.few (λ l.
      too_high (other h) (other_channel (cuts.number h (place h))) other_cut (second_cutting.lying h (place h) a.strip e l)
      (second_cutting.nonempty h (place h) a.strip l) other_nonempty up (ahead_there h c true e (place h) (omega arith) l)))
      (λ e. none_below (place k) (λ l. let n = first_below (place k) (cuts.count k) l b.few in
      too_low (box k) (channel (cuts.number k 0)) cut (first_cutting.lying k 0 b.strip e n) (first_cutting.nonempty k 0 b.strip n) down (past_as k b true e 0 l)))

  lowest_first : (first : ℕ) (chain : List ℕ) (last : ℕ) → IsChain member other first chain last → (other first).bottom ≤ℤ (other last).bottom
  lowest_first i _ _ (one _ m) = omega (arith, ints)
  lowest_first i _ last (more _ j _ rest s c) = lower_bottom _ _ _ _ (second_cutting.family.nonempty i s.lower).upwards s.adjoin (lowest_first j rest last c)

  chain_there : (first : ℕ) (chain : List ℕ) (last : ℕ) → IsChain member box first chain last → IsChain member other first chain last
  chain_there i _ _ (one _ m) = one i m
  chain_there i _ last (more _ j _ rest s c) = more i j last rest (second_cutting.stands_there i j (first_cutting.stands_here i j s)) (chain_there j rest last c)

  -- the part of the host in which the cut begins in one layout is linked to that in which it begins in the other, further up
  pub hosts_linked : (first : ℕ) (chain : List ℕ) (last : ℕ) → IsChain member box first chain last → ((h : ℕ) → Contains chain h → Here h × There h)
      → cut.bottom <ℤ (box first).top → (other last).bottom ≤ℤ other_cut.bottom → AreLinked (Adjoin stands cuts) (part first (place first)) (part last (place last))
  hosts_linked i _ _ (one _ m) at low high = AreLinked.here
  hosts_linked i _ last (more _ j _ rest s c) at low high =
      let here' = at i (Contains-head i rest) in
      let next = at j (Contains-rest i rest j (head_of member box j rest last c)) in
      let there = second_cutting.stands_there i j (first_cutting.stands_here i j s) in
      let a = hosts_adjoin i j (first_cutting.stands_here i j s) here'.0 next.0 here'.1
      (to_bottom _ _ _ there.adjoin (through _ _ _ (lowest_first j rest last (chain_there j rest last c)) high)) (from_top _ _ _ s.adjoin low) in
      linked_both (Adjoin stands cuts) (part i (place i)) (part j (place j)) (part last (place last))
      (AreLinked.onward (part i (place i)) (part j (place j)) AreLinked.here (inl a))
      (hosts_linked j rest last c (λ h d. at h (Contains-rest i rest h d)) (next_top _ _ _ _ s.adjoin low (first_cutting.family.nonempty j s.upper).upwards) high)
    where
      through : (a b c : ℤ) → a ≤ℤ b → b ≤ℤ c → a ≤ℤ c
      through a b c h k = omega (arith, ints)

  corner_along : (b : Bool) → low_of b cut ≡ along b cut.left cut.bottom
  corner_along true = refl
  corner_along false = refl

  nonempty_along : (b : Bool) → low_of b cut <ℤ high_of b cut
  nonempty_along true = cut_nonempty.upwards
  nonempty_along false = cut_nonempty.across

  -- the lower left cell of the cut is in the part of its host
  pub corner_in_part : (h : ℕ) → Here h → Within (box h).bottom (box h).top cut.bottom
      → IsInPart member box channel gate stands cuts (part h (place h)) cut.left cut.bottom
  corner_in_part h at row = record {
    holds = record { strip = at.strip; cell = record { column = (at_cut h at).column; row = row } };
    slot = record {
      few = at.few;
      past = λ j l. subst (λ t. high_of (cuts.lies h) (channel (cuts.number h j)) ≤ℤ t) (corner_along (cuts.lies h)) (at.past j l);
      ahead = λ j l m. subst (λ t. t <ℤ low_of (cuts.lies h) (channel (cuts.number h j))) (corner_along (cuts.lies h))
          (before_end _ _ _ (nonempty_along (cuts.lies h)) (at.ahead j l m));
    };
  }
