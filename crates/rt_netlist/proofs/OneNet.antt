-- A label is on one net: where no rule is broken, covered cells at one point are joined.
use Rattle.std.proofs.Common.{◌≡◌, ℕ, zero, suc, ◌+◌, ◌<◌, ℤ, pos, ◌-ℤ◌, ◌*ℤ◌, ◌≤ℤ◌, ◌⊎◌, List, [], ◌∷◌, ◌++◌, All, length, refl, sym, ap, ◌∙◌, subst, inl, inr, arith, ◌↔◌, slice_index}
use Rattle.std.proofs.lemmas.Int.{ints, clamps}
use Rattle.std.proofs.lemmas.List.Elements.{All-head, All-tail}
use Rattle.std.proofs.lemmas.Option.{slice_get_within, same_Some}
use Rattle.rt_cells.specs.Line.{between}
use Rattle.rt_cells.specs.Cells.{Joined}
use Rattle.rt_cells.specs.Cells.Joined.{here, onward}
use Rattle.rt_cells.proofs.Times.{times_positive}
use Rattle.rt_layout.specs.declared.layout.Label.{Label}
use Rattle.rt_tech.specs.declared.rules.RuleName.{RuleName}
use Rattle.rt_tech.specs.declared.rules.RuleName.TheVariants.{Space, Enclose, Apart}
use Rattle.rt_tech.specs.declared.table.Mask.{Mask}
use Rattle.rt_tech.specs.declared.table.Role.TheVariants.{Metal}
use Rattle.rt_tech.specs.declared.table.Tech.{Tech}
use Rattle.rt_tech.specs.Tech.{mask_count, space_of, IsMeasured}
use Rattle.rt_tech.proofs.Lengths.{space_is_length}
use Rattle.rt_rules.specs.Rules.{shape_rule, mask_rules, numbered, Keeps, BreaksNoRule}
use Rattle.rt_rules.specs.Space.{KeepsSpace}
use Rattle.rt_family.proofs.Joins.{joined_ends}
use Rattle.rt_cuts.specs.Labels.{IsAtPoint}
use Rattle.rt_strips.specs.Channels.{IsOfRole}
use Rattle.rt_links.specs.Links.{AreLinked}
use Rattle.rt_links.specs.Wires.{Spot}
use Rattle.rt_links.proofs.Numbered.{one_number_one_net, one_net_one_number}
use Rattle.rt_links.proofs.Walks.{linked_both, linked_back}
use Rattle.rt_netlist.specs.Nets.{AreJoined, AreOnNet}
use Rattle.rt_netlist.specs.Labels.{IsOnSpot, AreOnOneNet, Extracts}

-- what holds of the rules of masks holds of the space of each, whatever rules follow
space_in : (P : RuleName → Type 0) (more : List RuleName) (from : ℕ) (masks : List Mask) → All P (mask_rules from masks ++ more) → (k n : ℕ) → from + k ≡ n → k < length masks → P (Space n)
space_in P more from [] all k n e h = absurd (omega (arith, h))
space_in P more from (mask ∷ masks) all zero n e h =
    let same : from ≡ n = omega (arith, e) in
    subst (λ i. P (Space i)) same
    (All-head P (Space from) (mask_rules (from + 1) masks ++ more) (All-tail P (shape_rule from mask) (Space from ∷ (mask_rules (from + 1) masks ++ more)) all))
space_in P more from (mask ∷ masks) all (suc k) n e h =
    space_in P more (from + 1) masks
    (All-tail P (Space from) (mask_rules (from + 1) masks ++ more) (All-tail P (shape_rule from mask) (Space from ∷ (mask_rules (from + 1) masks ++ more)) all))
    k n (omega (arith, e)) (omega (arith, h))

-- two cells at one point aren't apart
not_apart : (s x u p : ℤ) → pos 1 ≤ℤ s → (u ≡ x -ℤ pos 1) ⊎ (u ≡ x) → (p ≡ x -ℤ pos 1) ⊎ (p ≡ x) → s ≤ℤ between u p → ⊥
not_apart s x u p some (inl e) (inl f) far = omega (arith, ints, clamps)
not_apart s x u p some (inl e) (inr f) far = omega (arith, ints, clamps)
not_apart s x u p some (inr e) (inl f) far = omega (arith, ints, clamps)
not_apart s x u p some (inr e) (inr f) far = omega (arith, ints, clamps)

abbrev pub spot : ℕ → ℤ → ℤ → Spot
spot m x y = record { mask = m; x = x; y = y }

module _ (tech : Tech) (cells : ℕ → ℤ → ℤ → Type 0) where
  -- joined cells of a metal are of one net
  joined_on_net : (m : ℕ) → IsOfRole tech Metal m → (x y u v : ℤ) → Joined (cells m) x y u v → AreOnNet tech cells (spot m x y) (spot m u v)
  joined_on_net m metal x y u v (here c) = AreLinked.here
  joined_on_net m metal x y u v (onward p q _ _ walk side c) =
      AreLinked.onward (spot m p q) (spot m u v) (joined_on_net m metal x y p q walk)
      (inl (record {
        first = record { metal = metal; covered = joined_ends (cells m) x y p q walk };
        second = record { metal = metal; covered = c };
        near = inl (record { one_mask = refl; side = side });
      }))

  module _ (unit : ℤ) (some : pos 1 ≤ℤ unit) (measured : IsMeasured tech) (none : BreaksNoRule unit tech cells) where
    space_kept : (m : ℕ) → m < mask_count tech → KeepsSpace (unit *ℤ space_of tech m) (cells m)
    space_kept m below =
        space_in (Keeps unit tech cells) (numbered Enclose 0 tech.encloses ++ numbered Apart 0 tech.aparts) 0 tech.masks none.all m m (omega arith) below

    around_joined : (m : ℕ) → m < mask_count tech → (x y u v p q : ℤ) → IsAtPoint x y u v → IsAtPoint x y p q → cells m u v → cells m p q → Joined (cells m) u v p q
    around_joined m below x y u v p q a b c d =
        let positive = times_positive unit (space_of tech m) some (space_is_length tech measured m).low in
        elim ((space_kept m below).pieces u v p q c d) [
          | inl walk ↦ walk
          | inr (inl far) ↦ absurd (not_apart (unit *ℤ space_of tech m) x u p positive a.column b.column far)
          | inr (inr far) ↦ absurd (not_apart (unit *ℤ space_of tech m) y v q positive a.row b.row far)
        ]

    -- spots of one metal at one point are of one net
    at_point : (m : ℕ) → IsOfRole tech Metal m → (x y u v p q : ℤ) → IsAtPoint x y u v → IsAtPoint x y p q → cells m u v → cells m p q
        → AreOnNet tech cells (spot m u v) (spot m p q)
    at_point m metal x y u v p q a b c d =
        joined_on_net m metal u v p q (around_joined m (slice_get_within tech.masks m metal.mask metal.there) x y u v p q a b c d)

    -- all live spots that a label is on are of one net
    pub label_on_net : (labels : List Label) (a : ℕ) (p q : Spot) → IsOnSpot tech cells labels a p → IsOnSpot tech cells labels a q → AreOnNet tech cells p q
    label_on_net labels a p q one two =
        let same = same_Some one.label two.label (sym one.there ∙ two.there) in
        let e : p.mask ≡ q.mask = one.of_mask ∙ (ap (λ (l : Label). l.mask) same ∙ sym two.of_mask) in
        let at : IsAtPoint one.label.at.0 one.label.at.1 q.x q.y = subst (λ (l : Label). IsAtPoint l.at.0 l.at.1 q.x q.y) (sym same) two.at in
        subst (λ k. AreOnNet tech cells (spot p.mask p.x p.y) (spot k q.x q.y)) e
        (at_point p.mask one.live.metal one.label.at.0 one.label.at.1 p.x p.y q.x q.y one.at at one.live.covered
        (subst (λ k. cells k q.x q.y) (sym e) two.live.covered))

    -- so labels on one net are a class, as their spots are
    labels_turned : (labels : List Label) (a b : ℕ) → AreOnOneNet tech cells labels a b → AreOnOneNet tech cells labels b a
    labels_turned labels a b one = record {
      first = one.second;
      second = one.first;
      on_first = one.on_second;
      on_second = one.on_first;
      one_net = linked_back (AreJoined tech cells) one.first one.second one.one_net;
    }

    labels_both : (labels : List Label) (a b c : ℕ) → AreOnOneNet tech cells labels a b → AreOnOneNet tech cells labels b c → AreOnOneNet tech cells labels a c
    labels_both labels a b c one two = record {
      first = one.first;
      second = two.second;
      on_first = one.on_first;
      on_second = two.on_second;
      one_net = linked_both (AreJoined tech cells) one.first one.second two.second one.one_net
          (linked_both (AreJoined tech cells) one.second two.first two.second (label_on_net labels b one.second two.first one.on_second two.on_first) two.one_net);
    }

    label_itself : (labels : List Label) (a : ℕ) (p : Spot) → IsOnSpot tech cells labels a p → AreOnOneNet tech cells labels a a
    label_itself labels a p on = record { first = p; second = p; on_first = on; on_second = on; one_net = AreLinked.here }

    -- labels on two spots have one number exactly where the spots are of one net
    pub number_tells : (labels : List Label) (numbers : List ℕ) → Extracts tech cells labels numbers → (a b : ℕ) → a < length labels → b < length labels
        → (p q : Spot) → IsOnSpot tech cells labels a p → IsOnSpot tech cells labels b q → (slice_index numbers a ≡ slice_index numbers b) ↔ AreOnNet tech cells p q
    number_tells labels numbers is a b l m p q on other =
        let join = AreJoined tech cells in (
          λ e.
              let s = one_number_one_net (length labels) (AreOnOneNet tech cells labels) (labels_turned labels) (labels_both labels) is.fresh (λ n. slice_index numbers n) is.numbered
              a b l m (label_itself labels a p on) (label_itself labels b q other) e in
              linked_both join p s.first q (label_on_net labels a p s.first on s.on_first)
              (linked_both join s.first s.second q s.one_net (label_on_net labels b s.second q s.on_second other)),
          λ walk.
              one_net_one_number (length labels) (AreOnOneNet tech cells labels) (labels_turned labels) (labels_both labels) is.fresh (λ n. slice_index numbers n) is.numbered
              a b l m (record { first = p; second = q; on_first = on; on_second = other; one_net = walk }),
        )
