-- The first rule that is broken isn't kept.
use Rattle.std.proofs.Common.{ℕ, ℤ, List, [], ◌∷◌, ◌++◌, All, Option, Some, None, subst}
use Rattle.std.proofs.lemmas.List.Elements.{All-head, All-tail}
use Rattle.rt_base.specs.declared.plane.Cell.{Cell}
use Rattle.rt_layout.specs.Covering.{MaskCovers}
use Rattle.rt_tech.specs.declared.table.Apart.{Apart as Distance}
use Rattle.rt_tech.specs.declared.table.Enclose.{Enclose as Enclosure}
use Rattle.rt_tech.specs.declared.table.Tech.{Tech}
use Rattle.rt_tech.specs.declared.rules.RuleName.{RuleName}
use Rattle.rt_tech.specs.declared.rules.RuleName.TheVariants.{Width, Space, Size, Enclose, Cap, Ext, Cross, Apart}
use Rattle.rt_rules.specs.Pairs.{enclose_at, apart_at}
use Rattle.rt_rules.specs.Rules.{KeepsEnclose, KeepsDistance, ShowsEnclose, ShowsDistance, Keeps, Shows, BreaksNoRule, IsFirstBreach, FirstBreachBreaks}
use Rattle.rt_rules.proofs.Breaches.{width_breach_breaks, space_breach_breaks, size_breach_breaks, enclosure_breach_breaks, apart_breach_breaks}

pub at_split : {X : Type 0} (P : X → Type 0) (xs : List X) (x : X) (ys : List X) → All P (xs ++ x ∷ ys) → P x
at_split P [] x ys all = All-head P x ys all
at_split P (y ∷ xs) x ys all = at_split P xs x ys (All-tail P y (xs ++ x ∷ ys) all)

module _ (unit : ℤ) (tech : Tech) (cells : ℕ → ℤ → ℤ → Type 0) where
  enclosure_is_broken : (o : Option Enclosure) (p q : Cell) (found : ℤ) → ShowsEnclose unit tech cells o p q found → KeepsEnclose unit tech cells o → ⊥
  enclosure_is_broken (Some e) p q found b k = enclosure_breach_breaks _ _ (cells e.mask) p.x p.y q.x q.y found b k
  enclosure_is_broken None p q found b k = k

  distance_is_broken : (o : Option Distance) (p q : Cell) (found : ℤ) → ShowsDistance unit tech cells o p q found → KeepsDistance unit tech cells o → ⊥
  distance_is_broken (Some a) p q found b k = apart_breach_breaks _ _ (cells a.b) p.x p.y q.x q.y found b k
  distance_is_broken None p q found b k = k

  -- a rule whose breach is shown isn't kept
  pub shown_is_broken : (rule : RuleName) (p q : Cell) (found : ℤ) → Shows unit tech cells rule p q found → Keeps unit tech cells rule → ⊥
  shown_is_broken (Width m) p q found b k = width_breach_breaks _ (cells m) p.x p.y q.x q.y found b k
  shown_is_broken (Space m) p q found b k = space_breach_breaks _ (cells m) p.x p.y q.x q.y found b k
  shown_is_broken (Size m) p q found b k = size_breach_breaks _ (cells m) p.x p.y q.x q.y found b k
  shown_is_broken (Enclose n) p q found b k = enclosure_is_broken (enclose_at tech n) p q found b k
  shown_is_broken Cap p q found b k = k
  shown_is_broken Ext p q found b k = k
  shown_is_broken Cross p q found b k = k
  shown_is_broken (Apart n) p q found b k = distance_is_broken (apart_at tech n) p q found b k

  -- cells in which a rule is the first broken one break a rule
  pub first_breaks : (rule : RuleName) (p q : Cell) (found needed : ℤ) → IsFirstBreach unit tech cells rule p q found needed → BreaksNoRule unit tech cells → ⊥
  first_breaks rule p q found needed first none =
      shown_is_broken rule p q found first.shown
      (at_split (Keeps unit tech cells) first.before rule first.after
      (subst (λ (z : List RuleName). All (Keeps unit tech cells) z) first.in_order none.all))

pub layout_breach_breaks : FirstBreachBreaks
layout_breach_breaks unit tech layout rule p q found needed first none = first_breaks unit tech (MaskCovers layout) rule p q found needed first none
