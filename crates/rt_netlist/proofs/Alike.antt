-- Spots are of one net alike, and labels have the same numbers, by two tables that tell the same of the masks and over the same cells.
use Rattle.std.proofs.Common.{◌≡◌, ℕ, ◌<◌, ℤ, List, length, slice_index, ◌∙◌, subst, inl, inr}
use Rattle.rt_layout.specs.declared.layout.Label.{Label}
use Rattle.rt_tech.specs.declared.table.Role.TheVariants.{Metal}
use Rattle.rt_tech.specs.declared.table.Tech.{Tech}
use Rattle.rt_rules.proofs.Alike.{AreAlike, alike_back, joined_alike, lies_alike}
use Rattle.rt_strips.specs.Channels.{IsOfRole}
use Rattle.rt_links.specs.Numbers.{AreNumbered}
use Rattle.rt_links.specs.Wires.{Spot}
use Rattle.rt_links.proofs.Numbered.{numbered_alike}
use Rattle.rt_links.proofs.Walks.{linked_alike}
use Rattle.rt_view.specs.Shapes.{IsUpper, IsLower, LiesInOne}
use Rattle.rt_netlist.specs.Nets.{IsLive, AreJoined, AreOnNet}
use Rattle.rt_netlist.specs.Labels.{IsOnSpot, AreOnOneNet, Extracts}

-- the tables tell the same metals and the same masks beside each cut, and these masks cover the same cells
pub record AreToldAlike (tech other : Tech) (P Q : ℕ → ℤ → ℤ → Type 0) : Type 0 where
  pub metal : (m : ℕ) → IsOfRole tech Metal m → IsOfRole other Metal m
  pub upper : (m u : ℕ) → IsUpper tech m u → IsUpper other m u
  pub lower : (m l : ℕ) → IsLower tech m l → IsLower other m l
  pub lower_back : (m l : ℕ) → IsLower other m l → IsLower tech m l
  pub metals : (m : ℕ) → IsOfRole tech Metal m → AreAlike (P m) (Q m)
  pub cuts : (m l : ℕ) → IsLower tech m l → AreAlike (P m) (Q m)
  pub lowers : (m l : ℕ) → IsLower tech m l → AreAlike (P l) (Q l)

module _ (tech other : Tech) (P Q : ℕ → ℤ → ℤ → Type 0) (told : AreToldAlike tech other P Q) where
  live_alike : (p : Spot) → IsLive tech P p → IsLive other Q p
  live_alike p live = record { metal = told.metal p.mask live.metal; covered = (told.metals p.mask live.metal).to p.x p.y live.covered }

  one_lower_alike : (m l : ℕ) (x y : ℤ) → LiesInOne tech P m l x y → LiesInOne other Q m l x y
  one_lower_alike m l x y one = record {
    lower = told.lower m l one.lower;
    lies = lies_alike (P m) (Q m) (P l) (Q l) (told.cuts m l one.lower) (told.lowers m l one.lower) x y one.lies;
    alone = λ k lower lies.
        let own = told.lower_back m k lower in
        one.alone k own (lies_alike (Q m) (P m) (Q k) (P k) (alike_back (P m) (Q m) (told.cuts m k own)) (alike_back (P k) (Q k) (told.lowers m k own)) x y lies);
  }

  join_alike : (p q : Spot) → AreJoined tech P p q → AreJoined other Q p q
  join_alike p q join = record {
    first = live_alike p join.first;
    second = live_alike q join.second;
    near = elim (join.near) [
      | inl side ↦ inl side
      | inr c ↦ inr (record {
        cut = c.cut;
        upper = told.upper c.cut p.mask c.upper;
        lower = one_lower_alike c.cut q.mask p.x p.y c.lower;
        one_piece = joined_alike (P c.cut) (Q c.cut) (told.cuts c.cut q.mask c.lower.lower) p.x p.y q.x q.y c.one_piece;
      })
    ];
  }

  -- spots of one net are of one net there too
  pub net_alike : (p q : Spot) → AreOnNet tech P p q → AreOnNet other Q p q
  net_alike = linked_alike (AreJoined tech P) (AreJoined other Q) join_alike

  on_spot_alike : (labels : List Label) (a : ℕ) (p : Spot) → IsOnSpot tech P labels a p → IsOnSpot other Q labels a p
  on_spot_alike labels a p on = record { label = on.label; there = on.there; of_mask = on.of_mask; at = on.at; live = live_alike p on.live }

  -- labels of one net are of one net there too
  pub labels_alike : (labels : List Label) (a b : ℕ) → AreOnOneNet tech P labels a b → AreOnOneNet other Q labels a b
  labels_alike labels a b one = record {
    first = one.first;
    second = one.second;
    on_first = on_spot_alike labels a one.first one.on_first;
    on_second = on_spot_alike labels b one.second one.on_second;
    one_net = net_alike one.first one.second one.one_net;
  }

-- labels on one net alike have the same numbers
pub extracts_by : (tech other : Tech) (P Q : ℕ → ℤ → ℤ → Type 0) (labels moved : List Label) (same : length labels ≡ length moved)
    → ((a b : ℕ) → a < length moved → b < length moved → AreOnOneNet tech P labels a b → AreOnOneNet other Q moved a b)
    → ((a b : ℕ) → a < length moved → b < length moved → AreOnOneNet other Q moved a b → AreOnOneNet tech P labels a b)
    → (numbers : List ℕ) → Extracts tech P labels numbers → Extracts other Q moved numbers
extracts_by tech other P Q labels moved same to from numbers is = record {
  counted = is.counted ∙ same;
  fresh = is.fresh;
  numbered = numbered_alike (length moved) (AreOnOneNet tech P labels) (AreOnOneNet other Q moved) to from is.fresh (λ a. slice_index numbers a)
      (subst (λ n. AreNumbered n (AreOnOneNet tech P labels) is.fresh (λ a. slice_index numbers a)) same is.numbered);
}
