-- Nets over the strips of a job are nets over the cells that these cover, in the source and in the drawing.
use Rattle.std.proofs.Common.{◌≡◌, ℕ, ◌<◌, ℤ, Bool, true, ◌&&◌, nat_lt, IsTrue, length, refl, sym, ap, ◌∙◌, subst, inl, inr, arith}
use Rattle.std.proofs.lemmas.Bool.Decides.{nat_tests}
use Rattle.rt_cells.specs.Rectangles.{Rectangle, Holds}
use Rattle.rt_cells.proofs.Rectangles.{joined_inside}
use Rattle.rt_tech.specs.declared.table.Role.TheVariants.{Metal, Cut}
use Rattle.rt_rules.specs.Pieces.{IsPiece}
use Rattle.rt_rules.proofs.Pieces.{stays_in}
use Rattle.rt_tech.specs.Rules.{is_role_at}
use Rattle.rt_tech.specs.Tech.{mask_at}
use Rattle.rt_family.specs.Strips.{CoveredBy}
use Rattle.rt_strips.specs.Placed.{mask_of}
use Rattle.rt_links.specs.Links.{AreLinked}
use Rattle.rt_links.specs.Wires as wires
use Rattle.rt_links.specs.Wires.{Spot}
use Rattle.rt_links.proofs.Walks.{linked_alike}
use Rattle.rt_view.specs.declared.job.Job.{Job}
use Rattle.rt_view.specs.Job.{strips_of}
use Rattle.rt_view.specs.Shapes.{IsUpper, IsLower, LiesInOne}
use Rattle.rt_netlist.specs.Nets.{IsLive, AreUnderCut, AreJoined, AreOnNet}
use Rattle.rt_template.specs.Between.{IsStripOf, is_of_cut}
use Rattle.rt_moved.proofs.Lying.{told_lower, cut_with_lower}
use Rattle.rt_netlist_laws.proofs.Told.{role_is, role_so, upper_at, upper_is, upper_so}
use Rattle.rt_netlist_laws.proofs.Carrying.{wires_of, strip_of_cut, mask_of_cut}
use Rattle.rt_netlist_laws.proofs.Laid.{AreLaid}

both_so : (a b : ℕ) (t : Bool) → a < b → t ≡ true → (nat_lt a b && t) ≡ true
both_so a b t below h = subst (λ u. (nat_lt a b && u) ≡ true) (sym h) (lt_so a b below)
  where
    lt_so : (a b : ℕ) → a < b → (nat_lt a b && true) ≡ true
    lt_so a b l = grind (arith, nat_tests, l)

module _ (job : Job) (box : ℕ → Rectangle) (laid : AreLaid job box) where
  abbrev Cells : ℕ → ℤ → ℤ → Type 0
  Cells m = CoveredBy (IsStripOf job m) box

  -- over strips to over cells
  module _ (c : ℕ) (is : IsTrue ((wires_of job).cuts c)) (x y : ℤ) (holds : Holds (box c) x y) where
    abbrev cut_mask : ℕ
    cut_mask = mask_of (strips_of job) c

    piece : IsPiece (Cells cut_mask) (box c)
    piece = laid.pieces cut_mask (mask_of_cut job c is) c (strip_of_cut job c is)

    lies_in_one : IsLower job.source cut_mask (told_lower job c) → LiesInOne job.source Cells cut_mask (told_lower job c) x y
    lies_in_one lower = record {
      lower = lower;
      lies = record {
        cell = piece.inside x y holds;
        lies = λ u v walk. (laid.lies cut_mask (told_lower job c) lower c (strip_of_cut job c is) refl).lies u v (stays_in (Cells cut_mask) (box c) piece x y u v holds walk);
      };
      alone = λ k other on.
          sym (laid.told cut_mask k other c
          (record { strip = strip_of_cut job c is; lies = λ u v h. on.lies u v (joined_inside (Cells cut_mask) (box c) piece.inside x y u v holds h) }));
    }

  live_cells : (p : Spot) → wires.IsLive (wires_of job) box p → IsLive job.source Cells p
  live_cells p live = record { metal = role_is job.source Metal p.mask live.conducts; covered = live.covered }

  under_cut : (lowers : (c : ℕ) → IsTrue ((wires_of job).cuts c) → IsLower job.source (mask_of (strips_of job) c) (told_lower job c))
      → (p q : Spot) → wires.AreCutTogether (wires_of job) box p q → AreUnderCut job.source Cells p q
  under_cut lowers p q t =
      let c = t.cut in
      let m = mask_of (strips_of job) c in
      record {
        cut = m;
        upper = subst (IsUpper job.source m) t.upper (upper_so job.source m (mask_of_cut job c t.is_cut));
        lower = subst (λ l. LiesInOne job.source Cells m l p.x p.y) t.lower (lies_in_one c t.is_cut p.x p.y t.first_in (lowers c t.is_cut));
        one_piece = joined_inside (Cells m) (box c) (piece c t.is_cut p.x p.y t.first_in).inside p.x p.y q.x q.y t.first_in t.second_in;
      }

  to_cells : (lowers : (c : ℕ) → IsTrue ((wires_of job).cuts c) → IsLower job.source (mask_of (strips_of job) c) (told_lower job c))
      → (p q : Spot) → wires.AreNeighbours (wires_of job) box p q → AreJoined job.source Cells p q
  to_cells lowers p q n = record {
    first = live_cells p n.first;
    second = live_cells q n.second;
    near = elim (n.near) [
      | inl side ↦ inl side
      | inr cut ↦ inr (under_cut lowers p q cut)
    ];
  }

  -- over cells to over strips
  live_strips : (p : Spot) → IsLive job.source Cells p → wires.IsLive (wires_of job) box p
  live_strips p live = record { conducts = role_so job.source Metal p.mask live.metal; covered = live.covered }

  cut_together : (p q : Spot) → AreUnderCut job.source Cells p q → wires.AreCutTogether (wires_of job) box p q
  cut_together p q t =
      let m = t.cut in
      let cut = cut_with_lower job.source m q.mask t.lower.lower in
      let c = t.lower.lies.cell.number in
      let strip : IsStripOf job m c = t.lower.lies.cell.holds.strip in
      let holds : Holds (box c) p.x p.y = t.lower.lies.cell.holds.cell in
      let own = laid.pieces m cut c strip in
      record {
        cut = c;
        is_cut = both_so c (length (strips_of job)) (is_of_cut job c) strip.below (subst (λ k. is_role_at Cut job.source.masks k ≡ true) (sym strip.of_mask) (role_so job.source Cut m cut));
        upper = ap (λ k. upper_at (mask_at job.source k)) strip.of_mask ∙ upper_is job.source m p.mask t.upper;
        lower = laid.told m q.mask t.lower.lower c (record { strip = strip; lies = λ u v h. t.lower.lies.lies u v (joined_inside (Cells m) (box c) own.inside p.x p.y u v holds h) });
        first_in = holds;
        second_in = stays_in (Cells m) (box c) own p.x p.y q.x q.y holds t.one_piece;
      }

  to_strips : (p q : Spot) → AreJoined job.source Cells p q → wires.AreNeighbours (wires_of job) box p q
  to_strips p q j = record {
    first = live_strips p j.first;
    second = live_strips q j.second;
    near = elim (j.near) [
      | inl side ↦ inl side
      | inr cut ↦ inr (cut_together p q cut)
    ];
  }

  -- spots are of one net by strips exactly where they are by cells
  pub net_by_cells : (lowers : (c : ℕ) → IsTrue ((wires_of job).cuts c) → IsLower job.source (mask_of (strips_of job) c) (told_lower job c))
      → (p q : Spot) → AreLinked (wires.AreNeighbours (wires_of job) box) p q → AreOnNet job.source Cells p q
  net_by_cells lowers = linked_alike (wires.AreNeighbours (wires_of job) box) (AreJoined job.source Cells) (to_cells lowers)

  pub net_by_strips : (p q : Spot) → AreOnNet job.source Cells p q → AreLinked (wires.AreNeighbours (wires_of job) box) p q
  net_by_strips = linked_alike (AreJoined job.source Cells) (wires.AreNeighbours (wires_of job) box) to_strips
