-- Nets of a layout, over what each mask covers: spots of metal that are joined side by side and by cuts.
use Rattle.std.specs.Prelude.{ℕ, ℤ, ◌⊎◌}
use Rattle.rt_cells.specs.Cells.{Joined}
use Rattle.rt_tech.specs.declared.table.Role.TheVariants.{Metal}
use Rattle.rt_tech.specs.declared.table.Tech.{Tech}
use Rattle.rt_strips.specs.Channels.{IsOfRole}
use Rattle.rt_links.specs.Links.{AreLinked}
use Rattle.rt_links.specs.Wires.{Spot, AreBeside}
use Rattle.rt_view.specs.Shapes.{IsUpper, LiesInOne}

module _ (tech : Tech) (cells : ℕ → ℤ → ℤ → Type 0) where
  -- the spot is live: it is a cell that a mask of metal covers
  pub record IsLive (p : Spot) : Type 0 where
    pub metal : IsOfRole tech Metal p.mask
    pub covered : cells p.mask p.x p.y

  -- a piece of a cut lies on both spots, of which the one is of the cut's upper mask, and the other of the one lower mask that the piece lies in
  pub record AreUnderCut (p q : Spot) : Type 0 where
    pub cut : ℕ
    pub upper : IsUpper tech cut p.mask
    pub lower : LiesInOne tech cells cut q.mask p.x p.y
    pub one_piece : Joined (cells cut) p.x p.y q.x q.y

  -- two live spots are joined directly: they share a side on one mask, or a piece of a cut lies on both
  pub record AreJoined (p q : Spot) : Type 0 where
    pub first : IsLive p
    pub second : IsLive q
    pub near : AreBeside p q ⊎ AreUnderCut p q

  -- the two spots are of one net: a net is a class of live spots that are linked by such pairs
  abbrev pub AreOnNet : Spot → Spot → Type 0
  AreOnNet p q = AreLinked AreJoined p q
