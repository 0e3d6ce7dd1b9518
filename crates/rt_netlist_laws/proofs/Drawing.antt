-- The nets of a drawing are those of its source, and so are the numbers of its labels.
use Rattle.std.proofs.Common.{◌≡◌, ℕ, ◌<◌, ℤ, pos, ◌≤ℤ◌, ◌↔◌, true, List, length, slice_get, Some, refl, sym, ◌∙◌, subst, inl, inr, arith}
use Rattle.std.proofs.lemmas.Int.{ints}
use Rattle.std.proofs.lemmas.Option.{slice_get_cases, slice_get_within}
use Rattle.rt_cells.specs.Rectangles.{Holds}
use Rattle.rt_cells.proofs.Lines.{first_place}
use Rattle.rt_layout.specs.declared.layout.Label.{Label}
use Rattle.rt_layout.specs.declared.layout.Layout.{Layout}
use Rattle.rt_layout.specs.Covering.{MaskCovers}
use Rattle.rt_tech.specs.declared.table.Role.TheVariants.{Metal}
use Rattle.rt_tech.specs.Rules.{is_role_at}
use Rattle.rt_tech.specs.Tech.{mask_count}
use Rattle.rt_rules.proofs.Alike.{AreAlike, alike_back}
use Rattle.rt_family.proofs.Drawn.{drawn_family}
use Rattle.rt_cuts.proofs.Labels.{touched_holds}
use Rattle.rt_strips.specs.Channels.{IsOfRole}
use Rattle.rt_strips.specs.Placed.{mask_of}
use Rattle.rt_links.specs.Wires as wires
use Rattle.rt_links.specs.Wires.{Spot}
use Rattle.rt_links.proofs.Offered.{nets_are_carried}
use Rattle.rt_links.proofs.Walks.{linked_both}
use Rattle.rt_view.proofs.Opened.{sound_source}
use Rattle.rt_view.specs.declared.job.Job.{Job}
use Rattle.rt_view.specs.Job.{strips_of, IsJobOf, IsJob}
use Rattle.rt_view.specs.Shapes.{IsLower}
use Rattle.rt_netlist.specs.Nets.{AreJoined, AreOnNet}
use Rattle.rt_netlist.specs.Labels.{IsOnSpot, AreOnOneNet, Extracts}
use Rattle.rt_netlist.proofs.Alike.{AreToldAlike, net_alike, extracts_by}
use Rattle.rt_netlist.proofs.OneNet.{spot, label_on_net}
use Rattle.rt_rows.specs.declared.row.Var.{Var}
use Rattle.rt_template.specs.Between.{IsStripOf, source_area}
use Rattle.rt_template.specs.Drawing.{drawn_area}
use Rattle.rt_template.specs.Horizontal.{MeetsAcross}
use Rattle.rt_template.specs.Vertical.{MeetsUpwards}
use Rattle.rt_moved.proofs.Carrying.{in_units, drawn_cells, mask_scaled}
use Rattle.rt_moved.proofs.Clean.{moved_breaks_no_rule}
use Rattle.rt_moved.proofs.Drawn.{drawn_alike}
use Rattle.rt_moved.proofs.Lying.{told_lower, cut_with_lower}
use Rattle.rt_moved.proofs.Source.{source_cells, source_family, source_alike}
use Rattle.rt_netlist_laws.specs.Laws.{drawing, AreOfOneStrip, AreDrawnAtStrips}
use Rattle.rt_netlist_laws.proofs.Told.{role_so, lower_below, metal_there, metal_here, upper_there, upper_here, lower_there, lower_here}
use Rattle.rt_netlist_laws.proofs.Carrying.{wires_of, strip_of_cut, mask_of_cut, lower_told, wires_carried}
use Rattle.rt_netlist_laws.proofs.Laid.{laid_in_source, laid_in_drawing}
use Rattle.rt_netlist_laws.proofs.Between.{net_by_cells, net_by_strips}

one_is_some : pos 1 ≤ℤ pos 1
one_is_some = omega (arith, ints)

-- a label of each number below the count is there
label_there : (labels : List Label) (a : ℕ) → a < length labels → (label : Label) × (slice_get labels a ≡ Some label)
label_there labels a below =
    elim (slice_get_cases labels a).1 [
      | inl (label, within, is, at) ↦ (label, is)
      | inr (past, none) ↦ absurd (omega (arith, below, past))
    ]

module _ (layout : Layout) (job : Job) (of : IsJobOf layout job) where
  abbrev is : IsJob job
  is = record { layout = layout; job_of = of }

  -- by one table, cells that are the same on its masks are told alike
  by_table : (P Q : ℕ → ℤ → ℤ → Type 0) → ((m : ℕ) → m < mask_count job.source → AreAlike (P m) (Q m)) → AreToldAlike job.source job.source P Q
  by_table P Q alike = record {
    metal = λ m h. h;
    upper = λ m u h. h;
    lower = λ m l h. h;
    lower_back = λ m l h. h;
    metals = λ m metal. alike m (slice_get_within job.source.masks m metal.mask metal.there);
    cuts = λ m l lower. let cut = cut_with_lower job.source m l lower in alike m (slice_get_within job.source.masks m cut.mask cut.there);
    lowers = λ m l lower. alike l (lower_below job.source (sound_source job is).valid of.source_pairs m l lower);
  }

  lowers : (c : ℕ) → (wires_of job).cuts c ≡ true → IsLower job.source (mask_of (strips_of job) c) (told_lower job c)
  lowers c k = lower_told job is (mask_of (strips_of job) c) (mask_of_cut job c k) c (strip_of_cut job c k)

  module _ (at : Var → ℤ) (across : MeetsAcross job at) (upwards : MeetsUpwards job at at) where
    alike : (m : ℕ) → AreAlike (drawn_cells job at m) (drawing job at m)
    alike m = drawn_alike job.target.grid at (strips_of job) m

    -- the drawing by the source's table and by the target's
    to_target : AreToldAlike job.source job.target (drawn_cells job at) (drawing job at)
    to_target = record {
      metal = metal_there job.source job.target (sound_source job is).same_form;
      upper = upper_there job.source job.target (sound_source job is).same_form;
      lower = lower_there job.source job.target (sound_source job is).same_form;
      lower_back = lower_here job.source job.target (sound_source job is).same_form;
      metals = λ m h. alike m;
      cuts = λ m l h. alike m;
      lowers = λ m l h. alike l;
    }

    to_source : AreToldAlike job.target job.source (drawing job at) (drawn_cells job at)
    to_source = record {
      metal = metal_here job.source job.target (sound_source job is).same_form;
      upper = upper_here job.source job.target (sound_source job is).same_form;
      lower = lower_here job.source job.target (sound_source job is).same_form;
      lower_back = lower_there job.source job.target (sound_source job is).same_form;
      metals = λ m h. alike_back (drawn_cells job at m) (drawing job at m) (alike m);
      cuts = λ m l h. alike_back (drawn_cells job at m) (drawing job at m) (alike m);
      lowers = λ m l h. alike_back (drawn_cells job at l) (drawing job at l) (alike l);
    }

    one_strip : (p r : Spot) → AreOfOneStrip job at p r → wires.AreOfOneStrip (wires_of job) (source_area job) (in_units job at) p r
    one_strip p r one =
        let conducts = role_so job.source Metal p.mask one.metal in
        record {
          strip = one.strip;
          in_source = record { conducts = conducts; holds = record { strip = one.of_mask; cell = one.in_source } };
          in_drawing = record {
            conducts = subst (λ k. is_role_at Metal job.source.masks k ≡ true) (sym one.one_mask) conducts;
            holds = record { strip = subst (λ k. IsStripOf job k one.strip) (sym one.one_mask) one.of_mask; cell = one.in_drawing };
          };
        }

    -- spots of two strips are of one net in the source exactly where spots of these strips are in the drawing
    pub nets_kept : (p q r t : Spot) → AreOfOneStrip job at p r → AreOfOneStrip job at q t
        → AreOnNet job.source (MaskCovers layout) p q ↔ AreOnNet job.target (drawing job at) r t
    nets_kept p q r t one two =
        let both = nets_are_carried (wires_of job) (source_area job) (in_units job at) (wires_carried job is at across upwards) p q r t (one_strip p r one) (one_strip q t two) in
        let strips = by_table (MaskCovers layout) (source_cells job) (λ m below. alike_back (source_cells job m) (MaskCovers layout m) (source_alike job is m below)) in
        let masks = by_table (source_cells job) (MaskCovers layout) (source_alike job is) in (
          λ walk.
              net_alike job.source job.target (drawn_cells job at) (drawing job at) to_target r t
              (net_by_cells job (in_units job at) (laid_in_drawing job is at across upwards) lowers r t
              (both.0 (net_by_strips job (source_area job) (laid_in_source job is) p q
              (net_alike job.source job.source (MaskCovers layout) (source_cells job) strips p q walk)))),
          λ walk.
              net_alike job.source job.source (source_cells job) (MaskCovers layout) masks p q
              (net_by_cells job (source_area job) (laid_in_source job is) lowers p q
              (both.1 (net_by_strips job (in_units job at) (laid_in_drawing job is at across upwards) r t
              (net_alike job.target job.source (drawing job at) (drawn_cells job at) to_source r t walk)))),
        )

    module _ (labels moved : List Label) (drawn_so : AreDrawnAtStrips job at labels moved) where
      -- a spot that label number a is on in the source, and one of the same strip that it is on in the drawing
      record AreTwins (a : ℕ) (p r : Spot) : Type 0 where
        here : IsOnSpot job.source (MaskCovers layout) labels a p
        there : IsOnSpot job.target (drawing job at) moved a r
        one_strip : AreOfOneStrip job at p r

      -- a label on a metal has such spots: a cell at its point of the strip that it touches, and the lower left cell of that
      twins : (a : ℕ) (label other : Label) → slice_get labels a ≡ Some label → slice_get moved a ≡ Some other → IsOfRole job.source Metal label.mask
          → (p : Spot) × (r : Spot) × AreTwins a p r
      twins a label other here there metal =
          let m = label.mask in
          let d = drawn_so.each a label other here there in
          let f = d.strip in
          let strip = d.touches.strip in
          let below = slice_get_within job.source.masks m metal.mask metal.there in
          let carried = (mask_scaled job is at across upwards m (subst (λ n. m < n) (sym of.same_masks) below)).0 in
          let full = (drawn_family (IsStripOf job m) (source_area job) (in_units job at) _ _ carried).nonempty f strip in
          let c = touched_holds (source_area job f) label.at.0 label.at.1 ((source_family job is m).nonempty f strip) d.touches.touches in
          let box = drawn_area job.target.grid at f in
          let corner : Holds box box.left box.bottom = record { column = first_place _ _ full.across; row = first_place _ _ full.upwards } in (
            spot m c.0 c.1,
            spot m box.left box.bottom,
            record {
              here = record {
                label = label;
                there = here;
                of_mask = refl;
                at = c.3;
                live = record { metal = metal; covered = (source_alike job is m below).to c.0 c.1 (record { number = f; holds = record { strip = strip; cell = c.2 } }) };
              };
              there = record {
                label = other;
                there = there;
                of_mask = sym d.one_mask;
                at = record { column = inr (sym d.left); row = inr (sym d.bottom) };
                live = record {
                  metal = metal_there job.source job.target (sound_source job is).same_form m metal;
                  covered = (alike m).to box.left box.bottom (record { number = f; holds = record { strip = strip; cell = corner } });
                };
              };
              one_strip = record { metal = metal; one_mask = refl; strip = f; of_mask = strip; in_source = c.2; in_drawing = corner };
            },
          )

      -- two spots that a label is on are of one net, in the source and in the drawing
      one_here : (a : ℕ) (p q : Spot) → IsOnSpot job.source (MaskCovers layout) labels a p → IsOnSpot job.source (MaskCovers layout) labels a q
          → AreOnNet job.source (MaskCovers layout) p q
      one_here a p q = label_on_net job.source (MaskCovers layout) (pos 1) one_is_some of.source (sound_source job is).clean labels a p q

      one_there : (a : ℕ) (p q : Spot) → IsOnSpot job.target (drawing job at) moved a p → IsOnSpot job.target (drawing job at) moved a q
          → AreOnNet job.target (drawing job at) p q
      one_there a p q = label_on_net job.target (drawing job at) job.target.grid of.target.grid.low of.target (moved_breaks_no_rule job is at across upwards) moved a p q

      -- labels on one net in the source are on one net in the drawing
      drawn_on_net : (a b : ℕ) → a < length moved → b < length moved → AreOnOneNet job.source (MaskCovers layout) labels a b
          → AreOnOneNet job.target (drawing job at) moved a b
      drawn_on_net a b l m one =
          let other = label_there moved a l in
          let next = label_there moved b m in
          let (p, r, twin) = twins a one.on_first.label other.0 one.on_first.there other.1 (subst (IsOfRole job.source Metal) one.on_first.of_mask one.on_first.live.metal) in
          let (q, t, pair) = twins b one.on_second.label next.0 one.on_second.there next.1 (subst (IsOfRole job.source Metal) one.on_second.of_mask one.on_second.live.metal) in
          let join = AreJoined job.source (MaskCovers layout) in
          record {
            first = r;
            second = t;
            on_first = twin.there;
            on_second = pair.there;
            one_net = (nets_kept p q r t twin.one_strip pair.one_strip).0
                (linked_both join p one.first q (one_here a p one.first twin.here one.on_first)
                (linked_both join one.first one.second q one.one_net (one_here b one.second q one.on_second pair.here)));
          }

      -- a metal of a drawn label is one of its label in the source
      own_metal : (a : ℕ) (r : Spot) (on : IsOnSpot job.target (drawing job at) moved a r) (label : Label) → slice_get labels a ≡ Some label → IsOfRole job.source Metal label.mask
      own_metal a r on label here =
          subst (IsOfRole job.source Metal) (on.of_mask ∙ (drawn_so.each a label on.label here on.there).one_mask)
          (metal_here job.source job.target (sound_source job is).same_form r.mask on.live.metal)

      -- and the other way round
      source_on_net : (a b : ℕ) → a < length moved → b < length moved → AreOnOneNet job.target (drawing job at) moved a b
          → AreOnOneNet job.source (MaskCovers layout) labels a b
      source_on_net a b l m one =
          let own = label_there labels a (subst (λ n. a < n) (sym drawn_so.counted) l) in
          let next = label_there labels b (subst (λ n. b < n) (sym drawn_so.counted) m) in
          let (p, r, twin) = twins a own.0 one.on_first.label own.1 one.on_first.there (own_metal a one.first one.on_first own.0 own.1) in
          let (q, t, pair) = twins b next.0 one.on_second.label next.1 one.on_second.there (own_metal b one.second one.on_second next.0 next.1) in
          let join = AreJoined job.target (drawing job at) in
          record {
            first = p;
            second = q;
            on_first = twin.here;
            on_second = pair.here;
            one_net = (nets_kept p q r t twin.one_strip pair.one_strip).1
                (linked_both join r one.first t (one_there a r one.first twin.there one.on_first)
                (linked_both join one.first one.second t one.one_net (one_there b one.second t one.on_second pair.there)));
          }

      -- the labels of the drawing have the numbers of the source's labels
      pub numbers_kept : (numbers : List ℕ) → Extracts job.source (MaskCovers layout) labels numbers ↔ Extracts job.target (drawing job at) moved numbers
      numbers_kept numbers = (
        extracts_by job.source job.target (MaskCovers layout) (drawing job at) labels moved drawn_so.counted drawn_on_net source_on_net numbers,
        extracts_by job.target job.source (drawing job at) (MaskCovers layout) moved labels (sym drawn_so.counted)
            (λ a b l m. source_on_net a b (subst (λ n. a < n) drawn_so.counted l) (subst (λ n. b < n) drawn_so.counted m))
            (λ a b l m. drawn_on_net a b (subst (λ n. a < n) drawn_so.counted l) (subst (λ n. b < n) drawn_so.counted m)) numbers,
      )
