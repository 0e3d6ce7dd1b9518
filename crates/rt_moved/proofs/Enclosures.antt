-- The rows of an enclosure keep its strips inside of their hosts. In a source that keeps the enclosure the host with the bottom row is the lowest
-- one, and the host with the top row the highest one.
use Rattle.std.proofs.Common.{◌≡◌, ℕ, ℤ, pos, ◌-ℤ◌, ◌≤ℤ◌, Some, IsSomeAnd, ap, sym, ◌∙◌, subst, arith}
use Rattle.std.proofs.lemmas.Int.{ints, by_lt_z}
use Rattle.std.proofs.lemmas.List.Elements.{All-contains}
use Rattle.rt_cells.specs.Line.{Within, nearest_place}
use Rattle.rt_cells.specs.Rectangles.{Rectangle, IsNonempty, Holds}
use Rattle.rt_cells.proofs.Lines.{within, first_place, last_place}
use Rattle.rt_tech.specs.declared.table.Enclose.{Enclose as Enclosure}
use Rattle.rt_rules.specs.Cuts.{KeepsEnclosed}
use Rattle.rt_rules.specs.Pairs.{enclose_at, enclose_number as number_of_enclose}
use Rattle.rt_family.specs.Strips.{SpansColumns, CoveredBy, IsFamily, IsHost}
use Rattle.rt_family.proofs.Chains.{chain_holds, one_host, has_hosts}
use Rattle.rt_cuts.specs.Cuts.{grown, IsKeptInside}
use Rattle.rt_cuts.proofs.Inside.{nearest_inside, nearest_near, grown_full}
use Rattle.rt_view.specs.declared.job.Job.{Job}
use Rattle.rt_rows.specs.declared.row.Var.{Var}
use Rattle.rt_rows.specs.declared.row.Var.TheVariants.{L, R, B, T}
use Rattle.rt_rows.specs.declared.name.Name.TheVariants.{Inl, Inr, Inb, Int}
use Rattle.rt_rows.proofs.Rows.{beyond_met}
use Rattle.rt_template.specs.Between.{enclose_number, IsStripOf, source_area, IsEnclosed, IsHostIn, IsHostUnder}
use Rattle.rt_template.specs.Horizontal.{RowAcross, MeetsAcross}
use Rattle.rt_template.specs.Vertical.{RowUpwards, MeetsUpwards}
use Rattle.rt_moved.proofs.Drawn.{in_steps}

-- strips of some cells that a mask encloses by a number, and the mask's strips in a source
module _ (inner host : ℕ → Type 0) (source : ℕ → Rectangle) (family : IsFamily host source) (full : (i : ℕ) → inner i → IsNonempty (source i))
    (number : ℤ) (some : pos 0 ≤ℤ number) (enclosed : KeepsEnclosed number (CoveredBy inner source) (CoveredBy host source)) (i : ℕ) (m : inner i) where
  abbrev area : Rectangle
  area = grown number (source i)

  -- the mask covers the grown strip
  pub grown_covered : (u v : ℤ) → Holds area u v → CoveredBy host source u v
  grown_covered u v h =
      let r = source i in
      let x = nearest_place r.left r.right u in
      let y = nearest_place r.bottom r.top v in
      let column = nearest_near r.left r.right number u some (full i m).across h.column in
      let row = nearest_near r.bottom r.top number v some (full i m).upwards h.row in
      enclosed x y u v
      (record {
        number = i;
        holds = record {
          strip = m;
          cell = record { column = nearest_inside r.left r.right number u (full i m).across h.column; row = nearest_inside r.bottom r.top number v (full i m).upwards h.row };
        };
      })
      (record { columns = record { from = column.0; to = column.1 }; rows = record { from = row.0; to = row.1 } })

  -- two hosts with one row of the grown strip are one
  one_in_row : (y : ℤ) → Within area.bottom area.top y → (h k : ℕ) → IsHost host source area h → IsHost host source area k
      → Within (source h).bottom (source h).top y → Within (source k).bottom (source k).top y → h ≡ k
  one_in_row y row h k first second p q =
      let grown_is = grown_full number (source i) some (full i m) in
      let (low, high, chain, hosts) = has_hosts host source family area grown_is grown_covered in
      let (t, among, member, at) = chain_holds host source y low chain high hosts.stacked (omega (arith, ints, hosts.lowest.from, row.from)) (omega (arith, ints, hosts.highest_ends, row.to)) in
      let wide = All-contains (λ j. SpansColumns (source j) area) chain t hosts.wide among in
      let of = All-contains (IsHost host source area) chain t hosts.hosts among in
      one_host host source family area grown_is grown_covered h t y first of wide p at
      ∙ sym (one_host host source family area grown_is grown_covered k t y second of wide q at)

  -- the host with the bottom row is the lowest one
  pub lowest_host : (h : ℕ) → IsHost host source area h → Within (source h).bottom (source h).top area.bottom
      → (k : ℕ) → IsHost host source area k → (source h).bottom ≤ℤ (source k).bottom
  lowest_host h first p k second =
      by_lt_z (source k).bottom (source h).bottom
      (λ lower.
      let same = one_in_row area.bottom (first_place area.bottom area.top (grown_full number (source i) some (full i m)).upwards) h k first second p
      (within _ _ _ (omega (arith, ints, lower, p.from)) second.rows.second) in
      let one = ap (λ j. (source j).bottom) same in
      absurd (omega (arith, ints, lower, one)))
      (λ higher. higher)

  -- the host with the top row is the highest one
  pub highest_host : (h : ℕ) → IsHost host source area h → area.top ≤ℤ (source h).top
      → (k : ℕ) → IsHost host source area k → (source k).top ≤ℤ (source h).top
  highest_host h first p k second =
      by_lt_z (source h).top (source k).top
      (λ higher.
      let same = one_in_row (area.top -ℤ pos 1) (last_place area.bottom area.top (grown_full number (source i) some (full i m)).upwards) h k first second
      (within _ _ _ (omega (arith, ints, first.rows.first)) (omega (arith, ints, p)))
      (within _ _ _ (omega (arith, ints, second.rows.first)) (omega (arith, ints, p, higher))) in
      let one = ap (λ j. (source j).top) same in
      absurd (omega (arith, ints, higher, one)))
      (λ lower. lower)

-- the strips of which an enclosure speaks, in a source that keeps it
module _ (job : Job) (at : Var → ℤ) (across : MeetsAcross job at) (upwards : MeetsUpwards job at at)
    (q : ℕ) (e other : Enclosure) (there : enclose_at job.source q ≡ Some e) (there' : enclose_at job.target q ≡ Some other) (family : IsFamily (IsStripOf job e.mask) (source_area job))
    (inner : ℕ → Type 0) (spoken : (i : ℕ) → inner i → IsEnclosed job e i) (full : (i : ℕ) → inner i → IsNonempty (source_area job i))
    (some : pos 0 ≤ℤ e.number) (keeps : KeepsEnclosed e.number (CoveredBy inner (source_area job)) (CoveredBy (IsStripOf job e.mask) (source_area job))) where
  abbrev IsHostOf : ℕ → ℕ → Type 0
  IsHostOf i h = IsHost (IsStripOf job e.mask) (source_area job) (grown e.number (source_area job i)) h

  host_under : (i h : ℕ) → inner i → IsHostOf i h → IsHostUnder job q i h
  host_under i h m host = subst (λ o. IsSomeAnd o (λ enclose. IsHostIn job enclose i h)) (sym there) (record { enclosed = spoken i m; overlaps = host })

  is_host : (i h : ℕ) → IsHostUnder job q i h → IsHostOf i h
  is_host i h under =
      let host : IsHostIn job e i h = subst (λ o. IsSomeAnd o (λ enclose. IsHostIn job enclose i h)) there under in
      host.overlaps

  inside_by_rows : IsKeptInside inner (IsStripOf job e.mask) (source_area job) (in_steps at) e.number (enclose_number job.target q)
  inside_by_rows = record {
    left = λ i h m host. beyond_met at (L h) (L i) (enclose_number job.target q) (across.meets (Inl q i h) _ (RowAcross.inl q i h (host_under i h m host)));
    right = λ i h m host. beyond_met at (R i) (R h) (enclose_number job.target q) (across.meets (Inr q i h) _ (RowAcross.inr q i h (host_under i h m host)));
    bottom = λ i h m host row.
        beyond_met at (B h) (B i) (enclose_number job.target q)
        (upwards.meets (Inb q i h) _ (RowUpwards.inb q i h (record {
          host = host_under i h m host;
          lowest = λ k under. lowest_host inner (IsStripOf job e.mask) (source_area job) family full e.number some keeps i m h host row k (is_host i k under);
        })));
    top = λ i h m host ends.
        beyond_met at (T i) (T h) (enclose_number job.target q)
        (upwards.meets (Int q i h) _ (RowUpwards.int q i h (record {
          host = host_under i h m host;
          highest = λ k under. highest_host inner (IsStripOf job e.mask) (source_area job) family full e.number some keeps i m h host ends k (is_host i k under);
        })));
  }

  -- they are kept inside of their hosts, in steps
  pub hosts_around : IsKeptInside inner (IsStripOf job e.mask) (source_area job) (in_steps at) e.number other.number
  hosts_around = subst (IsKeptInside inner (IsStripOf job e.mask) (source_area job) (in_steps at) e.number) (ap number_of_enclose there') inside_by_rows
