-- What the templates say of a job, they say of the same job: none of them reads how it keeps its climbs.
use Rattle.std.proofs.Common.{◌≡◌, ℕ, ℤ, ◌⊎◌, List, Option, Some, None, IfSome, IsSomeAnd, length, slice_index, map, inl, inr, ap, sym, subst}
use Rattle.rt_cuts.specs.Cuts.{grown}
use Rattle.rt_family.specs.Laws.{IsOfMask}
use Rattle.rt_family.specs.Strips.{IsHost}
use Rattle.rt_rules.specs.Pairs.{enclose_at, apart_at, lower_of}
use Rattle.rt_tech.specs.declared.table.Apart.{Apart as Distance}
use Rattle.rt_tech.specs.declared.table.Enclose.{Enclose as Enclosure}
use Rattle.rt_tech.specs.declared.table.Tech.{Tech}
use Rattle.rt_view.specs.declared.job.Job.{Job}
use Rattle.rt_view.specs.declared.shapes.View.{View}
use Rattle.rt_view.specs.Job.{strips_of}
use Rattle.rt_rows.specs.declared.name.Name.{Name}
use Rattle.rt_rows.specs.declared.row.Row.{Row}
use Rattle.rt_rows.specs.declared.row.Var.{Var}
use Rattle.rt_strips.specs.Placed.{Placed, placed, strip_at, mask_of}
use Rattle.rt_strips.specs.Standing.{IsStrip, AreOfOneMask, StandsOn, Touch}
use Rattle.rt_template.specs.Between.{IsStripOf, IsCutStrip, IsStripIn, IsHostIn, IsHostUnder, IsLowestHost, IsHighestHost, AreKeptApart, AreOnTwoSides, IsOffRight}
use Rattle.rt_template.specs.Horizontal.{AreOfOneDrawnMask, IsKeptRightOf, RowAcross, MeetsAcross}
use Rattle.rt_template.specs.Vertical.{LiesBetween, IsSeenFrom, AreOpen, IsKeptAbove, CoversBoth, IsChain, IsWholeChain, IsOffAbove, RowUpwards, MeetsUpwards}
use Rattle.rt_retarget.specs.OneAnswer.{AreSameJobs}

pub same_strips : (a b : Job) → AreSameJobs a b → strips_of a ≡ strips_of b
same_strips a b same = ap (λ (v : View). map placed v.strips.list) same.view

same_masks : (a b : Job) → AreSameJobs a b → a.view.strips.masks ≡ b.view.strips.masks
same_masks a b same = ap (λ (v : View). v.strips.masks) same.view

pub flipped : (a b : Job) → AreSameJobs a b → AreSameJobs b a
flipped a b same =
    let too = λ (i : ℕ) (s : IsStrip (strips_of b) i). subst (λ (strips : List Placed). IsStrip strips i) (sym (same_strips a b same)) s in
    record {
      view = sym same.view;
      climbs = λ i j s t. sym (same.climbs i j (too i s) (too j t));
      source = sym same.source;
      target = sym same.target;
      wishes = sym same.wishes;
      pairs = sym same.pairs;
    }

-- what follows of each entry follows of the one that is there
of_the_same : {X : Type 0} (P Q : X → Type 0) → ((x : X) → P x → Q x) → (o : Option X) → IsSomeAnd o P → IsSomeAnd o Q
of_the_same P Q each (Some x) h = each x h
of_the_same P Q each None h = h

-- enclosures and distances speak of the same strips
module _ (a b : Job) (same : AreSameJobs a b) where
  strip_of : (m i : ℕ) → IsStripOf a m i → IsStripOf b m i
  strip_of m i = subst (λ (strips : List Placed). IsOfMask (length strips) (mask_of strips) m i) (same_strips a b same)

  strip_in : (m : ℕ) (lower : Option ℕ) (i : ℕ) → IsStripIn a m lower i → IsStripIn b m lower i
  strip_in m lower i h = record {
    of_mask = strip_of m i h.of_mask;
    lies = subst (λ (v : View). IfSome lower (λ l. slice_index v.lowers i ≡ l)) same.view h.lies;
  }

  pub cut_strip : (i : ℕ) → IsCutStrip a i → IsCutStrip b i
  cut_strip i h = record { strip = rw (same_strips a b same) at h.strip; is_cut = rw (same_strips a b same, same.source) at h.is_cut }

  host_in : (i h : ℕ) (enclose : Enclosure) → IsHostIn a enclose i h → IsHostIn b enclose i h
  host_in i h enclose k = record {
    enclosed = subst (λ (s : Tech). IsStripIn b enclose.cut (lower_of s enclose) i) same.source (strip_in enclose.cut (lower_of a.source enclose) i k.enclosed);
    overlaps = subst
        (λ (strips : List Placed). IsHost (IsOfMask (length strips) (mask_of strips) enclose.mask) (λ n. (strip_at strips n).area) (grown enclose.number (strip_at strips i).area) h)
        (same_strips a b same) k.overlaps;
  }

  pub host_under : (q i h : ℕ) → IsHostUnder a q i h → IsHostUnder b q i h
  host_under q i h k =
      subst (λ (s : Tech). IsSomeAnd (enclose_at s q) (λ enclose. IsHostIn b enclose i h)) same.source
      (of_the_same (λ enclose. IsHostIn a enclose i h) (λ enclose. IsHostIn b enclose i h) (host_in i h) (enclose_at a.source q) k)

  kept_apart : (apart : Distance) (i j : ℕ) → AreKeptApart a apart i j → AreKeptApart b apart i j
  kept_apart apart i j h = record { first = strip_in apart.a apart.on i h.first; second = strip_of apart.b j h.second }

  either_apart : (i j : ℕ) (apart : Distance) → AreKeptApart a apart i j ⊎ AreKeptApart a apart j i → AreKeptApart b apart i j ⊎ AreKeptApart b apart j i
  either_apart i j apart (inl h) = inl (kept_apart apart i j h)
  either_apart i j apart (inr h) = inr (kept_apart apart j i h)

  pub two_sides : (q i j : ℕ) → AreOnTwoSides a q i j → AreOnTwoSides b q i j
  two_sides q i j h =
      subst (λ (s : Tech). IsSomeAnd (apart_at s q) (λ apart. AreKeptApart b apart i j ⊎ AreKeptApart b apart j i)) same.source
      (of_the_same (λ apart. AreKeptApart a apart i j ⊎ AreKeptApart a apart j i) (λ apart. AreKeptApart b apart i j ⊎ AreKeptApart b apart j i)
      (either_apart i j) (apart_at a.source q) h)

  pub off_right : (q i j : ℕ) → IsOffRight a q i j → IsOffRight b q i j
  off_right q i j h = record {
    sides = two_sides q i j h.sides;
    beside = rw (same_strips a b same) at h.beside;
    near = rw (same_strips a b same, same.source) at h.near;
  }

pub lowest_host : (a b : Job) → AreSameJobs a b → (q i h : ℕ) → IsLowestHost a q i h → IsLowestHost b q i h
lowest_host a b same q i h k = record {
  host = host_under a b same q i h k.host;
  lowest = λ n c. rw (same_strips a b same) at (k.lowest n (host_under b a (flipped a b same) q i n c));
}

pub highest_host : (a b : Job) → AreSameJobs a b → (q i h : ℕ) → IsHighestHost a q i h → IsHighestHost b q i h
highest_host a b same q i h k = record {
  host = host_under a b same q i h k.host;
  highest = λ n c. rw (same_strips a b same) at (k.highest n (host_under b a (flipped a b same) q i n c));
}

module _ (a b : Job) (same : AreSameJobs a b) where
  pub is_strip : (i : ℕ) → IsStrip (strips_of a) i → IsStrip (strips_of b) i
  is_strip i = subst (λ (strips : List Placed). IsStrip strips i) (same_strips a b same)

  of_one_mask : (i j : ℕ) → AreOfOneMask (strips_of a) i j → AreOfOneMask (strips_of b) i j
  of_one_mask i j = subst (λ (strips : List Placed). AreOfOneMask strips i j) (same_strips a b same)

  stands : (i j : ℕ) → StandsOn (strips_of a) i j → StandsOn (strips_of b) i j
  stands i j = subst (λ (strips : List Placed). StandsOn strips i j) (same_strips a b same)

  touch : (i j : ℕ) → Touch (strips_of a) i j → Touch (strips_of b) i j
  touch i j = subst (λ (strips : List Placed). Touch strips i j) (same_strips a b same)

  of_drawn_mask : (i j : ℕ) → AreOfOneDrawnMask a i j → AreOfOneDrawnMask b i j
  of_drawn_mask i j h = record { one_mask = of_one_mask i j h.one_mask; is_drawn = rw (same_strips a b same, same_masks a b same) at h.is_drawn }

  kept_right : (i j : ℕ) → IsKeptRightOf a i j → IsKeptRightOf b i j
  kept_right i j h = record {
    of_one_mask = of_drawn_mask i j h.of_one_mask;
    untouched = rw (same_strips a b same) at h.untouched;
    beside = rw (same_strips a b same) at h.beside;
    near = rw (same_strips a b same, same.source) at h.near;
  }

  row_across : (name : Name) (row : Row) → RowAcross a name row → RowAcross b name row
  row_across name row (RowAcross.lo i s) = RowAcross.lo i (is_strip i s)
  row_across name row (RowAcross.hi i s) = RowAcross.hi i (is_strip i s)
  row_across name row RowAcross.zero = RowAcross.zero
  row_across name row RowAcross.top = RowAcross.top
  row_across name row (RowAcross.wide i s) = rw (same_strips a b same, same.target) (RowAcross.wide i (is_strip i s))
  row_across name row (RowAcross.ll i j t l) = rw (same_strips a b same) (RowAcross.ll i j (touch i j t) (rw (same_strips a b same) at l))
  row_across name row (RowAcross.rr i j t r) = rw (same_strips a b same) (RowAcross.rr i j (touch i j t) (rw (same_strips a b same) at r))
  row_across name row (RowAcross.share i j t l r) =
      rw (same_strips a b same, same.target) (RowAcross.share i j (touch i j t) (rw (same_strips a b same) at l) (rw (same_strips a b same) at r))
  row_across name row (RowAcross.gap i j k) = rw (same_strips a b same, same.target) (RowAcross.gap i j (kept_right i j k))
  row_across name row (RowAcross.size i c) = rw (same_strips a b same, same.target) (RowAcross.size i (cut_strip a b same i c))
  row_across name row (RowAcross.off q i j k) = rw same.target (RowAcross.off q i j (off_right a b same q i j k))
  row_across name row (RowAcross.inl q i h k) = rw same.target (RowAcross.inl q i h (host_under a b same q i h k))
  row_across name row (RowAcross.inr q i h k) = rw same.target (RowAcross.inr q i h (host_under a b same q i h k))

-- positions that meet the template across of the one meet that of the other
pub meets_across : (a b : Job) → AreSameJobs a b → (at : Var → ℤ) → MeetsAcross a at → MeetsAcross b at
meets_across a b same at m = record { meets = λ name row r. m.meets name row (row_across b a (flipped a b same) name row r) }

module _ (columns : Var → ℤ) where
  between : (a b : Job) → AreSameJobs a b → (i j : ℕ) (x : ℤ) (k : ℕ) → LiesBetween a columns i j x k → LiesBetween b columns i j x k
  between a b same i j x k h = record {
    with_first = of_one_mask a b same i k h.with_first;
    column = h.column;
    above_first = rw (same_strips a b same) at h.above_first;
    below_second = rw (same_strips a b same) at h.below_second;
  }

  covers_both : (a b : Job) → AreSameJobs a b → (x u : ℤ) (i : ℕ) → CoversBoth a columns x u i → CoversBoth b columns x u i
  covers_both a b same x u i c = record { strip = is_strip a b same i c.strip; first = c.first; second = c.second }

  module _ (a b : Job) (same : AreSameJobs a b) where
    chain : (x u : ℤ) (i j : ℕ) → IsChain a columns x u i j → IsChain b columns x u i j
    chain x u i j (IsChain.one c) = IsChain.one (covers_both a b same x u i c)
    chain x u i k (IsChain.onward j _ c s d) = IsChain.onward j k (chain x u i j c) (stands a b same j k s) (covers_both a b same x u k d)

    seen : (i j : ℕ) → IsSeenFrom a columns i j → IsSeenFrom b columns i j
    seen i j h = record {
      x = h.x;
      first = h.first;
      second = h.second;
      none_between = λ k l. h.none_between k (between b a (flipped a b same) i j h.x k l);
    }

    open_to : (i j : ℕ) → AreOpen a columns i j → AreOpen b columns i j
    open_to i j (inl not_climbed) = inl (rw (same_strips a b same) at not_climbed)
    open_to i j (inr h) = inr (seen i j h)

    kept_above : (i j : ℕ) → IsKeptAbove a columns i j → IsKeptAbove b columns i j
    kept_above i j h = record {
      of_one_mask = of_drawn_mask a b same i j h.of_one_mask;
      untouched = rw (same_strips a b same) at h.untouched;
      above = rw (same_strips a b same) at h.above;
      near = rw (same_strips a b same, same.target) at h.near;
      open_to = open_to i j h.open_to;
    }

    whole_chain : (i j : ℕ) → IsWholeChain a columns i j → IsWholeChain b columns i j
    whole_chain i j h = record {
      x = h.x;
      u = h.u;
      one_or_two = h.one_or_two;
      is_drawn = rw (same_strips a b same, same_masks a b same) at h.is_drawn;
      chain = chain h.x h.u i j h.chain;
      lowest = λ k c s. h.lowest k (covers_both b a (flipped a b same) h.x h.u k c) (stands b a (flipped a b same) k i s);
      highest = λ k c s. h.highest k (covers_both b a (flipped a b same) h.x h.u k c) (stands b a (flipped a b same) j k s);
    }

    off_above : (q i j : ℕ) → IsOffAbove a columns q i j → IsOffAbove b columns q i j
    off_above q i j h = record {
      sides = two_sides a b same q i j h.sides;
      above = rw (same_strips a b same) at h.above;
      near = rw same.target at h.near;
    }

    row_upwards : (name : Name) (row : Row) → RowUpwards a columns name row → RowUpwards b columns name row
    row_upwards name row (RowUpwards.lo i s) = RowUpwards.lo i (is_strip a b same i s)
    row_upwards name row (RowUpwards.hi i s) = RowUpwards.hi i (is_strip a b same i s)
    row_upwards name row RowUpwards.zero = RowUpwards.zero
    row_upwards name row RowUpwards.top = RowUpwards.top
    row_upwards name row (RowUpwards.tall i s) = rw (same_strips a b same, same.source, same.target) (RowUpwards.tall i (is_strip a b same i s))
    row_upwards name row (RowUpwards.on i j s) = RowUpwards.on i j (stands a b same i j s)
    row_upwards name row (RowUpwards.under i j s) = RowUpwards.under i j (stands a b same i j s)
    row_upwards name row (RowUpwards.gap i j k) = rw (same_strips a b same, same.target) (RowUpwards.gap i j (kept_above i j k))
    row_upwards name row (RowUpwards.run i j c) = rw (same_strips a b same, same.target) (RowUpwards.run i j (whole_chain i j c))
    row_upwards name row (RowUpwards.size i c) = rw (same_strips a b same, same.target) (RowUpwards.size i (cut_strip a b same i c))
    row_upwards name row (RowUpwards.off q i j k) = rw same.target (RowUpwards.off q i j (off_above q i j k))
    row_upwards name row (RowUpwards.inb q i h k) = rw same.target (RowUpwards.inb q i h (lowest_host a b same q i h k))
    row_upwards name row (RowUpwards.int q i h k) = rw same.target (RowUpwards.int q i h (highest_host a b same q i h k))

-- and those that meet the template upwards
pub meets_upwards : (a b : Job) → AreSameJobs a b → (columns at : Var → ℤ) → MeetsUpwards a columns at → MeetsUpwards b columns at
meets_upwards a b same columns at m = record { meets = λ name row r. m.meets name row (row_upwards columns b a (flipped a b same) name row r) }
