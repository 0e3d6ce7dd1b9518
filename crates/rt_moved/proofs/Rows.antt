-- The rows of both templates, as those of the family of a mask's strips.
use Rattle.std.proofs.Common.{ℕ, ◌<◌, ℤ, pos, ◌+ℤ◌, ◌-ℤ◌, ◌≤ℤ◌, ◌<ℤ◌, ◌⊎◌, sym, subst, ◌∙◌, inl, inr, arith}
use Rattle.std.proofs.lemmas.Int.{ints, clamps}
use Rattle.std.specs.Int.{int_max, int_min}
use Rattle.rt_cells.specs.Line.{Within}
use Rattle.rt_cells.specs.Rectangles.{Rectangle, IsNonempty, columns_between}
use Rattle.rt_family.specs.Strips as family
use Rattle.rt_family.specs.Carried as carried
use Rattle.rt_family.specs.Rows.{KeepsEnds, AreTouching, MeetsRows}
use Rattle.rt_view.specs.declared.job.Job.{Job}
use Rattle.rt_view.specs.Job.{strips_of}
use Rattle.rt_rows.specs.declared.row.Var.{Var}
use Rattle.rt_rows.specs.declared.row.Var.TheVariants.{L, R, B, T}
use Rattle.rt_rows.specs.declared.name.Name.TheVariants.{Wide, Ll, Rr, Share, On, Under, Gap}
use Rattle.rt_rows.specs.Rows.{beyond}
use Rattle.rt_rows.proofs.Rows.{beyond_met}
use Rattle.rt_strips.specs.Placed.{left_of, right_of, bottom_of, top_of}
use Rattle.rt_strips.specs.Standing.{Touch}
use Rattle.rt_strips.specs.StripsOf.{AreStripsOf}
use Rattle.rt_strips.proofs.Family.{IsOfMask, box_of, stands_in_family, stands_from_family, climb_in_family}
use Rattle.rt_tech.specs.Tech.{width_of, space_of, IsMeasured}
use Rattle.rt_template.specs.Horizontal.{width_across, space_between, AreOfOneDrawnMask, RowAcross, MeetsAcross}
use Rattle.rt_template.specs.Vertical.{columns_apart, AreOpen, RowUpwards, MeetsUpwards}
use Rattle.rt_moved.proofs.Drawn.{in_steps}
use Rattle.rt_moved.proofs.Heights.{some_height}

not_before : (a b p q : ℤ) → a ≤ℤ b → (p +ℤ int_min (b -ℤ a) (pos 1)) ≤ℤ q → p ≤ℤ q
not_before a b p q h k = omega (arith, ints, clamps)

nothing_more : (p q : ℤ) → (p +ℤ pos 0) ≤ℤ q → p ≤ℤ q
nothing_more p q h = omega (arith, ints)

common_row : (a b : Rectangle) → IsNonempty a → IsNonempty b → family.ShareRow a b → int_max a.bottom b.bottom <ℤ int_min a.top b.top
common_row a b h k row = omega (arith, ints, clamps, h.upwards, k.upwards, row.first, row.second)

module _ (job : Job) (cells : ℕ → ℤ → ℤ → Type 0) (masks : ℕ) (are : AreStripsOf cells masks (strips_of job)) (at : Var → ℤ)
    (m : ℕ) (below : m < job.view.strips.masks) where
  -- a strip of the mask, and its rectangle in the source
  abbrev Member : ℕ → Type 0
  Member = IsOfMask (strips_of job) m

  abbrev source : ℕ → Rectangle
  source = box_of (strips_of job)

  one_drawn : (i j : ℕ) → Member i → Member j → AreOfOneDrawnMask job i j
  one_drawn i j h k = record {
    one_mask = record { first = record { below_count = h.below }; second = record { below_count = k.below }; one_mask = h.of_mask ∙ sym k.of_mask };
    is_drawn = subst (λ n. n < job.view.strips.masks) (sym h.of_mask) below;
  }

  touch_of : (i j : ℕ) → AreTouching Member source i j → Touch (strips_of job) i j
  touch_of i j (inl s) = inl (stands_from_family cells masks (strips_of job) are m i j s)
  touch_of i j (inr s) = inr (stands_from_family cells masks (strips_of job) are m j i s)

  touching_of : (i j : ℕ) → Member i → Member j → Touch (strips_of job) i j → AreTouching Member source i j
  touching_of i j h k (inl s) = inl (stands_in_family cells masks (strips_of job) are m i j h.of_mask s)
  touching_of i j h k (inr s) = inr (stands_in_family cells masks (strips_of job) are m j i k.of_mask s)

  first_touching : (i j : ℕ) → AreTouching Member source i j → Member i
  first_touching i j (inl s) = s.lower
  first_touching i j (inr s) = s.upper

  -- across: how wide each strip is, what is kept of two that touch, and of two with a common row
  pub wide_enough : MeetsAcross job at → (i : ℕ) → Member i → (at (L i) +ℤ width_of job.target m) ≤ℤ at (R i)
  wide_enough across i h =
      subst (λ n. (at (L i) +ℤ width_of job.target n) ≤ℤ at (R i)) h.of_mask
      (beyond_met at (L i) (R i) (width_across job i)
      (across.meets (Wide i) (beyond (L i) (R i) (width_across job i)) (RowAcross.wide i (record { below_count = h.below }))))

  ends_kept : MeetsAcross job at → (i j : ℕ) → AreTouching Member source i j
      → KeepsEnds (width_of job.target m) (source i) (source j) (in_steps at i) (in_steps at j)
  ends_kept across i j t =
      let touch = touch_of i j t in
      let first = first_touching i j t in
      record {
        wide = wide_enough across i first;
        lefts = λ l. not_before (left_of (strips_of job) i) (left_of (strips_of job) j) (at (L i)) (at (L j)) l
            (beyond_met at (L i) (L j) _ (across.meets (Ll i j) _ (RowAcross.ll i j touch l)));
        rights = λ l. not_before (right_of (strips_of job) i) (right_of (strips_of job) j) (at (R i)) (at (R j)) l
            (beyond_met at (R i) (R j) _ (across.meets (Rr i j) _ (RowAcross.rr i j touch l)));
        shared = λ l r. subst (λ n. (at (L j) +ℤ width_of job.target n) ≤ℤ at (R i)) first.of_mask
            (beyond_met at (L j) (R i) (width_across job i) (across.meets (Share i j) _ (RowAcross.share i j touch l r)));
      }

  kept_right : MeetsAcross job at → (i j : ℕ) → Member i → Member j → ¬ AreTouching Member source i j → right_of (strips_of job) i ≤ℤ left_of (strips_of job) j
      → family.ShareRow (source i) (source j) → (at (R i) +ℤ space_of job.target m) ≤ℤ at (L j)
  kept_right across i j h k apart beside row =
      subst (λ n. (at (R i) +ℤ space_of job.target n) ≤ℤ at (L j)) h.of_mask
      (beyond_met at (R i) (L j) (space_between job i j)
      (across.meets (Gap i j) _ (RowAcross.gap i j (record {
        of_one_mask = one_drawn i j h k;
        untouched = λ t. apart (touching_of i j h k t);
        beside = beside;
        near = inl (record { common = common_row (source i) (source j) (are.nonempty i (record { below_count = h.below })) (are.nonempty j (record { below_count = k.below })) row });
      }))))

  -- upwards: what stands adjoins, and what is kept of two one above the other
  is_on : MeetsUpwards job at at → (i j : ℕ) → family.StandsOn Member source i j → at (T i) ≤ℤ at (B j)
  is_on upwards i j s =
      nothing_more (at (T i)) (at (B j))
      (beyond_met at (T i) (B j) (pos 0) (upwards.meets (On i j) _ (RowUpwards.on i j (stands_from_family cells masks (strips_of job) are m i j s))))

  is_under : MeetsUpwards job at at → (i j : ℕ) → family.StandsOn Member source i j → at (B j) ≤ℤ at (T i)
  is_under upwards i j s =
      nothing_more (at (B j)) (at (T i))
      (beyond_met at (B j) (T i) (pos 0) (upwards.meets (Under i j) _ (RowUpwards.under i j (stands_from_family cells masks (strips_of job) are m i j s))))

  -- not climbed, or seen at a column with none between
  abbrev IsOpenTo : ℕ → ℕ → Type 0
  IsOpenTo i j = (¬ family.IsClimbed Member source i j)
      ⊎ ((x : ℤ) × Within (at (L i)) (at (R i)) x × Within (at (L j)) (at (R j)) x
      × ((k : ℕ) → ¬ carried.LiesBetween Member source (in_steps at) i j x k))

  open_of : (i j : ℕ) → Member i → IsOpenTo i j → AreOpen job at i j
  open_of i j h (inl none) = inl (λ c. none (climb_in_family cells masks (strips_of job) are m i j h.of_mask c).0)
  open_of i j h (inr seen) = inr (record {
    x = seen.0;
    first = seen.1;
    second = seen.2;
    none_between = λ k b. seen.3 k (record {
      strip = record { below = b.with_first.second.below_count; of_mask = sym b.with_first.one_mask ∙ h.of_mask };
      column = b.column;
      above = b.above_first;
      below = b.below_second;
    });
  })

  kept_above : MeetsUpwards job at at → (i j : ℕ) → Member i → Member j → ¬ AreTouching Member source i j → top_of (strips_of job) i ≤ℤ bottom_of (strips_of job) j
      → columns_between (in_steps at i) (in_steps at j) <ℤ space_of job.target m → IsOpenTo i j → (at (T i) +ℤ space_of job.target m) ≤ℤ at (B j)
  kept_above upwards i j h k apart above near open_to =
      subst (λ n. (at (T i) +ℤ space_of job.target n) ≤ℤ at (B j)) h.of_mask
      (beyond_met at (T i) (B j) (space_between job i j)
      (upwards.meets (Gap i j) _ (RowUpwards.gap i j (record {
        of_one_mask = one_drawn i j h k;
        untouched = λ t. apart (touching_of i j h k t);
        above = above;
        near = subst (λ n. columns_apart job at i j <ℤ space_of job.target n) (sym h.of_mask) near;
        open_to = open_of i j h open_to;
      }))))

  -- the mask's rows are met
  pub meets_rows : IsMeasured job.target → MeetsAcross job at → MeetsUpwards job at at
      → MeetsRows Member source (in_steps at) (width_of job.target m) (λ i j. space_of job.target m)
  meets_rows target across upwards = record {
    wide = wide_enough across;
    tall = λ i h. some_height job at upwards i (record { below_count = h.below }) target;
    ends = ends_kept across;
    on = is_on upwards;
    under = is_under upwards;
    right = kept_right across;
    above = kept_above upwards;
  }
