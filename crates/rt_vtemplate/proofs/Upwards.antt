-- The names of the template upwards are those of all kinds.
use Rattle.std.proofs.Common.{◌≡◌, ℕ, suc, ◌⊎◌, inl, inr, ℤ, ◌≤ℤ◌, ◌<ℤ◌, List, length, Contains, sym, subst, arith}
use Rattle.std.proofs.lemmas.Int.{ints}
use Rattle.std.proofs.lemmas.List.Elements.{All-weaker, All-contains_itself}
use Rattle.rt_rows.specs.declared.name.Name.{Name}
use Rattle.rt_rows.specs.declared.name.Name.TheVariants.{Off, Inb, Int}
use Rattle.rt_rows.specs.declared.row.Var.{Var}
use Rattle.rt_rows.specs.declared.row.Row.{Row}
use Rattle.rt_rows.specs.Order.{ListsNames, ArePutInOrder}
use Rattle.rt_tech.specs.Tech.{mask_count}
use Rattle.rt_strips.specs.Placed.{bottom_of, top_of}
use Rattle.rt_strips.specs.Standing.{IsStrip, Touch, IsClimbed}
use Rattle.rt_strips.specs.StripsOf.{AreStrips}
use Rattle.rt_strips.specs.Channels.{IsStripCell}
use Rattle.rt_strips.proofs.Family.{are_strips}
use Rattle.rt_strips.proofs.Placed.{strip_there, strip_below}
use Rattle.rt_view.specs.declared.job.Job.{Job}
use Rattle.rt_view.specs.Job.{strips_of, IsJob}
use Rattle.rt_template.specs.Vertical.{RowUpwards, HasUpwards, IsKeptAbove}
use Rattle.rt_columns.specs.Shown.{IsShown, ListsShown}
use Rattle.rt_vtemplate.specs.Added.{AreAdded, HoldsExactly, IsOfFirst}
use Rattle.rt_vtemplate.specs.Kinds.{IsOfWhole, IsOfStrip, IsOfStanding, IsClearAbove, AreNearStrips, IsOfNear, IsOfTwo}
use Rattle.rt_vtemplate.specs.Steps.{IsOfSource}
use Rattle.rt_vtemplate.specs.Between.{IsOfDistance, IsOfEnclosure, IsBetween, AreBetweenAdded}
use Rattle.rt_vtemplate.proofs.Added.{added_then}

-- the strips of a job are the strips of what they cover
pub job_strips : (job : Job) → IsJob job → AreStrips (strips_of job)
job_strips job is_job =
    are_strips (IsStripCell is_job.layout job.source) (suc (mask_count job.source)) (strips_of job) is_job.job_of.view.strips.strips_are

-- the names that the source tells, one kind after the other
pub source_added : (job : Job) (count : ℕ) (a b c d : List Name) → count ≡ length job.view.strips.list
    → AreAdded IsOfWhole a b → AreAdded (IsOfFirst IsOfStrip count) b c → AreAdded (IsOfTwo (IsOfStanding (strips_of job))) c d → AreAdded (IsOfSource job) a d
source_added job count a b c d e f g h =
    added_then (λ name. IsOfWhole name ⊎ IsOfFirst IsOfStrip count name) (IsOfTwo (IsOfStanding (strips_of job))) (IsOfSource job) a c d
    (added_then IsOfWhole (IsOfFirst IsOfStrip count) (λ name. IsOfWhole name ⊎ IsOfFirst IsOfStrip count name) a b c f g
    (λ name k. inl k) (λ name k. inr k) (λ name k. k))
    h
    (λ name k. elim k [ inl m ↦ IsOfSource.whole m | inr m ↦ IsOfSource.strip (subst (λ n. IsOfFirst IsOfStrip n name) e m) ])
    (λ name k. IsOfSource.standing k)
    (λ name k. split name k)
  where
    split : (name : Name) → IsOfSource job name → (IsOfWhole name ⊎ IsOfFirst IsOfStrip count name) ⊎ IsOfTwo (IsOfStanding (strips_of job)) name
    split name (IsOfSource.whole k) = inl (inl k)
    split name (IsOfSource.strip k) = inl (inr (subst (λ n. IsOfFirst IsOfStrip n name) (sym e) k))
    split name (IsOfSource.standing k) = inr k

-- what lies above another doesn't end where that begins
pub no_circle : (b t b' t' : ℤ) → b <ℤ t → t ≤ℤ b' → b' <ℤ t' → t' ≡ b → ⊥
no_circle b t b' t' h g k e = omega (arith, ints)

module _ (job : Job) (columns : Var → ℤ) (are : AreStrips (strips_of job)) where
  -- a strip that is clear above another doesn't touch it
  untouched : (i j : ℕ) → AreNearStrips job columns i j → IsClearAbove (strips_of job) i j → ¬ Touch (strips_of job) i j
  untouched i j n c (inl s) = c.unclimbed (IsClimbed.step j s)
  untouched i j n c (inr s) =
      let one = n.of_one_mask.one_mask in
      no_circle (bottom_of (strips_of job) i) (top_of (strips_of job) i) (bottom_of (strips_of job) j) (top_of (strips_of job) j)
      (are.strips_are.nonempty i one.first).upwards c.above (are.strips_are.nonempty j one.second).upwards s.adjoin

  kept : (i j : ℕ) → AreNearStrips job columns i j → IsClearAbove (strips_of job) i j → IsKeptAbove job columns i j
  kept i j n c = record { of_one_mask = n.of_one_mask; untouched = untouched i j n c; above = c.above; near = n.near; open_to = inl c.unclimbed }

  has_shown : (name : Name) → IsShown job columns name → HasUpwards job columns name
  has_shown name (IsShown.seen i j k s) = (_, RowUpwards.gap i j k)
  has_shown name (IsShown.chained i j c) = (_, RowUpwards.run i j c)

  has_whole : (name : Name) → IsOfWhole name → HasUpwards job columns name
  has_whole name IsOfWhole.zero = (_, RowUpwards.zero)
  has_whole name IsOfWhole.top = (_, RowUpwards.top)

  has_strip : (i : ℕ) (name : Name) → IsStrip (strips_of job) i → IsOfStrip i name → HasUpwards job columns name
  has_strip i name s IsOfStrip.lo = (_, RowUpwards.lo i s)
  has_strip i name s IsOfStrip.hi = (_, RowUpwards.hi i s)
  has_strip i name s IsOfStrip.tall = (_, RowUpwards.tall i s)

  has_standing : (i j : ℕ) (name : Name) → IsOfStanding (strips_of job) i j name → HasUpwards job columns name
  has_standing i j name (IsOfStanding.on s) = (_, RowUpwards.on i j s)
  has_standing i j name (IsOfStanding.under s) = (_, RowUpwards.under i j s)

  has_source : (name : Name) → IsOfSource job name → HasUpwards job columns name
  has_source name (IsOfSource.whole k) = has_whole name k
  has_source name (IsOfSource.strip k) = has_strip k.number name (strip_there job.view.strips.list k.number k.below) k.of_kind
  has_source name (IsOfSource.standing k) = has_standing k.first k.second name k.of_kind

  has_near : (i j : ℕ) (name : Name) → IsOfNear job columns i j name → HasUpwards job columns name
  has_near i j name (IsOfNear.gap n c) = (_, RowUpwards.gap i j (kept i j n c))

  -- of which kind a name is that the template has
  of_some_kind : (name : Name) (row : Row) → RowUpwards job columns name row
      → ((IsShown job columns name ⊎ IsOfSource job name) ⊎ IsOfTwo (IsOfNear job columns) name) ⊎ IsBetween job columns name
  of_some_kind name row (RowUpwards.lo i s) =
      inl (inl (inr (IsOfSource.strip (record { number = i; below = strip_below job.view.strips.list i s; of_kind = IsOfStrip.lo }))))
  of_some_kind name row (RowUpwards.hi i s) =
      inl (inl (inr (IsOfSource.strip (record { number = i; below = strip_below job.view.strips.list i s; of_kind = IsOfStrip.hi }))))
  of_some_kind name row RowUpwards.zero = inl (inl (inr (IsOfSource.whole IsOfWhole.zero)))
  of_some_kind name row RowUpwards.top = inl (inl (inr (IsOfSource.whole IsOfWhole.top)))
  of_some_kind name row (RowUpwards.tall i s) =
      inl (inl (inr (IsOfSource.strip (record { number = i; below = strip_below job.view.strips.list i s; of_kind = IsOfStrip.tall }))))
  of_some_kind name row (RowUpwards.on i j s) = inl (inl (inr (IsOfSource.standing (record { first = i; second = j; of_kind = IsOfStanding.on s }))))
  of_some_kind name row (RowUpwards.under i j s) = inl (inl (inr (IsOfSource.standing (record { first = i; second = j; of_kind = IsOfStanding.under s }))))
  of_some_kind name row (RowUpwards.gap i j k) =
      elim k.open_to [
        | inl none ↦ inl (inr (record {
          first = i;
          second = j;
          of_kind = IsOfNear.gap (record { of_one_mask = k.of_one_mask; near = k.near }) (record { above = k.above; unclimbed = none });
        }))
        | inr seen ↦ inl (inl (inl (IsShown.seen i j k seen)))
      ]
  of_some_kind name row (RowUpwards.run i j c) = inl (inl (inl (IsShown.chained i j c)))
  of_some_kind name row (RowUpwards.size i c) = inr (IsBetween.size i c)
  of_some_kind name row (RowUpwards.off q i j k) = inr (IsBetween.distance q (Off q i j) (IsOfDistance.off i j k))
  of_some_kind name row (RowUpwards.inb q i h k) = inr (IsBetween.enclosure q (Inb q i h) (IsOfEnclosure.bottom i h k))
  of_some_kind name row (RowUpwards.int q i h k) = inr (IsBetween.enclosure q (Int q i h) (IsOfEnclosure.top i h k))

  -- the names that the columns show, those of the source, those of near strips and those between masks are all that the template has
  pub upwards_hold : (a b c d : List Name) → ListsShown job columns a → AreAdded (IsOfSource job) a b → AreAdded (IsOfTwo (IsOfNear job columns)) b c
      → AreBetweenAdded job columns c d → HoldsExactly (HasUpwards job columns) d
  upwards_hold a b c d shown f g between = record { exact = λ name. (there name, λ (h : HasUpwards job columns name). held name (of_some_kind name h.0 h.1)) }
    where
      there : (name : Name) → Contains d name → HasUpwards job columns name
      there name h = elim (between.each name h) [
        | inl i ↦ elim ((g.exact name).0 i) [
          | inl k ↦ elim ((f.exact name).0 k) [ inl e ↦ has_shown name ((shown.exact name).0 e) | inr m ↦ has_source name m ]
          | inr k ↦ has_near k.first k.second name k.of_kind
        ]
        | inr has ↦ has
      ]

      held : (name : Name) → ((IsShown job columns name ⊎ IsOfSource job name) ⊎ IsOfTwo (IsOfNear job columns) name) ⊎ IsBetween job columns name → Contains d name
      held name (inl (inl (inl k))) = between.kept name ((g.exact name).1 (inl ((f.exact name).1 (inl ((shown.exact name).1 k)))))
      held name (inl (inl (inr k))) = between.kept name ((g.exact name).1 (inl ((f.exact name).1 (inr k))))
      held name (inl (inr k)) = between.kept name ((g.exact name).1 (inr k))
      held name (inr k) = between.every name k

-- the names of a template, put in order, are its listing
pub listed : (in_template : Name → Type 0) (names sorted : List Name) → HoldsExactly in_template names → ArePutInOrder names sorted → ListsNames in_template sorted
listed in_template names sorted holds ordered = record {
  each = All-weaker (Contains sorted) in_template (λ name c. (holds.exact name).0 ((ordered.same name).0 c)) sorted (All-contains_itself sorted);
  every = λ name h. (ordered.same name).1 ((holds.exact name).1 h);
  in_order = ordered.in_order;
}
