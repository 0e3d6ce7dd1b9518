-- Names of the template across by the distances and the enclosures of the source's table.
use Rattle.std.specs.Prelude.{ℕ, ◌<◌, List, length, Contains}
use Rattle.rt_rows.specs.declared.name.Name.{Name}
use Rattle.rt_rows.specs.declared.name.Name.TheVariants.{Off, Inl, Inr}
use Rattle.rt_view.specs.declared.job.Job.{Job}
use Rattle.rt_template.specs.Between.{IsHostUnder, IsOffRight}

-- of two strips that keep distance q
pub data IsOfDistance (job : Job) (q : ℕ) : Name → Type 0 where
  off : (i j : ℕ) → IsOffRight job q i j → IsOfDistance job q (Off q i j)

-- of a strip and one of its hosts under enclosure q
pub data IsOfEnclosure (job : Job) (q : ℕ) : Name → Type 0 where
  left : (i h : ℕ) → IsHostUnder job q i h → IsOfEnclosure job q (Inl q i h)
  right : (i h : ℕ) → IsHostUnder job q i h → IsOfEnclosure job q (Inr q i h)

-- those of all distances and enclosures are added
pub record AreOfferedBetween (job : Job) (before after : List Name) : Type 0 where
  pub kept : (name : Name) → Contains before name → Contains after name
  pub distances : (q : ℕ) → q < length job.source.aparts → (name : Name) → IsOfDistance job q name → Contains after name
  pub enclosures : (q : ℕ) → q < length job.source.encloses → (name : Name) → IsOfEnclosure job q name → Contains after name
