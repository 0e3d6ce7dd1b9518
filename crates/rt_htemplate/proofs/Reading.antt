-- A strip that the code reads is that of its number.
use Rattle.std.proofs.Common.{◌≡◌, ℕ, List, get_or, ap, ◌∙◌, inl, inr}
use Rattle.rt_view.specs.declared.job.Job.{Job}
use Rattle.rt_view.specs.Job.{strips_of}
use Rattle.rt_strips.specs.declared.listing.Strip.{Strip}
use Rattle.rt_strips.specs.Placed.{Placed, placed, strip_at}
use Rattle.rt_strips.specs.Standing.{IsStrip, Touch}
use Rattle.rt_strips.proofs.Placed.{strip_is, strip_below}

pub read_is : (job : Job) (list : List Strip) (i : ℕ) (strip : Strip) → list ≡ job.view.strips.list → IsStrip (strips_of job) i → strip ≡ get_or list i strip
    → strip_at (strips_of job) i ≡ placed strip
read_is job list i strip same s is =
    strip_is job.view.strips.list i strip (strip_below job.view.strips.list i s) (is ∙ ap (λ (l : List Strip). get_or l i strip) same)

-- both of two that touch are strips
pub touch_first : (strips : List Placed) (i j : ℕ) → Touch strips i j → IsStrip strips i
touch_first strips i j (inl s) = s.strips_of_one_mask.first
touch_first strips i j (inr s) = s.strips_of_one_mask.second

pub touch_second : (strips : List Placed) (i j : ℕ) → Touch strips i j → IsStrip strips j
touch_second strips i j (inl s) = s.strips_of_one_mask.second
touch_second strips i j (inr s) = s.strips_of_one_mask.first
