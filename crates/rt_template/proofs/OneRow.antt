-- A name has one row at most.
use Rattle.std.proofs.Common.{refl}
use Rattle.rt_template.specs.Horizontal.{OneRowAcross, RowAcross}
use Rattle.rt_template.specs.Vertical.{OneRowUpwards, RowUpwards}

pub one_across : OneRowAcross
one_across job name row other (RowAcross.lo i a) (RowAcross.lo _ b) = refl
one_across job name row other (RowAcross.hi i a) (RowAcross.hi _ b) = refl
one_across job name row other RowAcross.zero RowAcross.zero = refl
one_across job name row other RowAcross.top RowAcross.top = refl
one_across job name row other (RowAcross.wide i a) (RowAcross.wide _ b) = refl
one_across job name row other (RowAcross.size i a) (RowAcross.size _ b) = refl
one_across job name row other (RowAcross.ll i j a b) (RowAcross.ll _ _ c d) = refl
one_across job name row other (RowAcross.rr i j a b) (RowAcross.rr _ _ c d) = refl
one_across job name row other (RowAcross.share i j a b c) (RowAcross.share _ _ d e f) = refl
one_across job name row other (RowAcross.gap i j a) (RowAcross.gap _ _ b) = refl
one_across job name row other (RowAcross.off q i j a) (RowAcross.off _ _ _ b) = refl
one_across job name row other (RowAcross.inl q i h a) (RowAcross.inl _ _ _ b) = refl
one_across job name row other (RowAcross.inr q i h a) (RowAcross.inr _ _ _ b) = refl

pub one_upwards : OneRowUpwards
one_upwards job columns name row other (RowUpwards.lo i a) (RowUpwards.lo _ b) = refl
one_upwards job columns name row other (RowUpwards.hi i a) (RowUpwards.hi _ b) = refl
one_upwards job columns name row other RowUpwards.zero RowUpwards.zero = refl
one_upwards job columns name row other RowUpwards.top RowUpwards.top = refl
one_upwards job columns name row other (RowUpwards.tall i a) (RowUpwards.tall _ b) = refl
one_upwards job columns name row other (RowUpwards.size i a) (RowUpwards.size _ b) = refl
one_upwards job columns name row other (RowUpwards.on i j a) (RowUpwards.on _ _ b) = refl
one_upwards job columns name row other (RowUpwards.under i j a) (RowUpwards.under _ _ b) = refl
one_upwards job columns name row other (RowUpwards.gap i j a) (RowUpwards.gap _ _ b) = refl
one_upwards job columns name row other (RowUpwards.run i j a) (RowUpwards.run _ _ b) = refl
one_upwards job columns name row other (RowUpwards.off q i j a) (RowUpwards.off _ _ _ b) = refl
one_upwards job columns name row other (RowUpwards.inb q i h a) (RowUpwards.inb _ _ _ b) = refl
one_upwards job columns name row other (RowUpwards.int q i h a) (RowUpwards.int _ _ _ b) = refl
