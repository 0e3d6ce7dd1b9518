use Rattle.gds_slabs.proofs.Coverings.{slabs_apart}
use Rattle.gds_slabs.proofs.laws.slabs_are_apart.Goals as goal

pub returns : goal.returns
returns c = λ points rects r q x y slabs m n h k. slabs_apart points r q (slabs.sound r m) (slabs.sound q n) x y h k
