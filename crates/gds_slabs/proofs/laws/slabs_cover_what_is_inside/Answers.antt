use Rattle.gds_slabs.proofs.Coverings.{inside_covered, covered_inside}
use Rattle.gds_slabs.proofs.laws.slabs_cover_what_is_inside.Goals as goal

pub returns : goal.returns
returns c = λ points rects x y closed straight slabs.
    (covered_inside points closed straight rects slabs x y, inside_covered points closed straight rects slabs x y)
