use Rattle.std.proofs.Common.{pos, refl}
use Rattle.gds_stream.specs.declared.cell.Shape.{Shape}
use Rattle.gds_stream.specs.Written.{shape_records, FitsShape}
use Rattle.gds_stream.proofs.Joined.{put_more}
use Rattle.gds_stream.proofs.writing.put_shapes.Goals as goal

abbrev none : Shape
none = record { layer = pos 0; datatype = pos 0; x1 = pos 0; y1 = pos 0; x2 = pos 0; y2 = pos 0 }

pub loop-shape-preserved : goal.loop-shape-preserved
loop-shape-preserved c =
    put_more Shape shape_records FitsShape c.args.shapes.now c.loop-shape.shape-index _ none c.args.out.now.items c.loop-shape.out.items c.put_shape.new.out.items
    c.loop-shape-test.true refl c.loop-shape.invariant.0 c.in_ok-put_shape.ensures.ok c.loop-shape.invariant.1 c.in_ok-put_shape.ensures.fits
