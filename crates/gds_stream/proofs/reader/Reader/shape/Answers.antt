use Rattle.std.proofs.Common.{arith}
use Rattle.gds_grammar.specs.Format.{boundary, path, sref, aref, label, node, box}
use Rattle.gds_stream.specs.Gives.{IsShape, shape}
use Rattle.gds_stream.proofs.Giving.{gives_as}
use Rattle.gds_stream.proofs.Choosing.{boundary_comes, path_comes, sref_comes, aref_comes, label_comes, node_comes, box_comes}
use Rattle.gds_stream.proofs.reader.Reader.shape.Goals as goal

pub returns-in-8 : goal.returns-in-8
returns-in-8 c = gives_as shape boundary IsShape _ _ c.boundary.result (boundary_comes c.args.self.now _ c.in_ok-peek.ensures.next c.in-8.is) c.boundary.ensures

pub returns-in-9 : goal.returns-in-9
returns-in-9 c = gives_as shape path IsShape _ _ c.path.result (path_comes c.args.self.now _ c.in_ok-peek.ensures.next c.in-9.is) c.path.ensures

pub returns-in-10 : goal.returns-in-10
returns-in-10 c = gives_as shape sref IsShape _ _ c.sref.result (sref_comes c.args.self.now _ c.in_ok-peek.ensures.next c.in-10.is) c.sref.ensures

pub returns-in-11 : goal.returns-in-11
returns-in-11 c = gives_as shape aref IsShape _ _ c.aref.result (aref_comes c.args.self.now _ c.in_ok-peek.ensures.next c.in-11.is) c.aref.ensures

pub returns-in-12 : goal.returns-in-12
returns-in-12 c = gives_as shape label IsShape _ _ c.label.result (label_comes c.args.self.now _ c.in_ok-peek.ensures.next c.in-12.is) c.label.ensures

pub returns-in-21 : goal.returns-in-21
returns-in-21 c = gives_as shape node IsShape _ _ c.node.result (node_comes c.args.self.now _ c.in_ok-peek.ensures.next c.in-21.is) c.node.ensures

pub returns-in_default : goal.returns-in_default
returns-in_default c =
    gives_as shape box IsShape _ _ c.box_shape.result
    (box_comes c.args.self.now _ c.in_ok-peek.ensures.next (omega arith) (omega arith) (omega arith) (omega arith) (omega arith) (omega arith))
    c.box_shape.ensures
