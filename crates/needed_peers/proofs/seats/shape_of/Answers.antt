use Rattle.std.proofs.Common.{map, sym, ◌∙◌}
use Rattle.peer_shapes.specs.MethodViews.{method_view}
use Rattle.needed_peers.proofs.SameShapes.{shapes_equal}
use Rattle.needed_peers.proofs.seats.shape_of.Goals as goal

pub returns-in-Some : goal.returns-in-Some
returns-in-Some c =
    c.in_ok-shared-in-Some.ensures.cases ∙ sym c.as_ref.ensures
    ∙ shapes_equal c.as_ref.result.now (map method_view c.args.methods.now) (sym c.is_same_shape.ensures ∙ c.if-is_same_shape.true)
