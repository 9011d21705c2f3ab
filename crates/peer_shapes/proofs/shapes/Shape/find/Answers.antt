use Rattle.peer_shapes.proofs.MethodNames.{method_is}
use Rattle.peer_shapes.proofs.shapes.Shape.find.Goals as goal

pub returns-clause-found : goal.returns-clause-found
returns-clause-found c =
    rw (← c.self.view_is) (rw (method_is c.args.name.now c.self.inside.methods.entries) c.get_index_of.ensures.index)
