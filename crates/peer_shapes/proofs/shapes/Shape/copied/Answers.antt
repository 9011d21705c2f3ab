use Rattle.std.proofs.Common.{◌∙◌}
use Rattle.peer_shapes.proofs.MethodNames.{same_clones}
use Rattle.peer_shapes.proofs.shapes.Shape.copied.Goals as goal

pub returns : goal.returns
returns c = same_clones c.self.inside.methods.entries c.in_ok-methods.methods.entries c.in_ok-methods.ensures.cases ∙ c.self.view_is
